-- A run of siblings by places, and a list of ids in a buffer. Assumes nothing.
use Rattle.std.specs.Prelude.{List, ◌≡◌, ℕ, ◌≤◌, ◌<◌, length, get_or, Some, slice_get}
use Rattle.ids.specs.Ids.{id_words}
use Rattle.ids.specs.declared.FullNodeId.{FullNodeId}
use Rattle.state_array.specs.View.{id_in, slots_of, view}
use Rattle.questions.specs.declared.Side.{Side}
use Rattle.questions.specs.Links.{child_ids}
use Rattle.questions.specs.Answers.{written}
use Rattle.questions.specs.Ahead.{count_beside, place_beside}
use Rattle.question_calls.specs.declared.lists.Run.{Run}

-- ## Runs of siblings

-- sibling k of a run stands beside the run's place among the children of the node in the parent's slot
pub record InRun (s : List ℕ) (side : Side) (r : Run) (k : ℕ) : Type 0 where
  pub parent : r.parent < slots_of s
  pub index : r.index < length (child_ids (view s).forest (id_in s r.parent))
  pub within : k < count_beside side r.index (length (child_ids (view s).forest (id_in s r.parent)))

-- it
abbrev pub in_run : List ℕ → Side → Run → ℕ → FullNodeId
in_run s side r k = get_or (child_ids (view s).forest (id_in s r.parent)) (place_beside side r.index k) (id_in s r.parent)

-- the run has these siblings, at most 256
pub record RunOf (s : List ℕ) (side : Side) (xs : List FullNodeId) (r : Run) : Type 0 where
  pub count_is : r.count ≡ length xs
  pub few : r.count ≤ 256
  pub stands : (k : ℕ) → k < r.count → InRun s side r k
  pub each : (k : ℕ) → k < r.count → slice_get xs k ≡ Some (in_run s side r k)

-- ## Lists in a buffer

-- the words of these ids stand at the start of the buffer, and r counts them
pub record Collected (xs : List FullNodeId) (before now : List ℕ) (r : ℕ) : Type 0 where
  pub count_is : r ≡ length xs
  pub few : r ≤ 256
  pub words_are : now ≡ written (id_words xs) before
