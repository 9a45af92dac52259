-- One call of a kept walk, as the code has it. Assumes nothing.
use Rattle.std.specs.Prelude.{List, ◌≡◌, ℕ, ◌<◌, slice_get, Option, Result, IfOk, OnOk}
use Rattle.state_array.specs.View.{id_in, view}
use Rattle.questions.specs.declared.Walk.{Walk}
use Rattle.questions.specs.Filters.{seen}
use Rattle.questions.specs.Kept.{walk_number, walk_list, WalkStep}
use Rattle.ids.specs.declared.FullNodeId.{FullNodeId}
use Rattle.node_answers.specs.declared.Refusal.{Refusal}
use Rattle.node_answers.specs.Answers.{answer, number_of}
use Rattle.question_calls.specs.Asks.{NodeAt}
use Rattle.question_calls.specs.declared.walk.Stepped.{Stepped}

-- the definition's step as the code's
unfoldable pub stepped_of : WalkStep → Stepped
stepped_of w = record { walk = w.walk; answer = answer w.number w.found }

-- an answer, and the walk with a count
abbrev pub handed_out : Walk → ℕ → Result (Option FullNodeId) Refusal → Stepped
handed_out w count answer = record { walk = record { node = w.node; side = w.side; filter = w.filter; count = count }; answer = answer }

-- numbers of ours
pub record Ours (side filter : ℕ) : Type 0 where
  pub a_side : side < 2
  pub a_filter : filter < 4

-- refused with 1, 2 or 22, or the slot of the walk's node
pub record AsksWalk (s : List ℕ) (w : Walk) (r : Result ℕ Refusal) : Type 0 where
  pub number_is : number_of r ≡ walk_number (view s).forest w
  pub stands : IfOk r (NodeAt s w.node)
  pub ours : OnOk r (Ours w.side w.filter)

-- what stands at a place of the list of a walk about the node in slot i
abbrev pub FindsAt : List ℕ → ℕ → ℕ → ℕ → ℕ → Option FullNodeId → Type 0
FindsAt s i side filter count r = r ≡ slice_get (walk_list (seen (view s)) (record { node = id_in s i; side = side; filter = filter; count = count })) count
