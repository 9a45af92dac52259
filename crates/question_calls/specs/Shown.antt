-- What the functions over slots find under a filter. Assumes nothing.
use Rattle.std.specs.Prelude.{Bool, ◌≡◌, ℕ, length, if◌then◌else◌, Option}
use mathlib.Core.List.{List, ◌++◌, flat_map}
use Rattle.ids.specs.declared.FullNodeId.{FullNodeId}
use Rattle.state.specs.State.{Forest}
use Rattle.state_array.specs.View.{view}
use Rattle.questions.specs.declared.Side.{Side}
use Rattle.questions.specs.declared.Side.TheVariants.{Following, Preceding}
use Rattle.questions.specs.declared.FilterResult.{FilterResult}
use Rattle.questions.specs.Links.{child_ids, ancestors}
use Rattle.questions.specs.Walks.{turned, leading, shown, is_excluded_node, filtered_parent, filtered_siblings, first_filtered_child, last_filtered_child, deepest_first_filtered_child, deepest_last_filtered_child}
use Rattle.questions.specs.Ahead.{ahead}
use Rattle.question_calls.specs.declared.steps.Place.{Place}
use Rattle.question_calls.specs.Plain.{listed_from, first_included, up_from}

-- what is met on from a node, into it or past it
unfoldable pub met_after : Side → Forest → ℕ → FullNodeId → Bool → List FullNodeId
met_after side f level x inside = if inside then turned side (child_ids f x) ++ ahead side f level x else ahead side f level x

module _ (filter : FullNodeId → FilterResult) where
  -- what is listed of what is ahead of x, and of its children, is what is listed from r on
  abbrev pub ListsAhead : Side → List ℕ → ℕ → Place → Forest → FullNodeId → Type 0
  ListsAhead side s level r f x = flat_map (shown filter side f) (ahead side f level x) ≡ listed_from filter side s r

  abbrev pub ListsBelow : Side → List ℕ → Place → Forest → FullNodeId → Type 0
  ListsBelow side s r f x = flat_map (shown filter side f) (turned side (child_ids f x)) ≡ listed_from filter side s r

  -- its filtered siblings are
  abbrev pub ListsSiblings : Side → List ℕ → Place → Forest → FullNodeId → Type 0
  ListsSiblings side s r f x = filtered_siblings filter side f x ≡ listed_from filter side s r

  -- r passes the ancestors of x that are ExcludeNode: its slot is that of the next one
  pub record Climbs (s : List ℕ) (x : FullNodeId) (r : Place) : Type 0 where
    pub levels : r.level ≡ length (leading (is_excluded_node filter) (ancestors (view s).forest x))
    pub parent_is : filtered_parent filter (view s).forest x ≡ first_included filter (up_from s r.slot)

-- the first filtered child on a side, and the deepest
unfoldable pub filtered_child_on : Side → (FullNodeId → FilterResult) → Forest → FullNodeId → Option FullNodeId
filtered_child_on Following filter s x = first_filtered_child filter s x
filtered_child_on Preceding filter s x = last_filtered_child filter s x

unfoldable pub deepest_on : Side → (FullNodeId → FilterResult) → Forest → FullNodeId → Option FullNodeId
deepest_on Following filter s x = deepest_first_filtered_child filter s x
deepest_on Preceding filter s x = deepest_last_filtered_child filter s x
