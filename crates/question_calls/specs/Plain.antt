-- What the filters ask of a node by its slot, and what is found above it and beside it. Assumes nothing.
use Rattle.std.specs.Prelude.{Bool, true, false, ◌≡◌, ℕ, length, if◌then◌else◌, Option, None, Some}
use mathlib.Core.List.{List, [], ◌∷◌, ◌++◌, flat_map}
use Rattle.base.specs.Tests.{first_given}
use Rattle.ids.specs.declared.FullNodeId.{FullNodeId}
use Rattle.state.specs.State.{Forest}
use Rattle.state_array.specs.View.{view}
use Rattle.questions.specs.declared.Side.{Side}
use Rattle.questions.specs.declared.FilterResult.{FilterResult}
use Rattle.questions.specs.declared.FilterResult.TheVariants.{Include, ExcludeNode, ExcludeSubtree}
use Rattle.questions.specs.Links.{child_ids, ancestors, hidden_at}
use Rattle.questions.specs.Walks.{turned, leading, shown, is_included, is_excluded_node, filtered_parent}
use Rattle.questions.specs.Ahead.{ahead}
use Rattle.questions.specs.Filters.{Seen, focused_node, is_focused, is_transparent}
use Rattle.question_calls.specs.Slots.{slot_id}
use Rattle.question_calls.specs.declared.steps.Place.{Place}
use Rattle.question_calls.specs.Places.{met_from}

-- what the filters see where slot k holds the focused node; past the last slot no node is focused
abbrev pub seen_at : List ℕ → ℕ → Seen
seen_at s k = record { forest = (view s).forest; focused = slot_id s k }

-- slot k holds the node that is focused for the filters; it is past the last slot where none is
abbrev pub Focused : List ℕ → ℕ → Type 0
Focused s k = slot_id s k ≡ focused_node (view s)

-- What `without_parent_checks` says of a node none of whose ancestors is hidden (proofs/plain/Own): its own hidden flag is asked alone.
unfoldable pub own_filter : Seen → FullNodeId → FilterResult
own_filter s x =
    if is_focused s x then Include
    else if hidden_at s.forest x then ExcludeSubtree
    else if is_transparent s.forest x then ExcludeNode
    else Include

-- the node is listed
unfoldable pub is_include : FilterResult → Bool
is_include Include = true
is_include ExcludeNode = false
is_include ExcludeSubtree = false

-- where a walk goes on from a node that is not listed: into it for ExcludeNode, else past it
unfoldable pub unlisted : Side → Forest → ℕ → FullNodeId → FilterResult → List FullNodeId
unlisted side f level x Include = ahead side f level x
unlisted side f level x ExcludeNode = turned side (child_ids f x) ++ ahead side f level x
unlisted side f level x ExcludeSubtree = ahead side f level x

-- what is listed of what is ahead of a node
unfoldable pub shown_ahead : Seen → Side → ℕ → FullNodeId → List FullNodeId
shown_ahead v side level x = flat_map (shown (own_filter v) side v.forest) (ahead side v.forest level x)

-- the node in a slot, and its ancestors
unfoldable pub up_from : List ℕ → ℕ → List FullNodeId
up_from s p = elim (slot_id s p) [ None ↦ [] | Some y ↦ y ∷ ancestors (view s).forest y ]

module _ (filter : FullNodeId → FilterResult) where
  -- the first included node of a list
  abbrev pub first_included : List FullNodeId → Option FullNodeId
  first_included up = first_given (λ p. if is_included filter p then Some p else None) up

  -- r is the slot of the filtered parent of x, and how many ancestors from the parent on are ExcludeNode
  pub record Above (s : List ℕ) (x : FullNodeId) (r : Place) : Type 0 where
    pub parent_is : slot_id s r.slot ≡ filtered_parent filter (view s).forest x
    pub levels : r.level ≡ length (leading (is_excluded_node filter) (ancestors (view s).forest x))

  -- what is listed from a place on, where the node at that place is listed
  unfoldable pub listed_from : Side → List ℕ → Place → List FullNodeId
  listed_from side s r =
      elim (slot_id s r.slot) [
        | None ↦ []
        | Some x ↦ x ∷ flat_map (shown filter side (view s).forest) (ahead side (view s).forest r.level x)
      ]

  -- what is listed from a place on, the same from r on, whose node is the first of it
  abbrev pub Lists : Side → List ℕ → Place → Place → Type 0
  Lists side s at r = flat_map (shown filter side (view s).forest) (met_from side s at) ≡ listed_from side s r
