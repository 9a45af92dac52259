-- Module 8, lists of children and siblings under a filter, and module 6's filtered parent and deepest filtered child: document 01, "Filter and walks".
-- The filter is a parameter: what it says of each node. Assumes nothing.
use Rattle.std.specs.Prelude.{Bool, true, false, not, ℕ, zero, suc, length, if◌then◌else◌, Option, None, Some}
use mathlib.Core.List.{List, [], ◌∷◌, reverse, flat_map}
use Rattle.base.specs.Tests.{is_nil, first_given, head_of}
use Rattle.ids.specs.declared.FullNodeId.{FullNodeId}
use Rattle.state.specs.State.{Forest}
use Rattle.questions.specs.declared.Side.{Side}
use Rattle.questions.specs.declared.Side.TheVariants.{Following, Preceding}
use Rattle.questions.specs.declared.FilterResult.{FilterResult}
use Rattle.questions.specs.declared.FilterResult.TheVariants.{Include, ExcludeNode, ExcludeSubtree}
use Rattle.questions.specs.Links.{child_ids, siblings, ancestors}

-- a run as it is met on a side: in order, or from its end
unfoldable pub turned : Side → List FullNodeId → List FullNodeId
turned Following xs = xs
turned Preceding xs = reverse xs

-- the first elements of a list, while they pass
unfoldable pub leading : (FullNodeId → Bool) → List FullNodeId → List FullNodeId
leading p [] = []
leading p (x ∷ xs) = if p x then x ∷ leading p xs else []

-- d, or c where there is none
abbrev pub or_else : FullNodeId → Option FullNodeId → Option FullNodeId
or_else c None = Some c
or_else c (Some d) = Some d

-- where steps from x end, if there is one: at most `room` of them
unfoldable pub deepest_within : ℕ → (FullNodeId → Option FullNodeId) → FullNodeId → Option FullNodeId
deepest_within zero step x = None
deepest_within (suc room) step x = elim (step x) [ None ↦ None | Some c ↦ or_else c (deepest_within room step c) ]

module _ (filter : FullNodeId → FilterResult) where
  -- ## Filtered children

  -- What stands for a node of a run: an included node itself; for ExcludeNode its own filtered children; nothing for ExcludeSubtree.
  -- At most `room` levels are gone down; a sound state has fewer than it has nodes.
  unfoldable pub shown_within : ℕ → Side → Forest → FullNodeId → List FullNodeId
  shown_within zero side s x = []
  shown_within (suc room) side s x =
      elim (filter x) [
        | Include ↦ x ∷ []
        | ExcludeNode ↦ flat_map (shown_within room side s) (turned side (child_ids s x))
        | ExcludeSubtree ↦ []
      ]

  unfoldable pub shown : Side → Forest → FullNodeId → List FullNodeId
  shown side s x = shown_within (length s.nodes) side s x

  -- children in order, an included child listed, ExcludeNode replaced by its own filtered children, ExcludeSubtree dropped
  unfoldable pub filtered_children : Forest → FullNodeId → List FullNodeId
  filtered_children s x = flat_map (shown Following s) (child_ids s x)

  -- the first and the last of them
  unfoldable pub first_filtered_child : Forest → FullNodeId → Option FullNodeId
  first_filtered_child s x = head_of (filtered_children s x)

  unfoldable pub last_filtered_child : Forest → FullNodeId → Option FullNodeId
  last_filtered_child s x = head_of (reverse (filtered_children s x))

  -- ## The deepest filtered child: the first (or last) filtered child, that of it, and so on while there is one

  unfoldable pub deepest_first_filtered_child : Forest → FullNodeId → Option FullNodeId
  deepest_first_filtered_child s x = deepest_within (length s.nodes) (first_filtered_child s) x

  unfoldable pub deepest_last_filtered_child : Forest → FullNodeId → Option FullNodeId
  deepest_last_filtered_child s x = deepest_within (length s.nodes) (last_filtered_child s) x

  -- ## The filtered parent: the nearest ancestor that is included

  abbrev pub is_included : FullNodeId → Bool
  is_included x = elim (filter x) [ Include ↦ true | ExcludeNode ↦ false | ExcludeSubtree ↦ false ]

  abbrev pub is_excluded_node : FullNodeId → Bool
  is_excluded_node x = elim (filter x) [ Include ↦ false | ExcludeNode ↦ true | ExcludeSubtree ↦ false ]

  unfoldable pub filtered_parent : Forest → FullNodeId → Option FullNodeId
  filtered_parent s x = first_given (λ p. if is_included p then Some p else None) (ancestors s x)

  -- ## Filtered siblings

  -- the node, and its ancestors from the parent on while they are ExcludeNode
  unfoldable pub climbed : Forest → FullNodeId → List FullNodeId
  climbed s x = x ∷ leading is_excluded_node (ancestors s x)

  -- none if no ancestor is included, or the nearest included one has no filtered child
  unfoldable pub has_filtered_siblings : Forest → FullNodeId → Bool
  has_filtered_siblings s x = elim (filtered_parent s x) [ None ↦ false | Some p ↦ not (is_nil (filtered_children s p)) ]

  -- Filtered siblings on one side, nearest first: the same over the siblings on that side, climbing while the parent is ExcludeNode.
  unfoldable pub filtered_siblings : Side → Forest → FullNodeId → List FullNodeId
  filtered_siblings side s x =
      if has_filtered_siblings s x then flat_map (shown side s) (flat_map (siblings side s) (climbed s x)) else []
