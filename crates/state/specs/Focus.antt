-- Module 4, focus: the effective focus, and the answer of `TreeState::focus`.
-- Assumes nothing.
use Rattle.std.specs.Prelude.{List, ℕ, zero, suc, length, if◌then◌else◌, Option, None, Some}
use Rattle.ids.specs.Ids.{ROOT}
use Rattle.ids.specs.declared.FullNodeId.{FullNodeId}
use Rattle.record.specs.Batch.{active_descendant?}
use Rattle.state.specs.State.{NodeState, Forest, State, find, present, graft_at, subtree_of}

-- While the node is present and a graft, go to its tree's focus: at most `room` nodes are looked at.
-- None where a graft is met whose tree does not exist.
unfoldable pub through_grafts : ℕ → Forest → FullNodeId → Option FullNodeId
through_grafts zero s x = None
through_grafts (suc room) s x =
    elim (graft_at s.nodes x) [
      | None ↦ Some x
      | Some t ↦ elim (subtree_of s t) [ None ↦ None | Some u ↦ through_grafts room s u.focus ]
    ]

-- The effective focus: begin at ROOT's focus. There is room for every tree once and one more; where no tree is grafted twice and ROOT is
-- not grafted, no tree is entered twice, so the room suffices (proofs/Focus, `room_enough`).
unfoldable pub effective_focus : Forest → Option FullNodeId
effective_focus s =
    elim (subtree_of s ROOT) [ None ↦ None | Some u ↦ through_grafts (suc (length s.trees)) s u.focus ]

-- the active descendant, looked up in the same tree, if present; else the node itself
unfoldable pub or_active_descendant : List NodeState → FullNodeId → FullNodeId
or_active_descendant ns x =
    elim (find x ns) [
      | None ↦ x
      | Some n ↦ elim (active_descendant? n.body) [
        | None ↦ x
        | Some a ↦ let y : FullNodeId = record { tree = x.tree; node = a } in if present ns y then y else x
      ]
    ]

-- `TreeState::focus`: from the effective focus to the active descendant; none without host focus.
unfoldable pub state_focus : State → Option FullNodeId
state_focus s =
    if s.host_focused
    then elim (effective_focus s.forest) [ None ↦ None | Some x ↦ Some (or_active_descendant s.forest.nodes x) ]
    else None
