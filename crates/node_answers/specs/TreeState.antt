-- What a question about the state as a whole answers: its focus, ROOT's root, its trees and its counts. Document 01 has no rule for this but
-- module 4's focus. A tree that is not there is answered with 0 and none: 22 speaks of nodes alone. Assumes nothing.
use Rattle.std.specs.Prelude.{map, ltb, length, if◌then◌else◌, Option, None, Some, Result, slice_get}
use Rattle.base.specs.Tests.{position}
use Rattle.ids.specs.Ids.{same_tree}
use Rattle.ids.specs.declared.FullNodeId.{FullNodeId}
use Rattle.ids.specs.declared.TreeId.{TreeId}
use Rattle.ids.specs.declared.TreeIndex.{TreeIndex}
use Rattle.state.specs.State.{Forest, State, subtree_state}
use Rattle.state.specs.declared.SubtreeState.{SubtreeState}
use Rattle.state.specs.Down.{root_of}
use Rattle.state.specs.Focus.{state_focus}
use Rattle.questions.specs.Answers.{state_number}
use Rattle.node_answers.specs.declared.Counts.{Counts}
use Rattle.node_answers.specs.declared.Refusal.{Refusal}
use Rattle.node_answers.specs.Answers.{answer}

-- ## Nodes of the state

-- the answer of `TreeState::focus`
unfoldable pub focus_answer : State → Result (Option FullNodeId) Refusal
focus_answer s = answer (state_number s.forest) (state_focus s)

-- ROOT's root
unfoldable pub root_answer : Forest → Result (Option FullNodeId) Refusal
root_answer s = answer (state_number s) (root_of s)

-- ## Trees

-- the tree id of a tree number
unfoldable pub tree_id_at : Forest → TreeIndex → Option TreeId
tree_id_at s k = elim (slice_get s.trees k.0) [ None ↦ None | Some e ↦ Some e.id ]

-- the tree number of a tree id
unfoldable pub tree_index_at : Forest → TreeId → Option TreeIndex
tree_index_at s t =
    let k = position same_tree (map (λ e. e.id) s.trees) t in
    if ltb k (length s.trees) then Some (record { 0 = k }) else None

-- the root and the focus of a tree that exists
unfoldable pub tree_ends : Forest → TreeIndex → Option SubtreeState
tree_ends s k =
    elim (slice_get s.trees k.0) [
      | None ↦ None
      | Some e ↦ elim e.subtree [ None ↦ None | Some u ↦ Some (subtree_state k.0 u) ]
    ]

unfoldable pub tree_id_answer : Forest → TreeIndex → Result (Option TreeId) Refusal
tree_id_answer s i = answer (state_number s) (tree_id_at s i)

unfoldable pub tree_index_answer : Forest → TreeId → Result (Option TreeIndex) Refusal
tree_index_answer s t = answer (state_number s) (tree_index_at s t)

unfoldable pub tree_ends_answer : Forest → TreeIndex → Result (Option SubtreeState) Refusal
tree_ends_answer s i = answer (state_number s) (tree_ends s i)

-- ## Counts

-- how many nodes and tree numbers there are, and whether the host has the focus
unfoldable pub counts_answer : State → Result Counts Refusal
counts_answer s =
    answer (state_number s.forest)
    (record { nodes = length s.forest.nodes; trees = length s.forest.trees; host_focused = s.host_focused })
