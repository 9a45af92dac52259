-- Document 01's cases 1 to 14. Each compares the whole answer, and none goes through bytes. S is the start of case 1, T a tree id other than ROOT.
-- Assumes nothing.
use Rattle.std.specs.Prelude.{List, [], ◌∷◌, map, ℕ, None, Some}
use Rattle.ids.specs.Ids.{ROOT}
use Rattle.record.specs.Batch.{Listed, Batch}
use Rattle.record.specs.ExampleNodes.{T, parent, leaf, labelled, grafts, graft_over, lists, batch_for, batch}
use Rattle.state.specs.ExampleStates.{id, root, under, tree, state}
use Rattle.state.specs.State.{NodeState, TreeEntry, State}
use Rattle.update.specs.Calls.{Answer}
use Rattle.update.specs.ExampleCalls.{start_with, then, refuses, starts, accepts, Case, ◌gives◌}

-- root 1 with children 2 and 3, focus 2, host focused
abbrev pub start_s : Batch
start_s = batch_for ROOT (Some 1) 2 (lists 1 (parent (2 ∷ 3 ∷ [])) ∷ lists 2 leaf ∷ lists 3 leaf ∷ [])

abbrev pub one : NodeState
one = root 0 1 (parent (2 ∷ 3 ∷ []))

abbrev pub two : NodeState
two = under (id 0 1) 0 (id 0 2) leaf

abbrev pub three : NodeState
three = under (id 0 1) 1 (id 0 3) leaf

abbrev pub main : TreeEntry
main = tree ROOT 1 2

abbrev pub S : State
S = state (one ∷ two ∷ three ∷ []) (main ∷ [])

-- case 9: 3 grafts T; then T with root 1, focus 1 and its node 1
abbrev pub three_grafts : NodeState
three_grafts = under (id 0 1) 1 (id 0 3) (grafts T)

abbrev pub with_graft : State
with_graft = state (one ∷ two ∷ three_grafts ∷ []) (main ∷ [])

abbrev pub with_t : State
with_t = state (one ∷ two ∷ three_grafts ∷ under (id 0 3) 0 (id 1 1) leaf ∷ []) (main ∷ tree T 1 1 ∷ [])

-- a batch for ROOT after S, with focus 2
abbrev pub after_s : List Listed → Answer
after_s ls = then S (batch 2 ls)

-- 1. S: three nodes
unfoldable pub start_accepted : Case
start_accepted = start_with start_s gives
    starts S (id 0 2)

-- 2. 1 has [2, 2]: 9
unfoldable pub child_twice : Case
child_twice = after_s (lists 1 (parent (2 ∷ 2 ∷ [])) ∷ []) gives
    refuses 9 S

-- 3. 1 has [2]: updated 1, removed 3
unfoldable pub child_dropped : Case
child_dropped = after_s (lists 1 (parent (2 ∷ [])) ∷ []) gives
    accepts
    (record {
      state = state (root 0 1 (parent (2 ∷ [])) ∷ two ∷ []) (main ∷ []);
      added = [];
      updated = id 0 1 ∷ [];
      removed = id 0 3 ∷ [];
      relinked = [];
      focus_before = id 0 2;
      focus_after = id 0 2;
      extra_before = None;
      extra_after = None;
      slice = 0 ∷ 1 ∷ 0 ∷ 3 ∷ [];
    })

-- 4. the same with focus 3: 17
unfoldable pub focus_dropped : Case
focus_dropped = then S (batch 3 (lists 1 (parent (2 ∷ [])) ∷ [])) gives
    refuses 17 S

-- 5. 1 has [2, 3, 4], no node 4: 14
unfoldable pub child_nowhere : Case
child_nowhere = after_s (lists 1 (parent (2 ∷ 3 ∷ 4 ∷ [])) ∷ []) gives
    refuses 14 S

-- 6. node 4 alone: 13
unfoldable pub node_alone : Case
node_alone = after_s (lists 4 leaf ∷ []) gives
    refuses 13 S

-- 7. 3 with a new label, then 1 has [2]: 18; in the other order: 19
unfoldable pub changed_then_dropped : Case
changed_then_dropped = after_s (lists 3 (labelled (97 ∷ [])) ∷ lists 1 (parent (2 ∷ [])) ∷ []) gives
    refuses 18 S

unfoldable pub dropped_then_changed : Case
dropped_then_changed = after_s (lists 1 (parent (2 ∷ [])) ∷ lists 3 (labelled (97 ∷ [])) ∷ []) gives
    refuses 19 S

-- 8. 3 grafts T with child 2: 10
unfoldable pub graft_with_child : Case
graft_with_child = after_s (lists 3 (graft_over T (2 ∷ [])) ∷ []) gives
    refuses 10 S

-- 9. 3 grafts T (accepted); then T, root 1, focus 1, its node 1: adds (1, 1), focus still (0, 2)
unfoldable pub graft_made : Case
graft_made = after_s (lists 3 (grafts T) ∷ []) gives
    accepts
    (record {
      state = with_graft;
      added = [];
      updated = id 0 3 ∷ [];
      removed = [];
      relinked = [];
      focus_before = id 0 2;
      focus_after = id 0 2;
      extra_before = None;
      extra_after = None;
      slice = 0 ∷ 3 ∷ [];
    })

unfoldable pub pane_started : Case
pane_started = then with_graft (batch_for T (Some 1) 1 (lists 1 leaf ∷ [])) gives
    accepts
    (record {
      state = with_t;
      added = id 1 1 ∷ [];
      updated = [];
      removed = [];
      relinked = [];
      focus_before = id 0 2;
      focus_after = id 0 2;
      extra_before = None;
      extra_after = None;
      slice = 1 ∷ 1 ∷ [];
    })

-- 10. after the first half of 9, T without tree data: 7
unfoldable pub pane_without_tree_data : Case
pane_without_tree_data = then with_graft (batch_for T None 1 (lists 1 leaf ∷ [])) gives
    refuses 7 with_graft

-- 11. 2 and 3 both graft T: 12
unfoldable pub graft_twice : Case
graft_twice = after_s (lists 2 (grafts T) ∷ lists 3 (grafts T) ∷ []) gives
    refuses 12 S

-- 12. 3 grafts T, focus 3: 15
unfoldable pub focus_on_empty_graft : Case
focus_on_empty_graft = then S (batch 3 (lists 3 (grafts T) ∷ [])) gives
    refuses 15 S

-- 13. after 9, 3 plain and 2 grafts T: T stays, focus (1, 1), relinked (1, 1)
unfoldable pub graft_moved : Case
graft_moved = then with_t (batch 2 (lists 3 leaf ∷ lists 2 (grafts T) ∷ [])) gives
    accepts
    (record {
      state = state (one ∷ under (id 0 1) 0 (id 0 2) (grafts T) ∷ three ∷ under (id 0 2) 0 (id 1 1) leaf ∷ []) (main ∷ tree T 1 1 ∷ []);
      added = [];
      updated = id 0 2 ∷ id 0 3 ∷ id 1 1 ∷ [];
      removed = [];
      relinked = id 1 1 ∷ [];
      focus_before = id 0 2;
      focus_after = id 1 1;
      extra_before = None;
      extra_after = None;
      slice = 0 ∷ 2 ∷ 0 ∷ 3 ∷ 1 ∷ 1 ∷ 1 ∷ 1 ∷ [];
    })

-- 14. 3 has [3]: 19
unfoldable pub child_of_itself : Case
child_of_itself = after_s (lists 3 (parent (3 ∷ [])) ∷ []) gives
    refuses 19 S

abbrev pub cases : List Case
cases =
    start_accepted
    ∷ child_twice
    ∷ child_dropped
    ∷ focus_dropped
    ∷ child_nowhere
    ∷ node_alone
    ∷ changed_then_dropped
    ∷ dropped_then_changed
    ∷ graft_with_child
    ∷ graft_made
    ∷ pane_started
    ∷ pane_without_tree_data
    ∷ graft_twice
    ∷ focus_on_empty_graft
    ∷ graft_moved
    ∷ child_of_itself
    ∷ []

-- the numbers that the calls answer
unfoldable pub case_numbers : List ℕ
case_numbers = map (λ c. c.got.number) cases
