-- Worked cases of grafts: who claims a tree, who holds it, who lets it go. None goes through bytes. S is the start of case 1.
-- Assumes nothing.
use Rattle.std.specs.Prelude.{List, [], ◌∷◌, None, Some}
use Rattle.ids.specs.Ids.{ROOT}
use Rattle.record.specs.ExampleNodes.{T, U, parent, leaf, grafts, graft_over, lists, batch_for, batch}
use Rattle.state.specs.ExampleStates.{id, root, under, tree, no_tree, state}
use Rattle.state.specs.State.{State}
use Rattle.update.specs.ExampleCalls.{then, refuses, accepts, Case, ◌gives◌}
use Rattle.update.specs.Cases.{one, two, three, main, S, with_graft, three_grafts, with_t, after_s}

-- 2 → [4], and 4 grafts T, which does not exist yet
abbrev pub four_grafts : State
four_grafts =
    state
    (one ∷ under (id 0 1) 0 (id 0 2) (parent (4 ∷ [])) ∷ three ∷ under (id 0 2) 0 (id 0 4) (grafts T) ∷ [])
    (main ∷ [])

-- T's 2 grafts U, whose root is 1
abbrev pub nested : State
nested =
    state
    (one
    ∷ two
    ∷ three_grafts
    ∷ under (id 0 3) 0 (id 1 1) (parent (2 ∷ []))
    ∷ under (id 1 1) 0 (id 1 2) (grafts U)
    ∷ under (id 1 2) 0 (id 2 1) leaf
    ∷ [])
    (main ∷ tree T 1 1 ∷ tree U 1 1 ∷ [])

-- 2 grafts T, which does not exist yet
abbrev pub two_grafts : State
two_grafts = state (one ∷ under (id 0 1) 0 (id 0 2) (grafts T) ∷ three ∷ []) (tree ROOT 1 1 ∷ [])

-- T is let go for U, which is then given data; T is grafted again
abbrev pub graft_of_u : State
graft_of_u = state (one ∷ two ∷ under (id 0 1) 1 (id 0 3) (grafts U) ∷ []) (main ∷ no_tree T ∷ [])

abbrev pub with_u : State
with_u = state (one ∷ two ∷ under (id 0 1) 1 (id 0 3) (grafts U) ∷ under (id 0 3) 0 (id 2 1) leaf ∷ []) (main ∷ no_tree T ∷ tree U 1 1 ∷ [])

abbrev pub graft_again : State
graft_again = state (one ∷ two ∷ three_grafts ∷ []) (main ∷ no_tree T ∷ no_tree U ∷ [])

-- 4 goes with its graft, so 3 may graft T; listed after its old parent, 4 keeps the graft, and 3 clashes: 12
unfoldable pub graft_goes_and_claimed : Case
graft_goes_and_claimed = then four_grafts (batch 2 (lists 4 (grafts T) ∷ lists 2 leaf ∷ lists 3 (grafts T) ∷ [])) gives
    accepts
    (record {
      state = with_graft;
      added = [];
      updated = id 0 2 ∷ id 0 3 ∷ [];
      removed = id 0 4 ∷ [];
      relinked = [];
      focus_before = id 0 2;
      focus_after = id 0 2;
      extra_before = None;
      extra_after = None;
      slice = 0 ∷ 2 ∷ 0 ∷ 3 ∷ 0 ∷ 4 ∷ [];
    })

unfoldable pub graft_kept_and_claimed : Case
graft_kept_and_claimed = then four_grafts (batch 2 (lists 2 leaf ∷ lists 4 (grafts T) ∷ lists 3 (grafts T) ∷ [])) gives
    refuses 12 four_grafts

-- a node that is never placed raises none of 10 to 12: 13
unfoldable pub root_graft_never_placed : Case
root_graft_never_placed = after_s (lists 4 (grafts ROOT) ∷ []) gives
    refuses 13 S

-- a graft with children [2, 2]: 9 comes first
unfoldable pub graft_with_child_twice : Case
graft_with_child_twice = after_s (lists 3 (graft_over T (2 ∷ 2 ∷ [])) ∷ []) gives
    refuses 9 S

-- a graft of ROOT and a second graft of T: the pass places 2 and 3 before it places 4, unless 1 is listed first
unfoldable pub second_graft_placed_first : Case
second_graft_placed_first = after_s (lists 4 (grafts ROOT) ∷ lists 2 (grafts T) ∷ lists 3 (grafts T) ∷ lists 1 (parent (2 ∷ 3 ∷ 4 ∷ [])) ∷ []) gives
    refuses 12 S

unfoldable pub root_graft_placed_first : Case
root_graft_placed_first = after_s (lists 1 (parent (2 ∷ 3 ∷ 4 ∷ [])) ∷ lists 4 (grafts ROOT) ∷ lists 2 (grafts T) ∷ lists 3 (grafts T) ∷ []) gives
    refuses 11 S

-- 3 holds T and 2 claims it: 12; a child that is nowhere comes before that: 14
unfoldable pub child_nowhere_and_graft_held : Case
child_nowhere_and_graft_held = then with_graft (batch 2 (lists 2 (grafts T) ∷ lists 1 (parent (2 ∷ 3 ∷ 9 ∷ [])) ∷ [])) gives
    refuses 14 with_graft

unfoldable pub graft_held : Case
graft_held = then with_graft (batch 2 (lists 2 (grafts T) ∷ [])) gives
    refuses 12 with_graft

-- 2 holds T, and 3, which goes, claims it: 3 releases T by its new graft, so 18 and not 12
unfoldable pub graft_released_by_gone : Case
graft_released_by_gone = then two_grafts (batch 1 (lists 3 (grafts T) ∷ lists 1 (parent (2 ∷ [])) ∷ [])) gives
    refuses 18 two_grafts

-- a graft that becomes plain lets its tree go; listed unchanged, it keeps it
unfoldable pub graft_let_go : Case
graft_let_go = then with_t (batch 2 (lists 3 leaf ∷ [])) gives
    accepts
    (record {
      state = state (one ∷ two ∷ three ∷ []) (main ∷ no_tree T ∷ []);
      added = [];
      updated = id 0 3 ∷ [];
      removed = id 1 1 ∷ [];
      relinked = [];
      focus_before = id 0 2;
      focus_after = id 0 2;
      extra_before = None;
      extra_after = None;
      slice = 0 ∷ 3 ∷ 1 ∷ 1 ∷ [];
    })

unfoldable pub graft_unchanged : Case
graft_unchanged = then with_t (batch 2 (lists 3 (grafts T) ∷ [])) gives
    accepts
    (record {
      state = with_t;
      added = [];
      updated = [];
      removed = [];
      relinked = [];
      focus_before = id 0 2;
      focus_after = id 0 2;
      extra_before = None;
      extra_after = None;
      slice = [];
    })

-- 3 lets T go for U, and U is given data: T keeps its number 1, and U takes 2
unfoldable pub tree_let_go : Case
tree_let_go = then with_t (batch 2 (lists 3 (grafts U) ∷ [])) gives
    accepts
    (record {
      state = graft_of_u;
      added = [];
      updated = id 0 3 ∷ [];
      removed = id 1 1 ∷ [];
      relinked = [];
      focus_before = id 0 2;
      focus_after = id 0 2;
      extra_before = None;
      extra_after = None;
      slice = 0 ∷ 3 ∷ 1 ∷ 1 ∷ [];
    })

unfoldable pub other_tree_given : Case
other_tree_given = then graft_of_u (batch_for U (Some 1) 1 (lists 1 leaf ∷ [])) gives
    accepts
    (record {
      state = with_u;
      added = id 2 1 ∷ [];
      updated = [];
      removed = [];
      relinked = [];
      focus_before = id 0 2;
      focus_after = id 0 2;
      extra_before = None;
      extra_after = None;
      slice = 2 ∷ 1 ∷ [];
    })

-- 3 grafts T again, and T is given data again: it has its old number
unfoldable pub tree_grafted_again : Case
tree_grafted_again = then with_u (batch 2 (lists 3 (grafts T) ∷ [])) gives
    accepts
    (record {
      state = graft_again;
      added = [];
      updated = id 0 3 ∷ [];
      removed = id 2 1 ∷ [];
      relinked = [];
      focus_before = id 0 2;
      focus_after = id 0 2;
      extra_before = None;
      extra_after = None;
      slice = 0 ∷ 3 ∷ 2 ∷ 1 ∷ [];
    })

unfoldable pub tree_given_again : Case
tree_given_again = then graft_again (batch_for T (Some 1) 1 (lists 1 leaf ∷ [])) gives
    accepts
    (record {
      state = state (one ∷ two ∷ three_grafts ∷ under (id 0 3) 0 (id 1 1) leaf ∷ []) (main ∷ tree T 1 1 ∷ no_tree U ∷ []);
      added = id 1 1 ∷ [];
      updated = [];
      removed = [];
      relinked = [];
      focus_before = id 0 2;
      focus_after = id 0 2;
      extra_before = None;
      extra_after = None;
      slice = 1 ∷ 1 ∷ [];
    })

-- 2 claims U from T's pane, and the pane goes: U stays
unfoldable pub nested_tree_moved : Case
nested_tree_moved = then nested (batch 2 (lists 1 (parent (2 ∷ [])) ∷ lists 2 (grafts U) ∷ [])) gives
    accepts
    (record {
      state = state (root 0 1 (parent (2 ∷ [])) ∷ under (id 0 1) 0 (id 0 2) (grafts U) ∷ under (id 0 2) 0 (id 2 1) leaf ∷ []) (main ∷ no_tree T ∷ tree U 1 1 ∷ []);
      added = [];
      updated = id 0 1 ∷ id 0 2 ∷ id 2 1 ∷ [];
      removed = id 0 3 ∷ id 1 1 ∷ id 1 2 ∷ [];
      relinked = id 2 1 ∷ [];
      focus_before = id 0 2;
      focus_after = id 2 1;
      extra_before = None;
      extra_after = None;
      slice = 0 ∷ 1 ∷ 0 ∷ 2 ∷ 2 ∷ 1 ∷ 0 ∷ 3 ∷ 1 ∷ 1 ∷ 1 ∷ 2 ∷ 2 ∷ 1 ∷ [];
    })

abbrev pub graft_cases : List Case
graft_cases =
    graft_goes_and_claimed
    ∷ graft_kept_and_claimed
    ∷ root_graft_never_placed
    ∷ graft_with_child_twice
    ∷ second_graft_placed_first
    ∷ root_graft_placed_first
    ∷ child_nowhere_and_graft_held
    ∷ graft_held
    ∷ graft_released_by_gone
    ∷ graft_let_go
    ∷ graft_unchanged
    ∷ tree_let_go
    ∷ other_tree_given
    ∷ tree_grafted_again
    ∷ tree_given_again
    ∷ nested_tree_moved
    ∷ []
