-- More worked cases: places where a port goes wrong, each tried against the crate. None goes through bytes. S is the start of case 1.
-- Assumes nothing.
use Rattle.std.specs.Prelude.{List, [], ◌∷◌, ℕ, ◌^◌, None, Some}
use Rattle.ids.specs.Ids.{ROOT}
use Rattle.record.specs.ExampleNodes.{T, parent, leaf, labelled, boxed, lists, batch_for, batch}
use Rattle.state.specs.ExampleStates.{id, root, under, tree, state}
use Rattle.state.specs.State.{State}
use Rattle.update.specs.ExampleCalls.{then, refuses, accepts, Case, ◌gives◌}
use Rattle.update.specs.Cases.{one, two, main, S, with_graft, three_grafts, with_t, after_s}

-- T's tree 1 → 2, and 1 → 2 → 3, under 3
abbrev pub two_in_t : State
two_in_t =
    state
    (one ∷ two ∷ three_grafts ∷ under (id 0 3) 0 (id 1 1) (parent (2 ∷ [])) ∷ under (id 1 1) 0 (id 1 2) leaf ∷ [])
    (main ∷ tree T 1 1 ∷ [])

abbrev pub three_in_t : State
three_in_t =
    state
    (one
    ∷ two
    ∷ three_grafts
    ∷ under (id 0 3) 0 (id 1 1) (parent (2 ∷ []))
    ∷ under (id 1 1) 0 (id 1 2) (parent (3 ∷ []))
    ∷ under (id 1 2) 0 (id 1 3) leaf
    ∷ [])
    (main ∷ tree T 1 1 ∷ [])

-- ROOT's tree 1 → 2 → 3, focus 3
abbrev pub chain : State
chain =
    state
    (root 0 1 (parent (2 ∷ [])) ∷ under (id 0 1) 0 (id 0 2) (parent (3 ∷ [])) ∷ under (id 0 2) 0 (id 0 3) leaf ∷ [])
    (tree ROOT 1 3 ∷ [])

-- 3 has bounds whose four numbers have these bits
abbrev pub boxed_state : ℕ → State
boxed_state bits = state (one ∷ two ∷ under (id 0 1) 1 (id 0 3) (boxed bits) ∷ []) (main ∷ [])

-- a new root of ROOT that is not listed keeps the link of its old parent: 19
unfoldable pub new_root_under_old_parent : Case
new_root_under_old_parent = then S (batch_for ROOT (Some 2) 2 []) gives
    refuses 19 S

-- the same in a pane: its new root stands under the graft, and the old root goes
unfoldable pub new_root_of_pane : Case
new_root_of_pane = then two_in_t (batch_for T (Some 2) 2 []) gives
    accepts
    (record {
      state = state (one ∷ two ∷ three_grafts ∷ under (id 0 3) 0 (id 1 2) leaf ∷ []) (main ∷ tree T 2 2 ∷ []);
      added = [];
      updated = id 1 2 ∷ [];
      removed = id 1 1 ∷ [];
      relinked = id 1 2 ∷ [];
      focus_before = id 0 2;
      focus_after = id 0 2;
      extra_before = None;
      extra_after = None;
      slice = 1 ∷ 2 ∷ 1 ∷ 1 ∷ 1 ∷ 2 ∷ [];
    })

-- a new root is not protected from its listed old parent: 16
unfoldable pub new_root_dropped : Case
new_root_dropped = then S (batch_for ROOT (Some 2) 3 (lists 1 (parent (3 ∷ [])) ∷ [])) gives
    refuses 16 S

-- an unchanged 3 before 1 with [2] goes; after it, 3 is left unmet (request #112)
unfoldable pub unchanged_then_dropped : Case
unchanged_then_dropped = after_s (lists 3 leaf ∷ lists 1 (parent (2 ∷ [])) ∷ []) gives
    accepts
    (record {
      state = state (root 0 1 (parent (2 ∷ [])) ∷ two ∷ []) (main ∷ []);
      added = [];
      updated = id 0 1 ∷ [];
      removed = id 0 3 ∷ [];
      relinked = [];
      focus_before = id 0 2;
      focus_after = id 0 2;
      extra_before = None;
      extra_after = None;
      slice = 0 ∷ 1 ∷ 0 ∷ 3 ∷ [];
    })

unfoldable pub dropped_then_unchanged : Case
dropped_then_unchanged = after_s (lists 1 (parent (2 ∷ [])) ∷ lists 3 leaf ∷ []) gives
    refuses 19 S

-- T's 1 → 2 → 3, and 3 becomes the root, with 2 listed unchanged: 1 and 2 go
unfoldable pub new_root_below : Case
new_root_below = then three_in_t (batch_for T (Some 3) 3 (lists 2 (parent (3 ∷ [])) ∷ [])) gives
    accepts
    (record {
      state = state (one ∷ two ∷ three_grafts ∷ under (id 0 3) 0 (id 1 3) leaf ∷ []) (main ∷ tree T 3 3 ∷ []);
      added = [];
      updated = id 1 3 ∷ [];
      removed = id 1 1 ∷ id 1 2 ∷ [];
      relinked = id 1 3 ∷ [];
      focus_before = id 0 2;
      focus_after = id 0 2;
      extra_before = None;
      extra_after = None;
      slice = 1 ∷ 3 ∷ 1 ∷ 1 ∷ 1 ∷ 2 ∷ 1 ∷ 3 ∷ [];
    })

-- The same in ROOT, with 3 listed too. Named by 2 and then listed, 3 loses its link at its turn: 1 and 2 go, and 3 has no parent.
-- Listed and then named by 2, it has a link to 2, which goes: 19.
unfoldable pub new_root_named_then_listed : Case
new_root_named_then_listed = then chain (batch_for ROOT (Some 3) 3 (lists 2 (parent (3 ∷ [])) ∷ lists 3 leaf ∷ [])) gives
    accepts
    (record {
      state = state (root 0 3 leaf ∷ []) (tree ROOT 3 3 ∷ []);
      added = [];
      updated = [];
      removed = id 0 1 ∷ id 0 2 ∷ [];
      relinked = id 0 3 ∷ [];
      focus_before = id 0 3;
      focus_after = id 0 3;
      extra_before = None;
      extra_after = None;
      slice = 0 ∷ 1 ∷ 0 ∷ 2 ∷ 0 ∷ 3 ∷ [];
    })

unfoldable pub new_root_listed_then_named : Case
new_root_listed_then_named = then chain (batch_for ROOT (Some 3) 3 (lists 3 leaf ∷ lists 2 (parent (3 ∷ [])) ∷ [])) gives
    refuses 19 chain

-- T does not exist, and its root 1 and its node 2 name each other: 19
unfoldable pub roots_in_circle : Case
roots_in_circle = then with_graft (batch_for T (Some 1) 1 (lists 1 (parent (2 ∷ [])) ∷ lists 2 (parent (1 ∷ [])) ∷ [])) gives
    refuses 19 with_graft

-- 1 has [3, 2]: all three are updated, none is relinked
unfoldable pub children_swapped : Case
children_swapped = after_s (lists 1 (parent (3 ∷ 2 ∷ [])) ∷ []) gives
    accepts
    (record {
      state = state (root 0 1 (parent (3 ∷ 2 ∷ [])) ∷ under (id 0 1) 1 (id 0 2) leaf ∷ under (id 0 1) 0 (id 0 3) leaf ∷ []) (main ∷ []);
      added = [];
      updated = id 0 1 ∷ id 0 2 ∷ id 0 3 ∷ [];
      removed = [];
      relinked = [];
      focus_before = id 0 2;
      focus_after = id 0 2;
      extra_before = None;
      extra_after = None;
      slice = 0 ∷ 1 ∷ 0 ∷ 2 ∷ 0 ∷ 3 ∷ [];
    })

-- 2 has [3], and the old parent of 3 is not listed: 19
unfoldable pub named_by_two : Case
named_by_two = after_s (lists 2 (parent (3 ∷ [])) ∷ []) gives
    refuses 19 S

-- a pane's root listed without tree data keeps its link (added)
unfoldable pub pane_root_keeps_link : Case
pane_root_keeps_link = then with_t (batch_for T None 1 (lists 1 (labelled (97 ∷ [])) ∷ [])) gives
    accepts
    (record {
      state = state (one ∷ two ∷ three_grafts ∷ under (id 0 3) 0 (id 1 1) (labelled (97 ∷ [])) ∷ []) (main ∷ tree T 1 1 ∷ []);
      added = [];
      updated = id 1 1 ∷ [];
      removed = [];
      relinked = [];
      focus_before = id 0 2;
      focus_after = id 0 2;
      extra_before = None;
      extra_after = None;
      slice = 1 ∷ 1 ∷ [];
    })

-- tree data for a pane marks its root updated though nothing changed
unfoldable pub pane_root_marked : Case
pane_root_marked = then with_t (batch_for T (Some 1) 1 []) gives
    accepts
    (record {
      state = with_t;
      added = [];
      updated = id 1 1 ∷ [];
      removed = [];
      relinked = [];
      focus_before = id 0 2;
      focus_after = id 0 2;
      extra_before = None;
      extra_after = None;
      slice = 1 ∷ 1 ∷ [];
    })

-- data is compared by value: after 0, -0 changes nothing and the old bits stay
unfoldable pub sign_of_zero : Case
sign_of_zero = then (boxed_state 0) (batch 2 (lists 3 (boxed (2 ^ 63)) ∷ [])) gives
    accepts
    (record {
      state = boxed_state 0;
      added = [];
      updated = [];
      removed = [];
      relinked = [];
      focus_before = id 0 2;
      focus_after = id 0 2;
      extra_before = None;
      extra_after = None;
      slice = [];
    })

abbrev pub traps : List Case
traps =
    new_root_under_old_parent
    ∷ new_root_of_pane
    ∷ new_root_dropped
    ∷ unchanged_then_dropped
    ∷ dropped_then_unchanged
    ∷ new_root_below
    ∷ new_root_named_then_listed
    ∷ new_root_listed_then_named
    ∷ roots_in_circle
    ∷ children_swapped
    ∷ named_by_two
    ∷ pane_root_keeps_link
    ∷ pane_root_marked
    ∷ sign_of_zero
    ∷ []
