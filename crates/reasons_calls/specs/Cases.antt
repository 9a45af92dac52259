-- Worked reasons: what is at fault, where it is easy to name the wrong node. S is the start of document 01's case 1, T and U are tree ids.
-- Assumes nothing.
use Rattle.std.specs.Prelude.{List, [], ◌∷◌, ℕ, Option, None, Some}
use Rattle.ids.specs.Ids.{ROOT}
use Rattle.ids.specs.declared.FullNodeId.{FullNodeId}
use Rattle.record.specs.Batch.{Batch}
use Rattle.record.specs.ExampleNodes.{T, U, parent, leaf, labelled, grafts, graft_over, lists, batch_for, batch}
use Rattle.state.specs.ExampleStates.{id, root, under, tree, state}
use Rattle.state.specs.State.{State}
use Rattle.update.specs.Cases.{S, with_graft, with_t}
use Rattle.update.specs.Traps.{two_in_t}
use Rattle.reasons.specs.Reasons.{Spot, Reason, absent_below, met_twice, never_met, wrong_link, listed_twice, notGrafted, notExisting, named_twice}
use Rattle.reasons.specs.Reasons.{graftOverChildren, graftOfRoot, claimed_twice, claimed_from_holder, without_place, child_nowhere, focus_into_nothing}
use Rattle.reasons.specs.Reasons.{root_absent, updated_and_gone, unsound_outcome}
use Rattle.reasons_calls.specs.Explain.{batch_reason}

-- the reason that a batch on a state gets, and the one that it should get
pub record Case : Type 0 where
  pub got : Option Reason
  pub says : Option Reason

infix 2 ◌because◌
-- a batch on a state is refused for a reason
abbrev pub ◌because◌ : Option Reason → Reason → Case
got because r = record { got = got; says = Some r }

abbrev pub on : State → Batch → Option Reason
on s b = batch_reason s.forest b

abbrev pub spot : ℕ → FullNodeId → Spot
spot k x = record { slot = k; id = x }

-- 5
unfoldable pub listed_again : Case
listed_again = on S (batch 2 (lists 1 (parent (2 ∷ 3 ∷ [])) ∷ lists 3 leaf ∷ lists 3 leaf ∷ [])) because listed_twice (id 0 3) 1 2

-- 6, 7: the batch's tree
unfoldable pub tree_not_grafted : Case
tree_not_grafted = on S (batch_for T (Some 1) 1 (lists 1 leaf ∷ [])) because notGrafted T

unfoldable pub tree_not_there : Case
tree_not_there = on with_graft (batch_for T None 1 (lists 1 leaf ∷ [])) because notExisting T

-- 9: the first namer and the second
unfoldable pub named_again : Case
named_again = on S (batch 2 (lists 1 (parent (2 ∷ 3 ∷ [])) ∷ lists 2 (parent (3 ∷ [])) ∷ []))
    because named_twice (id 0 3) (id 0 1 ∷ id 0 2 ∷ [])

-- 10, 11: a listed node that is never placed raises no row; the node that is placed does
unfoldable pub graft_over_child : Case
graft_over_child = on S (batch 2 (lists 4 (graft_over T (5 ∷ [])) ∷ lists 3 (graft_over T (2 ∷ [])) ∷ [])) because graftOverChildren (id 0 3)

unfoldable pub root_grafted : Case
root_grafted = on S (batch 2 (lists 4 (grafts ROOT) ∷ lists 3 (grafts ROOT) ∷ [])) because graftOfRoot (id 0 3)

-- 12: two claims; the first listed, 4, is placed last, when 3 names it
unfoldable pub claimed_again : Case
claimed_again = on S (batch 2 (lists 4 (grafts T) ∷ lists 2 (grafts T) ∷ lists 3 (parent (4 ∷ [])) ∷ []))
    because claimed_twice T (id 0 2) (id 0 4)

-- 12: 2 goes, so 3 may take T from it; 4 keeps U, which 5 claims
abbrev pub two_grafts : State
two_grafts =
    state
    (root 0 1 (parent (2 ∷ 3 ∷ 4 ∷ 5 ∷ []))
    ∷ under (id 0 1) 0 (id 0 2) (grafts T)
    ∷ under (id 0 1) 1 (id 0 3) leaf
    ∷ under (id 0 1) 2 (id 0 4) (grafts U)
    ∷ under (id 0 1) 3 (id 0 5) leaf
    ∷ [])
    (tree ROOT 1 1 ∷ [])

unfoldable pub holder_stays : Case
holder_stays =
    on two_grafts
    (batch 1 (lists 2 (grafts T) ∷ lists 3 (grafts T) ∷ lists 5 (grafts U) ∷ lists 1 (parent (3 ∷ 4 ∷ 5 ∷ [])) ∷ []))
    because claimed_from_holder U (id 0 4) (id 0 5)

-- 13, 14
unfoldable pub no_place : Case
no_place = on S (batch 2 (lists 3 leaf ∷ lists 4 leaf ∷ [])) because without_place (id 0 4) 1

unfoldable pub no_child : Case
no_child = on S (batch 2 (lists 2 leaf ∷ lists 1 (parent (2 ∷ 3 ∷ 4 ∷ [])) ∷ [])) because child_nowhere (id 0 1) (id 0 4)

-- 15, 17: with the way that leads there
unfoldable pub focus_on_graft : Case
focus_on_graft = on S (batch 3 (lists 3 (grafts T) ∷ [])) because focus_into_nothing (Some T) (id 0 3 ∷ [])

-- 16
unfoldable pub new_root_gone : Case
new_root_gone = on S (batch_for ROOT (Some 2) 3 (lists 1 (parent (3 ∷ [])) ∷ [])) because root_absent (Some (id 0 2))

-- 18: 3 goes with 2, which 1 no longer names
abbrev pub chain : State
chain =
    state
    (root 0 1 (parent (2 ∷ [])) ∷ under (id 0 1) 0 (id 0 2) (parent (3 ∷ [])) ∷ under (id 0 2) 0 (id 0 3) leaf ∷ [])
    (tree ROOT 1 1 ∷ [])

unfoldable pub gone_with_parent : Case
gone_with_parent = on chain (batch 1 (lists 3 (labelled (97 ∷ [])) ∷ lists 1 leaf ∷ []))
    because updated_and_gone (id 0 3) (Some (record { node = id 0 2; by = Some (id 0 1) }))

-- 19: a pane's root is named by a node of the pane, without tree data: it is met under its graft and again
unfoldable pub root_named_in_pane : Case
root_named_in_pane = on two_in_t (batch_for T None 1 (lists 2 (parent (1 ∷ [])) ∷ [])) because unsound_outcome (Some (met_twice (spot 3 (id 1 1))))

-- 19: 9 is listed after 1 dropped it, and stays with 4 and 5 below it; 4 is the smallest node that is never met
abbrev pub nine : State
nine =
    state
    (root 0 1 (parent (9 ∷ 8 ∷ []))
    ∷ under (id 0 9) 0 (id 0 4) leaf
    ∷ under (id 0 9) 1 (id 0 5) leaf
    ∷ under (id 0 1) 1 (id 0 8) leaf
    ∷ under (id 0 1) 0 (id 0 9) (parent (4 ∷ 5 ∷ []))
    ∷ [])
    (tree ROOT 1 1 ∷ [])

unfoldable pub listed_after_parent : Case
listed_after_parent = on nine (batch 1 (lists 1 (parent (8 ∷ [])) ∷ lists 9 (parent (4 ∷ 5 ∷ [])) ∷ []))
    because unsound_outcome (Some (never_met (spot 1 (id 0 4)) (Some (record { node = id 0 9; by = Some (id 0 1) }))))

-- 19: ROOT's root is named as a child
unfoldable pub root_named : Case
root_named = on S (batch 2 (lists 2 (parent (1 ∷ [])) ∷ [])) because unsound_outcome (Some (met_twice (spot 0 (id 0 1))))

-- 19: the new root, 2, still records 1, which goes
unfoldable pub root_under_gone : Case
root_under_gone = on S (batch_for ROOT (Some 2) 2 []) because unsound_outcome (Some (wrong_link (spot 0 (id 0 2)) (Some (id 0 1)) None))

-- 19: the pane's new root is no node of it
unfoldable pub pane_root_absent : Case
pane_root_absent = on with_t (batch_for T (Some 5) 5 []) because unsound_outcome (Some (absent_below (spot 2 (id 0 3)) (id 1 5)))

abbrev pub cases : List Case
cases =
    listed_again
    ∷ tree_not_grafted
    ∷ tree_not_there
    ∷ named_again
    ∷ graft_over_child
    ∷ root_grafted
    ∷ claimed_again
    ∷ holder_stays
    ∷ no_place
    ∷ no_child
    ∷ focus_on_graft
    ∷ new_root_gone
    ∷ gone_with_parent
    ∷ root_named_in_pane
    ∷ listed_after_parent
    ∷ root_named
    ∷ root_under_gone
    ∷ pane_root_absent
    ∷ []
