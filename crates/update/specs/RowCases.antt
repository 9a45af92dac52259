-- A case for each row that no other case has: 1 to 6 and 21. `state_unsound`, `record_broken` and `start_broken` go through bytes, since rows 1 and 2
-- are asked of these; the others take a batch. S is the start of case 1.
-- Assumes nothing.
use Rattle.std.specs.Prelude.{true, List, [], ◌∷◌, ◌++◌, set, Some}
use Rattle.record.specs.Encode.{encode}
use Rattle.record.specs.ExampleNodes.{T, parent, leaf, lists, batch_for, batch}
use Rattle.state.specs.ExampleStates.{state}
use Rattle.state.specs.State.{blank}
use Rattle.update.specs.Calls.{refused, start, update, update_batch, host_focus}
use Rattle.update.specs.ExampleCalls.{slice, start_with, then, refuses, Case, ◌gives◌}
use Rattle.update.specs.Cases.{start_s, one, three, main, S, after_s}

-- 6: tree data for a tree that no graft holds; the refused batch takes no tree number
unfoldable pub tree_without_graft : Case
tree_without_graft = then S (batch_for T (Some 1) 1 (lists 1 leaf ∷ [])) gives
    refuses 6 S

-- 5: a node listed twice
unfoldable pub listed_twice : Case
listed_twice = after_s (lists 3 leaf ∷ lists 3 leaf ∷ []) gives
    refuses 5 S

-- 21: a slice of three elements where four are needed, left as it was
unfoldable pub slice_too_short : Case
slice_too_short = update_batch S (batch 2 (lists 1 (parent (2 ∷ [])) ∷ [])) (99 ∷ 98 ∷ 97 ∷ []) gives
    refused 21 S (99 ∷ 98 ∷ 97 ∷ [])

-- 1: the state handed in has a stale link; it comes before a broken record
unfoldable pub state_unsound : Case
state_unsound = update (state (one ∷ three ∷ []) (main ∷ [])) (1 ∷ []) slice gives
    refuses 1 (state (one ∷ three ∷ []) (main ∷ []))

-- 1 of a host focus change, on the same state
unfoldable pub host_of_unsound : Case
host_of_unsound = host_focus (state (one ∷ three ∷ []) (main ∷ [])) true gives
    refused 1 (state (one ∷ three ∷ []) (main ∷ [])) []

-- 2: the last of the eight zero bytes of the header is set; for a start too
unfoldable pub record_broken : Case
record_broken = update S (set (encode (batch 2 [])) 63 1) slice gives
    refuses 2 S

unfoldable pub start_broken : Case
start_broken = start (encode start_s ++ 0 ∷ []) true gives
    refused 2 blank []

-- 3 and 4: a start without tree data, and one for another tree
unfoldable pub start_without_tree_data : Case
start_without_tree_data = start_with (batch 2 (lists 1 leaf ∷ [])) gives
    refused 3 blank []

unfoldable pub start_of_pane : Case
start_of_pane = start_with (batch_for T (Some 1) 1 (lists 1 leaf ∷ [])) gives
    refused 4 blank []

abbrev pub row_cases : List Case
row_cases =
    tree_without_graft
    ∷ listed_twice
    ∷ slice_too_short
    ∷ state_unsound
    ∷ host_of_unsound
    ∷ record_broken
    ∷ start_broken
    ∷ start_without_tree_data
    ∷ start_of_pane
    ∷ []
