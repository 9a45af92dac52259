-- Worked examples of the book, which antt computes: a start, a batch, and a pane that takes a number.
-- Assumes nothing.
use mathlib.Core.List.{[], ◌∷◌}
use Rattle.std.specs.Prelude.{None, Some}
use mathlib.Core.Path.{◌≡◌, refl}
use Rattle.base.specs.Tests.{◌and◌}
use Rattle.ids.specs.Ids.{ROOT, same_tree, same_index, same_node, same_id, before}
use Rattle.record.specs.Batch.{graft?, Batch}
use Rattle.record.specs.ExampleNodes.{node, T, parent, leaf, grafts, lists, batch_for, batch}
use Rattle.state.specs.ExampleStates.{id, tree}
use Rattle.book.specs.Book.{entry_of, enter, enter_all, strike, line_after, lines_after, number_in, new_line, enter_batch, opened_by, is_entered, tree_of_line, trees_of_lines}

-- `unfolding computed` unfolds the definitions of the book
computed : Unit {0}
unfolding ◌and◌ same_tree same_index same_node same_id before graft? entry_of enter enter_all strike line_after lines_after number_in new_line enter_batch opened_by is_entered tree_of_line trees_of_lines
computed = tt

-- S, with root 1 over 2 and 3
abbrev start_s : Batch
start_s = batch_for ROOT (Some 1) 2 (lists 1 (parent (2 ∷ 3 ∷ [])) ∷ lists 2 leaf ∷ lists 3 leaf ∷ [])

-- the start enters its nodes, root and focus under 0
opens :
    opened_by start_s
    ≡ record {
      nodes = record { id = id 0 1; children = node 2 ∷ node 3 ∷ []; graft = None } ∷ record { id = id 0 2; children = []; graft = None } ∷ record { id = id 0 3; children = []; graft = None } ∷ [];
      trees = record { id = ROOT; root = Some (node 1); focus = node 2 } ∷ [];
    }
unfolding computed
opens = refl

-- 1 has [2], 2 grafts T, focus 1, and 3 is removed: written over, struck, the focus set and the root kept
enters :
    enter_batch (opened_by start_s) (batch 1 (lists 1 (parent (2 ∷ [])) ∷ lists 2 (grafts T) ∷ [])) (id 0 3 ∷ [])
    ≡ record {
      nodes = record { id = id 0 1; children = node 2 ∷ []; graft = None } ∷ record { id = id 0 2; children = []; graft = Some T } ∷ [];
      trees = record { id = ROOT; root = Some (node 1); focus = node 1 } ∷ [];
    }
unfolding computed
enters = refl

-- T with root 1 and focus 9 takes the next number; it exists while its root is entered
joins :
    ((enter_batch (opened_by start_s) (batch_for T (Some 1) 9 (lists 1 leaf ∷ [])) []).trees
    ≡ record { id = ROOT; root = Some (node 1); focus = node 2 } ∷ record { id = T; root = Some (node 1); focus = node 9 } ∷ [])
    × (trees_of_lines (enter_batch (opened_by start_s) (batch_for T (Some 1) 9 (lists 1 leaf ∷ [])) []).nodes 0
    (enter_batch (opened_by start_s) (batch_for T (Some 1) 9 (lists 1 leaf ∷ [])) []).trees
    ≡ tree ROOT 1 2 ∷ tree T 1 9 ∷ [])
    × (trees_of_lines (opened_by start_s).nodes 0 (record { id = ROOT; root = Some (node 4); focus = node 2 } ∷ []) ≡ record { id = ROOT; subtree = None } ∷ [])
unfolding computed
joins = (refl, refl, refl)
