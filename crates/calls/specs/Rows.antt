-- The rows of document 01's table of numbers but the pass, as tables of their own. Assumes nothing.
use Rattle.std.specs.Prelude.{Bool, not, List, [], ◌∷◌, ℕ, ltb, length}
use Rattle.base.specs.Tests.{is_none, any, distinct}
use Rattle.base.specs.Tables.{row, found, first}
use Rattle.ids.specs.Ids.{ROOT, same_tree, same_node}
use Rattle.record.specs.Batch.{Batch, listed_ids}
use Rattle.record.specs.Parse.{well_formed, batch_of}
use Rattle.state.specs.State.{Forest}
use Rattle.state.specs.Down.{root_of}
use Rattle.state.specs.Focus.{effective_focus}
use Rattle.state.specs.Sound.{grafts_differ, sound_shape, sound}
use Rattle.update.specs.Pass.{pass}
use Rattle.update.specs.Outcome.{outcome}
use Rattle.update.specs.Numbers.{absent, updated_and_removed, rows_before_pass, rows_after_pass}
use Rattle.calls.specs.declared.notes.Scope.{Scope}
use Rattle.calls.specs.Setting.{asked, forest}

-- rows 1, 2 and 5 to 8 of a batch on a forest
unfoldable pub first_number : Forest → List ℕ → ℕ
first_number s bytes = first (row 1 (not (sound s)) ∷ row 2 (not (well_formed bytes)) ∷ rows_before_pass s (batch_of bytes))

-- rows 2 to 5 of a start
unfoldable pub start_rows : List ℕ → ℕ
start_rows bytes =
    first
    (row 2 (not (well_formed bytes))
    ∷ row 3 (is_none (batch_of bytes).root)
    ∷ row 4 (not (same_tree (batch_of bytes).tree ROOT))
    ∷ row 5 (not (distinct same_node (listed_ids (batch_of bytes).nodes)))
    ∷ [])

-- 12's second part and rows 15 to 20 of an outcome; `clash` is row 18
unfoldable pub last_number : Forest → Bool → ℕ
last_number o clash =
    first
    (row 12 (not (grafts_differ o.nodes))
    ∷ row 15 (is_none (effective_focus o))
    ∷ row 16 (absent o.nodes (root_of o))
    ∷ row 17 (absent o.nodes (effective_focus o))
    ∷ row 18 clash
    ∷ row 19 (not (sound_shape o))
    ∷ row 20 (ltb 256 (length o.nodes))
    ∷ [])

-- row 18 of the batch that a record and a scope say
abbrev pub clashes : List ℕ → List ℕ → Scope → Bool
clashes state bytes c = any (updated_and_removed (forest state) (asked bytes c)) (asked bytes c).nodes

-- rows 12 and 15 to 20 of a batch
abbrev pub last_rows : Forest → Batch → ℕ
last_rows s b = last_number (outcome s b) (any (updated_and_removed s b) b.nodes)

-- rows 9 to 20 of a batch
abbrev pub later_rows : Forest → Batch → ℕ
later_rows s b = first (found (pass s b) ∷ rows_after_pass s b (outcome s b))
