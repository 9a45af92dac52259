-- The number of rows 15 to 17 of an outcome. Assumes nothing.
use Rattle.std.specs.Prelude.{[], ◌∷◌, ℕ}
use Rattle.base.specs.Tests.{is_none}
use Rattle.base.specs.Tables.{row, first}
use Rattle.state.specs.State.{Forest}
use Rattle.state.specs.Down.{root_of}
use Rattle.state.specs.Focus.{effective_focus}
use Rattle.update.specs.Numbers.{absent}

-- rows 15 to 17
unfoldable pub focus_number : Forest → ℕ
focus_number o =
    first
    (row 15 (is_none (effective_focus o)) ∷ row 16 (absent o.nodes (root_of o)) ∷ row 17 (absent o.nodes (effective_focus o)) ∷ [])
