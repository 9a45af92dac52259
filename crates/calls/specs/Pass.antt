-- The rows that judge a batch before its outcome is made, 9 to 14: their number, their reason, and what each of the functions answers.
-- Assumes nothing.
use Rattle.std.specs.Prelude.{Bool, [], ◌∷◌, ◌≡◌, ℕ, get_or, Option}
use Rattle.base.specs.Tests.{any, first_given}
use Rattle.base.specs.Search.{First}
use Rattle.base.specs.Tables.{row, found, first}
use Rattle.record.specs.Batch.{Batch, named_ids}
use Rattle.record_reader.specs.Reader.{no_node}
use Rattle.state.specs.State.{Forest}
use Rattle.update.specs.Pass.{pass}
use Rattle.update.specs.Numbers.{placeless, nowhere}
use Rattle.reasons.specs.Reasons.{Reason}
use Rattle.reasons_calls.specs.Pass.{pass_fault, placeless_from, nowhere_fault}
use Rattle.calls.specs.declared.pass.Cause.{Cause}
use Rattle.calls.specs.Causes.{Explains}

-- rows 9 to 14: what the pass meets, a listed node left without a place, a named child neither present nor listed
unfoldable pub pass_number : Forest → Batch → ℕ
pass_number s b =
    first (found (pass s b) ∷ row 13 (any (placeless s b) b.nodes) ∷ row 14 (any (nowhere s b) (named_ids b.nodes)) ∷ [])

-- the reason of the first of them that holds
abbrev pub row_reason : Forest → Batch → Option Reason
row_reason s b = first_given (λ o. o) (pass_fault s b ∷ placeless_from s b 0 b.nodes ∷ nowhere_fault s b ∷ [])

-- a cause, or none, explains rows 9 to 12, and all of them
abbrev pub PassExplained : Forest → Batch → Option Cause → Type 0
PassExplained s b r = Explains s b (pass_fault s b) r

abbrev pub RowsExplained : Forest → Batch → Option Cause → Type 0
RowsExplained s b r = Explains s b (row_reason s b) r

-- row 14: whether the child of entry j is nowhere; the first of k entries whose child is, or k
abbrev pub NowhereAt : Forest → Batch → ℕ → Bool → Type 0
NowhereAt s b j r = r ≡ nowhere s b (get_or (named_ids b.nodes) j no_node)

abbrev pub FirstNowhere : Forest → Batch → ℕ → ℕ → Type 0
FirstNowhere s b k r = First (λ m. nowhere s b (get_or (named_ids b.nodes) m no_node)) k r
