-- The refusal that a number of document 01's table is. Assumes nothing.
use Rattle.std.specs.Prelude.{ℕ, zero, suc, Result, Ok, Err}
use Rattle.calls.specs.declared.notes.Refusal.{Refusal}
use Rattle.calls.specs.Setting.{refusal}

-- 0 refuses nothing
unfoldable pub verdict : ℕ → Result (Unit {0}) Refusal
verdict zero = Ok tt
verdict (suc k) = Err (refusal (suc k))
