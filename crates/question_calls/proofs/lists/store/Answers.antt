-- `lists::store` meets its contract: two stores. Assumes nothing.
use native.Mathlib.Omega.{arith}
use lib.ListN.{length-set}
use Rattle.question_calls.proofs.lists.store.Goals as goal

pub bounds-ids-k-2 : goal.bounds-ids-k-2
bounds-ids-k-2 c = simp length-set (omega arith)
