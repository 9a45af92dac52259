-- `state_lookup::hint_at` meets its contract: what is read fits, and past the last stands 0. Assumes nothing.
use native.Mathlib.Omega.{arith}
use borrow.Author.Rules.{rules}
use lib.ListN.{get_or-eq_default}
use Rattle.state_lookup.proofs.hint_at.Goals as goal

pub overflow_cast-result : goal.overflow_cast-result
overflow_cast-result c = omega (arith, c.shared_slice_known-1.given c.args.i)

pub returns-else-i-hints : goal.returns-else-i-hints
returns-else-i-hints c = search (rules, get_or-eq_default)
