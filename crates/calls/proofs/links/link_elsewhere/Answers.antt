-- `links::link_elsewhere` meets its contract: a law for each way out. Assumes nothing.
use Rattle.calls.proofs.notes.Told.{few_listed}
use Rattle.calls.proofs.links.Elsewhere.{elsewhere_own, elsewhere_kept, elsewhere_claimed}
use native.Mathlib.Omega.{arith}
use Rattle.calls.proofs.links.link_elsewhere.Goals as goal

pub returns-then-was-eq : goal.returns-then-was-eq
returns-then-was-eq c = let own = rw c.eq.ensures at c.if-was-eq.true in search elsewhere_own

pub claimed_from-i-requires : goal.claimed_from-i-requires
claimed_from-i-requires c = search few_listed

pub returns-then-k-i : goal.returns-then-k-i
returns-then-k-i c = let other = rw c.eq.ensures at c.if-was-eq.false in search elsewhere_kept

pub listed_id-requires : goal.listed_id-requires
listed_id-requires c = omega (arith, few_listed)

pub returns : goal.returns
returns c = let other = rw c.eq.ensures at c.if-was-eq.false in search elsewhere_claimed
