-- `reading::write_claims` meets its contract. Assumes nothing.
use mathlib.Core.Bool.{Bool, not}
use mathlib.Core.Path.{ap, ap₂, ◌∙◌, refl}
use Prim.Native.Nat.{◌+◌}
use lib.ListN.{get_or}
use Rattle.base.specs.Tests.{◌and◌}
use Rattle.calls.specs.Layout.{CLAIMS, LISTED_SLOTS}
use Rattle.base.proofs.Regions.{fill_kept}
use Rattle.calls.specs.Codes.{flag}
use Rattle.calls.proofs.notes.Told.{few_listed, told_filled}
use Rattle.calls.specs.Reading.{claim_of}
use Rattle.calls.proofs.reading.Reading.{claim_is}
use native.Mathlib.Omega.{arith}
use Rattle.base.proofs.Loops.{filling_begins, filling_goes, filling_ends}
use Rattle.calls.proofs.reading.write_claims.Goals as goal

pub loop-i-init : goal.loop-i-init
loop-i-init c = filling_begins (omega (arith, few_listed))

pub loop-i-preserved : goal.loop-i-preserved
unfolding claim_of ◌and◌
loop-i-preserved c =
    let l = c.loop-i in
    let slot = ap (λ s. get_or s (LISTED_SLOTS + l.i) 0) l.invariant.filled ∙ fill_kept CLAIMS _ l.i _ (LISTED_SLOTS + l.i) (λ p q. omega arith) in
    filling_goes l.invariant c.loop-i-test.true
    (c.flag_of.ensures ∙ ap (λ (t : Bool). flag t) (ap₂ (λ t u. t and not u) c.grafts_new.ensures (rw slot at c.same_graft.ensures)))

pub returns : goal.returns
returns c =
    let told = c.requires in
    told_filled _ _ _ _ _ 7 _ _ told (omega (arith, few_listed)) (filling_ends c.loop-i.invariant c.loop-i-test.false) refl
    (claim_is _ _ _ told.given _ (told.written 3 (omega arith)))
