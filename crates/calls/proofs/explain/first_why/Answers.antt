-- `explain::first_why` meets its contract. Assumes nothing.
use native.Mathlib.Omega.{arith}
use Rattle.calls.proofs.explain.Parts.{offence_formed, first_unsound, first_offence, first_rest}
use Rattle.calls.proofs.explain.first_why.Goals as goal

pub returns-then-not-sound : goal.returns-then-not-sound
returns-then-not-sound c = search first_unsound

pub returns-in-Some : goal.returns-in-Some
returns-in-Some c = search first_offence

pub before_pass-requires : goal.before_pass-requires
before_pass-requires c =
    let formed = offence_formed _ c.offence.ensures (λ i. omega (arith, c.type_inv.batch i)) c.in_default.is in
    record { batch_value = formed; scoped = c.scope_of-scope.ensures formed }

pub returns : goal.returns
returns c = search first_rest
