-- `why_outcome::grafts::claims` meets its contract: a law for each way out. Assumes nothing.
use mathlib.Core.Path.{◌≡◌, sym, ◌∙◌}
use borrow.Author.Rules.{rules}
use borrow.Author.Tests.{eqb-true, eqb-false}
use native.Mathlib.Omega.{arith}
use Rattle.base.proofs.Tests.{not_true, not_false}
use Rattle.calls.proofs.notes.Told.{few_listed}
use Rattle.calls.proofs.why_outcome.Regrafts.{claims_other, claims_unlisted, claims_listed}
use Rattle.calls.proofs.why_outcome.grafts.claims.Goals as goal

pub returns-then-ne : goal.returns-then-ne
returns-then-ne c =
    let apart : c.args.x.tree.0 ≡ c.args.scope.tree.0 → ⊥ = eqb-false _ _ (not_true (sym c.ne.ensures ∙ c.if-ne.true)) in
    search (rules, claims_other)

pub position_in-turn-requires : goal.position_in-turn-requires
position_in-turn-requires c = omega (arith, few_listed)

pub returns-then-k-turn : goal.returns-then-k-turn
returns-then-k-turn c =
    let here : c.args.x.tree.0 ≡ c.args.scope.tree.0 = eqb-true _ _ (not_false (sym c.ne.ensures ∙ c.if-ne.false)) in
    search (rules, claims_unlisted)

pub overflow_add-result : goal.overflow_add-result
overflow_add-result c = omega (arith, few_listed)

pub offset_bounds-notes-turn : goal.offset_bounds-notes-turn
offset_bounds-notes-turn c = omega (arith, few_listed)

pub bounds-notes-turn : goal.bounds-notes-turn
bounds-notes-turn c = omega (arith, few_listed)

pub returns : goal.returns
returns c =
    let here : c.args.x.tree.0 ≡ c.args.scope.tree.0 = eqb-true _ _ (not_false (sym c.ne.ensures ∙ c.if-ne.false)) in
    search (rules, claims_listed)
