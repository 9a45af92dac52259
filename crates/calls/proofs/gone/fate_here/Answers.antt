-- `gone::fate_here` meets its contract: a law for each way out. Assumes nothing.
use mathlib.Core.Path.{◌≡◌, sym, ◌∙◌}
use borrow.Author.Tests.{eqb-true, eqb-false}
use Rattle.base.proofs.Tests.{not_true, not_false}
use Rattle.calls.proofs.gone.Fates.{here_top, here_named, here_listed, here_root, here_below}
use Rattle.calls.proofs.gone.fate_here.Goals as goal

pub returns-then-ne : goal.returns-then-ne
returns-then-ne c =
    let apart : c.args.p.tree.0 ≡ c.args.scope.tree.0 → ⊥ = eqb-false _ _ (not_true (sym c.ne.ensures ∙ c.if-ne.true)) in
    search here_top

pub returns-then-naming-gt0 : goal.returns-then-naming-gt0
returns-then-naming-gt0 c =
    let same : c.args.p.tree.0 ≡ c.args.scope.tree.0 = eqb-true _ _ (not_false (sym c.ne.ensures ∙ c.if-ne.false)) in
    search here_named

pub returns-then-parent_turn-gt0 : goal.returns-then-parent_turn-gt0
returns-then-parent_turn-gt0 c =
    let same : c.args.p.tree.0 ≡ c.args.scope.tree.0 = eqb-true _ _ (not_false (sym c.ne.ensures ∙ c.if-ne.false)) in
    search here_listed

pub returns-then-scope-is_root : goal.returns-then-scope-is_root
returns-then-scope-is_root c =
    let same : c.args.p.tree.0 ≡ c.args.scope.tree.0 = eqb-true _ _ (not_false (sym c.ne.ensures ∙ c.if-ne.false)) in
    search here_root

pub returns : goal.returns
returns c =
    let same : c.args.p.tree.0 ≡ c.args.scope.tree.0 = eqb-true _ _ (not_false (sym c.ne.ensures ∙ c.if-ne.false)) in
    search here_below
