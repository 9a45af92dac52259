-- `links::link_of_old` meets its contract: what is read of its slot is the node's id, link and marks. Assumes nothing.
use mathlib.Core.Path.{◌≡◌, sym, ◌∙◌}
use borrow.Author.Tests.{eqb-true, eqb-false}
use Rattle.base.proofs.Tests.{not_true, not_false}
use Rattle.calls.proofs.links.Elsewhere.{old_elsewhere, old_here, named_at}
use Rattle.calls.proofs.links.link_of_old.Goals as goal

pub returns-then-ne : goal.returns-then-ne
returns-then-ne c =
    let apart : c.id_at-x.result.tree.0 ≡ c.args.scope.tree.0 → ⊥ = eqb-false _ _ (not_true (sym c.ne.ensures ∙ c.if-ne.true)) in
    search old_elsewhere

pub link_here-requires : goal.link_here-requires
link_here-requires c =
    let here : c.id_at-x.result.tree.0 ≡ c.args.scope.tree.0 = eqb-true _ _ (not_false (sym c.ne.ensures ∙ c.if-ne.false)) in
    search named_at

pub returns : goal.returns
returns c =
    let here : c.id_at-x.result.tree.0 ≡ c.args.scope.tree.0 = eqb-true _ _ (not_false (sym c.ne.ensures ∙ c.if-ne.false)) in
    search old_here
