-- `explain::first_start_why` meets its contract. Assumes nothing.
use mathlib.Core.Bool.{false, not}
use mathlib.Core.Path.{◌≡◌, sym, ap, ◌∙◌}
use native.Mathlib.Omega.{arith}
use borrow.Author.Rules.{rules}
use Rattle.base.proofs.Tests.{not_true}
use Rattle.ids.specs.Ids.{ROOT, same_tree}
use Rattle.ids.proofs.Ids.{tree_test}
use Rattle.calls.proofs.explain.Parts.{offence_formed, start_offence, start_unrooted, start_pane, start_again}
use Rattle.calls.proofs.explain.first_start_why.Goals as goal

pub returns-in-Some : goal.returns-in-Some
returns-in-Some c = search start_offence

pub returns-then-not-has_tree_data : goal.returns-then-not-has_tree_data
returns-then-not-has_tree_data c = search start_unrooted

pub returns-then-ne : goal.returns-then-ne
returns-then-ne c =
    let other : same_tree c.tree_id-id.result ROOT ≡ false = not_true (ap not (sym (tree_test c.tree_id-id.result ROOT)) ∙ sym c.ne.ensures ∙ c.if-ne.true) in
    search (rules, start_pane)

pub listed_again-requires : goal.listed_again-requires
listed_again-requires c =
    offence_formed _ c.offence.ensures
    (λ i. omega (arith, c.type_inv.batch i)) c.in_default.is

pub returns : goal.returns
returns c = search (rules, tree_test, start_again)
