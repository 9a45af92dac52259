-- `reasons_shape::reached::root_links` meets its contract: a law for each way out. Assumes nothing.
use mathlib.Core.Path.{◌≡◌, ◌∙◌}
use borrow.Author.Rules.{rules}
use Rattle.ids.specs.Ids.{same_id}
use Rattle.ids.proofs.Ids.{id_test}
use Rattle.reasons_shape.proofs.reached.Meeting.{root_nowhere, root_here, root_other}
use Rattle.reasons_shape.proofs.reached.root_links.Goals as goal

pub returns-in_default : goal.returns-in_default
returns-in_default c = search (rules, root_nowhere)

pub returns-then-eq : goal.returns-then-eq
returns-then-eq c =
    let test : c.eq.result ≡ same_id c.in-Some.e.root c.args.x = c.eq.ensures ∙ id_test _ _ in
    search (rules, root_here)

pub returns : goal.returns
returns c =
    let test : c.eq.result ≡ same_id c.in-Some.e.root c.args.x = c.eq.ensures ∙ id_test _ _ in
    search (rules, root_other)
