-- `pass::pass_rows` meets its contract. Assumes nothing.
use mathlib.Core.Path.{ap, ◌∙◌}
use Rattle.calls.specs.Refusals.{verdict}
use Rattle.calls.proofs.pass.Causes.{explains_number, explains_zero}
use Rattle.calls.proofs.pass.pass_rows.Goals as goal

pub returns-in_default : goal.returns-in_default
unfolding verdict
returns-in_default c = ap verdict (explains_zero c.cause_of.ensures c.in_default.is)

pub returns : goal.returns
returns c = c.refuse.ensures ∙ ap verdict (c.number_of.ensures ∙ explains_number c.cause_of.ensures c.in-Some.is)
