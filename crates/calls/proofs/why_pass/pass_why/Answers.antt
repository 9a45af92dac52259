-- `why_pass::pass_why` meets its contract: none of the rows holds, or one does and its cause tells the reason. Assumes nothing.
use mathlib.Core.Path.{ap, sym, ◌∙◌}
use Rattle.std.specs.Prelude.{option_map}
use Rattle.reasons_why.specs.Why.{why_for}
use Rattle.calls.specs.Setting.{forest, asked}
use Rattle.calls.specs.Causes.{cause_reason}
use Rattle.calls.proofs.why_pass.pass_why.Goals as goal

pub returns-in_default : goal.returns-in_default
unfolding why_for
returns-in_default c =
    c.no_reason.ensures ∙ ap (λ o. why_for (option_map (cause_reason (forest c.args.state.now) (asked c.args.batch.now c.args.scope)) o)) (sym c.in_default.is)
    ∙ ap why_for (sym c.cause_of.ensures.is)

pub returns : goal.returns
unfolding why_for
returns c =
    c.of_cause.ensures ∙ ap (λ o. why_for (option_map (cause_reason (forest c.args.state.now) (asked c.args.batch.now c.args.scope)) o)) (sym c.in-Some.is)
    ∙ ap why_for (sym c.cause_of.ensures.is)
