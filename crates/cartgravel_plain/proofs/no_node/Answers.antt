-- `cartgravel_plain::no_node` meets its contract: refused, whatever is asked for. Assumes nothing.
use mathlib.Core.Path.{ap, ◌∙◌}
use Rattle.node_answers.proofs.Answers.{answer_refused}
use Rattle.cartgravel_plain.specs.Plain.{plain_found}
use Rattle.cartgravel_plain.proofs.no_node.Goals as goal

pub returns : goal.returns
returns c = c.found.ensures ∙ ap plain_found (answer_refused _ _ c.unknown.ensures)
