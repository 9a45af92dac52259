-- `links::is_hidden` meets its contract: there are fewer ancestors than slots. Assumes nothing.
use Rattle.question_calls.proofs.links.Up.{few_ancestors}
use Rattle.question_calls.proofs.links.is_hidden.Goals as goal

pub returns : goal.returns
returns c = λ sound there. c.hidden_up.ensures sound there (few_ancestors _ sound _ there)
