-- `links::hidden_at` meets its contract: a bit of the flags. Assumes nothing.
use borrow.Author.Rules.{rules}
use Rattle.question_calls.proofs.links.Up.{hidden_is}
use Rattle.question_calls.proofs.links.hidden_at.Statement.{statement}
use Rattle.question_calls.proofs.links.hidden_at.Tie as tie

returns : tie.Need-returns
returns c = λ sound there. hidden_is _ sound _ there _ c.word_at.ensures

pub hidden_at_spec : {M : Type 1} → statement M
hidden_at_spec = tie.close (tie.spec (λ c κs. search rules) returns)
