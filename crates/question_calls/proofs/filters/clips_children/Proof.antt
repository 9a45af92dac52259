-- `filters::clips_children` meets its contract: a bit of the flags. Assumes nothing.
use Rattle.question_calls.proofs.filters.Clipped.{clips_at_lem}
use borrow.Author.Rules.{rules}
use Rattle.question_calls.proofs.filters.clips_children.Statement.{statement}
use Rattle.question_calls.proofs.filters.clips_children.Tie as tie

returns : tie.Need-returns
returns c = λ sound there. clips_at_lem _ sound _ there _ c.word_at.ensures

pub clips_children_spec : {M : Type 1} → statement M
clips_children_spec = tie.close (tie.spec (λ c κs. search rules) returns)
