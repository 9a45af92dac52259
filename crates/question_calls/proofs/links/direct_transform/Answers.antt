-- `links::direct_transform` meets its contract: by the flags. Assumes nothing.
use mathlib.Core.Path.{sym, ◌∙◌}
use Rattle.question_calls.proofs.links.Up.{direct_own, direct_none}
use Rattle.question_calls.proofs.links.direct_transform.Goals as goal

pub returns-then-word_at-eq1 : goal.returns-then-word_at-eq1
returns-then-word_at-eq1 c = λ sound there.
    c.transform_at.ensures ∙ sym (direct_own _ sound _ there _ c.word_at.ensures c.if-word_at-eq1.true)

pub returns-else-word_at-eq1 : goal.returns-else-word_at-eq1
returns-else-word_at-eq1 c = λ sound there.
    c.identity.ensures ∙ sym (direct_none _ sound _ there _ c.word_at.ensures c.if-word_at-eq1.false)
