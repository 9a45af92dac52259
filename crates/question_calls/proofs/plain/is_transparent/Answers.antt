-- `plain::is_transparent` meets its contract: a bit of the flags, or one of two roles. Assumes nothing.
use Rattle.question_calls.proofs.plain.Rows.{transparent_at}
use Rattle.question_calls.proofs.plain.is_transparent.Goals as goal

pub returns : goal.returns
returns c = λ sound there. transparent_at _ sound _ there _ _ _ c.word_at-flags.ensures c.role_at-role.ensures c.is_graft.ensures
