-- `reasons_shape::fields` meets its contract: the fields of each node passed obey the rules. Assumes nothing.
use Rattle.reasons_shape.proofs.Slots.{seeking_more, spot_kept, spot_broken, fields_at, field_says}
use borrow.Author.Rules.{rules}
use Rattle.reasons_shape.proofs.fields.Goals as goal

pub returns-then-not-fields_ok_at : goal.returns-then-not-fields_ok_at
returns-then-not-fields_ok_at c = search (rules, spot_broken, fields_at, field_says)

pub loop-i-preserved : goal.loop-i-preserved
loop-i-preserved c = search (rules, seeking_more, fields_at)

pub returns : goal.returns
returns c = search (rules, spot_kept)
