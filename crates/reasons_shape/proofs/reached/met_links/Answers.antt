-- `reasons_shape::reached::met_links` meets its contract: the links below each node passed are added. Assumes nothing.
use borrow.Author.Rules.{rules}
use Rattle.reasons_shape.proofs.reached.Meeting.{meeting_start, meeting_skips, meeting_more, meeting_end}
use Rattle.reasons_shape.proofs.reached.met_links.Goals as goal

pub loop-p-init : goal.loop-p-init
loop-p-init c = search (rules, meeting_start)

pub loop-p-preserved-then-marks-p-eq0 : goal.loop-p-preserved-then-marks-p-eq0
loop-p-preserved-then-marks-p-eq0 c = search (rules, meeting_skips)

pub loop-p-preserved : goal.loop-p-preserved
loop-p-preserved c = search (rules, meeting_more)

pub returns : goal.returns
returns c = search (rules, meeting_end)
