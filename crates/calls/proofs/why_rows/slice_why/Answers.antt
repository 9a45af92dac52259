-- `why_rows::slice_why` meets its contract: the lists take no element, at most those lent, or more. Assumes nothing.
use Rattle.calls.proofs.why_rows.Rows.{slice_one, slice_fits, slice_short}
use Rattle.calls.proofs.why_rows.slice_why.Goals as goal

pub returns-in_default : goal.returns-in_default
returns-in_default c = search slice_one

pub returns-then-most-room : goal.returns-then-most-room
returns-then-most-room c = search slice_fits

pub returns : goal.returns
returns c = search slice_short
