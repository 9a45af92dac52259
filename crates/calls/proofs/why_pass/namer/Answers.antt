-- `why_pass::namer` meets its contract: the entries of the nodes passed end before j. Assumes nothing.
use native.Mathlib.Omega.{arith}
use Rattle.calls.proofs.notes.Told.{few_listed}
use Rattle.calls.proofs.why_pass.Words.{namer_here, namer_past}
use Rattle.calls.proofs.why_pass.namer.Goals as goal

pub overflow_add-i : goal.overflow_add-i
overflow_add-i c = omega (arith, few_listed)

pub offset_bounds-notes-i : goal.offset_bounds-notes-i
offset_bounds-notes-i c = omega (arith, few_listed)

pub bounds-notes-i : goal.bounds-notes-i
bounds-notes-i c = omega (arith, few_listed)

pub listed_id-requires : goal.listed_id-requires
listed_id-requires c = omega (arith, few_listed)

pub returns-then-j-notes : goal.returns-then-j-notes
returns-then-j-notes c = search namer_here

pub returns : goal.returns
returns c = search namer_past
