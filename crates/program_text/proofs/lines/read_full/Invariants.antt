-- `program_text::lines::read_full`: what was read lies within the buffer.
use Rattle.std.proofs.Common.{◌≤◌, length}
use Rattle.program_text.proofs.lines.read_full.Given as goal

abbrev pub invariant-loop : goal.invariant-loop
invariant-loop g l = l.done ≤ length l.buffer
