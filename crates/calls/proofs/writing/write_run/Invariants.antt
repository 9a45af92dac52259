-- `writing::write_run` meets its contract. The children before j are in their places. Assumes nothing.
use Rattle.state_array.specs.Layout.{child_place}
use Rattle.state_array.specs.Filled.{kid_word}
use Rattle.calls.specs.Written.{source_children}
use Rattle.base.proofs.Loops.{Filling}
use Rattle.calls.proofs.writing.write_run.Given as goal

abbrev pub invariant-loop-j : goal.invariant-loop-j
invariant-loop-j l = Filling (child_place l.first) l.count l.count (kid_word (source_children l.state l.batch l.source)) l.initial.next l.j l.next
