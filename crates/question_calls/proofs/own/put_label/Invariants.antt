-- `own::put_label` meets its contract: the bytes passed are written. Assumes nothing.
use mathlib.Core.Path.{◌≡◌}
use Rattle.base.specs.Bytes.{list_of}
use Rattle.state_array.specs.View.{label_byte}
use Rattle.questions.specs.Answers.{written}
use Rattle.question_calls.proofs.own.put_label.Given as goal

abbrev pub invariant-loop-j : goal.invariant-loop-j
invariant-loop-j l = l.out ≡ written (list_of l.j (label_byte l.state l.i)) l.initial.out
