-- `own::put_children` meets its contract: the ids passed are written. Assumes nothing.
use mathlib.Core.Path.{◌≡◌}
use Rattle.state_array.specs.View.{id_in, view}
use Rattle.questions.specs.Links.{child_ids}
use Rattle.questions.proofs.Answers.{written_ids}
use Rattle.question_calls.proofs.own.put_children.Given as goal

abbrev pub invariant-loop-k : goal.invariant-loop-k
invariant-loop-k l = l.out ≡ written_ids (child_ids (view l.state).forest (id_in l.state l.i)) l.initial.out l.k
