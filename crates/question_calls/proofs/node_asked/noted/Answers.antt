-- `node_asked::noted` meets its contract: by whether the state is sound. Assumes nothing.
use mathlib.Core.Path.{sym}
use Rattle.base.proofs.Tests.{call_false, call_true}
use Rattle.questions.proofs.Answers.{state_number_unsound, state_number_sound}
use Rattle.question_calls.proofs.node_asked.noted.Goals as goal

pub returns-then-not-sound_noting-clause-number : goal.returns-then-not-sound_noting-clause-number
returns-then-not-sound_noting-clause-number c = sym (state_number_unsound _ (call_false c.sound_noting.ensures c.if-not-sound_noting.true))

pub returns-clause-number : goal.returns-clause-number
returns-clause-number c = sym (state_number_sound _ (call_true c.sound_noting.ensures c.if-not-sound_noting.false))

pub returns-clause-sound : goal.returns-clause-sound
returns-clause-sound c = call_true c.sound_noting.ensures c.if-not-sound_noting.false
