-- `node::tree_state::asked` meets its contract: by whether the state is sound. Assumes nothing.
use mathlib.Core.Path.{sym}
use Rattle.base.proofs.Tests.{call_false, call_true}
use Rattle.questions.proofs.Answers.{state_number_unsound, state_number_sound}
use Rattle.question_calls.proofs.node.tree_state.asked.Goals as goal

pub returns-then-not-sound : goal.returns-then-not-sound
returns-then-not-sound c = sym (state_number_unsound _ (call_false c.sound.ensures c.if-not-sound.true))

pub returns : goal.returns
returns c = sym (state_number_sound _ (call_true c.sound.ensures c.if-not-sound.false))
