-- What is known of the node that a question asks about, before the question looks at it. Assumes nothing.
use Rattle.std.specs.Prelude.{true, List, ◌≡◌, ℕ, ◌<◌, Result, IfOk}
use Rattle.ids.specs.declared.FullNodeId.{FullNodeId}
use Rattle.state.specs.Sound.{sound}
use Rattle.state_array.specs.View.{id_in, slots_of, view}
use Rattle.questions.specs.Answers.{ask_number}
use Rattle.node_answers.specs.declared.Refusal.{Refusal}
use Rattle.node_answers.specs.Answers.{number_of}

-- slot i of a sound state holds the node x
pub record NodeAt (s : List ℕ) (x : FullNodeId) (i : ℕ) : Type 0 where
  pub is_sound : sound (view s).forest ≡ true
  pub within : i < slots_of s
  pub id_is : id_in s i ≡ x

-- refused with 1 or 22, or the slot
pub record Asks (s : List ℕ) (x : FullNodeId) (r : Result ℕ Refusal) : Type 0 where
  pub number_is : number_of r ≡ ask_number (view s).forest x
  pub stands : IfOk r (NodeAt s x)
