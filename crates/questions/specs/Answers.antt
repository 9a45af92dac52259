-- What a question answers: its number, and what is asked for. Document 01, "Numbers a call can return": a question checks 22 before 21.
-- Assumes nothing.
use Rattle.std.specs.Prelude.{not, List, [], ◌∷◌, ◌++◌, ℕ, zero, suc, ltb, length, drop}
use Rattle.base.specs.Tables.{row, first}
use Rattle.ids.specs.declared.FullNodeId.{FullNodeId}
use Rattle.state.specs.State.{Forest, present}
use Rattle.state.specs.Sound.{sound}

-- 1 where the state is not sound, then 22 where the node asked about is not there
unfoldable pub ask_number : Forest → FullNodeId → ℕ
ask_number s x = first (row 1 (not (sound s)) ∷ row 22 (not (present s.nodes x)) ∷ [])

-- a question about no node
unfoldable pub state_number : Forest → ℕ
state_number s = first (row 1 (not (sound s)) ∷ [])

-- then 21 where the lent slice is shorter than what it should hold
unfoldable pub list_number : Forest → FullNodeId → ℕ → ℕ → ℕ
list_number s x room wanted = first (row 1 (not (sound s)) ∷ row 22 (not (present s.nodes x)) ∷ row 21 (ltb room wanted) ∷ [])

-- after any number but 0 the other parts are 0 or none
unfoldable pub after : {A : Type 0} → ℕ → A → A → A
after zero nothing answer = answer
after (suc k) nothing answer = nothing

-- a slice after a list is written to it: elements beyond the list keep what they held
unfoldable pub written : List ℕ → List ℕ → List ℕ
written words slice = words ++ drop (length words) slice
