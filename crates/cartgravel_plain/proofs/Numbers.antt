-- Numbers that are none of ours. Assumes nothing.
use Rattle.std.specs.Prelude.{Bool, true, false, not, [], ◌∷◌, None}
use mathlib.Core.Path.{◌≡◌, refl}
use Prim.Native.Nat.{ℕ, zero, suc}
use Rattle.base.specs.Tables.{row, first}
use Rattle.state.specs.State.{Forest}
use Rattle.state.specs.Sound.{sound}
use Rattle.questions.specs.Kept.{side_of, filter_choice}
use Rattle.node_answers.specs.Answers.{refusal, answer, number_of}
use Rattle.cartgravel_plain.specs.Plain.{filter_numbered, side_numbered, unknown_number}

-- the number of an answer that is refused for one is the one that it was made with
pub unknown_numbered : {A : Type 0} (a : A) (s : Forest) → number_of (answer (unknown_number s) a) ≡ unknown_number s
unfolding unknown_number first answer refusal
unknown_numbered a s = go (sound s)
  where
    go : (b : Bool) → let k = first (row 1 (not b) ∷ row 2 true ∷ []) in number_of (answer k a) ≡ k
    go true = refl
    go false = refl

pub no_filter : (k : ℕ) → (k ≡ 1 → ⊥) → (k ≡ 2 → ⊥) → (k ≡ 3 → ⊥) → None ≡ filter_numbered k
unfolding filter_numbered filter_choice
no_filter zero a b c = refl
no_filter (suc zero) a b c = absurd (a refl)
no_filter (suc (suc zero)) a b c = absurd (b refl)
no_filter (suc (suc (suc zero))) a b c = absurd (c refl)
no_filter (suc (suc (suc (suc k)))) a b c = refl

pub no_side : (k : ℕ) → (k ≡ 0 → ⊥) → (k ≡ 1 → ⊥) → None ≡ side_numbered k
unfolding side_numbered side_of
no_side zero a b = absurd (a refl)
no_side (suc zero) a b = absurd (b refl)
no_side (suc (suc k)) a b = refl
