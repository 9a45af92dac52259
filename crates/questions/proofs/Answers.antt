-- Laws of answers: which number a question answers, what it answers after 0 and after another number, and a slice that is written element by
-- element. Assumes nothing.
use mathlib.Core.Bool.{true, false, not}
use mathlib.Core.List.{List, [], ◌∷◌, ◌++◌, append_assoc}
use mathlib.Core.Path.{◌≡◌, refl, sym, ap, ◌∙◌}
use Prim.Native.Nat.{ℕ, zero, suc, ◌+◌, ◌*◌, ◌≤◌, ◌<◌}
use native.Mathlib.Numerals.{add-one}
use native.Mathlib.Omega.{arith}
use lib.Dec.{ltb}
use lib.ListN.{length, get_or, take, drop, set, length-append, length-drop}
use lib.Seq.{length-take-le, take-length, take-suc, drop-cons, append_snoc, set_at}
use borrow.Author.Tests.{lt-ltb, le-ltb}
use Rattle.base.specs.Tests.{◌and◌}
use Rattle.base.specs.Tables.{row, first}
use Rattle.base.specs.Bytes.{list_of}
use Rattle.base.proofs.Bytes.{length_list_of, list_of_more}
use Rattle.base.proofs.Tables.{first_holds, first_passes, first_none, first_append, first_append_none}
use Rattle.ids.specs.Ids.{id_words}
use Rattle.ids.specs.declared.FullNodeId.{FullNodeId}
use Rattle.ids.proofs.Ids.{id_words_length, id_words_append}
use Rattle.state.specs.State.{Forest, present}
use Rattle.state.specs.Sound.{sound}
use Rattle.questions.specs.Answers.{ask_number, state_number, list_number, after, written}

-- ## The number

module _ (s : Forest) where
  -- of a question about no node
  pub state_number_unsound : sound s ≡ false → state_number s ≡ 1
  unfolding state_number
  state_number_unsound e = first_holds 1 _ _ (ap not e)

  pub state_number_sound : sound s ≡ true → state_number s ≡ 0
  unfolding state_number
  state_number_sound e = first_passes 1 _ _ (ap not e) ∙ first_none

  module _ (x : FullNodeId) (room wanted : ℕ) where
    -- 1 and 22 come before 21
    pub list_number_refused : (ask_number s x ≡ 0 → ⊥) → list_number s x room wanted ≡ ask_number s x
    unfolding ask_number list_number
    list_number_refused h = first_append (row 1 (not (sound s)) ∷ row 22 (not (present s.nodes x)) ∷ []) (row 21 (ltb room wanted) ∷ []) h

    module _ (e : ask_number s x ≡ 0) where
      number_left : list_number s x room wanted ≡ first (row 21 (ltb room wanted) ∷ [])
      unfolding ask_number list_number ◌and◌
      number_left = first_append_none (row 1 (not (sound s)) ∷ row 22 (not (present s.nodes x)) ∷ []) (row 21 (ltb room wanted) ∷ []) refl e

      -- the slice is too short
      pub list_number_short : room < wanted → list_number s x room wanted ≡ 21
      list_number_short l = number_left ∙ first_holds 21 _ _ (lt-ltb room wanted l)

      -- it is not
      pub list_number_fits : wanted ≤ room → list_number s x room wanted ≡ 0
      list_number_fits l = number_left ∙ first_passes 21 _ _ (le-ltb room wanted l) ∙ first_none

-- ## The other parts

module _ {A : Type 0} (nothing answer : A) where
  pub after_refused : (k : ℕ) → (k ≡ 0 → ⊥) → after k nothing answer ≡ nothing
  unfolding after
  after_refused zero h = absurd (h refl)
  after_refused (suc k) h = refl

  pub after_answered : (k : ℕ) → k ≡ 0 → after k nothing answer ≡ answer
  unfolding after
  after_answered zero e = refl
  after_answered (suc k) e = absurd (omega arith)

-- ## The slice

module _ (f : ℕ → ℕ) (slice : List ℕ) where
  -- nothing is written yet
  pub written_none : written (list_of 0 f) slice ≡ slice
  unfolding written list_of
  written_none = refl

  -- one element more
  pub written_more : (j : ℕ) → j < length slice → set (written (list_of j f) slice) j (f j) ≡ written (list_of (j + 1) f) slice
  unfolding written
  written_more j h =
      rw (length_list_of j f, length_list_of (j + 1) f, list_of_more j f, drop-cons slice j 0 h, set_at (list_of j f) _ _ (f j) j (length_list_of j f), add-one j)
      (sym (append_snoc (list_of j f) (f j) _))

  pub written_length : (j : ℕ) → j ≤ length slice → length (written (list_of j f) slice) ≡ length slice
  unfolding written
  written_length j h = simp (length-append, length_list_of, length-drop) (omega arith)

-- ## Ids in the slice

-- two stores after what is written
two_written : (ws slice : List ℕ) (m a b : ℕ) → length ws ≡ m → m + 2 ≤ length slice
    → set (set (written ws slice) m a) (m + 1) b ≡ written (ws ++ a ∷ b ∷ []) slice
unfolding written
two_written ws slice m a b e h =
    let long : length (ws ++ a ∷ []) ≡ m + 1 = length-append ws (a ∷ []) ∙ ap (λ (k : ℕ). k + 1) e in
    let all : length (ws ++ a ∷ b ∷ []) ≡ suc (suc m) = length-append ws (a ∷ b ∷ []) ∙ (omega arith) in
    let here : m < length slice = omega arith in
    let next : suc m < length slice = omega arith in
    let rest = drop (suc (suc m)) slice in
    ap (λ (n : ℕ). set (set (ws ++ drop n slice) m a) (m + 1) b) e
    ∙ ap (λ (l : List ℕ). set (set (ws ++ l) m a) (m + 1) b) (drop-cons slice m 0 here ∙ ap (λ (l : List ℕ). get_or slice m 0 ∷ l) (drop-cons slice (suc m) 0 next))
    ∙ ap (λ (l : List ℕ). set l (m + 1) b) (set_at ws (get_or slice m 0) (get_or slice (suc m) 0 ∷ rest) a m e ∙ sym (append_assoc ws (a ∷ []) (get_or slice (suc m) 0 ∷ rest)))
    ∙ set_at (ws ++ a ∷ []) (get_or slice (suc m) 0) rest b (m + 1) long
    ∙ append_assoc ws (a ∷ []) (b ∷ rest)
    ∙ sym (append_assoc ws (a ∷ b ∷ []) rest)
    ∙ ap (λ (n : ℕ). (ws ++ a ∷ b ∷ []) ++ drop n slice) (sym all)

module _ (xs : List FullNodeId) (slice : List ℕ) where
  -- the slice with the first k ids
  abbrev pub written_ids : ℕ → List ℕ
  written_ids k = written (id_words (take k xs)) slice

  taken_words : (k : ℕ) → k ≤ length xs → length (id_words (take k xs)) ≡ 2 * k
  taken_words k h = id_words_length (take k xs) ∙ ap (λ (n : ℕ). 2 * n) (length-take-le k xs h)

  -- no id is written yet
  pub ids_none : written_ids 0 ≡ slice
  unfolding written id_words
  ids_none = refl

  -- one id more
  pub ids_more : (k : ℕ) (x d : FullNodeId) → k < length xs → 2 * k + 2 ≤ length slice → x ≡ get_or xs k d
      → set (set (written_ids k) (2 * k) x.tree.0) (2 * k + 1) x.node.0 ≡ written_ids (k + 1)
  unfolding id_words
  ids_more k x d h room e =
      two_written (id_words (take k xs)) slice (2 * k) x.tree.0 x.node.0 (taken_words k (omega arith)) room
      ∙ ap (λ (l : List ℕ). written l slice)
      (sym (id_words_append (take k xs) (x ∷ [])) ∙ ap id_words (rw (← e) at (sym (take-suc xs k d h))) ∙ ap (λ (n : ℕ). id_words (take n xs)) (sym (add-one k)))

  -- all are written
  pub ids_all : (k : ℕ) → k ≡ length xs → written_ids k ≡ written (id_words xs) slice
  ids_all k e = rw (e, take-length xs)
