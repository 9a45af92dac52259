-- Laws of the data in a slot of any words: the label's words and the floats as an image holds them. Assumes nothing.
use mathlib.Core.Bool.{Bool, true}
use mathlib.Core.List.{List, [], ◌∷◌, map}
use mathlib.Core.Path.{◌≡◌, refl, sym, ap₂, ◌∙◌}
use Prim.Native.Nat.{ℕ, ◌+◌, ◌*◌, ◌/◌, ◌%◌, ◌^◌, ◌-◌, ◌≤◌, ◌<◌, min}
use native.Mathlib.Omega.{arith}
use lib.Dec.{ltb}
use lib.Ieee.{of_bits, to_bits, binary64, fits}
use lib.ListN.{length, get_or, get_or-eq_default}
use borrow.Author.Tests.{lt-ltb, ltb-true}
use Rattle.base.specs.Tests.{all}
use Rattle.base.specs.Floats.{is_finite}
use Rattle.base.specs.Bytes.{list_of}
use Rattle.base.proofs.Tests.{both, joined, and_true}
use Rattle.base.proofs.Bytes.{length_list_of, list_of_at}
use Rattle.geometry.specs.Geometry.{rect_test, affine_test}
use Rattle.record.specs.Batch.{NodeData, fields_ok}
use Rattle.record.proofs.Batch.{field_rules}
use Rattle.state_array.specs.Layout.{FIRST_CHILD, CHILD_COUNT, LABEL_LENGTH, LABEL, word, child}
use Rattle.state_array.specs.View.{id_in, shape_in, children_in, label_byte, label_in, bounds_in, transform_in, body_in}
use Rattle.state_array.specs.Stored.{label_word, floats_of, body_of, float_words, body_words}
use Rattle.state_array.proofs.Labels.{shift_bytes, le_cut, float_back, float_fits}

-- ## Bit patterns

-- every element is a word
abbrev pub are_words : List ℕ → Bool
are_words ws = all (λ w. ltb w (2 ^ 64)) ws

-- what is read of patterns fits
pub patterns_fit : (ws : List ℕ) → all (fits binary64) (map (of_bits binary64) ws) ≡ true
patterns_fit [] = refl
patterns_fit (w ∷ ws) = joined (float_fits w) (patterns_fit ws)

-- patterns of finite numbers are written back as they were
pub patterns_back : (ws : List ℕ) → are_words ws ≡ true → all is_finite (map (of_bits binary64) ws) ≡ true
    → map (to_bits binary64) (map (of_bits binary64) ws) ≡ ws
patterns_back [] small finite = refl
patterns_back (w ∷ ws) small finite =
    ap₂ {A = ℕ} {B = List ℕ} {C = List ℕ} (λ x xs. x ∷ xs) (float_back w (ltb-true w (2 ^ 64) (both small).0) (both finite).0)
    (patterns_back ws (both small).1 (both finite).1)

-- the floats of data that obeys the rules are finite
pub floats_finite : (d : NodeData) → fields_ok d ≡ true → all is_finite (floats_of d) ≡ true
unfolding floats_of rect_test affine_test
floats_finite d h =
    let r = field_rules d h in
    let p = simp and_true at r.finite_bounds in
    let q = simp and_true at r.finite_transform in
    simp and_true (p.0.0.0, (p.0.0.1, (p.0.1, (p.1, (q.0.0.0.0.0, (q.0.0.0.0.1, (q.0.0.0.1, (q.0.0.1, (q.0.1, (q.1, refl))))))))))

-- ## A slot

module _ (s : List ℕ) (i : ℕ) where
  pub children_length : length (body_in s i).children ≡ word s CHILD_COUNT i
  unfolding body_in children_in shape_in
  children_length = length_list_of (word s CHILD_COUNT i) (λ j. record { 0 = child s (id_in s i).node.0 (word s FIRST_CHILD i + j) })

  pub label_length_lem : length (body_in s i).label ≡ word s LABEL_LENGTH i
  unfolding body_in label_in
  label_length_lem = length_list_of (word s LABEL_LENGTH i) (label_byte s i)

  -- a label's word is the slot's, cut at the label's end
  pub label_cut : (k : ℕ) → k < 4 → label_word (label_in s i) k ≡ word s (LABEL + k) i % 256 ^ min 8 (word s LABEL_LENGTH i - 8 * k)
  unfolding label_in label_byte
  label_cut k h = le_cut 8 (word s LABEL_LENGTH i - 8 * k) (word s (LABEL + k) i) (8 * k) (label_in s i) inside past
    where
      inside : (m : ℕ) → m < 8 → m < word s LABEL_LENGTH i - 8 * k → get_or (label_in s i) (8 * k + m) 0 ≡ word s (LABEL + k) i / 256 ^ m % 256
      inside m l b =
          let word-is : (8 * k + m) / 8 ≡ k = omega arith in
          let byte-is : (8 * k + m) % 8 ≡ m = omega arith in
          list_of_at (word s LABEL_LENGTH i) (8 * k + m) (label_byte s i) 0 (omega arith)
          ∙ rw (lt-ltb (8 * k + m) 32 (omega arith), word-is, byte-is, shift_bytes m)

      past : (m : ℕ) → m < 8 → word s LABEL_LENGTH i - 8 * k ≤ m → get_or (label_in s i) (8 * k + m) 0 ≡ 0
      past m l b = get_or-eq_default (label_in s i) 0 {n = 8 * k + m} (omega (arith, length_list_of (word s LABEL_LENGTH i) (label_byte s i)))

  pub slot_floats : floats_of (body_in s i) ≡ map (of_bits binary64) (float_words s i)
  unfolding floats_of float_words list_of body_in bounds_in transform_in
  slot_floats = refl

  -- where the fields obey the rules, what stands in a slot is what an image holds
  pub body_words_lem : are_words (body_words s i).floats ≡ true → fields_ok (body_in s i) ≡ true → body_words s i ≡ body_of (body_in s i)
  unfolding body_words body_of body_in shape_in
  body_words_lem small ok =
      let finite = rw slot_floats at (floats_finite (body_in s i) ok) in
      let floats_are : float_words s i ≡ map (to_bits binary64) (floats_of (body_in s i)) = rw slot_floats (sym (patterns_back (float_words s i) small finite)) in
      λ z. record {
        graft = (body_words s i).graft;
        flags = (body_words s i).flags;
        child_count = sym children_length z;
        active_descendant = (body_words s i).active_descendant;
        role = (body_words s i).role;
        label_length = sym label_length_lem z;
        label = (body_words s i).label;
        floats = floats_are z;
      }
