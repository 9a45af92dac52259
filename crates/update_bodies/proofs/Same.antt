-- Laws of data compared by value: runs, labels, images. Assumes nothing.
use mathlib.Core.Bool.{Bool, true, false, false≢true}
use mathlib.Core.List.{List, map, [], ◌∷◌}
use mathlib.Core.Path.{◌≡◌, refl, sym, ap, ◌∙◌}
use Prim.Native.Nat.{ℕ, ◌<◌, suc, ◌+◌, ◌*◌, ◌/◌, ◌%◌, ◌^◌, ◌≤◌}
use native.Mathlib.Omega.{arith}
use lib.Dec.{eqb}
use lib.Ieee.{to_bits, binary64}
use lib.ListN.{length, get_or}
use borrow.Author.Tests.{eq-eqb, eqb-true, lt-ltb}
use Rattle.base.specs.Tests.{◌and◌, same_list}
use Rattle.base.specs.Bytes.{all_below, list_of}
use Rattle.base.proofs.Tests.{both, iff, same_list→≡, and_true, joined, same_list_refl}
use Rattle.base.proofs.Bytes.{all_below_at, list_of_at}
use Rattle.base.proofs.Indexed.{all_below_each}
use Rattle.base.proofs.Compared.{same_list_each, same_list_fails}
use Rattle.ids.specs.Ids.{same_tree, same_node}
use Rattle.ids.proofs.Ids.{same_node→≡}
use Rattle.geometry.specs.Geometry.{same_rect, same_affine}
use Rattle.record.specs.Batch.{NodeData, same_data}
use Rattle.record.proofs.Batch.{field_rules}
use Rattle.state_array.specs.Stored.{floats_of, body_of, DataFits, label_word}
use Rattle.state_array.specs.declared.Body.{Body}
use Rattle.state_array.proofs.Labels.{float_forth, are_bytes, le_byte}
use Rattle.update_bodies.specs.Bodies.{bounds_of, transform_of, same_run, same_body}
use lib.Seq.{ext_get_or}

-- ## Lists of bytes

-- a list whose elements are below 256
pub bytes_all : (l : List ℕ) → ((k : ℕ) → get_or l k 0 < 256) → are_bytes l ≡ true
bytes_all [] h = refl
bytes_all (x ∷ l) h = joined (lt-ltb x 256 (h 0)) (bytes_all l (λ k. h (suc k)))

-- ## Labels

module _ (l m : List ℕ) (bl : are_bytes l ≡ true) (bm : are_bytes m ≡ true) (sl : length l ≤ 32) where
  -- the same words, the same label
  words_same : length l ≡ length m → ((k : ℕ) → k < 4 → label_word l k ≡ label_word m k) → l ≡ m
  words_same e h = ext_get_or 0 l m e (λ j b.
      let at : 8 * (j / 8) + j % 8 ≡ j = omega arith in
      let same =
      sym (le_byte 8 (j % 8) (8 * (j / 8)) l bl (omega arith)) ∙ ap (λ w. w / 2 ^ (8 * (j % 8)) % 256) (h (j / 8) (omega arith))
      ∙ le_byte 8 (j % 8) (8 * (j / 8)) m bm (omega arith) in
      rw at at same)

  -- compared by its length and its words, or byte by byte
  pub label_same : (eqb (length l) (length m) and same_run (list_of 4 (label_word l)) 0 (list_of 4 (label_word m)) 0 0 4) ≡ same_list eqb l m
  unfolding same_run
  label_same = iff forth back
    where
      forth : (eqb (length l) (length m) and same_run (list_of 4 (label_word l)) 0 (list_of 4 (label_word m)) 0 0 4) ≡ true → same_list eqb l m ≡ true
      forth e =
          let run = (both e).1 in
          let words : (k : ℕ) → k < 4 → label_word l k ≡ label_word m k = λ k h.
          let there : 0 + k ≡ k = omega arith in
          let t : eqb (get_or (list_of 4 (label_word l)) (0 + k) 0) (get_or (list_of 4 (label_word m)) (0 + k) 0) ≡ true = all_below_at _ 4 k run h in
          sym (list_of_at 4 k (label_word l) 0 h) ∙ eqb-true _ _ (rw there at t) ∙ list_of_at 4 k (label_word m) 0 h in
          rw (← words_same (eqb-true _ _ (both e).0) words) (same_list_refl eqb (λ x. eq-eqb x x refl) l)

      back : same_list eqb l m ≡ true → (eqb (length l) (length m) and same_run (list_of 4 (label_word l)) 0 (list_of 4 (label_word m)) 0 0 4) ≡ true
      back e =
          let word : ℕ → ℕ = λ k. get_or (list_of 4 (label_word l)) (0 + k) 0 in
          let q : l ≡ m = same_list→≡ eqb (λ x y h. eqb-true x y h) l m e in
          rw (← q) (joined (eq-eqb (length l) (length l) refl) (all_below_each (λ k. eqb (word k) (word k)) 4 (λ k h. eq-eqb (word k) (word k) refl)))

-- ## Runs

-- two lists of one length, place by place
pub list_run : {A : Type 0} (same : A → A → Bool) (d : A) (n : ℕ) (f : ℕ → A) (ys : List A) → n ≡ length ys
    → all_below n (λ j. same (f j) (get_or ys j d)) ≡ same_list same (list_of n f) ys
list_run same d n f ys e = iff (λ h. same_list_each same d n f ys e (λ j l. all_below_at _ n j h l)) (λ h. all_below_each _ n (λ j l. go j l h (same (f j) (get_or ys j d)) refl))
  where
    go : (j : ℕ) → j < n → same_list same (list_of n f) ys ≡ true → (t : Bool) → same (f j) (get_or ys j d) ≡ t → same (f j) (get_or ys j d) ≡ true
    go j l h true q = q
    go j l h false q = absurd (false≢true (sym (same_list_fails same d n f ys j l (omega arith) q) ∙ h))

-- ## Images

-- images whose fields were compared one by one
pub body_compared : (a b : Body) {g n w r t : Bool} → g ≡ same_tree a.graft b.graft → n ≡ same_node a.active_descendant b.active_descendant
    → w ≡ same_run a.label 0 b.label 0 0 4
    → r ≡ same_rect (bounds_of a.floats) (bounds_of b.floats)
    → t ≡ same_affine (transform_of a.floats) (transform_of b.floats)
    → eqb a.child_count b.child_count and eqb a.flags b.flags and g
    and (n and (eqb a.label_length b.label_length and w) and eqb a.role b.role and r and t)
    ≡ same_body a b
unfolding same_body
body_compared a b g n w r t = cc

-- ## Data

-- the floats of an image are the data's
module _ (d : NodeData) (f : DataFits d) where
  bounds_back : bounds_of (map (to_bits binary64) (floats_of d)) ≡ d.bounds
  unfolding bounds_of floats_of
  bounds_back =
      let z = simp and_true at f.floats in
      λ i. record {
        x0 = float_forth d.bounds.x0 z.0 i;
        y0 = float_forth d.bounds.y0 z.1.0 i;
        x1 = float_forth d.bounds.x1 z.1.1.0 i;
        y1 = float_forth d.bounds.y1 z.1.1.1.0 i;
      }

  transform_back : transform_of (map (to_bits binary64) (floats_of d)) ≡ d.transform
  unfolding transform_of floats_of
  transform_back =
      let z = (simp and_true at f.floats).1.1.1.1 in
      λ i. record {
        a = float_forth d.transform.a z.0 i;
        b = float_forth d.transform.b z.1.0 i;
        c = float_forth d.transform.c z.1.1.0 i;
        d = float_forth d.transform.d z.1.1.1.0 i;
        e = float_forth d.transform.e z.1.1.1.1.0 i;
        f = float_forth d.transform.f z.1.1.1.1.1.0 i;
      }

-- what data compares beside the children
abbrev pub rest_same : NodeData → NodeData → Bool → Bool
rest_same d e kids =
    kids
    and eqb d.flags e.flags
    and same_tree d.graft e.graft
    and (same_node d.active_descendant e.active_descendant
    and same_list eqb d.label e.label
    and eqb d.role e.role
    and same_rect d.bounds e.bounds
    and same_affine d.transform e.transform
    )

module _ (d e : NodeData) (df : DataFits d) (ef : DataFits e) where
  -- two images are the same where the data is, the children counted
  pub same_body_lem : same_body (body_of d) (body_of e) ≡ rest_same d e (eqb (length d.children) (length e.children))
  unfolding same_body body_of
  same_body_lem =
      rw (bounds_back d df, bounds_back e ef, transform_back d df, transform_back e ef)
      (ap (λ t. eqb (length d.children) (length e.children)
      and eqb d.flags e.flags
      and same_tree d.graft e.graft
      and (same_node d.active_descendant e.active_descendant and t and eqb d.role e.role and same_rect d.bounds e.bounds and same_affine d.transform e.transform))
      (label_same d.label e.label df.bytes ef.bytes (field_rules d df.fields).label_limit))

  -- where the images are the same, the children's lists decide
  pub data_by_children : same_body (body_of d) (body_of e) ≡ true → same_data d e ≡ same_list same_node d.children e.children
  unfolding same_data ◌and◌
  data_by_children h = go (same_list same_node d.children e.children) (sym same_body_lem ∙ h)
    where
      go : (t : Bool) → rest_same d e (eqb (length d.children) (length e.children)) ≡ true → rest_same d e t ≡ t
      go true q = ap (rest_same d e) (sym (counted q)) ∙ q
        where
          counted : rest_same d e (eqb (length d.children) (length e.children)) ≡ true → eqb (length d.children) (length e.children) ≡ true
          counted p = (both (both (both p).0).0).0
      go false q = refl

  -- and as many are compared
  pub children_counted : same_body (body_of d) (body_of e) ≡ true → length d.children ≡ length e.children
  children_counted h = eqb-true _ _ (both (both (both (sym same_body_lem ∙ h)).0).0).0

  -- where they are not, the data differs
  pub data_differs : same_body (body_of d) (body_of e) ≡ false → same_data d e ≡ false
  unfolding same_data ◌and◌
  data_differs h = go (same_list same_node d.children e.children) refl
    where
      go : (t : Bool) → same_list same_node d.children e.children ≡ t → rest_same d e t ≡ false
      go true q =
          let lists : d.children ≡ e.children = same_list→≡ same_node same_node→≡ d.children e.children q in
          ap (rest_same d e) (sym (eq-eqb _ _ (ap length lists))) ∙ sym same_body_lem ∙ h
      go false q = refl
