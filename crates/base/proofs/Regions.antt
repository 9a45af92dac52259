-- Laws of regions: stated once, for loops that fill them and for the image that they make. Assumes nothing.
use mathlib.Core.Bool.{true}
use mathlib.Core.List.{List, [], ◌∷◌, ◌++◌}
use mathlib.Core.Path.{◌≡◌, refl, sym, ap, ◌∙◌}
use Prim.Native.Nat.{ℕ, zero, suc, ◌+◌, ◌≤◌, ◌<◌}
use native.Mathlib.Nat.{zero-add}
use native.Mathlib.Numerals.{add-one, unary_clauses}
use native.Mathlib.Omega.{arith}
use lib.Dec.{ltb}
use lib.ListN.{length, get_or, set, replicate, length-set, replicate-append-replicate}
use lib.Seq.{get_or-set_same, get_or-set_other, set_comm, set-append_left, ext_get_or}
use borrow.Author.Tests.{leb-true, lt-ltb, le-ltb}
use Rattle.base.proofs.Cases.{by_order}
use Rattle.std.specs.Prelude.{if◌then◌else◌}
use Rattle.base.specs.Bytes.{list_of}
use Rattle.base.proofs.Tests.{both}
use Rattle.base.proofs.Bytes.{length_list_of, list_of_at}
use Rattle.base.specs.Regions.{fill, Region, fills, row, laid, Part, part, words_of, image, part_start, with_part}

-- ## One region

module _ (start : ℕ) (f : ℕ → ℕ) where
  -- nothing yet, and one place more
  pub fill_none : (s : List ℕ) → fill start 0 f s ≡ s
  unfolding fill
  fill_none s = refl

  pub fill_more : (n : ℕ) (s : List ℕ) → fill start (n + 1) f s ≡ set (fill start n f s) (start + n) (f n)
  unfolding fill
  fill_more n s = rw add-one

  pub fill_length : (n : ℕ) (s : List ℕ) → length (fill start n f s) ≡ length s
  unfolding fill
  fill_length zero s = refl
  fill_length (suc n) s = length-set (fill start n f s) (start + n) (f n) ∙ fill_length n s

  -- a place outside holds what it held
  pub fill_kept : (n : ℕ) (s : List ℕ) (k : ℕ) → (start ≤ k → k < start + n → ⊥) → get_or (fill start n f s) k 0 ≡ get_or s k 0
  unfolding fill
  fill_kept zero s k h = refl
  fill_kept (suc n) s k h =
      get_or-set_other (fill start n f s) (start + n) k (f n) 0 (λ e. h (omega arith) (omega arith))
      ∙ fill_kept n s k (λ a b. h a (omega arith))

  -- a place inside holds its word
  pub fill_put : (n : ℕ) (s : List ℕ) → start + n ≤ length s → (i : ℕ) → i < n → get_or (fill start n f s) (start + i) 0 ≡ f i
  unfolding fill
  fill_put zero s l i h = absurd (omega arith)
  fill_put (suc n) s l i h =
      by_order i n (λ k. get_or-set_other (fill start n f s) (start + n) (start + i) (f n) 0 (λ e. omega arith) ∙ fill_put n s (omega arith) i k)
      (λ k. let q : i ≡ n = omega arith in rw q (get_or-set_same (fill start n f s) (start + n) (f n) 0 (omega (arith, fill_length n s))))

  -- a store outside may come before or after
  pub fill_set : (n : ℕ) (s : List ℕ) (k v : ℕ) → (start ≤ k → k < start + n → ⊥) → set (fill start n f s) k v ≡ fill start n f (set s k v)
  unfolding fill
  fill_set zero s k v h = refl
  fill_set (suc n) s k v h =
      set_comm (fill start n f s) (start + n) k (f n) v (λ e. h (omega arith) (omega arith))
      ∙ ap (λ l. set l (start + n) (f n)) (fill_set n s k v (λ a b. h a (omega arith)))

  -- a run after a run
  pub fill_add : (m n : ℕ) (s : List ℕ) → fill (start + m) n (λ i. f (m + i)) (fill start m f s) ≡ fill start (m + n) f s
  unfolding fill
  fill_add m zero s = simp unary_clauses
  fill_add m (suc n) s =
      let e : start + m + n ≡ start + (m + n) = omega arith in
      simp unary_clauses (rw (fill_add m n s, e))

-- the words alone count, and only those below n
pub fill_cong : (start n : ℕ) (f g : ℕ → ℕ) (s : List ℕ) → ((i : ℕ) → i < n → f i ≡ g i) → fill start n f s ≡ fill start n g s
unfolding fill
fill_cong start zero f g s h = refl
fill_cong start (suc n) f g s h = rw (fill_cong start n f g s (λ i l. h i (omega arith)), h n (omega arith))

-- ## A row of several regions, as a loop stores it

pub fills_none : (gs : List Region) (s : List ℕ) → fills gs 0 s ≡ s
fills_none [] s = refl
fills_none (g ∷ gs) s = rw (fill_none g.start g.word s) (fills_none gs s)

-- a store below the regions
fills_set : (gs : List Region) (from room n : ℕ) → laid from room gs ≡ true → n ≤ room → (s : List ℕ) (k v : ℕ) → k < from
    → set (fills gs n s) k v ≡ fills gs n (set s k v)
fills_set [] from room n a l s k v h = refl
fills_set (g ∷ gs) from room n a l s k v h =
    let low : from ≤ g.start = leb-true from g.start (both a).0 in
    fills_set gs (g.start + room) room n (both a).1 l (fill g.start n g.word s) k v (omega arith)
    ∙ ap (fills gs n) (fill_set g.start g.word n s k v (λ p q. omega arith))

-- one row more: the one law of a loop that fills columns of one array
pub row_stored : (gs : List Region) (from room n : ℕ) → laid from room gs ≡ true → n < room → (s : List ℕ)
    → row gs n (fills gs n s) ≡ fills gs (n + 1) s
row_stored [] from room n a l s = refl
row_stored (g ∷ gs) from room n a l s =
    ap (row gs n) (fills_set gs (g.start + room) room n (both a).1 (omega arith) (fill g.start n g.word s) (g.start + n) (g.word n) (omega arith))
    ∙ ap (λ t. row gs n (fills gs n t)) (sym (fill_more g.start g.word n s))
    ∙ row_stored gs (g.start + room) room n (both a).1 l (fill g.start (n + 1) g.word s)

-- ## Images

-- a part has the words of its size
pub part_length : (p : Part) → length (words_of p) ≡ p.size
unfolding words_of
part_length p = length_list_of p.size (λ i. if ltb i p.used then p.word i else 0)

-- what stands at a place of a part
pub part_at : (p : Part) (i : ℕ) → i < p.size → i < p.used → get_or (words_of p) i 0 ≡ p.word i
unfolding words_of
part_at p i l h = list_of_at p.size i (λ i. if ltb i p.used then p.word i else 0) 0 l ∙ rw (lt-ltb i p.used h)

pub part_rest : (p : Part) (i : ℕ) → i < p.size → p.used ≤ i → get_or (words_of p) i 0 ≡ 0
unfolding words_of
part_rest p i l h = list_of_at p.size i (λ i. if ltb i p.used then p.word i else 0) 0 l ∙ rw (le-ltb i p.used h)

-- an unused part that is filled
part_filled : (p : Part) (n : ℕ) (f : ℕ → ℕ) → p.used ≡ 0 → n ≤ p.size → fill 0 n f (words_of p) ≡ words_of (part p.size n f)
part_filled p n f e l =
    ext_get_or 0 (fill 0 n f (words_of p)) (words_of (part p.size n f)) (size ∙ sym (part_length (part p.size n f)))
    (λ i h. by_order i n (inside i (rw size at h)) (outside i (rw size at h)))
  where
    size : length (fill 0 n f (words_of p)) ≡ p.size
    size = fill_length 0 f n (words_of p) ∙ part_length p

    inside : (i : ℕ) → i < p.size → i < n → get_or (fill 0 n f (words_of p)) i 0 ≡ get_or (words_of (part p.size n f)) i 0
    inside i h k = (rw zero-add at (fill_put 0 f n (words_of p) (omega (arith, part_length p)) i k)) ∙ sym (part_at (part p.size n f) i h k)

    outside : (i : ℕ) → i < p.size → n ≤ i → get_or (fill 0 n f (words_of p)) i 0 ≡ get_or (words_of (part p.size n f)) i 0
    outside i h k = fill_kept 0 f n (words_of p) i (λ a b. omega arith) ∙ part_rest p i h (omega arith) ∙ sym (part_rest (part p.size n f) i h k)

-- a fill within the first of two lists, and one within the second
fill_left : (n : ℕ) (f : ℕ → ℕ) (l t : List ℕ) → n ≤ length l → fill 0 n f (l ++ t) ≡ fill 0 n f l ++ t
unfolding fill
fill_left zero f l t h = refl
fill_left (suc n) f l t h =
    ap (λ s. set s (0 + n) (f n)) (fill_left n f l t (omega arith))
    ∙ set-append_left (fill 0 n f l) t (0 + n) (f n) (omega (arith, fill_length 0 f n l))

set_right : (l t : List ℕ) (k v : ℕ) → set (l ++ t) (length l + k) v ≡ l ++ set t k v
set_right [] t k v = let z : 0 + k ≡ k = omega arith in ap (λ m. set t m v) z
set_right (x ∷ l) t k v =
    let z : suc (length l) + k ≡ suc (length l + k) = omega arith in
    ap (λ m. set (x ∷ (l ++ t)) m v) z ∙ ap (λ s. x ∷ s) (set_right l t k v)

fill_right : (start n : ℕ) (f : ℕ → ℕ) (l t : List ℕ) → fill (length l + start) n f (l ++ t) ≡ l ++ fill start n f t
unfolding fill
fill_right start zero f l t = refl
fill_right start (suc n) f l t =
    let e : length l + start + n ≡ length l + (start + n) = omega arith in
    rw (fill_right start n f l t, e) (set_right l (fill start n f t) (start + n) (f n))

-- part j is there, unused, and has room for n words
abbrev pub Free : List Part → ℕ → ℕ → Type 0
Free [] j n = ⊥
Free (p ∷ ps) zero n = (p.used ≡ 0) × (n ≤ p.size)
Free (p ∷ ps) (suc j) n = Free ps j n

-- filling a region of an image is using a part of it
pub image_filled : (ps : List Part) (j n : ℕ) (f : ℕ → ℕ) → Free ps j n → fill (part_start ps j) n f (image ps) ≡ image (with_part ps j n f)
unfolding image
image_filled [] j n f h = absurd h
image_filled (p ∷ ps) zero n f h =
    fill_left n f (words_of p) (image ps) (omega (arith, part_length p))
    ∙ ap (λ s. s ++ image ps) (part_filled p n f h.0 h.1)
image_filled (p ∷ ps) (suc j) n f h =
    ap (λ a. fill (a + part_start ps j) n f (words_of p ++ image ps)) (sym (part_length p))
    ∙ fill_right (part_start ps j) n f (words_of p) (image ps)
    ∙ ap (λ s. words_of p ++ s) (image_filled ps j n f h)

-- a list of zeros, cut off an unused part at a time
zeros_list : (n : ℕ) (f : ℕ → ℕ) → ((i : ℕ) → f i ≡ 0) → list_of n f ≡ replicate n 0
unfolding list_of
zeros_list zero f h = refl
zeros_list (suc n) f h = rw (h 0, zeros_list n (λ i. f (suc i)) (λ i. h (suc i)))

unused_zeros : (n : ℕ) → words_of (part n 0 (λ i. 0)) ≡ replicate n 0
unfolding words_of
unused_zeros n = zeros_list n (λ i. if ltb i 0 then 0 else 0) (λ i. rw (le-ltb i 0 (omega arith)))

abbrev pub blanks : List ℕ → List Part
blanks [] = []
blanks (n ∷ ns) = part n 0 (λ i. 0) ∷ blanks ns

abbrev pub total : List ℕ → ℕ
total [] = 0
total (n ∷ ns) = n + total ns

pub zeros_image : (ns : List ℕ) → replicate (total ns) 0 ≡ image (blanks ns)
unfolding image
zeros_image [] = refl
zeros_image (n ∷ ns) = sym (replicate-append-replicate n (total ns) 0) ∙ rw (← unused_zeros n, zeros_image ns)
