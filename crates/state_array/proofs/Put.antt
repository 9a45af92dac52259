-- Laws of words that are put in their places. Assumes nothing.
use mathlib.Core.List.{List, ◌++◌}
use mathlib.Core.Path.{◌≡◌, refl, sym, ap, ◌∙◌}
use Prim.Native.Nat.{ℕ, zero, suc, ◌+◌, ◌≤◌, ◌<◌, min}
use native.Mathlib.Numerals.{add-one, unary_clauses}
use native.Mathlib.Omega.{arith}
use lib.ListN.{length, get_or, set, take, drop, length-drop, length-append, get_or-append, get_or-eq_default}
use lib.Seq.{get_or-append-add, get_or-take, get_or-drop, length-take-le, ext_get_or}
use borrow.Author.Tests.{lt-ltb, le-ltb}
use Rattle.base.proofs.Cases.{by_order}
use Rattle.base.proofs.Bytes.{length_list_of, list_of_at}
use Rattle.state_array.specs.Layout.{WORDS, ENTRIES, CHILDREN, CHILD_COUNT, LABEL, FLOATS, place, child_place, child}
use Rattle.state_array.specs.declared.Body.{Body}
use Rattle.state_array.specs.Stored.{count_words, data_words}
use Rattle.state_array.specs.Put.{puts, words_put, child_entries}

module _ (at : ℕ → ℕ) where
  -- no word yet, and one more
  pub puts_none : (ws s : List ℕ) → s ≡ puts at ws 0 s
  unfolding puts
  puts_none ws s = refl

  pub puts_more : (ws : List ℕ) (n : ℕ) (s : List ℕ) → set (puts at ws n s) (at n) (get_or ws n 0) ≡ puts at ws (n + 1) s
  unfolding puts
  puts_more ws n s = rw add-one

  -- the words of the first of two lists
  puts_left : (ws vs : List ℕ) (n : ℕ) (s : List ℕ) → n ≤ length ws → puts at (ws ++ vs) n s ≡ puts at ws n s
  unfolding puts
  puts_left ws vs zero s h = refl
  puts_left ws vs (suc n) s h = rw (puts_left ws vs n s (omega arith), get_or-append ws vs 0 n (omega arith))

-- and those of the second
puts_right : (f i : ℕ) (ws vs : List ℕ) (n : ℕ) (s : List ℕ)
    → puts (λ k. place (f + k) i) (ws ++ vs) (length ws + n) s ≡ puts (λ k. place (f + length ws + k) i) vs n (puts (λ k. place (f + k) i) (ws ++ vs) (length ws) s)
unfolding puts
puts_right f i ws vs zero s = let z : length ws + 0 ≡ length ws = omega arith in rw z
puts_right f i ws vs (suc n) s =
    let e : f + (length ws + n) ≡ f + length ws + n = omega arith in
    simp unary_clauses (rw (puts_right f i ws vs n s, e, get_or-append-add ws vs n 0))

-- two lists, one after the other
pub words_append : (f i : ℕ) (ws vs : List ℕ) (s : List ℕ) → words_put (f + length ws) i vs (words_put f i ws s) ≡ words_put f i (ws ++ vs) s
words_append f i ws vs s =
    ap (words_put (f + length ws) i vs) (sym (puts_left (λ k. place (f + k) i) ws vs (length ws) s (omega arith)))
    ∙ sym (puts_right f i ws vs (length vs) s)
    ∙ rw (length-append ws vs)

-- the data after the first child: counts, the label's four words, the floats
pub data_put : (i : ℕ) (d : Body) (s : List ℕ) → length d.label ≡ 4
    → words_put FLOATS i d.floats (words_put LABEL i d.label (words_put CHILD_COUNT i (count_words d) s)) ≡ words_put CHILD_COUNT i (data_words d) s
data_put i d s four =
    let e : FLOATS ≡ LABEL + length d.label = omega (arith, four) in
    ap (λ f. words_put f i d.floats (words_put LABEL i d.label (words_put CHILD_COUNT i (count_words d) s))) e
    ∙ words_append LABEL i d.label d.floats (words_put CHILD_COUNT i (count_words d) s)
    ∙ words_append CHILD_COUNT i (count_words d) (d.label ++ d.floats) s

-- ## The child entries

-- a part of the array
pub entries_lent : (s : List ℕ) → length s ≡ WORDS → take ENTRIES (drop CHILDREN s) ≡ child_entries s
entries_lent s long =
    ext_get_or 0 (take ENTRIES (drop CHILDREN s)) (child_entries s) (size ∙ sym (length_list_of ENTRIES (λ j. get_or s (child_place j) 0)))
    (λ j h. get_or-take ENTRIES (drop CHILDREN s) j 0 (rw size at h) ∙ get_or-drop CHILDREN s j 0 ∙ sym (list_of_at ENTRIES j (λ j. get_or s (child_place j) 0) 0 (rw size at h)))
  where
    size : length (take ENTRIES (drop CHILDREN s)) ≡ ENTRIES
    size = length-take-le ENTRIES (drop CHILDREN s) (omega (arith, length-drop CHILDREN s))

-- the entry that stands k after a node's first, as a comparison reads it
pub entry_lent : (s : List ℕ) (own first k : ℕ) → get_or (child_entries s) (min first ENTRIES + k) own ≡ child s own (first + k)
unfolding child
entry_lent s own first k = by_order (first + k) ENTRIES inside past
  where
    inside : first + k < ENTRIES → get_or (child_entries s) (min first ENTRIES + k) own ≡ child s own (first + k)
    inside h =
        let e : min first ENTRIES + k ≡ first + k = omega arith in
        rw (lt-ltb (first + k) ENTRIES h, e) (list_of_at ENTRIES (first + k) (λ j. get_or s (child_place j) 0) own h)

    past : ENTRIES ≤ first + k → get_or (child_entries s) (min first ENTRIES + k) own ≡ child s own (first + k)
    past h = rw (le-ltb (first + k) ENTRIES h) (get_or-eq_default (child_entries s) own (omega (arith, length_list_of ENTRIES (λ j. get_or s (child_place j) 0))))
