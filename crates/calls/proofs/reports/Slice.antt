-- Laws of the slots that are picked, of their ids, and of the slice that these are written into. Assumes nothing.
use mathlib.Core.Bool.{Bool, true, false}
use mathlib.Core.List.{List, [], ◌∷◌, ◌++◌, map-append, append_assoc, append-nil, map}
use mathlib.Core.Path.{◌≡◌, refl, sym, ap, ap₂, ◌∙◌}
use Prim.Native.Nat.{ℕ, suc, ◌+◌, ◌*◌, ◌≤◌, ◌<◌, ◌-◌}
use native.Mathlib.Omega.{arith}
use lib.ListN.{length, get_or, set, take, drop, length-append, length-set, length-map, take-append-drop}
use lib.Seq.{drop-cons, length-take-le, drop-append-add, drop-drop, set_at, take_at}
use borrow.Author.Tests.{lt-ltb, le-ltb}
use lib.Dec.{ltb}
use Rattle.std.specs.Prelude.{if◌then◌else◌, Ok, Err}
use Rattle.base.specs.Tests.{◌and◌, keep, has}
use Rattle.ids.specs.declared.FullNodeId.{FullNodeId}
use Rattle.state_array.specs.View.{id_in, slots_of}
use Rattle.update.specs.Reports.{Changes, change_words, slice_after}
use Rattle.calls.specs.declared.reports.Lists.{Lists}
use Rattle.calls.specs.Slice.{slots_with, Counted, ids_at, picked, Room, ListWritten, ListsWritten}
use Rattle.base.specs.Bytes.{bit, list_of}
use Rattle.base.proofs.Tests.{has_keep, map_keep}
use Rattle.base.proofs.Bytes.{list_of_more, list_of_add}
use Rattle.ids.specs.Ids.{same_id, id_words}
use Rattle.ids.proofs.Ids.{same_id→≡, id_words_length, id_words_append}
use Rattle.state.specs.State.{ids_of, Forest}
use Rattle.state.specs.Sound.{ascending}
use Rattle.state.proofs.State.{present_has}
use Rattle.state_array.specs.Stored.{no_state}
use Rattle.calls.specs.Setting.{forest}
use Rattle.calls.specs.Codes.{id_at, slot_at}
use Rattle.calls.proofs.notes.Places.{slot_present, slot_self, forest_id}
use Rattle.update_focus.proofs.Numbers.{forest_length}

-- what is kept of two lists
keep_append : {A : Type 0} (p : A → Bool) (xs ys : List A) → keep p (xs ++ ys) ≡ keep p xs ++ keep p ys
keep_append p [] ys = refl
keep_append {A} p (x ∷ xs) ys = go (p x) (keep_append p xs ys)
  where
    go : (c : Bool) → keep p (xs ++ ys) ≡ keep p xs ++ keep p ys
        → (if c then x ∷ keep p (xs ++ ys) else keep p (xs ++ ys)) ≡ (if c then x ∷ keep p xs else keep p xs) ++ keep p ys
    go true h = ap (λ (l : List A). x ∷ l) h
    go false h = h

-- ## One slot after another

module _ (weight : ℕ) (notes : List ℕ) (start : ℕ) where
  -- whether a slot is picked
  abbrev pub taken : ℕ → Bool
  taken i = bit weight (get_or notes (start + i) 0)

  pub slots_none : slots_with weight notes start 0 ≡ []
  unfolding slots_with list_of
  slots_none = refl

  slots_more : (i : ℕ) → slots_with weight notes start (i + 1) ≡ slots_with weight notes start i ++ keep taken (i ∷ [])
  unfolding slots_with
  slots_more i = ap (keep taken) (list_of_more i (λ j. j)) ∙ keep_append taken (list_of i (λ j. j)) (i ∷ [])

  -- one that is picked, and one that is not
  pub slots_hit : (i : ℕ) → taken i ≡ true → slots_with weight notes start (i + 1) ≡ slots_with weight notes start i ++ i ∷ []
  slots_hit i e = slots_more i ∙ ap (λ (t : Bool). slots_with weight notes start i ++ (if t then i ∷ [] else [])) e

  pub slots_miss : (i : ℕ) → taken i ≡ false → slots_with weight notes start (i + 1) ≡ slots_with weight notes start i
  slots_miss i e =
      slots_more i ∙ ap (λ (t : Bool). slots_with weight notes start i ++ (if t then i ∷ [] else [])) e ∙ append-nil (slots_with weight notes start i)

  -- how many
  pub count_hit : (i : ℕ) → taken i ≡ true → length (slots_with weight notes start (i + 1)) ≡ length (slots_with weight notes start i) + 1
  count_hit i e = ap length (slots_hit i e) ∙ length-append (slots_with weight notes start i) (i ∷ [])

  pub count_miss : (i : ℕ) → taken i ≡ false → length (slots_with weight notes start (i + 1)) ≡ length (slots_with weight notes start i)
  count_miss i e = ap length (slots_miss i e)

  -- no fewer of more slots
  count_add : (i k : ℕ) → length (slots_with weight notes start i) ≤ length (slots_with weight notes start (i + k))
  unfolding slots_with
  count_add i k =
      let rest = keep taken (list_of k (λ j. i + j)) in
      let all = ap (keep taken) (list_of_add i k (λ j. j)) ∙ keep_append taken (list_of i (λ j. j)) (list_of k (λ j. i + j)) in
      omega (arith, ap length all, length-append (keep taken (list_of i (λ j. j))) rest)

  -- so one that is picked has a place among those of all
  pub count_within : (i n : ℕ) → i < n → taken i ≡ true → length (slots_with weight notes start i) + 1 ≤ length (slots_with weight notes start n)
  count_within i n h e =
      let all : i + 1 + (n - (i + 1)) ≡ n = omega arith in
      omega (arith, count_hit i e, ap (λ m. length (slots_with weight notes start m)) all, count_add (i + 1) (n - (i + 1)))

-- ## Their ids

-- numbers picked by a test of what stands there are the elements that pass
picked_from : {A B : Type 0} (d : A) (q : A → Bool) (f : A → B) (xs : List A) (p : ℕ → Bool) (h : ℕ → B) (g : ℕ → ℕ)
    → ((i : ℕ) → i < length xs → p (g i) ≡ q (get_or xs i d))
    → ((i : ℕ) → i < length xs → h (g i) ≡ f (get_or xs i d))
    → map h (keep p (list_of (length xs) g)) ≡ map f (keep q xs)
unfolding list_of
picked_from d q f [] p h g tests is = refl
picked_from {A} {B} d q f (x ∷ xs) p h g tests is =
    rw (tests 0 (omega arith))
    (go (q x) (picked_from d q f xs p h (λ i. g (suc i)) (λ i l. tests (suc i) (omega arith)) (λ i l. is (suc i) (omega arith))))
  where
    rest : List ℕ
    rest = keep p (list_of (length xs) (λ i. g (suc i)))

    go : (c : Bool) → map h rest ≡ map f (keep q xs) → map h (if c then g 0 ∷ rest else rest) ≡ map f (if c then x ∷ keep q xs else keep q xs)
    go true e = ap₂ {A = B} {B = List B} {C = List B} (λ y ys. y ∷ ys) (is 0 (omega arith)) e
    go false e = e

module _ (weight : ℕ) (notes : List ℕ) (start : ℕ) (state : List ℕ) (f : Forest) (shows : forest state ≡ f) where
  long : length f.nodes ≡ slots_of state
  long = ap (λ (g : Forest). length g.nodes) (sym shows) ∙ forest_length state

  -- what is picked of a state's slots is what passes of its ids
  pub picked_ids : (q : FullNodeId → Bool) → ((i : ℕ) → i < slots_of state → taken weight notes start i ≡ q (id_at f i))
      → picked weight notes start state ≡ keep q (ids_of f.nodes)
  unfolding slots_with ids_of
  picked_ids q says =
      rw long
      at (picked_from no_state (λ n. q n.id) (λ n. n.id) f.nodes (taken weight notes start) (id_in state) (λ i. i) (λ i h. says i (omega (arith, long)))
      (λ i h. sym (forest_id state i (omega (arith, long))) ∙ ap (λ (g : Forest). id_at g i) shows))
      ∙ map_keep (λ n. n.id) q f.nodes

-- a node is picked where the word of its slot has the bit
module _ (weight : ℕ) (notes : List ℕ) (start : ℕ) (state : List ℕ) (up : ascending (forest state).nodes ≡ true) (x : FullNodeId) {i n : ℕ}
    (at : i ≡ slot_at (forest state) x) (count : n ≡ slots_of state) where
  picked_has : has same_id (picked weight notes start state) x ≡ (ltb i n and taken weight notes start i)
  picked_has =
      let s = forest state in
      let q : FullNodeId → Bool = λ y. taken weight notes start (slot_at s y) in
      ap (λ l. has same_id l x)
      (picked_ids weight notes start state s refl q (λ i h. ap (taken weight notes start) (sym (slot_self s up i (omega (arith, forest_length state))))))
      ∙ has_keep same_id same_id→≡ q (ids_of s.nodes) x
      ∙ rw (at, count) (ap (λ (t : Bool). t and q x) (sym (present_has s.nodes x) ∙ slot_present s x ∙ ap (ltb (slot_at s x)) (forest_length state)))

  pub picked_absent : n ≤ i → false ≡ has same_id (picked weight notes start state) x
  unfolding ◌and◌
  picked_absent l = sym (picked_has ∙ rw (le-ltb i n l))

  pub picked_there : {v : Bool} → i < n → v ≡ taken weight notes start i → v ≡ has same_id (picked weight notes start state) x
  unfolding ◌and◌
  picked_there l e = e ∙ sym (picked_has ∙ rw (lt-ltb i n l))

-- ## The words of ids

-- two stores after a part
two_stored : (p d : List ℕ) (to x y : ℕ) → length p ≡ to → to + 2 ≤ length d
    → set (set (p ++ drop to d) to x) (to + 1) y ≡ p ++ x ∷ y ∷ drop (to + 2) d
two_stored p d to x y e h =
    let rest = drop (suc (suc to)) d in
    let long : length (p ++ x ∷ []) ≡ to + 1 = length-append p (x ∷ []) ∙ ap (λ (k : ℕ). k + 1) e in
    let past : suc (suc to) ≡ to + 2 = omega arith in
    let next : suc to < length d = omega arith in
    let here : to < length d = omega arith in
    ap (λ (l : List ℕ). set (set (p ++ l) to x) (to + 1) y) (drop-cons d to 0 here ∙ ap (λ (l : List ℕ). get_or d to 0 ∷ l) (drop-cons d (suc to) 0 next))
    ∙ ap (λ (l : List ℕ). set l (to + 1) y) (set_at p (get_or d to 0) (get_or d (suc to) 0 ∷ rest) x to e ∙ sym (append_assoc p (x ∷ []) (get_or d (suc to) 0 ∷ rest)))
    ∙ set_at (p ++ x ∷ []) (get_or d (suc to) 0) rest y (to + 1) long
    ∙ append_assoc p (x ∷ []) (y ∷ rest)
    ∙ ap (λ (k : ℕ). p ++ x ∷ y ∷ drop k d) past

-- ## Ids one by one

-- no id
list_none : (before : List ℕ) (at : ℕ) → ListWritten [] at before before at
unfolding id_words
list_none before at =
    let same : at + 0 ≡ at = omega arith in
    record {
      same_length = refl;
      slice_is = sym (ap₂ (λ (l : List ℕ) (k : ℕ). l ++ drop k before) (append-nil (take at before)) same ∙ take-append-drop at before);
      end_is = omega arith;
    }

-- one id more
list_one : (before : List ℕ) (at : ℕ) (xs : List FullNodeId) (x : FullNodeId) (changes : List ℕ) (to : ℕ) → ListWritten xs at before changes to
    → to + 2 ≤ length before → ListWritten (xs ++ x ∷ []) at before (set (set changes to x.tree.0) (to + 1) x.node.0) (to + 2)
unfolding id_words
list_one before at xs x changes to done room =
    let more = length-append xs (x ∷ []) in
    let placed : to ≡ at + 2 * length xs = done.end_is in
    let front : at ≤ length before = omega arith in
    let long : length (take at before ++ id_words xs) ≡ to =
    length-append (take at before) (id_words xs) ∙ ap₂ (λ (j k : ℕ). j + k) (length-take-le at before front) (id_words_length xs) ∙ sym placed
    in
    let after : to + 2 ≡ at + 2 * length (xs ++ x ∷ []) = omega arith in
    record {
      same_length = simp length-set done.same_length;
      slice_is =
          ap (λ (l : List ℕ). set (set l to x.tree.0) (to + 1) x.node.0) (done.slice_is ∙ ap (λ (k : ℕ). take at before ++ id_words xs ++ drop k before) (sym placed))
          ∙ two_stored (take at before ++ id_words xs) before to x.tree.0 x.node.0 long room
          ∙ sym (append_assoc (take at before ++ id_words xs) (id_words (x ∷ [])) (drop (to + 2) before))
          ∙ ap₂ (λ (l : List ℕ) (k : ℕ). l ++ drop k before)
          (append_assoc (take at before) (id_words xs) (id_words (x ∷ [])) ∙ ap (λ (l : List ℕ). take at before ++ l) (sym (id_words_append xs (x ∷ [])))) after;
      end_is = after;
    }

module _ (weight : ℕ) (notes : List ℕ) (start : ℕ) (state before : List ℕ) (at : ℕ) where
  -- the ids of the first i slots that are picked are written
  abbrev pub ListBelow : ℕ → List ℕ → ℕ → Type 0
  ListBelow i changes to = ListWritten (ids_at state (slots_with weight notes start i)) at before changes to

  pub list_empty : ListBelow 0 before at
  list_empty = rw slots_none (list_none before at)

  module _ (i : ℕ) (changes : List ℕ) (to : ℕ) (h : ListBelow i changes to) {v : Bool} (bit_is : v ≡ taken weight notes start i) where
    -- after a slot that is not picked
    pub list_miss : v ≡ false → ListBelow (i + 1) changes to
    list_miss e = rw (slots_miss weight notes start i (sym bit_is ∙ e)) h

    module _ (e : v ≡ true) (room : Room weight notes start state at before) {n : ℕ} (count : n ≡ slots_of state) (l : i < n) where
      -- one that is picked has room, where all have
      pub list_room : to + 2 ≤ length before
      list_room =
          omega (
            arith,
            count_within weight notes start i (slots_of state) (omega arith) (sym bit_is ∙ e),
            h.end_is,
            room.fits,
            length-map (slots_with weight notes start i) (id_in state),
            length-map (slots_with weight notes start (slots_of state)) (id_in state),
          )

      pub list_hit : {x : FullNodeId} → x ≡ id_in state i → ListBelow (i + 1) (set (set changes to x.tree.0) (to + 1) x.node.0) (to + 2)
      list_hit id =
          rw (id, slots_hit weight notes start i (sym bit_is ∙ e), map-append (id_in state) (slots_with weight notes start i) (i ∷ []))
          (list_one before at (ids_at state (slots_with weight notes start i)) (id_in state i) changes to h list_room)

-- as many ids as slots
pub picked_count : (weight : ℕ) (notes : List ℕ) (start : ℕ) (state : List ℕ) (n r : ℕ) → Counted weight notes start n r → n ≡ slots_of state
    → r ≡ length (picked weight notes start state)
picked_count weight notes start state n r k e =
    k.count_is ∙ ap (λ m. length (slots_with weight notes start m)) e ∙ sym (length-map (slots_with weight notes start (slots_of state)) (id_in state))

-- ## Lists one after another

-- a list after one that starts the slice
list_then : (xs ys : List FullNodeId) (before middle after : List ℕ) (to r : ℕ) → ListWritten xs 0 before middle to → ListWritten ys to middle after r
    → ListWritten (xs ++ ys) 0 before after r
list_then xs ys before middle after to r first next =
    let k = 2 * length ys in
    let rest = drop (0 + 2 * length xs) before in
    let long : length (id_words xs) ≡ to = omega (arith, id_words_length xs, first.end_is) in
    let both : 0 + 2 * length (xs ++ ys) ≡ to + k = omega (arith, length-append xs ys, first.end_is) in
    let front : take to middle ≡ id_words xs = ap (take to) first.slice_is ∙ take_at (id_words xs) rest to long in
    let back : drop (to + k) middle ≡ drop (to + k) before =
    ap₂ (λ (n : ℕ) (l : List ℕ). drop (n + k) l) (sym long) first.slice_is
    ∙ drop-append-add (id_words xs) rest k
    ∙ drop-drop k (0 + 2 * length xs) before
    ∙ ap (λ (n : ℕ). drop (n + k) before) (sym first.end_is) in
    record {
      same_length = next.same_length ∙ first.same_length;
      slice_is =
          next.slice_is
          ∙ ap₂ (λ (l m : List ℕ). l ++ id_words ys ++ m) front back
          ∙ ap₂ (λ (l : List ℕ) (n : ℕ). l ++ drop n before) (sym (id_words_append xs ys)) (sym both);
      end_is = next.end_is ∙ sym both;
    }

-- the words of the four lists
pub lists_length : (c : Changes) → length (change_words c) ≡ 2 * (length c.added + length c.updated + length c.removed + length c.relinked)
unfolding change_words
lists_length c =
    let two = c.added ++ c.updated in
    let three = two ++ c.removed in
    omega (arith, id_words_length (three ++ c.relinked), length-append three c.relinked, length-append two c.removed, length-append c.added c.updated)

-- the four lists from the start of a slice are what it is lent for
list_slice_after : (c : Changes) (slice after : List ℕ) (r : ℕ) → ListWritten (c.added ++ c.updated ++ c.removed ++ c.relinked) 0 slice after r → after ≡ slice_after slice c
unfolding slice_after change_words
list_slice_after c slice after r h =
    let all = c.added ++ c.updated ++ c.removed ++ c.relinked in
    let long : 0 + 2 * length all ≡ length (id_words all) = omega (arith, id_words_length all) in
    h.slice_is ∙ ap (λ (n : ℕ). id_words all ++ drop n slice) long

-- without room the slice stays as it is
pub lists_short : (c : Changes) (slice : List ℕ) {p q r s n : ℕ} → p ≡ length c.added → q ≡ length c.updated → r ≡ length c.removed → s ≡ length c.relinked
    → n ≡ 2 * (p + q + r + s) → length slice < n → ListsWritten c slice slice (Err (record { words = n }))
unfolding ListsWritten
lists_short c slice i j k l e h = record { words_are = omega (arith, lists_length c); short = omega (arith, lists_length c); slice_is = refl }

module _ (c : Changes) (slice : List ℕ) (l : Lists) (added_is : l.added ≡ length c.added) (updated_is : l.updated ≡ length c.updated)
    (removed_is : l.removed ≡ length c.removed) (relinked_is : l.relinked ≡ length c.relinked)
    {n : ℕ} (words : n ≡ 2 * (l.added + l.updated + l.removed + l.relinked)) where
  -- with room each list is written after the one before
  pub lists_slice_after : n ≤ length slice → (x y z w : List ℕ) (i j k m : ℕ) → ListWritten c.added 0 slice x i → ListWritten c.updated i x y j
      → ListWritten c.removed j y z k → ListWritten c.relinked k z w m → ListsWritten c slice w (Ok l)
  unfolding ListsWritten
  lists_slice_after e x y z w i j k m wx wy wz ww =
      let two = list_then c.added c.updated slice x y i j wx wy in
      let three = list_then (c.added ++ c.updated) c.removed slice y z j k two wz in
      let four = list_then (c.added ++ c.updated ++ c.removed) c.relinked slice z w k m three ww in
      record {
        added_is = added_is;
        updated_is = updated_is;
        removed_is = removed_is;
        relinked_is = relinked_is;
        room = omega (arith, lists_length c);
        slice_is = list_slice_after c slice w m four;
      }
