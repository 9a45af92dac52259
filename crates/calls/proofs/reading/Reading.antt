-- Laws of what a batch says: words, slots, claims, and the marks of the slots. Assumes nothing.
use mathlib.Core.Bool.{Bool, true, false, not}
use mathlib.Core.List.{List, [], ◌∷◌, append-nil}
use mathlib.Core.Path.{◌≡◌, sym, ap, ap₂, ◌∙◌, refl}
use Prim.Native.Nat.{ℕ, ◌+◌, ◌≤◌, ◌<◌, zero, suc}
use native.Mathlib.Numerals.{add-one}
use native.Mathlib.Omega.{arith}
use Rattle.base.specs.Regions.{fill}
use Rattle.base.proofs.Regions.{fill_length}
use Rattle.calls.proofs.notes.Columns.{holds_fill, below_none, below_set}
use lib.Dec.{ltb, eqb}
use lib.ListN.{length, get_or, take, length-append, replicate, set}
use lib.Seq.{take-suc, paste, get_or-set_same, get_or-set_other}
use Rattle.std.proofs.lemmas.List.Edits.{paste_none, fill_from_more}
use Rattle.std.specs.Prelude.{if◌then◌else◌, Option, None}
use Rattle.base.specs.Tests.{◌and◌, is_some, same_option, position}
use Rattle.base.specs.Bytes.{list_of}
use Rattle.base.proofs.Tests.{and_false, and_right}
use Rattle.base.proofs.Bytes.{length_list_of, list_of_at}
use Rattle.ids.specs.Ids.{same_tree}
use Rattle.ids.specs.declared.TreeId.{TreeId}
use Rattle.ids.specs.declared.TreeIndex.{TreeIndex}
use Rattle.ids.specs.declared.NodeId.{NodeId}
use Rattle.record.specs.Batch.{graft?, Listed, listed_ids, named_ids}
use Rattle.record.proofs.Batch.{listed_length, listed_at_lem, named_append}
use Rattle.record.specs.Parse.{batch_of}
use Rattle.record_reader.specs.Reader.{no_node, no_listed, listed_at, field_at, entries_of}
use Rattle.record_reader.proofs.Reader.{entries_are, first_child_is}
use Rattle.state.specs.State.{graft_at}
use Rattle.state_array.specs.View.{slots_of}
use Rattle.update.specs.Words.{here, claim}
use Rattle.calls.specs.Layout.{LISTED, NAMED, LISTED_SLOTS, NAMED_SLOTS, TURNS, NAMINGS}
use Rattle.calls.specs.Columns.{Holds, Below}
use Rattle.calls.specs.declared.notes.Scope.{Scope}
use Rattle.calls.specs.Setting.{asked, forest, Given}
use Rattle.calls.specs.Codes.{id_at, slot_at, flag}
use Rattle.calls.specs.Says.{turn_mark, naming_mark, listed_word, named_word, end_word, listed_slot, named_slot, turn_word, naming_word, claim_word, Told}
use Rattle.update_focus.proofs.Numbers.{forest_length}
use Rattle.calls.proofs.notes.Marks.{turn_mark_lem, naming_mark_lem}
use Rattle.calls.proofs.notes.Grafts.{graft_slot}
use Rattle.calls.proofs.notes.Setting.{batched_at}
use Rattle.calls.proofs.notes.Told.{batched, told_below, told_more}
use Rattle.calls.specs.Reading.{slot_word, MarkRoom, Marked, claim_of, MarkOf, MarksTo}
use native.Mathlib.Decide.{dec_lt, ℕ_discrete}
use borrow.Author.Tests.{lt-ltb, le-ltb, eqb-true, eqb-false}
use Rattle.base.specs.Search.{First}
use Rattle.calls.proofs.notes.Positions.{first_cong, position_first}

-- ## One more place

module _ (slot : ℕ → ℕ) (j i v : ℕ) (before : MarkOf slot j i v) where
  -- the first place is among those passed
  earlier : (r : ℕ) → First (λ k. eqb (slot k) i) (j + 1) r → r < j → v ≡ suc r
  earlier r f h =
      rw (lt-ltb r j h) at (before r (record { within = omega arith; passed = f.passed; hit = λ l. f.hit (omega arith) }))

  -- or there is none
  nowhere : (r : ℕ) → First (λ k. eqb (slot k) i) (j + 1) r → j ≤ r → v ≡ 0
  nowhere r f h =
      rw (le-ltb j j (omega arith)) at (before j (record { within = omega arith; passed = λ k l. f.passed k (omega arith); hit = λ l. absurd (omega arith) }))

  -- a place with another slot
  mark_other : (slot j ≡ i → ⊥) → MarkOf slot (j + 1) i v
  mark_other other r f = go (dec_lt r j)
    where
      past : j ≤ r → j < r
      past l = go' (dec_lt j r)
        where
          go' : Dec (j < r) → j < r
          go' (yes m) = m
          go' (no m) = let e : r ≡ j = omega arith in absurd (other (eqb-true (slot j) i (rw e at (f.hit (omega arith)))))

      go : Dec (r < j) → v ≡ (if ltb r (j + 1) then suc r else 0)
      go (yes h) = rw (lt-ltb r (j + 1) (omega arith)) (earlier r f h)
      go (no h) = let m : j < r = past (omega arith) in rw (le-ltb r (j + 1) (omega arith)) (nowhere r f (omega arith))

  -- a slot that is marked keeps its mark
  mark_kept : 1 ≤ v → MarkOf slot (j + 1) i v
  mark_kept there r f = go (dec_lt r j)
    where
      go : Dec (r < j) → v ≡ (if ltb r (j + 1) then suc r else 0)
      go (yes h) = rw (lt-ltb r (j + 1) (omega arith)) (earlier r f h)
      go (no h) = absurd (omega (arith, nowhere r f (omega arith)))

  -- a slot that is not is marked now
  mark_new : slot j ≡ i → v < 1 → MarkOf slot (j + 1) i (j + 1)
  mark_new e low r f = go (dec_lt r j) (dec_lt j r)
    where
      go : Dec (r < j) → Dec (j < r) → j + 1 ≡ (if ltb r (j + 1) then suc r else 0)
      go (yes h) m = absurd (omega (arith, earlier r f h))
      go (no h) (yes m) = absurd (eqb-false (slot j) i (f.passed j m) e)
      go (no h) (no m) = rw (lt-ltb r (j + 1) (omega arith)) (omega arith)

-- ## The column

module _ (slot : ℕ → ℕ) (j to n : ℕ) (notes : List ℕ) (before : MarksTo slot j to n notes) where
  -- no slot of the column stands at place j
  marks_past : n ≤ slot j → MarksTo slot (j + 1) to n notes
  marks_past out i h = mark_other slot j i (get_or notes (to + i) 0) (before i h) (λ e. omega arith)

  -- the slot that stands there is marked already
  marks_kept : 1 ≤ get_or notes (to + slot j) 0 → MarksTo slot (j + 1) to n notes
  marks_kept there i h = go (ℕ_discrete (slot j) i)
    where
      go : Dec (slot j ≡ i) → MarkOf slot (j + 1) i (get_or notes (to + i) 0)
      go (yes e) = mark_kept slot j i (get_or notes (to + i) 0) (before i h) (rw (← e) there)
      go (no e) = mark_other slot j i (get_or notes (to + i) 0) (before i h) e

  -- it is not, and its mark is stored
  marks_stored : to + slot j < length notes → get_or notes (to + slot j) 0 < 1 → MarksTo slot (j + 1) to n (set notes (to + slot j) (j + 1))
  marks_stored within low i h = go (ℕ_discrete (slot j) i)
    where
      go : Dec (slot j ≡ i) → MarkOf slot (j + 1) i (get_or (set notes (to + slot j) (j + 1)) (to + i) 0)
      go (yes e) =
          rw (← e, get_or-set_same notes (to + slot j) (j + 1) 0 within)
          (mark_new slot j (slot j) (get_or notes (to + slot j) 0) (rw e (before i h)) refl low)
      go (no e) =
          rw (get_or-set_other notes (to + slot j) (to + i) (j + 1) 0 (λ q. e (omega arith))) (mark_other slot j i (get_or notes (to + i) 0) (before i h) e)

-- no place passed, and no mark
marks_none : (slot : ℕ → ℕ) (to n : ℕ) (notes : List ℕ) → Holds notes to n (λ i. 0) → MarksTo slot 0 to n notes
marks_none slot to n notes zeros i h r f = rw (le-ltb r 0 (omega arith)) (zeros i h)

-- ## The loop

-- the marks of the first j slots from `from` on, and nothing before `to` is other
pub record Marking (from to n : ℕ) (before : List ℕ) (j : ℕ) (after : List ℕ) : Type 0 where
  pub below : Below to before after
  pub marks : MarksTo (λ k. get_or before (from + k) 0) j to n after

pub marking_begins : {from count to n : ℕ} {notes : List ℕ} → MarkRoom from count to n notes → Marking from to n notes 0 notes
marking_begins {to = to} {n} {notes} room = record { below = below_none to notes; marks = marks_none _ to n notes room.zeros }

module _ {from count to n j : ℕ} {before after : List ℕ} (room : MarkRoom from count to n before) (m : Marking from to n before j after) (l : j < count) where
  same : get_or after (from + j) 0 ≡ get_or before (from + j) 0
  same = m.below.kept (from + j) (omega (arith, room.before))

  -- no slot of the column
  pub marking_past : n ≤ get_or after (from + j) 0 → Marking from to n before (j + 1) after
  marking_past h = record { below = m.below; marks = marks_past _ j to n after m.marks (rw same at h) }

  -- one that is marked already
  pub marking_kept : 1 ≤ get_or after (to + get_or after (from + j) 0) 0 → Marking from to n before (j + 1) after
  marking_kept h = record { below = m.below; marks = marks_kept _ j to n after m.marks (rw same at h) }

  -- one that is marked now
  pub marking_stored : get_or after (from + j) 0 < n → get_or after (to + get_or after (from + j) 0) 0 < 1
      → Marking from to n before (j + 1) (set after (to + get_or after (from + j) 0) (j + 1))
  marking_stored h low = record {
    below = below_set to before after _ _ (omega arith) m.below;
    marks = (rw (← same) at (marks_stored (λ k. get_or before (from + k) 0) j to n after m.marks)) (omega (arith, m.below.long, room.long, room.room)) low;
  }

-- n zeros laid over a list from `to` on fill these places
pub zeros_fill : (to n : ℕ) (s : List ℕ) → to + n ≤ length s → paste s to (replicate n 0) n ≡ fill to n (λ i. 0) s
unfolding fill
zeros_fill to zero s h = sym (paste_none s to [])
zeros_fill to (suc n) s h = sym (rw add-one at (fill_from_more s to n 0 (omega arith))) ∙ ap (λ t. set t (to + n) 0) (zeros_fill to n s (omega arith))

-- a search ends
pub first_found : (p : ℕ → Bool) (n : ℕ) → (r : ℕ) × First p n r
first_found p n =
    let h = position_first {A = Bool} (λ _ t. t) true false (list_of n p) in
    (position {A = Bool} (λ _ t. t) (list_of n p) true, first_cong _ p n _ (λ i l. list_of_at n i p false l) (rw (length_list_of n p) at h))

-- slots that are the same have the same marks
pub mark_is : (slot slot' : ℕ → ℕ) (count i v w : ℕ) → ((j : ℕ) → j < count → slot j ≡ slot' j) → MarkOf slot count i v
    → ((r : ℕ) → First (λ j. eqb (slot' j) i) count r → w ≡ (if ltb r count then suc r else 0)) → v ≡ w
mark_is slot slot' count i v w same mark law =
    let found = first_found (λ j. eqb (slot j) i) count in
    mark found.0 found.1 ∙ sym (law found.0 (first_cong _ _ count found.0 (λ j l. ap (λ k. eqb k i) (same j l)) found.1))

-- ## The record

-- the children that one more node names
named_next : (ls : List Listed) (i : ℕ) (d : Listed) → i < length ls
    → length (named_ids (take (i + 1) ls)) ≡ length (named_ids (take i ls)) + length (get_or ls i d).body.children
unfolding named_ids
named_next ls i d h =
    rw (add-one i, take-suc ls i d h, named_append (take i ls) (get_or ls i d ∷ []), append-nil (get_or ls i d).body.children, length-append)

module _ (state bytes : List ℕ) (c : Scope) (g : Given state bytes c) where
  pub listed_is : (i : ℕ) → (listed_at (batch_of bytes) i).id.0 ≡ listed_word state bytes c i
  unfolding listed_word
  listed_is i = ap (λ (x : Listed). x.id.0) (batched_at bytes (asked bytes c) (batched state bytes c g) i)

  pub named_is : (j : ℕ) → (get_or (entries_of bytes) j no_node).0 ≡ named_word state bytes c j
  unfolding named_word
  named_is j = ap (λ (xs : List NodeId). (get_or xs j no_node).0) (entries_are bytes g.formed ∙ ap named_ids (sym (batched state bytes c g).nodes))

  pub end_is : (i : ℕ) → i < c.listed → field_at 2 bytes i 32 + length (listed_at (batch_of bytes) i).body.children ≡ end_word state bytes c i
  unfolding end_word listed_at
  end_is i h =
      let nodes = (batched state bytes c g).nodes in
      let m : i < length (batch_of bytes).nodes = rw (← nodes) (omega (arith, g.scoped.listed)) in
      rw (first_child_is bytes g.formed i m, nodes) (sym (named_next (batch_of bytes).nodes i no_listed m))

  -- ## Slots

  pub listed_slot_is : (notes : List ℕ) → Holds notes LISTED c.listed (listed_word state bytes c) → (j : ℕ) → j < c.listed
      → slot_word state c.tree notes LISTED j ≡ listed_slot state bytes c j
  unfolding slot_word listed_slot listed_word here
  listed_slot_is notes say j h =
      ap₂ {A = TreeIndex} {B = ℕ} {C = ℕ} (λ t k. slot_at (forest state) (record { tree = t; node = record { 0 = k } })) g.scoped.tree (say j h)

  pub named_slot_is : (notes : List ℕ) → Holds notes NAMED c.named (named_word state bytes c) → (j : ℕ) → j < c.named
      → slot_word state c.tree notes NAMED j ≡ named_slot state bytes c j
  unfolding slot_word named_slot named_word here
  named_slot_is notes say j h =
      ap₂ {A = TreeIndex} {B = ℕ} {C = ℕ} (λ t k. slot_at (forest state) (record { tree = t; node = record { 0 = k } })) g.scoped.tree (say j h)

  -- ## Claims

  -- a graft is claimed where it is not the one before
  claims_some : (new old : Option TreeId) → (is_some new and not (same_option same_tree new old)) ≡ is_some (if same_option same_tree new old then None else new)
  claims_some new old = go (same_option same_tree new old)
    where
      go : (t : Bool) → (is_some new and not t) ≡ is_some (if t then None else new)
      go true = and_false (is_some new)
      go false = and_right (is_some new)

  pub claim_is : (notes : List ℕ) → Holds notes LISTED_SLOTS c.listed (listed_slot state bytes c) → (i : ℕ) → i < c.listed
      → claim_of state bytes notes i ≡ claim_word state bytes c i
  unfolding claim_of claim_word listed_slot claim
  claim_is notes say i h =
      rw (batched_at bytes (asked bytes c) (batched state bytes c g) i, say i h, ← graft_slot state (here (forest state) (asked bytes c) (listed_at (asked bytes c) i).id))
      (ap (λ t. flag t) (claims_some (graft? (listed_at (asked bytes c) i).body) (graft_at (forest state).nodes (here (forest state) (asked bytes c) (listed_at (asked bytes c) i).id))))

-- ## Marks

-- there is room for marks where zeros were stored
pub mark_room : (s : List ℕ) {from count to n : ℕ} → length s ≡ 4096 → from + count ≤ to → to + n ≤ 4096 → n ≤ 320 → MarkRoom from count to n (fill to n (λ i. 0) s)
mark_room s {to = to} {n} long before room few = record {
  before = before;
  room = room;
  few = few;
  long = fill_length to (λ i. 0) n s ∙ long;
  zeros = holds_fill to n (λ i. 0) s (omega arith);
}

module _ (state bytes : List ℕ) (c : Scope) (s t : List ℕ) where
  pub turns_told : Told 5 state bytes c s → Marked LISTED_SLOTS c.listed TURNS (slots_of state) s t → Told 6 state bytes c t
  unfolding listed_slot turn_word listed_at asked
  turns_told told m = told_more state bytes c t 5 (told_below state bytes c s 5 told t m.below) (λ i h.
      let b = asked bytes c in
      let count : c.listed ≡ length (listed_ids b.nodes) = told.given.scoped.listed ∙ sym (listed_length b.nodes) in
      mark_is (λ j. get_or s (LISTED_SLOTS + j) 0) (λ j. slot_at (forest state) (here (forest state) b (get_or (listed_ids b.nodes) j no_node))) c.listed i
      (get_or t (TURNS + i) 0) (turn_mark (forest state) b (id_at (forest state) i))
      (λ j l. told.written 3 (omega arith) j l ∙ ap (λ (x : NodeId). slot_at (forest state) (here (forest state) b x)) (sym (listed_at_lem b.nodes j no_listed)))
      (m.marks i h)
      (rw count (turn_mark_lem (forest state) b told.given.kept.ascending i (omega (arith, forest_length state)))))

  pub namings_told : Told 6 state bytes c s → Marked NAMED_SLOTS c.named NAMINGS (slots_of state) s t → Told 7 state bytes c t
  unfolding named_slot naming_word asked
  namings_told told m = told_more state bytes c t 6 (told_below state bytes c s 6 told t m.below) (λ i h.
      let b = asked bytes c in
      mark_is (λ j. get_or s (NAMED_SLOTS + j) 0) (λ j. slot_at (forest state) (here (forest state) b (get_or (named_ids b.nodes) j no_node))) c.named i
      (get_or t (NAMINGS + i) 0) (naming_mark (forest state) b (id_at (forest state) i))
      (λ j l. told.written 4 (omega arith) j l) (m.marks i h)
      (rw told.given.scoped.named (naming_mark_lem (forest state) b told.given.kept.ascending i (omega (arith, forest_length state)))))
