-- Laws of the codes that are planned: one old node more, one listed node more; their ids. Assumes nothing.
use mathlib.Core.Bool.{Bool, true, false, true≢false}
use mathlib.Core.List.{List}
use mathlib.Core.Logic.{inl, inr, ◌⊎◌}
use mathlib.Core.Path.{◌≡◌, refl, sym, ◌∙◌, ap}
use Prim.Native.Nat.{ℕ, ◌+◌, ◌≤◌, ◌<◌}
use native.Mathlib.Omega.{arith}
use lib.Dec.{ltb}
use lib.ListN.{length, get_or, set}
use borrow.Author.Tests.{lt-ltb, le-ltb}
use Rattle.ids.specs.declared.FullNodeId.{FullNodeId}
use Rattle.record.specs.Batch.{Batch, listed_ids}
use Rattle.record_reader.specs.Reader.{listed_at}
use Rattle.state.specs.State.{Forest, present}
use Rattle.state_array.specs.View.{slots_of}
use Rattle.update.specs.Words.{here, old, turn}
use Rattle.update.specs.Gone.{gone}
use Rattle.calls.specs.Layout.{LISTED_SLOTS, FATES, CODES}
use Rattle.calls.specs.declared.notes.Scope.{Scope}
use Rattle.calls.specs.Setting.{asked, forest, KeptForest, Given}
use Rattle.calls.specs.Codes.{id_at, slot_at, flag, code_id}
use Rattle.calls.specs.Says.{goes_word, listed_slot, Told, COMPARED}
use Rattle.calls.proofs.notes.Places.{slot_old, present_at}
use Rattle.update_focus.proofs.Numbers.{forest_length}
use Rattle.calls.proofs.notes.Told.{told_set, told_below}
use Rattle.calls.proofs.notes.Noted.{code_noted_lem, code_room}
use Rattle.calls.specs.Noted.{code_noted}
use Rattle.calls.specs.Plan.{Codes, Among, PlaceIn, Inserted, Planned, code_in, New, PlaceOf, Valid}
use native.Mathlib.Nat.{eq-or-lt_of_le, le_of_suc-le-suc}
use native.Mathlib.Numerals.{add-one}
use Rattle.base.specs.Tests.{distinct}
use Rattle.ids.specs.Ids.{same_node, same_id, before}
use Rattle.ids.proofs.Ids.{same_id→≡, before_total}
use Rattle.calls.proofs.notes.Marks.{turn_self}
use Rattle.calls.proofs.Outcome.Codes.{code_old, code_listed}
use Rattle.calls.proofs.plan.Codes.{codes_alike, codes_insert, insert_end}
use Rattle.calls.proofs.plan.Outcome.{ascending_pair}

-- a number below one more is below, or is the last
last_or_below : (k i : ℕ) → k < i + 1 → (k ≡ i) ⊎ (k < i)
last_or_below k i l = eq-or-lt_of_le (le_of_suc-le-suc (rw add-one at l))

-- a state that a phase is given has few nodes
pub few_slots : (state bytes : List ℕ) (c : Scope) → Given state bytes c → slots_of state ≤ 256
few_slots state bytes c g = omega (arith, g.kept.few_nodes, forest_length state)

module _ (s : Forest) (b : Batch) (kept : KeptForest s) where
  abbrev id : ℕ → FullNodeId
  id code = code_id s b code

  -- an old node's id
  slot_code : (code : ℕ) → code < length s.nodes → code_id s b code ≡ id_at s code
  slot_code code l = code_old s b code (omega (arith, kept.few_nodes))

  -- ## Old nodes

  module _ (i count : ℕ) (notes : List ℕ) (h : Codes id (Among s b i 0) count notes) where
    -- what was there is there
    more : (code : ℕ) → Among s b i 0 code → Among s b (i + 1) 0 code
    more code (inl p) = inl (omega (arith, p.0), p.1)
    more code (inr p) = inr p

    -- the next slot's node stays
    pub keep_more : i < length s.nodes → CODES + count < length notes → gone s b (id_at s i) ≡ false
        → Codes id (Among s b (i + 1) 0) (count + 1) (set notes (CODES + count) i)
    keep_more l room e =
        rw (add-one count)
        (codes_insert id (Among s b i 0) (Among s b (i + 1) 0) count count i notes (set notes (CODES + count) i) (omega arith) (insert_end notes count i room) h
        (λ k m. earlier (code_in notes k) (h.are k m))
        (λ k m n. absurd (omega arith))
        more
        (inl (omega arith, e))
        only)
      where
        earlier : (code : ℕ) → Among s b i 0 code → before (id code) (id i) ≡ true
        earlier code (inl p) = rw (slot_code code (omega (arith, p.0)), slot_code i l) (ascending_pair s kept.ascending code i p.0 l)
        earlier code (inr p) = absurd (omega (arith, p.1))

        on : (code : ℕ) → gone s b (id_at s code) ≡ false → (code ≡ i) ⊎ (code < i) → (Among s b i 0 code) ⊎ (code ≡ i)
        on code g (inl q) = inr q
        on code g (inr m) = inl (inl (m, g))

        only : (code : ℕ) → Among s b (i + 1) 0 code → (Among s b i 0 code) ⊎ (code ≡ i)
        only code (inl p) = on code p.1 (last_or_below code i p.0)
        only code (inr p) = inl (inr p)

    -- the next slot's node goes
    pub keep_less : gone s b (id_at s i) ≡ true → Codes id (Among s b (i + 1) 0) count notes
    keep_less e = codes_alike id (Among s b i 0) (Among s b (i + 1) 0) count notes more only h
      where
        on : (code : ℕ) → gone s b (id_at s code) ≡ false → (code ≡ i) ⊎ (code < i) → Among s b i 0 code
        on code g (inl q) = absurd (true≢false (sym e ∙ ap (λ (k : ℕ). gone s b (id_at s k)) (sym q) ∙ g))
        on code g (inr m) = inl (m, g)

        only : (code : ℕ) → Among s b (i + 1) 0 code → Among s b i 0 code
        only code (inl p) = on code p.1 (last_or_below code i p.0)
        only code (inr p) = inr p

  -- ## Listed nodes

  module _ (j count : ℕ) (notes : List ℕ) (h : Codes id (Among s b (length s.nodes) j) count notes) where
    -- what was there is there
    still : (code : ℕ) → Among s b (length s.nodes) j code → Among s b (length s.nodes) (j + 1) code
    still code (inl p) = inl p
    still code (inr p) = inr (p.0, omega (arith, p.1), p.2, p.3)

    -- the next listed node is old
    pub add_same : old s b (here s b (listed_at b j).id) ≡ true → Codes id (Among s b (length s.nodes) (j + 1)) count notes
    add_same e = codes_alike id (Among s b (length s.nodes) j) (Among s b (length s.nodes) (j + 1)) count notes still only h
      where
        on : (code : ℕ) (p : New s b (j + 1) code) → (p.0 ≡ j) ⊎ (p.0 < j) → Among s b (length s.nodes) j code
        on code p (inl q) = absurd (true≢false (sym e ∙ ap (λ (k : ℕ). old s b (here s b (listed_at b k).id)) (sym q) ∙ p.3))
        on code p (inr m) = inr (p.0, m, p.2, p.3)

        only : (code : ℕ) → Among s b (length s.nodes) (j + 1) code → Among s b (length s.nodes) j code
        only code (inl p) = inl p
        only code (inr p) = on code p (last_or_below p.0 j p.1)

    -- the next listed node is new, and its code is put at its place
    pub add_more : distinct same_node (listed_ids b.nodes) ≡ true → j < length b.nodes → old s b (here s b (listed_at b j).id) ≡ false
        → (at : ℕ) (col : List ℕ) → PlaceOf (λ k. id (code_in notes k)) count (id (320 + j)) at → Inserted notes count at (320 + j) col
        → Codes id (Among s b (length s.nodes) (j + 1)) (count + 1) col
    unfolding old
    add_more u l new at col place put =
        rw (add-one count)
        (codes_insert id (Among s b (length s.nodes) j) (Among s b (length s.nodes) (j + 1)) count at (320 + j) notes col place.within put h
        place.under
        (λ k m q. before_total (id (code_in notes k)) (id (320 + j)) (apart (code_in notes k) (h.are k q) (same_id (id (code_in notes k)) (id (320 + j))) refl) (place.over k m q))
        still
        (inr (j, omega arith, refl, new))
        only)
      where
        other : (code : ℕ) → Among s b (length s.nodes) j code → id code ≡ here s b (listed_at b j).id → ⊥
        other code (inl p) e =
            true≢false (sym (present_at s code p.0) ∙ ap (present s.nodes) (sym (slot_code code p.0) ∙ e) ∙ new)
        other code (inr p) e =
            let m : p.0 < length b.nodes = omega (arith, p.1) in
            let same : here s b (listed_at b p.0).id ≡ here s b (listed_at b j).id = sym (code_listed s b p.0) ∙ ap id (sym p.2) ∙ e in
            let q : p.0 ≡ j = sym (turn_self s b u p.0 m) ∙ ap (turn s b) same ∙ turn_self s b u j l in
            absurd (omega (arith, p.1))

        apart : (code : ℕ) → Among s b (length s.nodes) j code → (t : Bool) → same_id (id code) (id (320 + j)) ≡ t → t ≡ false
        apart code p false e = refl
        apart code p true e = absurd (other code p (same_id→≡ (id code) (id (320 + j)) e ∙ code_listed s b j))

        on : (code : ℕ) (p : New s b (j + 1) code) → (p.0 ≡ j) ⊎ (p.0 < j) → (Among s b (length s.nodes) j code) ⊎ (code ≡ 320 + j)
        on code p (inl q) = inr (p.2 ∙ ap (λ (k : ℕ). 320 + k) q)
        on code p (inr m) = inl (inr (p.0, m, p.2, p.3))

        only : (code : ℕ) → Among s b (length s.nodes) (j + 1) code → (Among s b (length s.nodes) j code) ⊎ (code ≡ 320 + j)
        only code (inl p) = inl (inl p)
        only code (inr p) = on code p (last_or_below p.0 j p.1)

-- at first no code is planned
pub plan_none : (state bytes : List ℕ) (c : Scope) (notes : List ℕ) → Told COMPARED state bytes c notes → Planned 0 0 state bytes c notes 0
plan_none state bytes c notes told = record {
  told = told;
  few = omega arith;
  codes = record { up = λ i j h l. absurd (omega arith); are = λ r l. absurd (omega arith); whole = none };
}
  where
    none : (code : ℕ) → Among (forest state) (asked bytes c) 0 0 code → (r : ℕ) × (r < 0) × (get_or notes (CODES + r) 0 ≡ code)
    none code (inl p) = absurd (omega (arith, p.0))
    none code (inr p) = absurd (omega (arith, p.1))

-- at last all are
pub plan_end : {i j m k : ℕ} {state bytes : List ℕ} {c : Scope} {notes : List ℕ} {count : ℕ} → Planned i j state bytes c notes count → i ≡ m → j ≡ k
    → Planned m k state bytes c notes count
plan_end h p q = rw (p, q) at h

-- a flag that is set, and one that is not
pub flag_true : (t : Bool) → flag t ≡ 1 → t ≡ true
flag_true true e = refl
flag_true false e = absurd (omega arith)

pub flag_false : (t : Bool) → (flag t ≡ 1 → ⊥) → t ≡ false
flag_false true e = absurd (e refl)
flag_false false e = refl

-- ## Old nodes

module _ {state bytes : List ℕ} {c : Scope} {notes : List ℕ} {i count : ℕ} (h : Planned i 0 state bytes c notes count) (l : i < slots_of state) where
  goes_at : get_or notes (FATES + i) 0 ≡ flag (gone (forest state) (asked bytes c) (id_at (forest state) i))
  unfolding goes_word
  goes_at = h.told.written 9 (omega arith) i l

  -- the node in slot i goes
  pub plan_goes : get_or notes (FATES + i) 0 ≡ 1 → Planned (i + 1) 0 state bytes c notes count
  plan_goes e = record {
    told = h.told;
    few = omega (arith, h.few);
    codes = keep_less (forest state) (asked bytes c) h.told.given.kept i count notes h.codes (flag_true _ (sym goes_at ∙ e));
  }

  -- it stays
  pub plan_stays : (get_or notes (FATES + i) 0 ≡ 1 → ⊥) → Planned (i + 1) 0 state bytes c (set notes (CODES + count) i) (count + 1)
  plan_stays e = record {
    told = told_set state bytes c notes COMPARED h.told (CODES + count) i (omega arith);
    few = omega (arith, h.few);
    codes =
        keep_more (forest state) (asked bytes c) h.told.given.kept i count notes h.codes (omega (arith, forest_length state)) (omega (arith, h.few, h.told.long))
        (flag_false _ (λ q. e (goes_at ∙ q)));
  }

-- ## Listed nodes

module _ {state bytes : List ℕ} {c : Scope} {notes : List ℕ} {j count : ℕ} (h : Planned (slots_of state) j state bytes c notes count) (l : j < c.listed) {n : ℕ} (size : n ≡ slots_of state) where
  abbrev s : Forest
  s = forest state

  abbrev b : Batch
  b = asked bytes c

  abbrev x : FullNodeId
  x = here (forest state) (asked bytes c) (listed_at (asked bytes c) j).id

  slot_at_lem : get_or notes (LISTED_SLOTS + j) 0 ≡ slot_at s x
  unfolding listed_slot
  slot_at_lem = h.told.written 3 (omega arith) j l

  old_at : old s b x ≡ ltb (get_or notes (LISTED_SLOTS + j) 0) n
  old_at = slot_old s x b ∙ rw (slot_at_lem, forest_length state, size)

  codes : Codes (code_id s b) (Among s b (length s.nodes) j) count notes
  codes = rw (forest_length state) h.codes

  -- listed node j is old
  pub plan_old : get_or notes (LISTED_SLOTS + j) 0 < n → Planned (slots_of state) (j + 1) state bytes c notes count
  plan_old e = record {
    told = h.told;
    few = omega (arith, h.few);
    codes = rw (← forest_length state) (add_same s b h.told.given.kept j count notes codes (old_at ∙ lt-ltb _ _ e));
  }

  -- it is new
  pub plan_new : {at : ℕ} {col : List ℕ} → n ≤ get_or notes (LISTED_SLOTS + j) 0 → PlaceIn state bytes c notes j count at
      → Inserted notes count at (320 + j) col → Planned (slots_of state) (j + 1) state bytes c col (count + 1)
  plan_new {at} {col} e place put = record {
    told = told_below state bytes c notes COMPARED h.told col (record { long = put.kept.long; kept = λ k m. put.kept.kept k (omega arith) });
    few = omega (arith, h.few);
    codes =
        rw (← forest_length state)
        (add_more s b h.told.given.kept j count notes codes h.told.given.once (omega (arith, h.told.given.scoped.listed)) (old_at ∙ le-ltb _ _ e) at col place put);
  }

module _ (state bytes : List ℕ) (c : Scope) (j : ℕ) (l : j < c.listed) where
  -- the codes that are planned before listed node j are valid
  among_valid : (code : ℕ) → Among (forest state) (asked bytes c) (slots_of state) j code → Valid state c code
  among_valid code (inl p) = (λ m. p.0, λ m. absurd (omega (arith, p.0)))
  among_valid code (inr p) = (λ m. absurd (omega (arith, p.2)), λ m. omega (arith, p.1, p.2))

module _ {state bytes : List ℕ} {c : Scope} {notes : List ℕ} {j count : ℕ} (h : Planned (slots_of state) j state bytes c notes count) (l : j < c.listed) where
  -- the id of listed node j by its code
  pub new_noted : {y : FullNodeId} → y ≡ code_noted state c notes (320 + j) → y ≡ code_id (forest state) (asked bytes c) (320 + j)
  new_noted e = e ∙ code_noted_lem (omega arith) h.told (λ m. absurd (omega arith), λ m. omega arith)

  -- the codes that are planned, and their ids
  module _ {r : ℕ} (m : r < count) where
    valid : Valid state c (code_in notes r)
    valid = among_valid state bytes c j l (code_in notes r) (h.codes.are r m)

    pub planned_room : code_in notes r < 384
    planned_room = code_room (omega arith) h.told valid

    pub planned_noted : {y : FullNodeId} → y ≡ code_noted state c notes (code_in notes r) → y ≡ code_id (forest state) (asked bytes c) (code_in notes r)
    planned_noted e = e ∙ code_noted_lem (omega arith) h.told valid
