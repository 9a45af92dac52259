-- What the definition of a call answers, by the numbers of the parts. Assumes nothing.
use mathlib.Core.Bool.{Bool, true, false, not}
use mathlib.Core.List.{List, [], ◌∷◌}
use Rattle.std.specs.Prelude.{Option, None, Some}
use mathlib.Core.Path.{◌≡◌, refl, sym, ap, ◌∙◌}
use Prim.Native.Nat.{ℕ, zero, suc}
use lib.Dec.{ltb}
use lib.ListN.{length}
use Rattle.base.specs.Tests.{is_none, distinct}
use Rattle.base.specs.Tables.{row, found, first}
use Rattle.base.proofs.Tables.{found_counts, found_passes, found_alone}
use Rattle.ids.specs.Ids.{ROOT, same_tree, same_node}
use Rattle.record.specs.Batch.{Batch, listed_ids}
use Rattle.record.specs.Parse.{well_formed, parse, batch_of}
use Rattle.record.proofs.Parse.{parse_well, parse_refused}
use Rattle.state.specs.State.{Forest, State, blank}
use Rattle.state.specs.Sound.{sound}
use Rattle.update.specs.Outcome.{outcome}
use Rattle.update.specs.Reports.{changes_of, change_words}
use Rattle.update.specs.Numbers.{rows_before_pass, batch_number}
use Rattle.update.specs.Calls.{Answer, refused, accepted, judged, batch_rows, update_number, update_batch, update, seed, without_tree_data, start_number, started, start_batch, start}
use Rattle.update.proofs.Calls.{update_is}
use Rattle.calls.specs.Rows.{first_number, start_rows}
use Rattle.calls.specs.Rows.{later_rows}
use Rattle.calls.proofs.rows.Numbers.{batch_first, batch_later, first_passed, seed_before, start_begun, start_before}

-- any number but 0 refuses
judged_refused : (k : ℕ) (s : State) (slice : List ℕ) (a : Answer) → (k ≡ 0 → ⊥) → judged k s slice a ≡ refused k s slice
unfolding judged
judged_refused zero s slice a h = absurd (h refl)
judged_refused (suc k) s slice a h = refl

-- ## A batch

module _ (s : State) (bytes slice : List ℕ) where
  abbrev f : Forest
  f = s.forest

  abbrev b : Batch
  b = batch_of bytes

  -- the state after it
  abbrev pub update_state : State
  update_state = record { forest = outcome f b; host_focused = s.host_focused }

  -- the slice is too short
  abbrev pub too_short : Bool
  too_short = ltb (length slice) (length (change_words (changes_of f b)))

  formless : well_formed bytes ≡ false → update s bytes slice ≡ refused (first_number f bytes) s slice
  unfolding first_number update_number first
  formless w = update_is s bytes slice None (parse_refused bytes w) ∙ rw w

  module _ (w : well_formed bytes ≡ true) where
    by_number : (k : ℕ) → update_number s (Some b) slice ≡ k → update s bytes slice ≡ judged k s slice (accepted s update_state (changes_of f b) slice)
    unfolding update_batch batch_of
    by_number k q =
        update_is s bytes slice (Some (batch_of bytes)) (parse_well bytes w)
        ∙ ap (λ (n : ℕ). judged n s slice (accepted s update_state (changes_of f b) slice)) q

    by_refusal : (k : ℕ) → update_number s (Some b) slice ≡ k → (k ≡ 0 → ⊥) → update s bytes slice ≡ refused k s slice
    by_refusal k q h = by_number k q ∙ judged_refused k s slice _ h

    module _ (e : sound f ≡ true) where
      well_first : first_number f bytes ≡ first (rows_before_pass f b)
      unfolding first_number first
      well_first = rw (e, w)

      well_number : update_number s (Some b) slice ≡ first (found (batch_number f b) ∷ row 21 too_short ∷ [])
      unfolding update_number batch_rows first
      well_number = rw e

    -- rows 1 and 5 to 8
    early_number : (first_number f bytes ≡ 0 → ⊥) → (t : Bool) → sound f ≡ t → update_number s (Some b) slice ≡ first_number f bytes
    unfolding first_number update_number batch_rows first
    early_number h false e = rw e
    early_number h true e =
        let number = batch_first f b (λ z. h (well_first e ∙ z)) in
        well_number e ∙ found_counts (batch_number f b) (row 21 too_short ∷ []) (λ z. h (well_first e ∙ sym number ∙ z)) ∙ number ∙ sym (well_first e)

  -- a number of rows 1, 2 and 5 to 8
  pub update_first : (first_number f bytes ≡ 0 → ⊥) → update s bytes slice ≡ refused (first_number f bytes) s slice
  update_first h = go (well_formed bytes) refl
    where
      go : (t : Bool) → well_formed bytes ≡ t → update s bytes slice ≡ refused (first_number f bytes) s slice
      go false w = formless w
      go true w = by_refusal w (first_number f bytes) (early_number w h (sound f) refl) h

  module _ (none : first_number f bytes ≡ 0) where
    batch_is : batch_number f b ≡ later_rows f b
    batch_is = batch_later f b (first_passed f bytes none).before

    number_is : update_number s (Some b) slice ≡ first (found (later_rows f b) ∷ row 21 too_short ∷ [])
    number_is =
        let p = first_passed f bytes none in
        well_number p.formed p.is_sound ∙ ap (λ (n : ℕ). first (found n ∷ row 21 too_short ∷ [])) batch_is

    -- a number of rows 9 to 20
    pub update_later : (later_rows f b ≡ 0 → ⊥) → update s bytes slice ≡ refused (later_rows f b) s slice
    update_later h = by_refusal (first_passed f bytes none).formed (later_rows f b) (number_is ∙ found_counts (later_rows f b) (row 21 too_short ∷ []) h) h

    module _ (clear : later_rows f b ≡ 0) where
      last_number : (t : Bool) → too_short ≡ t → update_number s (Some b) slice ≡ first (row 21 t ∷ [])
      last_number t q = number_is ∙ found_passes (later_rows f b) (row 21 too_short ∷ []) clear ∙ ap (λ (c : Bool). first (row 21 c ∷ [])) q

      -- row 21
      pub update_full : too_short ≡ true → update s bytes slice ≡ refused 21 s slice
      unfolding judged first
      update_full q = by_number (first_passed f bytes none).formed 21 (last_number true q)

      -- no number
      pub update_done : too_short ≡ false → update s bytes slice ≡ accepted s update_state (changes_of f b) slice
      unfolding judged first
      update_done q = by_number (first_passed f bytes none).formed 0 (last_number false q)

-- ## A start

module _ (bytes : List ℕ) (host : Bool) where
  abbrev e : Batch
  e = batch_of bytes

  -- the forest that it begins with, and its batch
  abbrev o : Forest
  o = seed e

  abbrev d : Batch
  d = without_tree_data e

  -- the state that it makes
  abbrev pub start_state : State
  start_state = record { forest = outcome o d; host_focused = host }

  -- the answer, from what the bytes parse to
  abbrev start_answer : Option Batch → Answer
  start_answer p = elim p [ None ↦ refused 2 blank [] | Some c ↦ start_batch c host ]

  start_parsed : (p : Option Batch) → parse bytes ≡ p → start bytes host ≡ start_answer p
  unfolding start
  start_parsed p q = ap start_answer q

  start_formless : well_formed bytes ≡ false → start bytes host ≡ refused (start_rows bytes) blank []
  unfolding start_rows first
  start_formless w = start_parsed None (parse_refused bytes w) ∙ rw w

  module _ (w : well_formed bytes ≡ true) where
    start_by : (k : ℕ) → start_number e ≡ k → start bytes host ≡ judged k blank [] (started start_state)
    unfolding start_batch batch_of
    start_by k q = start_parsed (Some (batch_of bytes)) (parse_well bytes w) ∙ ap (λ (n : ℕ). judged n blank [] (started start_state)) q

    -- rows 3 to 5
    begins : (start_rows bytes ≡ 0 → ⊥) → (p q : Bool) → is_none e.root ≡ p → same_tree e.tree ROOT ≡ q → start_number e ≡ start_rows bytes
    unfolding start_number start_rows first
    begins h true q r t = rw (w, r)
    begins h false false r t = rw (w, r, t)
    begins h false true r t =
        let five : start_rows bytes ≡ first (row 5 (not (distinct same_node (listed_ids e.nodes))) ∷ []) = rw (w, r, t) in
        let before = seed_before e t in
        rw (r, t) (found_alone (batch_number o d) ∙ batch_first o d (λ z. h (five ∙ sym before ∙ z)) ∙ before) ∙ sym five

  -- a number of rows 2 to 5
  pub start_first : (start_rows bytes ≡ 0 → ⊥) → start bytes host ≡ refused (start_rows bytes) blank []
  start_first h = go (well_formed bytes) refl
    where
      go : (t : Bool) → well_formed bytes ≡ t → start bytes host ≡ refused (start_rows bytes) blank []
      go false w = start_formless w
      go true w = start_by w (start_rows bytes) (begins w h (is_none e.root) (same_tree e.tree ROOT) refl refl) ∙ judged_refused (start_rows bytes) blank [] _ h

  module _ (none : start_rows bytes ≡ 0) where
    start_is : start_number e ≡ later_rows o d
    unfolding start_number first
    start_is =
        let p = start_begun bytes none in
        rw (p.rooted, p.root_tree) (found_alone (batch_number o d) ∙ batch_later o d (start_before bytes none))

    -- a number of rows 9 to 20
    pub start_later : (later_rows o d ≡ 0 → ⊥) → start bytes host ≡ refused (later_rows o d) blank []
    start_later h = start_by (start_begun bytes none).formed (later_rows o d) start_is ∙ judged_refused (later_rows o d) blank [] _ h

    -- no number
    pub start_done : later_rows o d ≡ 0 → start bytes host ≡ started start_state
    unfolding judged
    start_done z = start_by (start_begun bytes none).formed 0 (start_is ∙ z)
