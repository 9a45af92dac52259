-- Laws of the climb that tells whether a node goes, and of what the notes remember of it. Assumes nothing.
use mathlib.Core.Bool.{Bool, true, false}
use mathlib.Core.List.{List}
use Rattle.std.specs.Prelude.{Option, None, Some}
use mathlib.Core.Path.{◌≡◌, refl, sym, ap, ◌∙◌}
use Prim.Native.Nat.{ℕ, suc, ◌≤◌, ◌<◌, ◌+◌}
use native.Mathlib.Omega.{arith}
use lib.ListN.{length, get_or, set}
use Rattle.ids.specs.declared.FullNodeId.{FullNodeId}
use Rattle.state.specs.State.{ParentAndIndex, link_at}
use Rattle.state_array.specs.View.{slots_of}
use Rattle.update.specs.Gone.{Fate, stays, goes, asParent, goes_if, replaced, fares, fate, gone_within, gone}
use Rattle.update.proofs.Gone.{within_parent, gone_top}
use Rattle.calls.specs.declared.notes.Scope.{Scope}
use Rattle.calls.specs.Setting.{asked, forest, KeptForest}
use Rattle.calls.specs.Codes.{id_at, flag}
use Rattle.calls.specs.Says.{slot_above, above_word, goes_word, Told, GONE}
use Rattle.calls.proofs.notes.Places.{present_at}
use Rattle.update_focus.proofs.Numbers.{forest_length}
use Rattle.calls.specs.Fates.{fate_code, fate_by, fate_mark, fate_word, ABOVE_TOLD, Cell, Fated}
use Rattle.calls.proofs.gone.Slots.{link_at_lem, slot_stands}
use mathlib.Core.Logic.{inl, inr}
use native.Mathlib.Decide.{ℕ_discrete}
use lib.Seq.{get_or-set_same, get_or-set_other}
use Rattle.calls.specs.Layout.{ABOVE, FATES}
use Rattle.calls.specs.Columns.{Holds}
use Rattle.calls.proofs.notes.Told.{told_set, told_more}

-- ## Numbers of fates

-- going or staying, as a number
pub goes_if_code : (t : Bool) → fate_code (goes_if t) ≡ flag t
unfolding fate_code goes_if
goes_if_code true = refl
goes_if_code false = refl

-- the fate with the number 2
pub as_parent : (f : Fate) → fate_code f ≡ 2 → f ≡ asParent
unfolding fate_code
as_parent stays e = absurd (omega arith)
as_parent goes e = absurd (omega arith)
as_parent asParent e = refl

-- with which a node fares as its parent does
as_parent_fares : (f : Fate) (parentGoes : Bool) → fate_code f ≡ 2 → fares f parentGoes ≡ parentGoes
unfolding fares
as_parent_fares f g e = rw (as_parent f e)

-- any other fate is settled
settled : (f : Fate) (parentGoes : Bool) → (fate_code f ≡ 2 → ⊥) → fate_code f ≡ flag (fares f parentGoes)
unfolding fate_code fares
settled stays g h = refl
settled goes g h = refl
settled asParent g h = absurd (h refl)

-- no flag is 2
pub flag_not_two : (t : Bool) → flag t ≡ 2 → ⊥
flag_not_two true e = omega arith
flag_not_two false e = omega arith

-- ## The climb

-- from slot i the climb has come to the slot `at`, with room for `room` steps more
pub record Climbing (state bytes : List ℕ) (c : Scope) (i room at : ℕ) : Type 0 where
  pub there : at < slots_of state
  pub fares_as : gone (forest state) (asked bytes c) (id_at (forest state) i) ≡ gone (forest state) (asked bytes c) (id_at (forest state) at)
  pub fares_within : gone (forest state) (asked bytes c) (id_at (forest state) i) ≡ gone_within (forest state) (asked bytes c) room (id_at (forest state) at)

module _ (state bytes : List ℕ) (c : Scope) where
  -- where it begins
  pub climb_start : {i n : ℕ} → n ≡ slots_of state → i < slots_of state → Climbing state bytes c i n i
  unfolding gone
  climb_start {i} e h =
      rw e (record { there = h; fares_as = refl; fares_within = ap (λ n. gone_within (forest state) (asked bytes c) n (id_at (forest state) i)) (forest_length state) })

  -- out of room
  pub climb_left : {i room at : ℕ} → Climbing state bytes c i room at → room ≡ 0 → 0 ≡ goes_word state bytes c i
  unfolding gone_within goes_word
  climb_left climb out = rw (climb.fares_within, out)

  -- what is told of the slot that it has come to is told of slot i
  pub climb_same : {i room at : ℕ} → Climbing state bytes c i room at → goes_word state bytes c at ≡ goes_word state bytes c i
  unfolding goes_word
  climb_same climb = ap (λ (t : Bool). flag t) (sym climb.fares_as)

  module _ (kept : KeptForest (forest state)) where
    -- a node whose fate is settled
    pub fate_settled : (at : ℕ) → at < slots_of state → (fate_word state bytes c at ≡ 2 → ⊥) → fate_word state bytes c at ≡ goes_word state bytes c at
    unfolding fate_word fate_mark fate_by goes_word
    fate_settled at h k = go (link_at (forest state).nodes x) refl k
      where
        x : FullNodeId
        x = id_at (forest state) at

        go : (o : Option ParentAndIndex) → link_at (forest state).nodes x ≡ o → (fate_code (fate_by (forest state) (asked bytes c) x o) ≡ 2 → ⊥)
            → fate_code (fate_by (forest state) (asked bytes c) x o) ≡ flag (gone (forest state) (asked bytes c) x)
        go None q k =
            goes_if_code (replaced (forest state) (asked bytes c) x)
            ∙ ap (λ (t : Bool). flag t) (sym (gone_top (forest state) (asked bytes c) x (present_at (forest state) at (omega (arith, forest_length state))) q))
        go (Some l) q k =
            settled (fate (forest state) (asked bytes c) x l) (gone (forest state) (asked bytes c) l.parent) k
            ∙ ap (λ (t : Bool). flag t) (sym (kept.gone_parent (asked bytes c) x l q))

    -- one step up
    pub climb_step : {i room left at : ℕ} → Climbing state bytes c i room at → fate_word state bytes c at ≡ 2 → room ≡ suc left
        → Climbing state bytes c i left (above_word state bytes c at)
    unfolding fate_word fate_mark fate_by above_word slot_above
    climb_step {i} {room} {left} {at} climb e more = rw (← link_at_lem (forest state) kept.ascending at within) (go (link_at (forest state).nodes x) refl e)
      where
        x : FullNodeId
        x = id_at (forest state) at

        within : at < length (forest state).nodes
        within = omega (arith, forest_length state, climb.there)

        go : (o : Option ParentAndIndex) → link_at (forest state).nodes x ≡ o → fate_code (fate_by (forest state) (asked bytes c) x o) ≡ 2
            → Climbing state bytes c i left (slot_above state o)
        go None q k =
            absurd (flag_not_two (replaced (forest state) (asked bytes c) x) (sym (goes_if_code (replaced (forest state) (asked bytes c) x)) ∙ k))
        go (Some l) q k =
            let stands = slot_stands (forest state) l.parent (kept.parent_present x l q) in
            record {
              there = omega (arith, forest_length state, stands.0);
              fares_as =
                  rw stands.1 (climb.fares_as ∙ kept.gone_parent (asked bytes c) x l q ∙ as_parent_fares (fate (forest state) (asked bytes c) x l) _ k);
              fares_within =
                  rw stands.1 (climb.fares_within
                  ∙ ap (λ k. gone_within (forest state) (asked bytes c) k x) more
                  ∙ within_parent (forest state) (asked bytes c) left x l q
                  ∙ as_parent_fares (fate (forest state) (asked bytes c) x l) _ k);
            }

module _ (state bytes : List ℕ) (c : Scope) where
  -- no slot's word is 2
  goes_not_two : (i : ℕ) → goes_word state bytes c i ≡ 2 → ⊥
  unfolding goes_word
  goes_not_two i e = flag_not_two (gone (forest state) (asked bytes c) (id_at (forest state) i)) e

  -- at first the fates stand there
  pub fated : (notes : List ℕ) → Told ABOVE_TOLD state bytes c notes → Holds notes FATES (slots_of state) (fate_word state bytes c) → Fated 0 state bytes c notes
  fated notes told fates = record { told = told; memo = λ j h. go j h (ℕ_discrete (fate_word state bytes c j) 2) }
    where
      go : (j : ℕ) → j < slots_of state → Dec (fate_word state bytes c j ≡ 2) → Cell 0 state bytes c notes j
      go j h (yes e) = inr (omega arith, fates j h ∙ e, e)
      go j h (no e) = inl (fates j h ∙ fate_settled state bytes c told.given.kept j h e)

  module _ {notes : List ℕ} {k : ℕ} (f : Fated k state bytes c notes) where
    -- what stands there, by what it is
    pub memo_known : (at : ℕ) → at < slots_of state → (get_or notes (FATES + at) 0 ≡ 2 → ⊥) → get_or notes (FATES + at) 0 ≡ goes_word state bytes c at
    memo_known at h other = go (f.memo at h)
      where
        go : Cell k state bytes c notes at → get_or notes (FATES + at) 0 ≡ goes_word state bytes c at
        go (inl e) = e
        go (inr e) = absurd (other e.1)

    pub memo_fate : (at : ℕ) → at < slots_of state → get_or notes (FATES + at) 0 ≡ 2 → fate_word state bytes c at ≡ 2
    memo_fate at h two = go (f.memo at h)
      where
        go : Cell k state bytes c notes at → fate_word state bytes c at ≡ 2
        go (inl e) = absurd (goes_not_two at (sym e ∙ two))
        go (inr e) = e.2

    -- one step up, by what stands in the notes
    pub memo_step : {i room left at : ℕ} → Climbing state bytes c i room at → get_or notes (FATES + at) 0 ≡ 2 → room ≡ suc left
        → Climbing state bytes c i left (get_or notes (ABOVE + at) 0)
    memo_step {at = at} climb e more =
        rw (f.told.written 8 (omega arith) at climb.there)
        (climb_step state bytes c f.told.given.kept climb (memo_fate at climb.there e) more)

    -- a slot is told
    module _ (at v : ℕ) (h : at < slots_of state) (e : v ≡ goes_word state bytes c at) where
      memo_at : (l : ℕ) → ((j : ℕ) → k ≤ j → (j ≡ at → ⊥) → l ≤ j) → (j : ℕ) → j < slots_of state → Cell l state bytes c (set notes (FATES + at) v) j
      memo_at l later j b = go (ℕ_discrete j at)
        where
          go : Dec (j ≡ at) → Cell l state bytes c (set notes (FATES + at) v) j
          go (yes q) = inl (rw (q, e) (get_or-set_same notes (FATES + at) (goes_word state bytes c at) 0 (omega (arith, f.told.long))))
          go (no q) = other (f.memo j b)
            where
              same : get_or (set notes (FATES + at) v) (FATES + j) 0 ≡ get_or notes (FATES + j) 0
              same = get_or-set_other notes (FATES + at) (FATES + j) v 0 (λ p. q (omega arith))

              other : Cell k state bytes c notes j → Cell l state bytes c (set notes (FATES + at) v) j
              other (inl w) = inl (same ∙ w)
              other (inr w) = inr (later j w.0 q, same ∙ w.1, w.2)

      pub memo_set : Fated k state bytes c (set notes (FATES + at) v)
      memo_set = record {
        told = told_set state bytes c notes ABOVE_TOLD f.told (FATES + at) v (omega arith);
        memo = memo_at k (λ j l q. l);
      }
      -- and so the first slots are

    pub memo_next : {n v : ℕ} → n ≡ slots_of state → k < n → v ≡ goes_word state bytes c k → Fated (k + 1) state bytes c (set notes (FATES + k) v)
    memo_next {v = v} count h e = record {
      told = told_set state bytes c notes ABOVE_TOLD f.told (FATES + k) v (omega arith);
      memo = memo_at k v (omega arith) e (k + 1) (λ j l p. omega arith);
    }

    -- at last all are
    pub memo_done : {n : ℕ} → n ≡ slots_of state → n ≤ k → Told GONE state bytes c notes
    memo_done count h = told_more state bytes c notes ABOVE_TOLD f.told (λ i l. go i l (f.memo i l))
      where
        go : (i : ℕ) → i < slots_of state → Cell k state bytes c notes i → get_or notes (FATES + i) 0 ≡ goes_word state bytes c i
        go i l (inl e) = e
        go i l (inr e) = absurd (omega (arith, e.0))
