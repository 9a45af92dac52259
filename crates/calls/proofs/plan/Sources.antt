-- Laws of sources: where the data of an outcome's node comes from, by its code, its turn and whether it differs. Assumes nothing.
use borrow.Author.Tests.{lt-ltb}
use Rattle.calls.proofs.plan.Planned.{flag_true, flag_false}
use mathlib.Core.Bool.{Bool, true, false}
use mathlib.Core.List.{List}
use mathlib.Core.Path.{◌≡◌, refl, sym, ap, ◌∙◌}
use Prim.Native.Nat.{ℕ, suc, ◌+◌, ◌-◌, ◌≤◌, ◌<◌}
use native.Mathlib.Omega.{arith}
use lib.ListN.{length, get_or}
use Rattle.std.specs.Prelude.{if◌then◌else◌}
use Rattle.base.specs.Tests.{◌and◌}
use Rattle.ids.specs.declared.FullNodeId.{FullNodeId}
use Rattle.record.specs.Batch.{Batch}
use Rattle.record_reader.specs.Reader.{listed_at}
use Rattle.state.specs.State.{Forest}
use Rattle.state_array.specs.View.{slots_of}
use Rattle.update.specs.Words.{old, listed}
use Rattle.update.specs.Outcome.{outcome}
use Rattle.calls.specs.Layout.{TURNS, DIFFERS}
use Rattle.calls.specs.declared.notes.Scope.{Scope}
use Rattle.calls.specs.Setting.{KeptForest, asked, forest}
use Rattle.calls.specs.Codes.{id_at, flag, differs, code_of, source_of}
use Rattle.calls.specs.Says.{turn_mark, turn_word, differ_word, code_word, source_word, outcome_count, Told}
use Rattle.calls.proofs.notes.Places.{slot_id}
use Rattle.update_focus.proofs.Numbers.{forest_length}
use Rattle.calls.proofs.notes.Marks.{turn_none, turn_is, turn_within, turn_listed}
use Rattle.calls.proofs.Outcome.Codes.{old_slot, code_slot, code_turn}
use Rattle.calls.specs.Plan.{code_in, CODED}

module _ (s : Forest) (b : Batch) (kept : KeptForest s) (x : FullNodeId) where
  -- a code from 320 on is a new node's
  code_high : 320 ≤ code_of s b x → old s b x ≡ false
  code_high h = go (old s b x) refl
    where
      go : (t : Bool) → old s b x ≡ t → t ≡ false
      go false q = refl
      go true q = absurd (omega (arith, code_slot s b x q, old_slot s b x q, kept.few_nodes))

  -- one below 320 an old node's
  code_low : code_of s b x < 320 → old s b x ≡ true
  code_low h = go (old s b x) refl
    where
      go : (t : Bool) → old s b x ≡ t → t ≡ true
      go true q = refl
      go false q = absurd (omega (arith, code_turn s b x q))

  -- a new node's data comes from the batch
  source_new : 320 ≤ code_of s b x → source_of s b x ≡ code_of s b x
  unfolding source_of code_of ◌and◌
  source_new h = rw (code_high h)

  module _ (low : code_of s b x < 320) where
    -- the slot that holds an old node
    code_there : code_of s b x < length s.nodes
    code_there = rw (code_slot s b x (code_low low)) (old_slot s b x (code_low low))

    code_holds : id_at s (code_of s b x) ≡ x
    code_holds = ap (id_at s) (code_slot s b x (code_low low)) ∙ slot_id s x (old_slot s b x (code_low low))

    -- one that is not listed keeps its data
    source_kept : turn_mark s b x ≡ 0 → source_of s b x ≡ code_of s b x
    unfolding source_of code_of ◌and◌
    source_kept e = rw (code_low low, turn_none s b x e)

    -- one that is listed has the listed data where that differs
    module _ (t : ℕ) (e : turn_mark s b x ≡ suc t) where
      is_listed : listed s b x ≡ true
      is_listed = turn_listed s b x ∙ rw (e, lt-ltb 0 (suc t) (omega arith))

      source_listed : (d : Bool) → differs s b (listed_at b t) ≡ d → source_of s b x ≡ (if d then 320 + t else code_of s b x)
      unfolding source_of code_of ◌and◌
      source_listed true q = rw (code_low low, is_listed, turn_is s b x t e, q)
      source_listed false q = rw (code_low low, is_listed, turn_is s b x t e, q)

-- ## What the notes say of the outcome's node r

module _ {state bytes : List ℕ} {c : Scope} {notes : List ℕ} (told : Told CODED state bytes c notes) {r : ℕ} (h : r < outcome_count state bytes c) where
  abbrev s : Forest
  s = forest state

  abbrev b : Batch
  b = asked bytes c

  abbrev x : FullNodeId
  x = id_at (outcome (forest state) (asked bytes c)) r

  -- its code
  code_is : code_in notes r ≡ code_of s b x
  unfolding code_word
  code_is = told.written 12 (omega arith) r h

  -- of a new node the source
  pub source_high : 320 ≤ code_in notes r → code_in notes r ≡ source_word state bytes c r
  unfolding source_word
  source_high l = code_is ∙ sym (source_new s b told.given.kept x (rw code_is at l))

  module _ (l : code_in notes r < 320) where
    low : code_of s b x < 320
    low = rw code_is at l

    pub code_slots : code_in notes r < slots_of state
    code_slots = omega (arith, code_is, code_there s b told.given.kept x low, forest_length state)

    -- an old node's turn
    turn_at : get_or notes (TURNS + code_in notes r) 0 ≡ turn_mark s b x
    unfolding turn_word
    turn_at = told.written 5 (omega arith) (code_in notes r) code_slots ∙ ap (turn_mark s b) (ap (id_at s) code_is ∙ code_holds s b told.given.kept x low)

    -- the source of one that is not listed
    pub source_first : get_or notes (TURNS + code_in notes r) 0 < 1 → code_in notes r ≡ source_word state bytes c r
    unfolding source_word
    source_first e =
        let none : turn_mark s b x ≡ 0 = omega (arith, turn_at) in
        code_is ∙ sym (source_kept s b told.given.kept x low none)

    module _ (e : 1 ≤ get_or notes (TURNS + code_in notes r) 0) where
      t : ℕ
      t = get_or notes (TURNS + code_in notes r) 0 - 1

      mark : turn_mark s b x ≡ suc t
      unfolding t
      mark = omega (arith, turn_at)

      pub turn_few : get_or notes (TURNS + code_in notes r) 0 - 1 < c.listed
      unfolding t
      turn_few = omega (arith, turn_within s b x t mark, told.given.scoped.listed)

      differ_at : get_or notes (DIFFERS + (get_or notes (TURNS + code_in notes r) 0 - 1)) 0 ≡ flag (differs s b (listed_at b t))
      unfolding differ_word t
      differ_at = told.written 10 (omega arith) t turn_few

      -- of one whose data differs, and of one whose data does not
      pub source_differs : get_or notes (DIFFERS + (get_or notes (TURNS + code_in notes r) 0 - 1)) 0 ≡ 1
          → 320 + (get_or notes (TURNS + code_in notes r) 0 - 1) ≡ source_word state bytes c r
      unfolding source_word t
      source_differs q = sym (source_listed s b told.given.kept x low t mark true (flag_true _ (sym differ_at ∙ q)))

      pub source_same : (get_or notes (DIFFERS + (get_or notes (TURNS + code_in notes r) 0 - 1)) 0 ≡ 1 → ⊥) → code_in notes r ≡ source_word state bytes c r
      unfolding source_word t
      source_same q = code_is ∙ sym (source_listed s b told.given.kept x low t mark false (flag_false _ (λ f. q (differ_at ∙ f))))
