-- Laws of what functions answer by the notes alone, and what it means for a state and a batch of which the notes tell. Assumes nothing.
use Rattle.std.specs.Prelude.{None, Some}
use mathlib.Core.Bool.{false}
use mathlib.Core.List.{List}
use mathlib.Core.Path.{◌≡◌, sym, ap₂}
use Prim.Native.Nat.{ℕ, ◌+◌, ◌-◌, ◌≤◌, ◌<◌}
use native.Mathlib.Omega.{arith}
use lib.Dec.{eqb, ltb}
use lib.ListN.{get_or}
use borrow.Author.Tests.{lt-ltb, le-ltb, ltb-true, ltb-false, eq-eqb, ne_eqb}
use Rattle.base.proofs.Cases.{by_test, by_order}
use Rattle.ids.specs.declared.TreeIndex.{TreeIndex}
use Rattle.ids.specs.declared.FullNodeId.{FullNodeId}
use Rattle.record_reader.specs.Reader.{listed_at}
use Rattle.state_array.specs.View.{id_in}
use Rattle.update.specs.Words.{here}
use Rattle.calls.specs.Layout.{LISTED, LISTED_SLOTS, TURNS, ABOVE, FATES, DIFFERS}
use Rattle.calls.specs.declared.notes.Scope.{Scope}
use Rattle.calls.specs.Setting.{asked, forest}
use Rattle.calls.specs.Codes.{code_id}
use Rattle.calls.specs.Says.{listed_word, Told}
use Rattle.calls.specs.Noted.{id_noted, code_noted, differ_noted, clash_noted, parent_noted}
use Rattle.calls.specs.Plan.{Valid}
use Rattle.calls.proofs.notes.Places.{forest_id}
use Rattle.calls.proofs.notes.Told.{few_listed}

-- ## The id of a code

module _ (state : List ℕ) (c : Scope) (notes : List ℕ) (code : ℕ) {y : FullNodeId} where
  -- of the node in a slot
  pub noted_slot : code < 320 → y ≡ id_in state code → y ≡ code_noted state c notes code
  unfolding code_noted
  noted_slot h e = rw (lt-ltb code 320 h) e

  -- of a listed node
  pub noted_listed : 320 ≤ code → y ≡ id_noted c notes (LISTED + (code - 320)) → y ≡ code_noted state c notes code
  unfolding code_noted
  noted_listed h e = rw (le-ltb code 320 h) e

-- ## Marks

module _ (notes : List ℕ) (slot : ℕ) where
  -- a node without a turn
  pub differ_unlisted : get_or notes (TURNS + slot) 0 < 1 → false ≡ differ_noted notes slot
  unfolding differ_noted
  differ_unlisted h = rw (lt-ltb _ 1 h)

  -- one with a turn
  pub differ_listed : 1 ≤ get_or notes (TURNS + slot) 0 → eqb (get_or notes (DIFFERS + (get_or notes (TURNS + slot) 0 - 1)) 0) 1 ≡ differ_noted notes slot
  unfolding differ_noted
  differ_listed h = rw (le-ltb _ 1 h)

module _ (notes : List ℕ) (i : ℕ) where
  -- a listed node that does not differ
  pub clash_alike : (get_or notes (DIFFERS + i) 0 ≡ 1 → ⊥) → false ≡ clash_noted notes i
  unfolding clash_noted
  clash_alike h = rw (ne_eqb _ 1 h)

  -- one that does
  pub clash_differs : get_or notes (DIFFERS + i) 0 ≡ 1 → eqb (get_or notes (FATES + get_or notes (LISTED_SLOTS + i) 0) 0) 1 ≡ clash_noted notes i
  unfolding clash_noted
  clash_differs h = rw (eq-eqb _ 1 h)

module _ (notes : List ℕ) (at : ℕ) (p : FullNodeId) where
  -- a parent that is not listed
  pub parent_none : get_or notes (TURNS + get_or notes (ABOVE + at) 0) 0 ≡ 0 → None ≡ parent_noted notes at p
  unfolding parent_noted
  parent_none h = rw (eq-eqb _ 0 h)

  -- one that is
  pub parent_some : (get_or notes (TURNS + get_or notes (ABOVE + at) 0) 0 ≡ 0 → ⊥) → Some p ≡ parent_noted notes at p
  unfolding parent_noted
  parent_some h = rw (ne_eqb _ 0 h)

-- ## What the notes tell

module _ {k : ℕ} {state bytes : List ℕ} {c : Scope} {notes : List ℕ} (some : 0 < k) (told : Told k state bytes c notes) where
  -- a listed node's id
  pub listed_noted : {i : ℕ} → i < c.listed → id_noted c notes (LISTED + i) ≡ here (forest state) (asked bytes c) (listed_at (asked bytes c) i).id
  unfolding here listed_word
  listed_noted {i} h = ap₂ (λ (t : TreeIndex) (n : ℕ). record { tree = t; node = record { 0 = n } }) told.given.scoped.tree (told.written 0 some i h)

  module _ {code : ℕ} (valid : Valid state c code) where
    -- the id of a code
    pub code_noted_lem : code_noted state c notes code ≡ code_id (forest state) (asked bytes c) code
    unfolding code_noted code_id
    code_noted_lem =
        by_test (ltb code 320) (λ t. rw t (sym (forest_id state code (valid.0 (ltb-true code 320 t)))))
        (λ t. rw t (listed_noted (valid.1 (ltb-false code 320 t))))

    -- there is a word for it
    pub code_room : code < 384
    code_room = by_order code 320 (λ l. omega arith) (λ l. omega (arith, valid.1 l, few_listed state bytes c told.given))
