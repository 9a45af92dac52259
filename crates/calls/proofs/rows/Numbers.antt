-- How the numbers of the parts make the number of a batch: rows 1, 2 and 5 to 8, or 2 to 5 of a start, then 9 to 14, then the last.
-- Assumes nothing.
use Rattle.update.proofs.Sound.{first_row, first_found}
use mathlib.Core.Bool.{Bool, true, false, not, ◌||◌}
use mathlib.Core.List.{List, [], ◌∷◌}
use mathlib.Core.Path.{◌≡◌, refl, sym, ◌∙◌}
use Prim.Native.Nat.{ℕ}
use lib.Dec.{ltb, leb}
use lib.ListN.{length}
use borrow.Author.Tests.{lt-ltb, leb-false}
use Rattle.base.specs.Tests.{◌and◌, is_some, is_none, distinct}
use Rattle.base.specs.Tables.{row, found, first}
use Rattle.base.proofs.Tables.{first_append, first_append_none}
use Rattle.base.proofs.Tests.{not_false, call_true}
use Rattle.ids.specs.Ids.{ROOT, same_tree, same_node}
use Rattle.ids.specs.declared.TreeId.{TreeId}
use Rattle.record.specs.Batch.{Batch, listed_ids}
use Rattle.record.specs.Parse.{well_formed, batch_of}
use Rattle.state.specs.State.{Forest, holder, subtree_of}
use Rattle.state.specs.Sound.{sound}
use Rattle.update.specs.Words.{known, with_tree_data}
use Rattle.update.specs.Numbers.{rows_before_pass, rows_after_pass, batch_number}
use Rattle.update.specs.Calls.{seed, without_tree_data}
use Rattle.calls.specs.Pass.{pass_number}
use Rattle.calls.specs.Rows.{first_number, start_rows, last_number, last_rows, later_rows}

-- ## Rows 9 to 20

module _ (s : Forest) (b : Batch) where
  -- 5 to 8
  pub batch_first : (first (rows_before_pass s b) ≡ 0 → ⊥) → batch_number s b ≡ first (rows_before_pass s b)
  unfolding batch_number
  batch_first h = first_append (rows_before_pass s b) _ h

  -- then 9 to 20
  pub batch_later : first (rows_before_pass s b) ≡ 0 → batch_number s b ≡ later_rows s b
  unfolding batch_number rows_before_pass ◌and◌
  batch_later e = first_append_none (rows_before_pass s b) _ refl e

  -- a batch that rows 9 to 14 refuse
  pub later_early : (pass_number s b ≡ 0 → ⊥) → later_rows s b ≡ pass_number s b
  unfolding pass_number rows_after_pass
  later_early h = first_append (found _ ∷ row 13 _ ∷ row 14 _ ∷ []) _ h

  -- a batch that they let pass
  pub later_last : pass_number s b ≡ 0 → later_rows s b ≡ last_rows s b
  unfolding pass_number last_number rows_after_pass first
  later_last e = let z = simp (first_row, first_found) at e in rw (z.0, z.1.0, z.1.1.0)

  -- ## What holds after rows 5 to 8

  -- each node is listed once, and the tree has a number or there is one for it
  pub record Listable : Type 0 where
    pub once : distinct same_node (listed_ids b.nodes) ≡ true
    pub numbered : (known s b || ltb (length s.trees) 32) ≡ true

  room_for : (k : Bool) → (not k and leb 32 (length s.trees)) ≡ false → (k || ltb (length s.trees) 32) ≡ true
  unfolding ◌and◌
  room_for true e = refl
  room_for false e = lt-ltb (length s.trees) 32 (leb-false 32 (length s.trees) e)

  pub listable : first (rows_before_pass s b) ≡ 0 → Listable
  unfolding rows_before_pass
  listable e = let z = simp first_row at e in record { once = not_false z.0; numbered = room_for (known s b) z.1.1.1.0 }

-- ## A batch on a state

module _ (s : Forest) (bytes : List ℕ) where
  -- rows 1, 2 and 5 to 8 passed
  pub record Passed : Type 0 where
    pub is_sound : sound s ≡ true
    pub formed : well_formed bytes ≡ true
    pub before : first (rows_before_pass s (batch_of bytes)) ≡ 0

  pub first_passed : first_number s bytes ≡ 0 → Passed
  unfolding first_number
  first_passed e = let z = simp first_row at e in record { is_sound = not_false z.0; formed = not_false z.1.0; before = z.1.1 }

-- ## A start

-- rows 6 to 8 of ROOT, where there is room for its number
dropped : (x a c d k : Bool) → first (row 5 x ∷ row 6 (a and false and c) ∷ row 7 (not a and false and d) ∷ row 8 (k and false) ∷ []) ≡ first (row 5 x ∷ [])
unfolding first ◌and◌
dropped x true c d true = refl
dropped x true c d false = refl
dropped x false c d true = refl
dropped x false c d false = refl

module _ (b : Batch) where
  -- of rows 5 to 8 row 5 is left
  pub seed_before : same_tree b.tree ROOT ≡ true
      → first (rows_before_pass (seed b) (without_tree_data b)) ≡ first (row 5 (not (distinct same_node (listed_ids b.nodes))) ∷ [])
  unfolding rows_before_pass seed without_tree_data
  seed_before e =
      let s : Forest = seed b in
      let d : Batch = without_tree_data b in
      rw e
      (dropped (not (distinct same_node (listed_ids b.nodes))) (with_tree_data s d) (is_none (holder s.nodes b.tree)) (is_none (subtree_of s b.tree))
      (not (known s d)))

-- past rows 2 and 3, as the code asks them
pub start_past : (bytes : List ℕ) {w d r : Bool} {t : TreeId} {j : ℕ} → w ≡ well_formed bytes → w ≡ true → d ≡ is_some (batch_of bytes).root → d ≡ true
    → t ≡ (batch_of bytes).tree → r ≡ same_tree t ROOT → j ≡ first (row 4 (not r) ∷ row 5 (not (distinct same_node (listed_ids (batch_of bytes).nodes))) ∷ []) → j ≡ start_rows bytes
unfolding start_rows first
start_past bytes f v g q e h k = k ∙ sym (rw (call_true f v, call_true g q, h, e))

module _ (bytes : List ℕ) where
  -- rows 2 to 5 passed
  pub record Begun : Type 0 where
    pub formed : well_formed bytes ≡ true
    pub rooted : is_none (batch_of bytes).root ≡ false
    pub root_tree : same_tree (batch_of bytes).tree ROOT ≡ true
    pub once : distinct same_node (listed_ids (batch_of bytes).nodes) ≡ true

  pub start_begun : start_rows bytes ≡ 0 → Begun
  unfolding start_rows
  start_begun e =
      let z = simp first_row at e in
      record { formed = not_false z.0; rooted = z.1.0; root_tree = not_false z.1.1.0; once = not_false z.1.1.1.0 }

  -- no number of rows 5 to 8
  pub start_before : start_rows bytes ≡ 0 → first (rows_before_pass (seed (batch_of bytes)) (without_tree_data (batch_of bytes))) ≡ 0
  unfolding first
  start_before e = let p = start_begun e in seed_before (batch_of bytes) p.root_tree ∙ rw p.once

  -- each node is listed once, and ROOT has a number
  pub start_listable : start_rows bytes ≡ 0 → Listable (seed (batch_of bytes)) (without_tree_data (batch_of bytes))
  start_listable e = listable (seed (batch_of bytes)) (without_tree_data (batch_of bytes)) (start_before e)
