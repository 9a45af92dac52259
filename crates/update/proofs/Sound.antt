-- Tables of numbers: what holds where a batch is accepted, that its outcome is sound, and when 20 is answered. Assumes nothing.
use mathlib.Core.Bool.{Bool, true, false, not, true≢false}
use mathlib.Core.List.{List, [], ◌∷◌, ◌++◌}
use mathlib.Core.Path.{◌≡◌, refl, ap, ◌∙◌}
use Prim.Native.Nat.{ℕ, suc, ◌≤◌}
use native.Mathlib.Omega.{arith}
use lib.Dec.{ltb, leb, eqb}
use lib.ListN.{length, length-append}
use borrow.Author.Tests.{leb-true, leb-false, le-leb, ltb-false, eqb-false, ne_eqb}
use Rattle.std.specs.Prelude.{if◌then◌else◌, Option, None, Some}
use Rattle.base.specs.Tests.{◌and◌, is_none, any, all, distinct, has, given}
use Rattle.base.proofs.Tests.{not_false}
use Rattle.ids.specs.Ids.{ROOT, same_tree, same_node}
use Rattle.ids.specs.declared.FullNodeId.{FullNodeId}
use Rattle.record.specs.Batch.{fields_ok, Batch, listed_ids, named_ids}
use Rattle.state.specs.State.{TreeEntry, Forest, present, holder, subtree_of}
use Rattle.state.specs.Down.{root_of}
use Rattle.state.specs.Focus.{effective_focus}
use Rattle.state.specs.Sound.{grafts_differ, sound_shape, focus_present, sound}
use Rattle.state.proofs.Sound.{sound_of}
use Rattle.update.specs.Words.{known, with_tree_data, claim}
use Rattle.update.specs.Pass.{pass, Event, names, places, events, fault}
use Rattle.update.specs.Outcome.{subtree_here, entries_after, new_entry, outcome}
use Rattle.update.proofs.Outcome.{all_outcome}
use Rattle.update.specs.Numbers.{absent, placeless, nowhere, updated_and_removed, rows_before_pass, rows_after_pass, batch_number}
use mathlib.Core.Logic.{◌↔◌}
use Rattle.base.proofs.Tables.{first_none, first_found_zero, found_passes}
use Rattle.base.specs.Tables.{Row, row, found, first}
use Rattle.ids.specs.declared.TreeId.{TreeId}
use Rattle.ids.specs.declared.NodeId.{NodeId}

-- a row with another number than the answer does not hold: for `simp`, which takes a table apart with it
pub first_row : (n k : ℕ) (t : Bool) (rs : List Row) → eqb k n ≡ false → (first (row k t ∷ rs) ≡ n) ↔ ((t ≡ false) × (first rs ≡ n))
unfolding first
first_row n k true rs h = (λ e. absurd (eqb-false k n h e), λ z. absurd (true≢false z.0))
first_row n k false rs h = (λ e. (refl, e), λ z. z.1)

pub first_found : (k : ℕ) (rs : List Row) → (first (found k ∷ rs) ≡ 0) ↔ ((k ≡ 0) × (first rs ≡ 0))
first_found k rs = (λ e. first_found_zero k rs e, λ z. found_passes k rs z.0 ∙ z.1)

-- the pass gives none of the later numbers
first_at_most : (most : ℕ) (r : Row) (rs : List Row) → r.number ≤ most → first rs ≤ most → first (r ∷ rs) ≤ most
unfolding first
first_at_most most r rs h k = go r.holds
  where
    go : (c : Bool) → (if c then r.number else first rs) ≤ most
    go true = h
    go false = k

fault_at_most : (s : Forest) (b : Batch) (seen : List NodeId) (claimed : List TreeId) (es : List Event) → fault s b seen claimed es ≤ 12
unfolding fault
fault_at_most s b seen claimed [] = omega arith
fault_at_most s b seen claimed (names c ∷ es) =
    let rest = fault_at_most s b (c ∷ seen) claimed es in
    first_at_most 12 (row 9 (has same_node seen c)) (found (fault s b (c ∷ seen) claimed es) ∷ []) (omega arith)
    (first_at_most 12 (found (fault s b (c ∷ seen) claimed es)) [] rest (omega (arith, first_none)))
fault_at_most s b seen claimed (places l ∷ es) =
    let rest = fault_at_most s b seen (given (claim s b) (l ∷ []) ++ claimed) es in
    first_at_most 12 _ _ (omega arith)
    (first_at_most 12 _ _ (omega arith) (first_at_most 12 _ _ (omega arith) (first_at_most 12 _ _ rest (omega (arith, first_none)))))

-- the last row gives its number where it holds
first_last : (n : ℕ) (c : Bool) → (0 ≡ n → ⊥) → first (row n c ∷ []) ≡ n → c ≡ true
unfolding first
first_last n true h e = refl
first_last n false h e = absurd (h e)

pub number_20 : (s : Forest) (b : Batch) → batch_number s b ≡ 20 → ltb 256 (length (outcome s b).nodes) ≡ true
unfolding batch_number rows_before_pass rows_after_pass pass
number_20 s b e =
    let early = ne_eqb (pass s b) 20 (λ q. omega (arith, fault_at_most s b [] [] (events s b [] b.nodes))) in
    let z = simp (first_row, early) at e in
    first_last 20 _ (λ q. omega arith) z.1.1.1.1.1.1.1.1.1.1.1.1.1

-- ## The table

-- no row holds of an accepted batch
pub record Passed (s : Forest) (b : Batch) : Type 0 where
  pub row5 : not (distinct same_node (listed_ids b.nodes)) ≡ false
  pub row6 : with_tree_data s b and not (same_tree b.tree ROOT) and is_none (holder s.nodes b.tree) ≡ false
  pub row7 : not (with_tree_data s b) and not (same_tree b.tree ROOT) and is_none (subtree_of s b.tree) ≡ false
  pub row8 : not (known s b) and leb 32 (length s.trees) ≡ false
  pub row9_to_12 : pass s b ≡ 0
  pub row13 : any (placeless s b) b.nodes ≡ false
  pub row14 : any (nowhere s b) (named_ids b.nodes) ≡ false
  pub row12 : not (grafts_differ (outcome s b).nodes) ≡ false
  pub row15 : is_none (effective_focus (outcome s b)) ≡ false
  pub row16 : absent (outcome s b).nodes (root_of (outcome s b)) ≡ false
  pub row17 : absent (outcome s b).nodes (effective_focus (outcome s b)) ≡ false
  pub row18 : any (updated_and_removed s b) b.nodes ≡ false
  pub row19 : not (sound_shape (outcome s b)) ≡ false
  pub row20 : ltb 256 (length (outcome s b).nodes) ≡ false

pub passed : (s : Forest) (b : Batch) → batch_number s b ≡ 0 → Passed s b
unfolding batch_number rows_before_pass rows_after_pass
passed s b e =
    let z = simp (first_row, first_found) at e in
    record {
      row5 = z.0;
      row6 = z.1.0;
      row7 = z.1.1.0;
      row8 = z.1.1.1.0;
      row9_to_12 = z.1.1.1.1.0;
      row13 = z.1.1.1.1.1.0;
      row14 = z.1.1.1.1.1.1.0;
      row12 = z.1.1.1.1.1.1.1.0;
      row15 = z.1.1.1.1.1.1.1.1.0;
      row16 = z.1.1.1.1.1.1.1.1.1.0;
      row17 = z.1.1.1.1.1.1.1.1.1.1.0;
      row18 = z.1.1.1.1.1.1.1.1.1.1.1.0;
      row19 = z.1.1.1.1.1.1.1.1.1.1.1.1.0;
      row20 = z.1.1.1.1.1.1.1.1.1.1.1.1.1.0;
    }

-- ## Tree numbers

pub length_entries_after : (s : Forest) (b : Batch) (k : ℕ) (es : List TreeEntry) → length (entries_after s b k es) ≡ length es
unfolding entries_after
length_entries_after s b k [] = refl
length_entries_after s b k (e ∷ es) = ap suc (length_entries_after s b (suc k) es)

few_trees : (s : Forest) (b : Batch) (c : Bool) → leb (length s.trees) 32 ≡ true → not c and leb 32 (length s.trees) ≡ false
    → length (entries_after s b 0 s.trees ++ (if c then [] else record { id = b.tree; subtree = subtree_here s b None } ∷ [])) ≤ 32
unfolding ◌and◌
few_trees s b true e q = rw (length-append, length_entries_after s b 0 s.trees) (omega (arith, leb-true (length s.trees) 32 e))
few_trees s b false e q = rw (length-append, length_entries_after s b 0 s.trees) (omega (arith, leb-false 32 (length s.trees) q))

-- ## The outcome

-- what the forest before gives to the forest after
pub record Ground (s : Forest) : Type 0 where
  pub few_trees : leb (length s.trees) 32 ≡ true
  pub fields : all (λ n. fields_ok n.body) s.nodes ≡ true

module _ (s : Forest) (b : Batch) where
  trees_outcome : Ground s → Passed s b → leb (length (outcome s b).trees) 32 ≡ true
  unfolding outcome new_entry
  trees_outcome g p = le-leb (length (outcome s b).trees) 32 (few_trees s b (known s b) g.few_trees p.row8)

  focus_outcome : Passed s b → focus_present (outcome s b) ≡ true
  unfolding focus_present absent
  focus_outcome p = go (effective_focus (outcome s b)) p.row17
    where
      go : (o : Option FullNodeId) → absent (outcome s b).nodes o ≡ false
          → (elim o as (λ _. Bool) [ None ↦ false | Some x ↦ present (outcome s b).nodes x ]) ≡ true
      go None e = absurd (true≢false e)
      go (Some x) e = not_false e

  pub outcome_sound : Ground s → all (λ l. fields_ok l.body) b.nodes ≡ true → Passed s b → sound (outcome s b) ≡ true
  outcome_sound g f p =
      sound_of (outcome s b) (record {
        shape = not_false p.row19;
        few_nodes = le-leb (length (outcome s b).nodes) 256 (ltb-false 256 (length (outcome s b).nodes) p.row20);
        few_trees = trees_outcome g p;
        fields = all_outcome fields_ok s b g.fields f;
        focus = focus_outcome p;
      })
