-- The table of trees by index: ROOT first, one id each, each tree rooted. Assumes nothing.
use mathlib.Core.Bool.{Bool, true, false, not, ◌||◌, false≢true}
use mathlib.Core.List.{List}
use Rattle.std.specs.Prelude.{Some}
use mathlib.Core.Path.{◌≡◌, refl, sym, ap, ◌∙◌}
use Prim.Native.Nat.{ℕ, zero, suc, ◌+◌, ◌≤◌, ◌<◌}
use Rattle.base.proofs.Cases.{by_test, by_order}
use native.Mathlib.Nat.{add-zero, zero-add}
use native.Mathlib.Numerals.{add-one}
use native.Mathlib.Omega.{arith}
use lib.Dec.{eqb, ltb}
use borrow.Author.Tests.{eq-eqb, ne_eqb, lt-ltb, le-ltb}
use Rattle.base.specs.Tests.{◌and◌, any, all, distinct}
use Rattle.base.specs.Bytes.{all_below, list_of}
use Rattle.base.specs.Search.{First}
use Rattle.base.proofs.Tests.{both, clash}
use Rattle.base.proofs.Bytes.{list_of_more, map_list_of}
use Rattle.base.proofs.Indexed.{all_indexed, all_below_cong, list_of_cong, distinct_last}
use Rattle.base.proofs.Search.{first_any}
use Rattle.ids.specs.Ids.{ROOT, same_tree, same_id}
use Rattle.ids.proofs.Ids.{same_tree_refl}
use Rattle.ids.specs.declared.FullNodeId.{FullNodeId}
use Rattle.state_array.specs.declared.TreeRow.{TreeRow}
use Rattle.state.specs.State.{NodeState, TreeEntry, ids_of, present, subtree_state, subtree_from, subtree_of}
use Rattle.state.specs.Down.{root_of}
use Rattle.state.specs.Sound.{grafted, all_grafted, root_first, one_id_each}
use Rattle.state_array.specs.View.{id_in, tree_in, node_in, entry_in, slots_of, trees_of, view}
use Rattle.state.proofs.State.{present_has}
use Rattle.state_lookup.specs.Lookup.{stands_at, in_order, SlotOf}
use Rattle.state_rules.specs.Parts.{none_grafts, rooted_in, all_rooted}
use Rattle.state_rules.proofs.Grafts.{same_tree_swap, holder_is}

-- ## Ids

-- the id of tree k stands before it in the table
unfoldable pub old_id : List ℕ → ℕ → Bool
old_id s k = any (same_tree (tree_in s k).id) (list_of k (λ i. (tree_in s i).id))

module _ (s : List ℕ) where
  -- the ids differ where none stands before itself
  distinct_by : (m : ℕ) → distinct same_tree (list_of m (λ i. (tree_in s i).id)) ≡ all_below m (λ k. not (old_id s k))
  unfolding all_below old_id
  distinct_by zero = unfold list_of in refl
  distinct_by (suc m) =
      rw (← add-one m, list_of_more m (λ i. (tree_in s i).id), distinct_last same_tree same_tree_swap (list_of m (λ i. (tree_in s i).id)) (tree_in s m).id, distinct_by m)

  -- one id each, one tree at a time
  pub one_id_by : one_id_each (view s).forest.trees ≡ all_below (trees_of s) (λ k. not (old_id s k))
  unfolding one_id_each view entry_in
  one_id_by = rw (map_list_of (λ e. e.id) (trees_of s) (entry_in s)) (distinct_by (trees_of s))

-- what the search for the id of tree k finds: a tree before it, or tree k itself
module _ (s : List ℕ) (k : ℕ) {r m : ℕ} {t : TreeRow} (is : t ≡ tree_in s k) (found : First (λ i. same_tree t.id (tree_in s i).id) (trees_of s) r)
    (bound : m ≡ trees_of s) (there : k < m) where
  old_is : old_id s k ≡ ltb r k
  unfolding old_id
  old_is = rw (← is) (sym (first_any (same_tree t.id) k (λ i. (tree_in s i).id) r (record {
    within = by_order k r (λ l. absurd (clash (found.passed k l) (rw (← is) (same_tree_refl t.id)))) (λ l. l);
    passed = found.passed;
    hit = λ l. found.hit (omega arith);
  })))

  pub old_found : r < k → not (old_id s k) ≡ false
  old_found h = rw (old_is, lt-ltb r k h)

  pub new_found : k ≤ r → not (old_id s k) ≡ true
  new_found h = rw (old_is, le-ltb r k h)

module _ (s : List ℕ) where
  -- ## ROOT

  -- ROOT comes first, by the first row
  root_of_lem : (m : ℕ) → root_first (list_of m (entry_in s)) ≡ ltb 0 m and same_tree (tree_in s 0).id ROOT and not (eqb (tree_in s 0).exists 0)
  unfolding root_first list_of entry_in ◌and◌
  root_of_lem zero = sym (rw (le-ltb 0 0 (omega arith)))
  root_of_lem (suc m) = rw (lt-ltb 0 (suc m) (omega arith)) (by_test (eqb (tree_in s 0).exists 0) (λ e. rw e) (λ e. rw e))

  pub root_first_lem : root_first (view s).forest.trees ≡ ltb 0 (trees_of s) and same_tree (tree_in s 0).id ROOT and not (eqb (tree_in s 0).exists 0)
  unfolding view
  root_first_lem = root_of_lem (trees_of s)

  -- ## The root

  -- where ROOT comes first, its root is that of the first row
  root_found : (m : ℕ) → root_first (list_of m (entry_in s)) ≡ true
      → subtree_from 0 (list_of m (entry_in s)) ROOT ≡ Some (subtree_state 0 (record { root = (tree_in s 0).root; focus = (tree_in s 0).focus }))
  unfolding root_first list_of subtree_from entry_in
  root_found zero e = absurd (false≢true e)
  root_found (suc k) e =
      rw (same_tree_swap ROOT (tree_in s 0).id ∙ (both e).0)
      (by_test (eqb (tree_in s 0).exists 0) (λ q. absurd (false≢true (rw q at (both e).1))) (λ q. rw q))

  pub root_is : root_first (view s).forest.trees ≡ true → root_of (view s).forest ≡ Some (record { tree = record { 0 = 0 }; node = (tree_in s 0).root })
  unfolding root_of subtree_of subtree_state view
  root_is e = rw (root_found (trees_of s) e, root_of)

-- ## Each tree is rooted

module _ (s : List ℕ) where
  -- the nodes
  abbrev ns : List NodeState
  ns = (view s).forest.nodes

  -- a node is present where its id stands among the ids
  present_is : (x : FullNodeId) → present ns x ≡ any (same_id x) (list_of (slots_of s) (id_in s))
  unfolding ids_of view node_in
  present_is x = present_has (view s).forest.nodes x ∙ ap (any (same_id x)) (map_list_of (λ k. k.id) (slots_of s) (node_in s))

  -- a tree is grafted by its row
  pub rooted_row : (k : ℕ) → grafted ns k (entry_in s k) ≡ rooted_in s k
  unfolding grafted rooted_in entry_in
  rooted_row k =
      by_test (eqb (tree_in s k).exists 0) (λ e. rw (e, grafted))
      (λ e. rw (e, grafted, present_is (record { tree = record { 0 = k }; node = (tree_in s k).root }), holder_is s (tree_in s k).id))

  -- every tree is rooted, by index; k is the number of the first
  rooted_list : (k m : ℕ) (entry : ℕ → TreeEntry) → all_grafted ns k (list_of m entry) ≡ all (λ b. b) (list_of m (λ j. grafted ns (k + j) (entry j)))
  unfolding all_grafted list_of
  rooted_list k zero entry = refl
  rooted_list k (suc m) entry =
      rw (add-zero k, rooted_list (suc k) m (λ i. entry (suc i)))
      (ap (λ l. grafted ns k (entry 0) and all (λ b. b) l) (list_of_cong m _ _ (λ j l. let next : suc k + j ≡ k + suc j = omega arith in rw next)))

  -- so of all trees
  pub rooted_is : all_grafted ns 0 (view s).forest.trees ≡ all_rooted s (trees_of s)
  unfolding all_rooted view
  rooted_is =
      rooted_list 0 (trees_of s) (entry_in s) ∙ all_indexed (λ b. b) (trees_of s) (λ j. grafted ns (0 + j) (entry_in s j))
      ∙ all_below_cong (trees_of s) _ _ (λ k l. rw zero-add (rooted_row k))

-- one tree with its row, for each way out of `is_rooted`
module _ (s : List ℕ) (k : ℕ) {t : TreeRow} (is : t ≡ tree_in s k) where
  pub rooted_unborn : t.exists ≡ 0 → true ≡ rooted_in s k
  unfolding rooted_in
  rooted_unborn e = rw (← is, eq-eqb t.exists 0 e)

  -- its root's slot is found by a search, or where the ids ascend by bisection
  pub rooted_found : (t.exists ≡ 0 → ⊥) → {r : ℕ} → First (stands_at s (record { tree = record { 0 = k }; node = t.root })) (slots_of s) r
      → rooted_in s k ≡ ltb r (slots_of s) and (eqb k 0 || not (none_grafts s t.id (slots_of s)))
  unfolding rooted_in
  rooted_found e {r} found =
      rw (← is, ne_eqb t.exists 0 e, first_any (same_id (record { tree = record { 0 = k }; node = t.root })) (slots_of s) (id_in s) r found)

  pub rooted_born : (t.exists ≡ 0 → ⊥) → {r : ℕ} → SlotOf s (record { tree = record { 0 = k }; node = t.root }) r → in_order s ≡ true
      → rooted_in s k ≡ ltb r (slots_of s) and (eqb k 0 || not (none_grafts s t.id (slots_of s)))
  rooted_born e slot up = rooted_found e (slot.first up)
