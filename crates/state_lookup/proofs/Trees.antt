-- What a search of the tree table says of the trees that it shows. Assumes nothing.
use mathlib.Core.List.{List}
use mathlib.Core.Path.{◌≡◌, ◌∙◌}
use Prim.Native.Nat.{ℕ, zero, suc, ◌+◌, ◌≤◌, ◌<◌}
use native.Mathlib.Nat.{add-zero, zero-add}
use native.Mathlib.Omega.{arith}
use lib.Dec.{ltb}
use borrow.Author.Tests.{eq-eqb, ne_eqb, lt-ltb, le-ltb}
use Rattle.std.specs.Prelude.{if◌then◌else◌, Option, None, Some}
use Rattle.base.specs.Bytes.{list_of}
use Rattle.base.specs.Search.{First}
use Rattle.base.proofs.Search.{first_later, ltb_suc}
use Rattle.ids.specs.Ids.{same_tree}
use Rattle.ids.specs.declared.TreeId.{TreeId}
use Rattle.state.specs.State.{Subtree, TreeEntry, subtree_state, subtree_from, subtree_of}
use Rattle.state.specs.declared.SubtreeState.{SubtreeState}
use Rattle.state_array.specs.View.{tree_in, entry_in, trees_of, view}

-- the root and the focus of tree k, if it exists
abbrev pub state_of : ℕ → Option Subtree → Option SubtreeState
state_of k o = elim o [ None ↦ None | Some v ↦ Some (subtree_state k v) ]

-- the first row of the tree id says whether it exists
tree_first : (x : TreeId) (k m : ℕ) (f : ℕ → TreeEntry) (r : ℕ) → First (λ i. same_tree x (f i).id) m r
    → subtree_from k (list_of m f) x ≡ (if ltb r m then state_of (k + r) (f r).subtree else None)
unfolding subtree_from list_of
tree_first x k zero f r h = rw (le-ltb r zero (omega arith))
tree_first x k (suc m) f zero h = rw (lt-ltb zero (suc m) (omega arith), h.hit (omega arith), add-zero k)
tree_first x k (suc m) f (suc r) h =
    let next : suc k + r ≡ k + suc r = omega arith in
    rw (ltb_suc r m, h.passed zero (omega arith), ← next) (tree_first x (suc k) m (λ i. f (suc i)) r (first_later (λ i. same_tree x (f i).id) m r h))

module _ (s : List ℕ) (x : TreeId) (r : ℕ) (found : First (λ k. same_tree x (tree_in s k).id) (trees_of s) r) where
  -- a tree id that has no number
  pub tree_absent : trees_of s ≤ r → subtree_of (view s).forest x ≡ None
  unfolding view subtree_of entry_in
  tree_absent h = tree_first x 0 (trees_of s) (entry_in s) r found ∙ rw (le-ltb r (trees_of s) h)

  at_found : r < trees_of s → subtree_of (view s).forest x ≡ state_of r (entry_in s r).subtree
  unfolding view subtree_of entry_in
  at_found h = tree_first x 0 (trees_of s) (entry_in s) r found ∙ rw (lt-ltb r (trees_of s) h, zero-add r)

  -- one whose tree does not exist
  pub tree_unborn : r < trees_of s → (tree_in s r).exists ≡ 0 → subtree_of (view s).forest x ≡ None
  unfolding entry_in
  tree_unborn h e = at_found h ∙ rw (eq-eqb (tree_in s r).exists 0 e)

  -- one whose tree exists
  pub tree_there : r < trees_of s → ((tree_in s r).exists ≡ 0 → ⊥)
      → subtree_of (view s).forest x
      ≡ Some (record {
        root = record { tree = record { 0 = r }; node = (tree_in s r).root };
        focus = record { tree = record { 0 = r }; node = (tree_in s r).focus };
      })
  unfolding entry_in subtree_state
  tree_there h e = at_found h ∙ rw (ne_eqb (tree_in s r).exists 0 e)
