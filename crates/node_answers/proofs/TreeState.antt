-- What the questions about trees answer: a row of the table, ROOT's root, the number of a tree id, one law for each way out. Assumes nothing.
use mathlib.Core.List.{List, map}
use mathlib.Core.Path.{◌≡◌, sym, ap, ◌∙◌}
use Prim.Native.Nat.{ℕ, ◌≤◌, ◌<◌}
use lib.Dec.{eqb, ltb}
use borrow.Author.Tests.{lt-ltb, le-ltb, eq-eqb, ne_eqb}
use Rattle.std.specs.Prelude.{if◌then◌else◌, Option, None, Some, slice_get}
use Rattle.base.specs.Tests.{position}
use Rattle.base.specs.Bytes.{list_of}
use Rattle.base.specs.Search.{First}
use Rattle.base.proofs.Bytes.{length_list_of, list_of_at, map_list_of}
use Rattle.base.proofs.Search.{first_position}
use Rattle.ids.specs.Ids.{ROOT, same_tree}
use Rattle.ids.specs.declared.TreeId.{TreeId}
use Rattle.ids.specs.declared.TreeIndex.{TreeIndex}
use Rattle.ids.specs.declared.FullNodeId.{FullNodeId}
use Rattle.state.specs.State.{Forest, TreeEntry, subtree_state, subtree_of}
use Rattle.state.specs.declared.SubtreeState.{SubtreeState}
use Rattle.state.specs.Down.{root_of}
use Rattle.state_array.specs.View.{tree_in, entry_in, trees_of, view}
use Rattle.state_array.specs.declared.TreeRow.{TreeRow}
use Rattle.state_lookup.proofs.Trees.{state_of}
use Rattle.std.proofs.lemmas.Option.{slice_get-get_or, slice_get_past}
use Rattle.node_answers.specs.TreeState.{tree_id_at, tree_index_at, tree_ends}

-- ## A row of the table of trees

-- its tree id
abbrev id_of : Option TreeEntry → Option TreeId
id_of o = elim o [ None ↦ None | Some e ↦ Some e.id ]

-- its root and focus, where it is row k
abbrev ends_of : ℕ → Option TreeEntry → Option SubtreeState
ends_of k o = elim o [ None ↦ None | Some e ↦ state_of k e.subtree ]

module _ (s : List ℕ) (i : TreeIndex) where
  abbrev row : Option TreeEntry
  row = slice_get (view s).forest.trees i.0

  -- a number that is not taken
  row_past : trees_of s ≤ i.0 → row ≡ None
  unfolding view
  row_past h = slice_get_past (list_of (trees_of s) (entry_in s)) i.0 (rw length_list_of h)

  row_at : i.0 < trees_of s → row ≡ Some (entry_in s i.0)
  unfolding view
  row_at h =
      slice_get-get_or (list_of (trees_of s) (entry_in s)) i.0 (entry_in s 0) (rw length_list_of h)
      ∙ ap Some (list_of_at (trees_of s) i.0 (entry_in s) (entry_in s 0) h)

  pub no_id : trees_of s ≤ i.0 → None ≡ tree_id_at (view s).forest i
  unfolding tree_id_at
  no_id h = ap id_of (sym (row_past h))

  pub no_ends : trees_of s ≤ i.0 → None ≡ tree_ends (view s).forest i
  unfolding tree_ends
  no_ends h = ap (ends_of i.0) (sym (row_past h))

  module _ (h : i.0 < trees_of s) (t : TreeRow) (is : t ≡ tree_in s i.0) where
    pub tree_id_is : Some t.id ≡ tree_id_at (view s).forest i
    unfolding tree_id_at entry_in
    tree_id_is = ap (λ (r : TreeRow). Some r.id) is ∙ ap id_of (sym (row_at h))

    ends_at : tree_ends (view s).forest i ≡ state_of i.0 (if eqb t.exists 0 then None else Some (record { root = t.root; focus = t.focus }))
    unfolding tree_ends entry_in
    ends_at = rw is (ap (ends_of i.0) (row_at h))

    -- a tree that does not exist
    pub unborn_ends : t.exists ≡ 0 → None ≡ tree_ends (view s).forest i
    unborn_ends e = rw (ends_at, eq-eqb t.exists 0 e)

    -- one that does
    pub ends_are : (t.exists ≡ 0 → ⊥)
        → Some (record { root = record { tree = i; node = t.root }; focus = record { tree = i; node = t.focus } }) ≡ tree_ends (view s).forest i
    unfolding subtree_state
    ends_are e = rw (ends_at, ne_eqb t.exists 0 e)

-- ## ROOT's root

-- the root of a tree, if it exists
abbrev root_in : Option SubtreeState → Option FullNodeId
root_in o = elim o [ None ↦ None | Some u ↦ Some u.root ]

module _ (f : Forest) (r : Option SubtreeState) (found : r ≡ subtree_of f ROOT) where
  pub root_none : r ≡ None → None ≡ root_of f
  unfolding root_of
  root_none e = ap root_in (sym e ∙ found)

  pub root_at : (u : SubtreeState) → r ≡ Some u → Some u.root ≡ root_of f
  unfolding root_of
  root_at u e = ap root_in (sym e ∙ found)

-- ## The number of a tree id

module _ (s : List ℕ) (t : TreeId) (k : ℕ) (found : First (λ j. same_tree t (tree_in s j).id) (trees_of s) k) where
  index_at : tree_index_at (view s).forest t ≡ (if ltb k (trees_of s) then Some (record { 0 = k }) else None)
  unfolding tree_index_at view entry_in
  index_at =
      let at : position same_tree (map (λ e. e.id) (list_of (trees_of s) (entry_in s))) t ≡ k =
      rw (map_list_of (λ (e : TreeEntry). e.id) (trees_of s) (entry_in s)) (first_position same_tree t (trees_of s) (λ j. (tree_in s j).id) k found) in
      rw (at, length_list_of (trees_of s) (entry_in s))

  pub no_index : trees_of s ≤ k → None ≡ tree_index_at (view s).forest t
  no_index h = rw (index_at, le-ltb k (trees_of s) h)

  pub index_is : k < trees_of s → Some (record { 0 = k }) ≡ tree_index_at (view s).forest t
  index_is h = rw (index_at, lt-ltb k (trees_of s) h)
