-- Laws of roots that go, and of the table of trees after a batch, entry by entry. Assumes nothing.
use Rattle.record.specs.Parse.{batch_of}
use Rattle.state_array.specs.declared.TreeRow.{TreeRow}
use mathlib.Core.Bool.{Bool, true, false}
use mathlib.Core.List.{List, [], ◌∷◌, map}
use mathlib.Core.Path.{◌≡◌, refl, sym, ap, ◌∙◌}
use Prim.Native.Nat.{ℕ, zero, suc, ◌+◌, ◌<◌, ◌≤◌}
use native.Mathlib.Nat.{add-zero, zero-add}
use native.Mathlib.Decide.{dec_lt}
use native.Mathlib.Omega.{arith}
use lib.Dec.{eqb, ltb}
use lib.ListN.{length, get_or, length-append, length-map, get_or-append}
use lib.Seq.{get_or-append-add}
use borrow.Author.Tests.{lt-ltb, le-ltb, eqb-true, eqb-false, eq-eqb, ne_eqb}
use Rattle.std.specs.Prelude.{if◌then◌else◌, Option, None, Some, option_map}
use Rattle.base.specs.Tests.{◌and◌, position}
use Rattle.base.specs.Bytes.{list_of}
use Rattle.base.specs.Search.{First}
use Rattle.base.proofs.Bytes.{length_list_of, list_of_at, map_list_of}
use Rattle.ids.specs.Ids.{same_tree}
use Rattle.ids.proofs.Ids.{same_tree→≡}
use Rattle.ids.specs.declared.TreeId.{TreeId}
use Rattle.ids.specs.declared.NodeId.{NodeId}
use Rattle.ids.specs.declared.TreeIndex.{TreeIndex}
use Rattle.ids.specs.declared.FullNodeId.{FullNodeId}
use Rattle.record.specs.Batch.{Batch}
use Rattle.state.specs.State.{Subtree, TreeEntry, Forest, subtree_state, subtree_of}
use Rattle.state.specs.declared.SubtreeState.{SubtreeState}
use Rattle.state_array.specs.View.{tree_in, entry_in, trees_of, view, slots_of}
use Rattle.state_array.specs.Stored.{no_tree, tree_row}
use Rattle.state_lookup.proofs.Trees.{state_of, tree_absent, tree_unborn, tree_there}
use Rattle.update.specs.Words.{known, tree_number, here, root_after}
use Rattle.update.specs.Gone.{gone}
use Rattle.update.specs.Outcome.{subtree_here, subtree_elsewhere, entry_after, entries_after, new_entry, outcome}
use Rattle.update.proofs.Sound.{length_entries_after}
use Rattle.calls.specs.declared.notes.Scope.{Scope}
use Rattle.calls.specs.Setting.{root_in, asked, forest, Given}
use Rattle.calls.proofs.notes.Positions.{first_cong, position_first, has_position}
use Rattle.calls.specs.Trees.{trees_after, tree_after, own_entry, trees_counted, marked_gone}
use Rattle.calls.specs.Layout.{FATES}
use Rattle.calls.specs.Codes.{id_at, slot_at}
use Rattle.calls.specs.Says.{Told, PLANNED, goes_word}
use Rattle.calls.proofs.Outcome.Codes.{gone_absent}
use Rattle.calls.proofs.notes.Places.{slot_present, slot_id}
use Rattle.update_focus.proofs.Numbers.{forest_length}
use Rattle.base.proofs.Tests.{bit_is}
use Rattle.base.proofs.Cases.{by_order}

-- ## How many trees

module _ (s : Forest) (b : Batch) where
  -- a tree id is known if its number is one of the table's
  known_number : known s b ≡ ltb (tree_number s b).0 (length s.trees)
  unfolding known tree_number
  known_number =
      has_position same_tree b.tree (map (λ e. e.id) s.trees)
      ∙ ap (ltb (position same_tree (map (λ e. e.id) s.trees) b.tree)) (length-map s.trees (λ e. e.id))

  -- a known tree keeps its number, another takes the next
  trees_length : length (outcome s b).trees ≡ (if ltb (tree_number s b).0 (length s.trees) then length s.trees else length s.trees + 1)
  unfolding outcome new_entry
  trees_length = rw (← known_number, length-append, length_entries_after s b 0 s.trees) (go (known s b))
    where
      go : (t : Bool) → length s.trees + length {A = TreeEntry} (if t then [] else record { id = b.tree; subtree = subtree_here s b None } ∷ [])
          ≡ (if t then length s.trees else length s.trees + 1)
      go true = add-zero (length s.trees)
      go false = refl

  -- ## Entries by index

  -- an entry of a table that has numbers from k on
  entries_at : (k : ℕ) (es : List TreeEntry) (i : ℕ) → i < length es → get_or (entries_after s b k es) i no_tree ≡ entry_after s b (k + i) (get_or es i no_tree)
  unfolding entries_after
  entries_at k [] i h = absurd (omega arith)
  entries_at k (e ∷ es) zero h = rw (add-zero k)
  entries_at k (e ∷ es) (suc i) h = let next : suc k + i ≡ k + suc i = omega arith in rw (← next) (entries_at (suc k) es i (omega arith))

  -- a tree that had a number
  old_tree : (i : ℕ) → i < length s.trees → get_or (outcome s b).trees i no_tree ≡ entry_after s b i (get_or s.trees i no_tree)
  unfolding outcome
  old_tree i h =
      get_or-append (entries_after s b 0 s.trees) (new_entry s b) no_tree i (omega (arith, length_entries_after s b 0 s.trees))
      ∙ entries_at 0 s.trees i h
      ∙ ap (λ k. entry_after s b k (get_or s.trees i no_tree)) (zero-add i)

  -- a tree that takes the next
  new_tree : known s b ≡ false → get_or (outcome s b).trees (length s.trees) no_tree ≡ record { id = b.tree; subtree = subtree_here s b None }
  unfolding outcome new_entry
  new_tree e =
      let last : length s.trees ≡ length (entries_after s b 0 s.trees) + 0 = omega (arith, length_entries_after s b 0 s.trees) in
      rw (e, last) (get_or-append-add (entries_after s b 0 s.trees) (record { id = b.tree; subtree = subtree_here s b None } ∷ []) 0 no_tree)

-- ## The batch's tree

-- what a root gives, with a focus
rooted : NodeId → Option FullNodeId → Option Subtree
rooted f None = None
rooted f (Some x) = Some (record { root = x.node; focus = f })

-- by the root that the scope names
own_subtree : (c : Scope) (focus : NodeId) → option_map (λ x. record { root = x; focus = focus }) c.root ≡ rooted focus (root_in c)
unfolding root_in rooted
own_subtree c focus = go c.root
  where
    go : (o : Option NodeId) → option_map (λ x. record { root = x; focus = focus }) o ≡ rooted focus (option_map (λ x. record { tree = c.tree; node = x }) o)
    go None = refl
    go (Some x) = refl

-- by what the tree was
root_subtree : (s : Forest) (b : Batch) (k : ℕ) (was : Option Subtree) → subtree_of s b.tree ≡ state_of k was
    → rooted b.focus (root_after s b) ≡ subtree_here s b was
unfolding root_after subtree_here rooted subtree_state here
root_subtree s b k was e = go b.root (subtree_of s b.tree) was e
  where
    go : (o : Option NodeId) (t : Option SubtreeState) (was : Option Subtree) → t ≡ state_of k was
        → rooted b.focus (elim o as (λ _. Option FullNodeId) [ Some r ↦ Some (here s b r) | None ↦ elim t as (λ _. Option FullNodeId) [ None ↦ None | Some u ↦ Some u.root ] ])
        ≡ elim o as (λ _. Option Subtree) [ Some r ↦ Some (record { root = r; focus = b.focus }) | None ↦ elim was as (λ _. Option Subtree) [ None ↦ None | Some u ↦ Some (record { root = u.root; focus = b.focus }) ] ]
    go (Some r) t was q = refl
    go None t None q = rw q
    go None t (Some u) q = rw q

-- ## Roots that go

-- the mark of a node, as the code reads it
module _ (state notes : List ℕ) (x : FullNodeId) {i n : ℕ} (slot : i ≡ slot_at (forest state) x) (count : n ≡ slots_of state) where
  pub absent_stays : n ≤ i → false ≡ marked_gone state notes x
  unfolding marked_gone ◌and◌
  absent_stays h = rw (le-ltb (slot_at (forest state) x) (slots_of state) (omega (arith, slot)))

  pub mark_tells : i < n → eqb (get_or notes (FATES + i) 0) 1 ≡ marked_gone state notes x
  unfolding marked_gone ◌and◌
  mark_tells h = rw (← slot, lt-ltb i (slots_of state) (omega arith))

-- and what it says
pub marked_gone_lem : {state bytes : List ℕ} {c : Scope} {notes : List ℕ} → Told PLANNED state bytes c notes → (x : FullNodeId)
    → marked_gone state notes x ≡ gone (forest state) (asked bytes c) x
unfolding marked_gone ◌and◌ goes_word
marked_gone_lem {state} {bytes} {c} {notes} told x = by_order (slot_at (forest state) x) (slots_of state) present absent
  where
    present : slot_at (forest state) x < slots_of state → marked_gone state notes x ≡ gone (forest state) (asked bytes c) x
    present h =
        rw (lt-ltb (slot_at (forest state) x) (slots_of state) h)
        (ap (λ (w : ℕ). eqb w 1) (told.written 9 (omega arith) (slot_at (forest state) x) h)
        ∙ bit_is (gone (forest state) (asked bytes c) (id_at (forest state) (slot_at (forest state) x)))
        ∙ ap (gone (forest state) (asked bytes c)) (slot_id (forest state) x (omega (arith, forest_length state))))

    absent : slots_of state ≤ slot_at (forest state) x → marked_gone state notes x ≡ gone (forest state) (asked bytes c) x
    absent h =
        rw (le-ltb (slot_at (forest state) x) (slots_of state) h)
        (sym (gone_absent (forest state) (asked bytes c) x
        (slot_present (forest state) x ∙ le-ltb (slot_at (forest state) x) (length (forest state).nodes) (omega (arith, forest_length state)))))

-- ## The trees after a batch

-- as the code counts them
module _ (state : List ℕ) (k : TreeIndex) {n : ℕ} (e : n ≡ trees_of state) where
  pub count_known : k.0 < n → n ≡ trees_counted state k
  unfolding trees_counted
  count_known h = rw (← e, lt-ltb _ _ h)

  pub count_new : n ≤ k.0 → n + 1 ≡ trees_counted state k
  unfolding trees_counted
  count_new h = rw (← e, le-ltb _ _ h)

module _ {state bytes : List ℕ} {c : Scope} (g : Given state bytes c) where
  abbrev s : Forest
  s = forest state

  abbrev b : Batch
  b = asked bytes c

  -- how many trees the table has
  table_length : length (forest state).trees ≡ trees_of state
  unfolding view
  table_length = length_list_of (trees_of state) (entry_in state)

  -- and after the batch
  pub trees_count : length (trees_after state bytes c) ≡ trees_counted state c.tree
  unfolding trees_counted
  trees_count = trees_length s b ∙ rw (table_length, ← g.scoped.tree)

  -- an entry of the table
  entry_at : (i : ℕ) → i < trees_of state → get_or (forest state).trees i no_tree ≡ entry_in state i
  unfolding view
  entry_at i h = list_of_at (trees_of state) i (entry_in state) no_tree h

  -- what a search of the table for the batch's tree answers
  number_first : First (λ k. same_tree (asked bytes c).tree (tree_in state k).id) (trees_of state) c.tree.0
  unfolding tree_number view entry_in asked
  number_first =
      let id : ℕ → TreeId = λ k. (tree_in state k).id in
      rw (g.scoped.tree, map_list_of {A = TreeEntry} {B = TreeId} (λ e. e.id) (trees_of state) (entry_in state))
      (first_cong _ _ (trees_of state) (position same_tree (list_of (trees_of state) id) (asked bytes c).tree) (λ i l. ap (same_tree (asked bytes c).tree) (list_of_at (trees_of state) i id (asked bytes c).tree l))
      (rw length_list_of at (position_first same_tree (asked bytes c).tree (asked bytes c).tree (list_of (trees_of state) id))))

  -- what the batch's tree was
  was_known : c.tree.0 < trees_of state → subtree_of s b.tree ≡ state_of c.tree.0 (entry_in state c.tree.0).subtree
  unfolding entry_in subtree_state
  was_known h = go (eqb (tree_in state c.tree.0).exists 0) refl
    where
      go : (t : Bool) → eqb (tree_in state c.tree.0).exists 0 ≡ t → subtree_of s b.tree ≡ state_of c.tree.0 (entry_in state c.tree.0).subtree
      go true q = tree_unborn state b.tree c.tree.0 number_first h (eqb-true _ 0 q) ∙ rw q
      go false q = tree_there state b.tree c.tree.0 number_first h (eqb-false _ 0 q) ∙ rw q

  -- its entry, by what it was
  own_entry_lem : (k : ℕ) (old : Option Subtree) → subtree_of s b.tree ≡ state_of k old → record { id = b.tree; subtree = subtree_here s b old } ≡ own_entry b c
  unfolding own_entry
  own_entry_lem k old e =
      let p : subtree_here s b old ≡ option_map (λ x. record { root = x; focus = b.focus }) c.root =
      sym (own_subtree c b.focus ∙ ap (rooted b.focus) g.scoped.root ∙ root_subtree s b k old e) in
      λ z. record { id = b.tree; subtree = p z }

  -- THE BATCH'S TREE
  own_tree : (i : ℕ) → i ≡ c.tree.0 → tree_after state bytes c i ≡ own_entry (asked bytes c) c
  unfolding entry_after entry_in asked
  own_tree i e = rw e (go (dec_lt c.tree.0 (trees_of state)))
    where
      go : Dec (c.tree.0 < trees_of state) → tree_after state bytes c c.tree.0 ≡ own_entry b c
      go (yes h) =
          let same : (tree_in state c.tree.0).id ≡ b.tree = sym (same_tree→≡ b.tree (tree_in state c.tree.0).id (number_first.hit h)) in
          let here : c.tree.0 ≡ (tree_number s b).0 = ap (λ t. t.0) g.scoped.tree in
          old_tree s b c.tree.0 (omega (arith, table_length))
          ∙ rw (entry_at c.tree.0 h, eq-eqb c.tree.0 (tree_number s b).0 here)
          ((λ z. record { id = same z; subtree = subtree_here s b (entry_in state c.tree.0).subtree }) ∙ own_entry_lem c.tree.0 (entry_in state c.tree.0).subtree (was_known h))
      go (no h) =
          let last : c.tree.0 ≡ length s.trees = omega (arith, number_first.within, table_length) in
          let unknown : known s b ≡ false = known_number s b ∙ rw (← g.scoped.tree) (le-ltb c.tree.0 (length s.trees) (omega arith)) in
          rw last (new_tree s b unknown) ∙ own_entry_lem c.tree.0 None (tree_absent state b.tree c.tree.0 number_first (omega arith))

  pub own_row : {i : ℕ} {r : TreeRow} → i ≡ c.tree.0 → r ≡ tree_row (own_entry (batch_of bytes) c) → r ≡ tree_row (tree_after state bytes c i)
  unfolding own_entry asked
  own_row {i} e q = q ∙ ap tree_row (sym (own_tree i e))

  -- ANY OTHER TREE
  module _ {i : ℕ} (among : i < length (trees_after state bytes c)) (other : i ≡ c.tree.0 → ⊥) where
    -- it had a number
    other_old : i < trees_of state
    unfolding trees_counted
    other_old = go (dec_lt c.tree.0 (trees_of state))
      where
        go : Dec (c.tree.0 < trees_of state) → i < trees_of state
        go (yes h) = rw (trees_count, lt-ltb c.tree.0 (trees_of state) h) at among
        go (no h) =
            let more : i < trees_of state + 1 = rw (trees_count, le-ltb c.tree.0 (trees_of state) (omega arith)) at among in
            omega (arith, number_first.within)

    -- its entry
    other_entry : tree_after state bytes c i ≡ record { id = (tree_in state i).id; subtree = subtree_elsewhere s b i (entry_in state i).subtree }
    unfolding entry_after entry_in
    other_entry =
        old_tree s b i (omega (arith, other_old, table_length))
        ∙ rw (entry_at i other_old, ne_eqb i (tree_number s b).0 (λ e. other (e ∙ ap (λ t. t.0) (sym g.scoped.tree))))

    -- as the row of the table says it
    module _ {row : TreeRow} (row_is : row ≡ tree_in state i) where
      -- it did not exist
      pub other_unborn : {r : TreeRow} → row.exists ≡ 0 → r ≡ tree_row (record { id = row.id; subtree = None }) → r ≡ tree_row (tree_after state bytes c i)
      unfolding entry_in subtree_elsewhere
      other_unborn e q = q ∙ ap tree_row (rw row_is (sym (other_entry ∙ rw (eq-eqb (tree_in state i).exists 0 (rw row_is at e)))))

      -- it exists while its root stays
      module _ {notes : List ℕ} (told : Told PLANNED state bytes c notes) (born : row.exists ≡ 0 → ⊥) {t : Bool}
          (goes : t ≡ marked_gone state notes (record { tree = record { 0 = i }; node = row.root })) where
        other_born : record { id = row.id; subtree = if t then None else Some (record { root = row.root; focus = row.focus }) } ≡ tree_after state bytes c i
        unfolding entry_in subtree_elsewhere
        other_born = rw row_is (sym (other_entry ∙ rw (ne_eqb (tree_in state i).exists 0 (rw row_is at born), rw row_is at (goes ∙ marked_gone_lem told (record { tree = record { 0 = i }; node = row.root })))))

        pub other_gone : {r : TreeRow} → t ≡ true → r ≡ tree_row (record { id = row.id; subtree = None }) → r ≡ tree_row (tree_after state bytes c i)
        other_gone e q = q ∙ ap tree_row (rw e at other_born)

        pub other_stays : {r : TreeRow} → t ≡ false → r ≡ tree_row (record { id = row.id; subtree = Some (record { root = row.root; focus = row.focus }) }) → r ≡ tree_row (tree_after state bytes c i)
        other_stays e q = q ∙ ap tree_row (rw e at other_born)
