-- What the parts of the decider say of the definition: each law ties a contract over the words to a part of `sound_shape` or `sound`.
-- Assumes nothing.
use mathlib.Core.Bool.{Bool, true, false}
use mathlib.Core.List.{List, [], ◌∷◌, append-nil}
use Rattle.std.specs.Prelude.{None, Some}
use mathlib.Core.Path.{◌≡◌, sym, ◌∙◌}
use Prim.Native.Nat.{ℕ, ◌≤◌, ◌<◌}
use native.Mathlib.Omega.{arith}
use lib.Dec.{eqb}
use lib.ListN.{length}
use borrow.Author.Tests.{eq-eqb, ne_eqb, le-leb, leb-true}
use Rattle.base.specs.Tests.{◌and◌, all}
use Rattle.base.specs.Search.{First}
use Rattle.base.proofs.Cases.{by_test}
use Rattle.base.proofs.Tests.{and_right, and_false, and_comm, and_assoc, and_swap, call_false, clash, refuted}
use Rattle.base.proofs.Bytes.{length_list_of}
use Rattle.ids.specs.declared.FullNodeId.{FullNodeId}
use Rattle.record.specs.Batch.{fields_ok}
use Rattle.state.specs.State.{Forest}
use Rattle.state.specs.Down.{below_id, root_of}
use Rattle.state.specs.Sound.{root_first, sound_links, sound_trees, ascending, sound_shape, focus_present, sound, recorded}
use Rattle.state_array.specs.View.{tree_in, link_in, link_of, node_in, entry_in, slots_of, trees_of, view}
use Rattle.state.proofs.Sound.{shape_parts, sound_parts}
use Rattle.state_lookup.specs.Lookup.{stands_at, in_order, SlotOf}
use Rattle.state_array.specs.declared.LinkRow.{LinkRow}
use Rattle.state_array.specs.declared.TreeRow.{TreeRow}
use Rattle.state_sound.specs.Counted.{counted}
use Rattle.state_sound.specs.Parts.{sound_grafts, start_in, counted_below, counted_all}
use Rattle.state_sound.proofs.Pigeons.{links_counted}
use Rattle.state_rules.proofs.Trees.{root_is}
use Rattle.state_sound.proofs.Walks.{counted_refused, counted_on, recorded_absent, recorded_there, below_there}

-- over ids that ascend, the shape is the rules that do not go down, and the way down in one pass
by_passes : (s : Forest) (r : FullNodeId) → (root_first s.trees ≡ true → root_of s ≡ Some r) → ascending s.nodes ≡ true
    → sound_shape s ≡ sound_grafts s and counted (length s.nodes) s (record { id = r; link = None } ∷ [])
unfolding sound_shape sound_links sound_trees sound_grafts ◌and◌
by_passes s r root up =
    by_test (root_first s.trees) (λ h. rw (← links_counted s r (root h) up, up, h) (simp (and_right, and_comm, and_assoc, and_swap)))
    (λ h. rw h (simp and_false))

module _ (s : List ℕ) where
  -- the forest that the state shows
  abbrev f : Forest
  f = (view s).forest

  -- how many nodes it has, and how many trees
  many : length f.nodes ≡ slots_of s
  unfolding view
  many = length_list_of (slots_of s) (node_in s)

  taken : length f.trees ≡ trees_of s
  unfolding view
  taken = length_list_of (trees_of s) (entry_in s)

  -- the shape over ids in order, and over ids out of order
  pub shape_ordered : ascending f.nodes ≡ true → sound_shape f ≡ sound_grafts f and counted_all s
  unfolding counted_all
  shape_ordered up = rw (← many) (by_passes f (start_in s).id (root_is s) up)

  pub shape_unordered : {o : Bool} → o ≡ ascending f.nodes → o ≡ false → false ≡ sound_shape f
  shape_unordered q e = sym (refuted (λ h. clash (call_false q e) (shape_parts f h).ordered))

  -- ## From the root

  module _ {n r : ℕ} {t : TreeRow} (slots : n ≡ slots_of s) (row : t ≡ tree_in s 0) (slot : SlotOf s (record { tree = record { 0 = 0 }; node = t.root }) r)
      (up : in_order s ≡ true) where
    found : First (stands_at s (start_in s).id) (slots_of s) r
    found = rw row at (slot.first up)

    -- an absent root
    pub linked_absent : n ≤ r → false ≡ counted_all s
    unfolding counted_all
    linked_absent h = sym (counted_refused f (start_in s) [] (slots_of s) (recorded_absent s (start_in s).id r found None (rw slots at h)))

    module _ (h : r < n) {l : LinkRow} (is : l ≡ link_in s r) where
      told : recorded f.nodes (start_in s) ≡ eqb l.linked 0
      unfolding link_of
      told = recorded_there s (start_in s).id r found None (rw slots at h) ∙ rw (← is) (by_test (eqb l.linked 0) (λ e. rw e) (λ e. rw e))

      -- a root with a parent, and one without
      pub linked_parented : (l.linked ≡ 0 → ⊥) → false ≡ counted_all s
      unfolding counted_all
      linked_parented p = sym (counted_refused f (start_in s) [] (slots_of s) (told ∙ ne_eqb l.linked 0 p))

      pub linked_below : l.linked ≡ 0 → {z : Bool} → z ≡ counted_below s r → z ≡ counted_all s
      unfolding counted_all counted_below
      linked_below p e =
          let there : r < slots_of s = rw slots at h in
          e ∙ sym (counted_on f (start_in s) [] (slots_of s) (omega arith) (told ∙ eq-eqb l.linked 0 p)
          ∙ rw (append-nil (below_id f (start_in s).id), below_there s (start_in s).id r found there))

  -- ## The whole

  -- too many nodes, and too many trees
  pub sound_crowded : {n : ℕ} → n ≡ slots_of s → 256 < n → false ≡ sound f
  sound_crowded slots h = sym (refuted (λ e. omega (arith, leb-true (length f.nodes) 256 (sound_parts f e).few_nodes, many)))

  pub sound_overgrown : {m : ℕ} → m ≡ trees_of s → 32 < m → false ≡ sound f
  sound_overgrown trees h = sym (refuted (λ e. omega (arith, leb-true (length f.trees) 32 (sound_parts f e).few_trees, taken)))

  -- what is left of soundness where there are not too many
  pub sound_small : slots_of s ≤ 256 → trees_of s ≤ 32 → sound f ≡ sound_shape f and all (λ k. fields_ok k.body) f.nodes and focus_present f
  unfolding sound
  sound_small few_nodes few_trees =
      rw (le-leb (length f.nodes) 256 (omega (arith, many)), le-leb (length f.trees) 32 (omega (arith, taken))) (simp and_right)
