-- The links of the node in a slot, from its words: the link that it records, its children, the first sibling on a side. Assumes nothing.
use mathlib.Core.Bool.{Bool, true, false}
use mathlib.Core.List.{List, [], ◌∷◌, map}
use Rattle.std.proofs.lemmas.Option.{none-some, same_Some}
use mathlib.Core.Path.{◌≡◌, refl, sym, ap, ◌∙◌}
use Prim.Native.Nat.{ℕ, zero, suc, ◌+◌, ◌≤◌, ◌<◌}
use native.Mathlib.Decide.{dec_lt}
use native.Mathlib.Omega.{arith}
use lib.ListN.{length, get_or}
use borrow.Author.Tests.{eq-eqb, ne_eqb}
use Rattle.std.specs.Prelude.{if◌then◌else◌, Option, None, Some}
use Rattle.base.specs.Bytes.{bit, list_of}
use Rattle.base.proofs.Bytes.{map_list_of, length_list_of, list_of_at}
use Rattle.ids.specs.declared.FullNodeId.{FullNodeId}
use Rattle.ids.specs.declared.NodeId.{NodeId}
use Rattle.record.specs.Batch.{graft?}
use Rattle.state.specs.State.{ParentAndIndex, Forest, link_at, parent_at, subtree_of}
use Rattle.state.specs.declared.SubtreeState.{SubtreeState}
use Rattle.state.specs.Down.{Met, met_under, children_met, below, below_id}
use Rattle.state.proofs.Family.{parent_present}
use Rattle.state_array.specs.declared.LinkRow.{LinkRow}
use Rattle.state_array.specs.declared.ShapeRow.{ShapeRow}
use Rattle.state_array.specs.Layout.{child}
use Rattle.state_array.specs.View.{id_in, link_in, link_of, shape_in, children_in, body_in, node_in, slots_of, view}
use Rattle.state_lookup.specs.Lookup.{SlotOf}
use Rattle.questions.specs.Links.{child_ids}
use Rattle.question_calls.specs.Slots.{Sound, slot_id}
use Rattle.question_calls.proofs.links.Slots.{slot_shape, slot_found, slot_id_some, slot_id_none, slot_of_present}

-- ## Lists of ids

-- a node number in a node's tree
abbrev in_tree : FullNodeId → NodeId → FullNodeId
in_tree p c = record { tree = p.tree; node = c }

ids_met : (p : FullNodeId) (i : ℕ) (cs : List NodeId) → map (λ m. m.id) (children_met p i cs) ≡ map (in_tree p) cs
unfolding children_met met_under
ids_met p i [] = refl
ids_met p i (c ∷ cs) = ap (λ (xs : List FullNodeId). in_tree p c ∷ xs) (ids_met p (suc i) cs)

-- the child of a graft
abbrev roots_of : Option SubtreeState → List FullNodeId
roots_of o = elim o [ None ↦ [] | Some u ↦ u.root ∷ [] ]

abbrev met_at : FullNodeId → Option SubtreeState → List Met
met_at x o = elim o [ None ↦ [] | Some u ↦ met_under x 0 u.root ∷ [] ]

ids_graft : (x : FullNodeId) (o : Option SubtreeState) → map (λ m. m.id) (met_at x o) ≡ roots_of o
unfolding met_under
ids_graft x None = refl
ids_graft x (Some u) = refl

-- ## A node by its slot

module _ (s : List ℕ) (h : Sound s) (i : ℕ) (there : i < slots_of s) where
  abbrev f : Forest
  f = (view s).forest

  abbrev x : FullNodeId
  x = id_in s i

  -- ## Up

  slot_link : link_at f.nodes x ≡ link_of (link_in s i)
  unfolding link_at node_in
  slot_link = rw (slot_found s h i there, link_at) refl

  module _ (l : LinkRow) (read : l ≡ link_in s i) where
    -- the link that the words say
    pub link_none : l.linked ≡ 0 → link_at f.nodes x ≡ None
    unfolding link_of
    link_none e = slot_link ∙ rw (← read, eq-eqb l.linked 0 e)

    pub link_some : (l.linked ≡ 0 → ⊥) → link_at f.nodes x ≡ Some (record { parent = l.parent; index = l.index })
    unfolding link_of
    link_some e = slot_link ∙ rw (← read, ne_eqb l.linked 0 e)

    -- the parent's slot
    pub parent_none : (n : ℕ) → l.linked ≡ 0 → n ≡ slots_of s → slot_id s n ≡ parent_at f.nodes x
    unfolding parent_at
    parent_none n e q = slot_id_none s n (omega arith) ∙ sym (rw (link_none e, parent_at) refl)

    pub parent_some : (r : ℕ) → (l.linked ≡ 0 → ⊥) → SlotOf s l.parent r → slot_id s r ≡ parent_at f.nodes x
    unfolding parent_at
    parent_some r e found =
        slot_of_present s h l.parent r found (parent_present f (slot_shape s h) x _ (link_some e))
        ∙ sym (rw (link_some e, parent_at) refl)

  -- ## The link by the parent's slot

  abbrev Linked : Option ParentAndIndex → Type 0
  Linked o = link_at f.nodes x ≡ o

  module _ (p : ℕ) (up : slot_id s p ≡ parent_at f.nodes x) where
    -- a node without a parent
    pub unlinked : slots_of s ≤ p → Linked None
    unfolding parent_at
    unlinked m = go (link_at f.nodes x) refl
      where
        go : (o : Option ParentAndIndex) → Linked o → Linked None
        go None q = q
        go (Some k) q = absurd (none-some k.parent (sym (slot_id_none s p m) ∙ up ∙ rw (q, parent_at) refl))

    -- one with a parent
    pub linked : p < slots_of s → Linked (Some (record { parent = id_in s p; index = (link_in s i).index }))
    unfolding parent_at
    linked m = go (dec_lt 0 (link_in s i).linked)
      where
        go : Dec (0 < (link_in s i).linked) → Linked (Some (record { parent = id_in s p; index = (link_in s i).index }))
        go (yes a) =
            let q = link_some (link_in s i) refl (λ z. omega arith) in
            let parent : Some (link_in s i).parent ≡ Some (id_in s p) = sym (rw (q, parent_at) refl) ∙ sym up ∙ slot_id_some s p m in
            q
            ∙ ap (λ (y : FullNodeId). Some (record { parent = y; index = (link_in s i).index })) (same_Some (link_in s i).parent (id_in s p) parent)
        go (no a) =
            let q = link_none (link_in s i) refl (omega arith) in
            absurd (none-some (id_in s p) (sym (rw (q, parent_at) refl) ∙ sym up ∙ slot_id_some s p m))

  -- ## Down

  slot_below : below_id f x ≡ below f (node_in s i)
  unfolding below_id
  slot_below = rw (slot_found s h i there, below_id) refl

  -- by what the row says
  abbrev kids : ShapeRow → List FullNodeId
  kids d = if bit 8 d.flags then roots_of (subtree_of f d.graft) else map (in_tree x) (children_in s x.node d)

  slot_kids : child_ids f x ≡ kids (shape_in s i)
  unfolding child_ids below node_in body_in graft?
  slot_kids = ap (map (λ (m : Met). m.id)) slot_below ∙ go (bit 8 (shape_in s i).flags)
    where
      go : (b : Bool)
          → map (λ (m : Met). m.id) (elim (if b then Some (shape_in s i).graft else None) as (λ _. List Met) [
            | None ↦ children_met x 0 (children_in s x.node (shape_in s i))
            | Some t ↦ met_at x (subtree_of f t)
          ]) ≡ (if b then roots_of (subtree_of f (shape_in s i).graft) else map (in_tree x) (children_in s x.node (shape_in s i)))
      go false = ids_met x 0 (children_in s x.node (shape_in s i))
      go true = ids_graft x (subtree_of f (shape_in s i).graft)

  module _ (d : ShapeRow) (read : d ≡ shape_in s i) where
    -- child k of a node that grafts nothing
    abbrev kid_at : ℕ → FullNodeId
    kid_at k = in_tree x (record { 0 = child s x.node.0 (d.first_child + k) })

    -- the children of a node that grafts nothing, and of a graft
    kids_plain : bit 8 d.flags ≡ false → child_ids f x ≡ list_of d.child_count kid_at
    unfolding children_in
    kids_plain e = slot_kids ∙ ap kids (sym read) ∙ rw e (map_list_of (in_tree x) d.child_count (λ k. record { 0 = child s x.node.0 (d.first_child + k) }))

    kids_graft : bit 8 d.flags ≡ true → (r : Option SubtreeState) → r ≡ subtree_of f d.graft → child_ids f x ≡ roots_of r
    kids_graft e r q = slot_kids ∙ ap kids (sym read) ∙ rw (e, q) refl

    -- how many there are
    pub count_plain : bit 8 d.flags ≡ false → d.child_count ≡ length (child_ids f x)
    count_plain e = sym (ap length (kids_plain e) ∙ length_list_of d.child_count kid_at)

    -- the one at a place
    pub kid_plain : bit 8 d.flags ≡ false → (y : FullNodeId) (k : ℕ) (c : NodeId) → y ≡ x
        → c ≡ record { 0 = child s y.node.0 (d.first_child + k) } → k < length (child_ids f x)
        → record { tree = y.tree; node = c } ≡ get_or (child_ids f x) k x
    kid_plain e y k c p q l =
        let within : k < d.child_count = rw (← count_plain e) at l in
        rw (q, p) (sym (ap (λ (xs : List FullNodeId). get_or xs k x) (kids_plain e) ∙ list_of_at d.child_count k kid_at x within))

    module _ (e : bit 8 d.flags ≡ true) (r : Option SubtreeState) (q : r ≡ subtree_of f d.graft) where
      -- a graft whose tree does not exist has no child
      kids_lost : r ≡ None → child_ids f x ≡ []
      kids_lost z = kids_graft e r q ∙ rw z refl

      pub count_lost : r ≡ None → 0 ≡ length (child_ids f x)
      count_lost z = sym (ap length (kids_lost z))

      -- one whose tree exists has that tree's root
      kids_root : (u : SubtreeState) → r ≡ Some u → child_ids f x ≡ u.root ∷ []
      kids_root u z = kids_graft e r q ∙ rw z refl

      pub count_root : (u : SubtreeState) → r ≡ Some u → 1 ≡ length (child_ids f x)
      count_root u z = sym (ap length (kids_root u z))

      pub kid_root : (u : SubtreeState) → r ≡ Some u → (k : ℕ) → k < length (child_ids f x) → u.root ≡ get_or (child_ids f x) k x
      kid_root u z k l = rw (kids_root u z) (go k (rw (kids_root u z) at l))
        where
          go : (k : ℕ) → k < 1 → u.root ≡ get_or (u.root ∷ []) k x
          go zero l = refl
          go (suc k) l = absurd (omega arith)
