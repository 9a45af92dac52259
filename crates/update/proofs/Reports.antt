-- Laws of the reports: what the four lists hold, that they are sorted, and the lent slice. Assumes nothing.
use mathlib.Core.Bool.{Bool, true, false, not, ◌||◌, false≢true, true≢false}
use mathlib.Core.List.{List, [], ◌∷◌}
use mathlib.Core.Path.{◌≡◌, refl, sym, ap, ap₂, ◌∙◌}
use Prim.Native.Nat.{ℕ, ◌≤◌}
use native.Mathlib.Omega.{arith}
use lib.ListN.{length, length-append, length-drop}
use Rattle.std.specs.Prelude.{if◌then◌else◌, Option, None, Some}
use Rattle.base.specs.Tests.{◌and◌, is_some, keep, same_option, has, distinct, all}
use Rattle.base.proofs.Tests.{both, joined, all_keep, has_keep, all_member}
use Rattle.base.proofs.Lists.{all_map, any_found}
use Rattle.ids.specs.Ids.{same_node, same_id, before}
use Rattle.ids.proofs.Ids.{same_id→≡, same_id_refl, same_id_sym, before_self, before_apart, before_trans}
use Rattle.ids.specs.declared.FullNodeId.{FullNodeId}
use Rattle.record.specs.Batch.{NodeData, fields_ok, same_data, Batch, listed_ids}
use Rattle.record.proofs.Batch.{same_data_refl}
use Rattle.state.specs.State.{ParentAndIndex, same_link, NodeState, ids_of, Forest, find, present, link_at, parent_of, parent_at}
use Rattle.state.specs.Sound.{ascending, sound_shape, sound}
use Rattle.state.proofs.State.{present_has}
use Rattle.state.proofs.Order.{ascending_keep}
use Rattle.state.proofs.Sound.{shape_parts, sound_parts}
use Rattle.update.specs.Words.{listing, mine, listed}
use Rattle.update.specs.Gone.{gone}
use Rattle.update.specs.Outcome.{renewed, written, link_after, outcome}
use Rattle.update.specs.Reports.{Changes, sorted, added, removed, is_updated, updated, is_relinked, relinked, changes_with, changes_of, change_words, slice_after}
use Rattle.update.proofs.Gone.{gone_old}
use Rattle.update.proofs.Outcome.{old_written, present_outcome, body_after, node_after, find_old_outcome}
use Rattle.update.proofs.Write.{listing_some}

-- an id that comes before all of a list does not stand in it
not_among : (x : FullNodeId) (xs : List FullNodeId) → all (before x) xs ≡ true → has same_id xs x ≡ false
not_among x [] e = refl
not_among x (y ∷ ys) e = rw (same_id_sym x y ∙ before_apart x y (both e).0) (not_among x ys (both e).1)

-- an id of a list comes after what comes before all of it
comes_after : (y : FullNodeId) (xs : List FullNodeId) (x : FullNodeId) → all (before y) xs ≡ true → has same_id xs x ≡ true → before y x ≡ true
comes_after y xs x e h = let f = any_found (same_id x) xs h in ap (before y) (same_id→≡ x f.0 f.2) ∙ all_member (before y) xs f.0 e f.1

-- two sorted lists with the same members are the same list
pub same_members : (xs ys : List FullNodeId) → sorted xs ≡ true → sorted ys ≡ true → ((z : FullNodeId) → has same_id xs z ≡ has same_id ys z) → xs ≡ ys
unfolding sorted
same_members [] [] p q h = refl
same_members [] (y ∷ ys) p q h = absurd (false≢true (h y ∙ ap (λ (c : Bool). c || has same_id ys y) (same_id_refl y)))
same_members (x ∷ xs) [] p q h = absurd (true≢false (sym (ap (λ (c : Bool). c || has same_id xs x) (same_id_refl x)) ∙ h x))
same_members (x ∷ xs) (y ∷ ys) p q h = go (same_id x y) refl (same_members xs ys (both p).1 (both q).1)
  where
    go : (c : Bool) → same_id x y ≡ c → (((z : FullNodeId) → has same_id xs z ≡ has same_id ys z) → xs ≡ ys) → ◌≡◌ {A = List FullNodeId} (x ∷ xs) (y ∷ ys)
    go true e r = λ i. heads i ∷ r (λ z. rest z (same_id z x) refl) i
      where
        heads : x ≡ y
        heads = same_id→≡ x y e

        rest : (z : FullNodeId) (c : Bool) → same_id z x ≡ c → has same_id xs z ≡ has same_id ys z
        rest z true f = rw (same_id→≡ z x f) (not_among x xs (both p).0 ∙ sym (rw heads (not_among y ys (both q).0)))
        rest z false f =
            sym (ap (λ (c : Bool). c || has same_id xs z) f) ∙ h z ∙ ap (λ (c : Bool). c || has same_id ys z) (ap (same_id z) (sym heads) ∙ f)
    go false e r = absurd (true≢false (sym (before_trans x y x (comes_after x xs y (both p).0 later) (comes_after y ys x (both q).0 earlier)) ∙ before_self x))
      where
        earlier : has same_id ys x ≡ true
        earlier = sym (ap (λ (c : Bool). c || has same_id ys x) e) ∙ sym (h x) ∙ ap (λ (c : Bool). c || has same_id xs x) (same_id_refl x)

        later : has same_id xs y ≡ true
        later = sym (ap (λ (c : Bool). c || has same_id xs y) (same_id_sym y x ∙ e)) ∙ h y ∙ ap (λ (c : Bool). c || has same_id ys y) (same_id_refl y)

-- ## Added and removed

module _ (s : Forest) (b : Batch) where
  pub has_added : (x : FullNodeId) → has same_id (added s (outcome s b)) x ≡ (present (outcome s b).nodes x and not (present s.nodes x))
  unfolding added
  has_added x =
      has_keep same_id same_id→≡ (λ y. not (present s.nodes y)) (ids_of (outcome s b).nodes) x
      ∙ ap (λ (c : Bool). c and not (present s.nodes x)) (sym (present_has (outcome s b).nodes x))

  pub has_removed : (x : FullNodeId) → has same_id (removed s (outcome s b)) x ≡ (present s.nodes x and not (present (outcome s b).nodes x))
  unfolding removed
  has_removed x =
      has_keep same_id same_id→≡ (λ y. not (present (outcome s b).nodes y)) (ids_of s.nodes) x
      ∙ ap (λ (c : Bool). c and not (present (outcome s b).nodes x)) (sym (present_has s.nodes x))

  -- what is removed is what goes
  pub removed_gone : (x : FullNodeId) → has same_id (removed s (outcome s b)) x ≡ gone s b x
  unfolding ◌and◌
  removed_gone x =
      has_removed x
      ∙ ap (λ (c : Bool). present s.nodes x and not c) (present_outcome s b x)
      ∙ go (present s.nodes x) (has same_id (ids_of (written s b)) x) (gone s b x) (old_written s b x) (gone_old s b x)
    where
      go : (o w g : Bool) → (o ≡ true → w ≡ true) → (g ≡ true → o ≡ true) → (o and not (w and not g)) ≡ g
      go true true true h k = refl
      go true true false h k = refl
      go true false g h k = absurd (false≢true (h refl))
      go false w true h k = k refl
      go false w false h k = refl

-- ## The lists, told of the old nodes and the batch

module _ (s : Forest) (b : Batch) where
  -- listed with data that differs by value from the node's
  unfoldable pub data_changed : NodeState → Bool
  data_changed n =
      listed s b n.id and elim (listing b.nodes n.id.node) [ None ↦ false | Some d ↦ not (same_data n.body d) ]

  -- with a link afterwards that differs from the one that it records
  unfoldable pub link_changed : NodeState → Bool
  link_changed n =
      is_some (link_after s b n.id n.parent_and_index) and not (same_option same_link n.parent_and_index (link_after s b n.id n.parent_and_index))

  -- an old node is removed where it goes
  pub removed_is : (x : FullNodeId) → present s.nodes x ≡ true → not (present (outcome s b).nodes x) ≡ gone s b x
  unfolding ◌and◌
  removed_is x e = ap not (present_outcome s b x) ∙ rw (old_written s b x e) (go (gone s b x))
    where
      go : (g : Bool) → not (not g) ≡ g
      go true = refl
      go false = refl

  -- the data of an old node changes where it is listed with other data
  data_changed_lem : (n : NodeState) → fields_ok n.body ≡ true
      → not (same_data n.body (body_after s b n)) ≡ data_changed n
  unfolding body_after data_changed listed renewed ◌and◌
  data_changed_lem n f =
      go (mine s b n.id) (listing b.nodes n.id.node) (has same_node (listed_ids b.nodes) n.id.node) (listing_some b.nodes n.id.node)
    where
      kept : not (same_data n.body n.body) ≡ false
      kept = ap not (same_data_refl n.body f)

      new : (d : NodeData) (c : Bool) → same_data n.body d ≡ c → not (same_data n.body (if c then n.body else d)) ≡ not c
      new d true q = kept
      new d false q = ap not q

      go : (c : Bool) (o : Option NodeData) (l : Bool) → is_some o ≡ l
          → not (same_data n.body (if c then elim o [ None ↦ n.body | Some d ↦ if same_data n.body d then n.body else d ] else n.body))
          ≡ (c and l and elim o [ None ↦ false | Some d ↦ not (same_data n.body d) ])
      go true None l h = rw (← h) kept
      go true (Some d) l h = rw (← h) (new d (same_data n.body d) refl)
      go false o l h = kept

  module _ (ordered : ascending s.nodes ≡ true) (once : distinct same_node (listed_ids b.nodes) ≡ true) where
    -- an old node is updated where it does not go and its data or its link changes or it is marked
    pub updated_is : (n : NodeState) → find n.id s.nodes ≡ Some n → fields_ok n.body ≡ true
        → (marked : FullNodeId → Bool)
        → is_updated s (outcome s b) marked n ≡ (not (gone s b n.id) and (data_changed n || link_changed n || marked n.id))
    unfolding is_updated link_changed node_after ◌and◌
    updated_is n e f marked = ap told (find_old_outcome s b ordered once n e) ∙ go (gone s b n.id)
      where
        told : Option NodeState → Bool
        told o = elim o [
          | None ↦ false
          | Some m ↦
              not (same_data n.body m.body)
              || (is_some m.parent_and_index and not (same_option same_link n.parent_and_index m.parent_and_index))
              || marked n.id
        ]

        go : (g : Bool) → told (if g then None else Some (node_after s b n)) ≡ (not g and (data_changed n || link_changed n || marked n.id))
        go true = refl
        go false = ap (λ (c : Bool). c || link_changed n || marked n.id) (data_changed_lem n f)

    -- an old node is relinked where it does not go and its parent changes
    pub relinked_is : (n : NodeState) → find n.id s.nodes ≡ Some n
        → is_relinked s (outcome s b) n.id
        ≡ (not (gone s b n.id) and not (same_option same_id (parent_of n.parent_and_index) (parent_of (link_after s b n.id n.parent_and_index))))
    unfolding is_relinked present parent_at link_at parent_of node_after ◌and◌
    relinked_is n e = ap₂ told e (find_old_outcome s b ordered once n e) ∙ go (gone s b n.id)
      where
        link : Option NodeState → Option ParentAndIndex
        link o = elim o [ None ↦ None | Some m ↦ m.parent_and_index ]

        told : Option NodeState → Option NodeState → Bool
        told was new = is_some new and not (same_option same_id (parent_of (link was)) (parent_of (link new)))

        go : (g : Bool) → told (Some n) (if g then None else Some (node_after s b n))
            ≡ (not g and not (same_option same_id (parent_of n.parent_and_index) (parent_of (link_after s b n.id n.parent_and_index))))
        go true = refl
        go false = refl

-- ## The lists are sorted, so a length is the number of ids in its set

pub sorted_ids : (ns : List NodeState) → ascending ns ≡ true → sorted (ids_of ns) ≡ true
unfolding sorted ascending ids_of
sorted_ids [] e = refl
sorted_ids (n ∷ ns) e = joined (all_map (before n.id) (λ m. m.id) ns ∙ (both e).0) (sorted_ids ns (both e).1)

pub sorted_keep : (q : FullNodeId → Bool) (xs : List FullNodeId) → sorted xs ≡ true → sorted (keep q xs) ≡ true
unfolding sorted
sorted_keep q [] e = refl
sorted_keep q (x ∷ xs) e = go (q x) (sorted_keep q xs (both e).1)
  where
    go : (c : Bool) → sorted (keep q xs) ≡ true → sorted (if c then x ∷ keep q xs else keep q xs) ≡ true
    go true h = joined (all_keep (before x) q xs (both e).0) h
    go false h = h

pub record ListsSorted (c : Changes) : Type 0 where
  pub added_sorted : sorted c.added ≡ true
  pub updated_sorted : sorted c.updated ≡ true
  pub removed_sorted : sorted c.removed ≡ true
  pub relinked_sorted : sorted c.relinked ≡ true

pub lists_sorted : (s : Forest) (b : Batch) → sound s ≡ true → sound_shape (outcome s b) ≡ true → ListsSorted (changes_of s b)
unfolding changes_of changes_with added updated removed relinked
lists_sorted s b e f =
    let old = (shape_parts s (sound_parts s e).shape).ordered in
    let new = (shape_parts (outcome s b) f).ordered in
    record {
      added_sorted = sorted_keep _ _ (sorted_ids (outcome s b).nodes new);
      updated_sorted = sorted_ids _ (ascending_keep _ s.nodes old);
      removed_sorted = sorted_keep _ _ (sorted_ids s.nodes old);
      relinked_sorted = sorted_keep _ _ (sorted_ids s.nodes old);
    }

-- ## The lent slice keeps its length

pub length_slice_after : (slice : List ℕ) (c : Changes) → length (change_words c) ≤ length slice → length (slice_after slice c) ≡ length slice
unfolding slice_after
length_slice_after slice c h = simp (length-append, length-drop) (omega arith)
