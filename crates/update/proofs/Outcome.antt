-- Laws of the outcome: which nodes it holds, what is found there, and that their data is old data or listed data. Assumes nothing.
use mathlib.Core.Bool.{Bool, true, false, not, ◌||◌}
use mathlib.Core.List.{List, [], ◌∷◌, map}
use mathlib.Core.Path.{◌≡◌, refl, sym, ap, ◌∙◌}
use Prim.Native.Nat.{◌+◌, ◌≤◌}
use native.Mathlib.Omega.{arith}
use lib.ListN.{length, length-map}
use Rattle.std.specs.Prelude.{if◌then◌else◌, Option, None, Some}
use Rattle.base.specs.Tests.{◌and◌, is_some, all, keep, has, distinct}
use Rattle.base.proofs.Tests.{both, or_absorb, or_swap, or_right, all_keep}
use Rattle.base.proofs.Lists.{all_map, count_rest}
use Rattle.ids.specs.Ids.{same_index, same_node, same_id}
use Rattle.ids.proofs.Ids.{same_id→≡}
use Rattle.ids.specs.declared.TreeIndex.{TreeIndex}
use Rattle.ids.specs.declared.FullNodeId.{FullNodeId}
use Rattle.record.specs.Batch.{NodeData, same_data, Listed, Batch, listed_ids}
use Rattle.state.specs.State.{NodeState, ids_of, Forest, find, present}
use Rattle.state.specs.Sound.{ascending}
use Rattle.state.proofs.State.{present_has, present_keep}
use Rattle.state.proofs.Order.{find_keep, ascending_keep, find_map, ascending_map}
use Rattle.update.specs.Words.{listing, tree_number, mine, listed}
use Rattle.update.specs.Gone.{gone}
use Rattle.update.specs.Outcome.{renewed, write, write_all, written, link_after, relink, outcome}
use Rattle.update.proofs.Write.{merged, listing_some, ascending_write_all, length_write_all, find_write_all, write_cases, all_write}

-- ## Writing

-- the node written joins the others
pub has_write : (y : FullNodeId) (d : NodeData) (ns : List NodeState) (x : FullNodeId)
    → has same_id (ids_of (write y d ns)) x ≡ (same_id x y || has same_id (ids_of ns) x)
unfolding write ids_of
has_write y d [] x = refl
has_write y d (n ∷ ns) x =
    write_cases (λ l. has same_id (ids_of l) x ≡ (same_id x y || has same_id (ids_of (n ∷ ns)) x)) y d n ns
    (λ q. rw (same_id→≡ y n.id q) (sym (or_absorb (same_id x n.id) (has same_id (ids_of ns) x))))
    (λ _ _. refl)
    (λ _ _. ap (λ (t : Bool). same_id x n.id || t) (has_write y d ns x) ∙ or_swap (same_id x n.id) (same_id x y) (has same_id (ids_of ns) x))

-- what was there stays there
pub has_write_all : (t : TreeIndex) (ls : List Listed) (ns : List NodeState) (x : FullNodeId)
    → has same_id (ids_of ns) x ≡ true → has same_id (ids_of (write_all t ls ns)) x ≡ true
unfolding write_all
has_write_all t [] ns x e = e
has_write_all t (l ∷ ls) ns x e =
    has_write_all t ls (write (record { tree = t; node = l.id }) l.body ns) x
    (has_write (record { tree = t; node = l.id }) l.body ns x ∙ or_right (same_id x (record { tree = t; node = l.id })) e)

-- nothing of another tree is written
pub has_elsewhere : (t : TreeIndex) (ls : List Listed) (ns : List NodeState) (x : FullNodeId) → same_index x.tree t ≡ false
    → has same_id (ids_of (write_all t ls ns)) x ≡ has same_id (ids_of ns) x
unfolding write_all same_id ◌and◌
has_elsewhere t [] ns x e = refl
has_elsewhere t (l ∷ ls) ns x e =
    has_elsewhere t ls (write (record { tree = t; node = l.id }) l.body ns) x e
    ∙ has_write (record { tree = t; node = l.id }) l.body ns x
    ∙ ap (λ (c : Bool). (c and same_node x.node l.id) || has same_id (ids_of ns) x) e

-- ## What goes, and what the outcome holds

ids_relink : (s : Forest) (b : Batch) (ns : List NodeState) → ids_of (map (relink s b) ns) ≡ ids_of ns
unfolding relink ids_of
ids_relink s b [] = refl
ids_relink s b (n ∷ ns) = ap {B = List FullNodeId} (λ xs. n.id ∷ xs) (ids_relink s b ns)

module _ (s : Forest) (b : Batch) where
  pub old_written : (x : FullNodeId) → present s.nodes x ≡ true → has same_id (ids_of (written s b)) x ≡ true
  unfolding written
  old_written x e = has_write_all (tree_number s b) b.nodes s.nodes x (sym (present_has s.nodes x) ∙ e)

  -- the outcome holds what was there or is listed, and does not go
  pub present_outcome : (x : FullNodeId) → present (outcome s b).nodes x ≡ (has same_id (ids_of (written s b)) x and not (gone s b x))
  unfolding outcome
  present_outcome x =
      present_has (outcome s b).nodes x
      ∙ ap (λ (xs : List FullNodeId). has same_id xs x) (ids_relink s b (keep (λ n. not (gone s b n.id)) (written s b)))
      ∙ sym (present_has (keep (λ n. not (gone s b n.id)) (written s b)) x)
      ∙ present_keep (λ y. not (gone s b y)) (written s b) x
      ∙ ap (λ (c : Bool). c and not (gone s b x)) (present_has (written s b) x)

-- ## What is found in the outcome

module _ (s : Forest) (b : Batch) where
  -- the node found once all listed nodes are written: with the listed data, or as it was
  unfoldable pub found_written : FullNodeId → Option NodeState
  found_written x =
      if mine s b x
      then elim (listing b.nodes x.node) [ None ↦ find x s.nodes | Some d ↦ Some (merged x d (find x s.nodes)) ]
      else find x s.nodes

  -- what was found, with the link that it then records
  abbrev relinked : Option NodeState → Option NodeState
  relinked o = elim o [ None ↦ None | Some n ↦ Some (relink s b n) ]

  -- the node found in the outcome: none if it goes, else with the link that it then records
  unfoldable pub found_after : FullNodeId → Option NodeState
  found_after x = if gone s b x then None else relinked (found_written x)

  relink_id : (n : NodeState) → (relink s b n).id ≡ n.id
  unfolding relink
  relink_id n = refl

  pub find_outcome : ascending s.nodes ≡ true → distinct same_node (listed_ids b.nodes) ≡ true
      → (x : FullNodeId) → find x (outcome s b).nodes ≡ found_after x
  unfolding outcome written found_after found_written mine
  find_outcome e u x =
      find_map (relink s b) relink_id (keep (λ n. not (gone s b n.id)) (written s b)) x
      ∙ ap relinked (find_keep (λ y. not (gone s b y)) (written s b) x)
      ∙ go (gone s b x) (find_write_all (tree_number s b) b.nodes s.nodes e u x)
    where
      go : (c : Bool) → find x (written s b) ≡ found_written x
          → relinked (if not c then find x (written s b) else None) ≡ (if c then None else relinked (found_written x))
      go true h = refl
      go false h = ap relinked h

  -- the data of an old node after the listed nodes are written
  unfoldable pub body_after : NodeState → NodeData
  body_after n =
      if mine s b n.id then elim (listing b.nodes n.id.node) [ None ↦ n.body | Some d ↦ renewed n.body d ] else n.body

  -- an old node that does not go, as the outcome holds it
  unfoldable pub node_after : NodeState → NodeState
  node_after n = record { id = n.id; parent_and_index = link_after s b n.id n.parent_and_index; body = body_after n }

  -- what is found of an old node
  pub find_old_outcome : ascending s.nodes ≡ true → distinct same_node (listed_ids b.nodes) ≡ true
      → (n : NodeState) → find n.id s.nodes ≡ Some n
      → find n.id (outcome s b).nodes ≡ (if gone s b n.id then None else Some (node_after n))
  unfolding found_after found_written merged relink body_after node_after
  find_old_outcome e u n f =
      find_outcome e u n.id
      ∙ ap (λ (o : Option NodeState). if gone s b n.id then None else relinked o) (go (mine s b n.id) (listing b.nodes n.id.node) (find n.id s.nodes) f)
    where
      go : (c : Bool) (o : Option NodeData) (was : Option NodeState) → was ≡ Some n
          → (if c then elim o [ None ↦ was | Some d ↦ Some (merged n.id d was) ] else was)
          ≡ Some (record { id = n.id; parent_and_index = n.parent_and_index; body = if c then elim o [ None ↦ n.body | Some d ↦ renewed n.body d ] else n.body })
      go true None was h = h
      go true (Some d) was h = ap (λ (w : Option NodeState). Some (merged n.id d w)) h
      go false o was h = h

  -- a node is present afterwards if it does not go and was there or is listed
  pub present_after : ascending s.nodes ≡ true → distinct same_node (listed_ids b.nodes) ≡ true
      → (x : FullNodeId) → present (outcome s b).nodes x ≡ (not (gone s b x) and (present s.nodes x || listed s b x))
  unfolding present found_after found_written listed ◌and◌
  present_after e u x =
      ap is_some (find_outcome e u x)
      ∙ go (gone s b x) (mine s b x) (find x s.nodes) (listing b.nodes x.node) (has same_node (listed_ids b.nodes) x.node) (listing_some b.nodes x.node)
    where
      go : (g c : Bool) (was : Option NodeState) (o : Option NodeData) (l : Bool) → is_some o ≡ l
          → is_some (if g then None else relinked (if c then elim o [ None ↦ was | Some d ↦ Some (merged x d was) ] else was))
          ≡ (not g and (is_some was || (c and l)))
      go true c was o l h = refl
      go false true None None l h = h
      go false true None (Some d) l h = h
      go false true (Some n) None l h = refl
      go false true (Some n) (Some d) l h = refl
      go false false None o l h = refl
      go false false (Some n) o l h = refl

  pub ascending_outcome : ascending s.nodes ≡ true → ascending (outcome s b).nodes ≡ true
  unfolding outcome written
  ascending_outcome e =
      ascending_map (relink s b) relink_id (keep (λ n. not (gone s b n.id)) (written s b))
      (ascending_keep (λ n. not (gone s b n.id)) (written s b) (ascending_write_all (tree_number s b) b.nodes s.nodes e))

  pub length_outcome : length (outcome s b).nodes ≤ length s.nodes + length b.nodes
  unfolding outcome written
  length_outcome =
      omega (
        arith,
        length-map (keep (λ n. not (gone s b n.id)) (written s b)) (relink s b),
        count_rest (λ n. gone s b n.id) (written s b),
        length_write_all (tree_number s b) b.nodes s.nodes,
      )

-- ## Data

module _ (p : NodeData → Bool) where
  -- p holds of the data of every node
  abbrev Holds : List NodeState → Type 0
  Holds ns = all (λ n. p n.body) ns ≡ true

  -- renewed data is the old or the new
  holds_renewed : (was new : NodeData) → p was ≡ true → p new ≡ true → p (renewed was new) ≡ true
  unfolding renewed
  holds_renewed was new e f = go (same_data was new)
    where
      go : (c : Bool) → p (if c then was else new) ≡ true
      go true = e
      go false = f

  -- one node written
  holds_write : (x : FullNodeId) (d : NodeData) (ns : List NodeState) → p d ≡ true → Holds ns → Holds (write x d ns)
  holds_write x d ns f e = all_write (λ n. p n.body) x d f (λ n h. holds_renewed n.body d h f) ns e

  -- all listed nodes written
  holds_write_all : (t : TreeIndex) (ls : List Listed) (ns : List NodeState) → all (λ l. p l.body) ls ≡ true → Holds ns → Holds (write_all t ls ns)
  unfolding write_all
  holds_write_all t [] ns f e = e
  holds_write_all t (l ∷ ls) ns f e =
      holds_write_all t ls (write (record { tree = t; node = l.id }) l.body ns) (both f).1
      (holds_write (record { tree = t; node = l.id }) l.body ns (both f).0 e)

  -- what holds of the data of all old nodes and of all listed ones holds in the outcome
  pub all_outcome : (s : Forest) (b : Batch) → all (λ n. p n.body) s.nodes ≡ true → all (λ l. p l.body) b.nodes ≡ true
      → all (λ n. p n.body) (outcome s b).nodes ≡ true
  unfolding outcome written relink
  all_outcome s b e f =
      all_map (λ n. p n.body) (relink s b) (keep (λ n. not (gone s b n.id)) (written s b))
      ∙ all_keep (λ n. p n.body) (λ n. not (gone s b n.id)) (written s b) (holds_write_all (tree_number s b) b.nodes s.nodes f e)
