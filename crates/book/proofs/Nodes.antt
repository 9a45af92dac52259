-- The book's nodes after an accepted batch are the outcome's. Assumes nothing.
use mathlib.Core.Bool.{Bool, true, false, not, ◌||◌}
use mathlib.Core.List.{List, [], ◌∷◌, map}
use mathlib.Core.Path.{◌≡◌, refl, sym, ap, ◌∙◌, fun_ext}
use Rattle.std.specs.Prelude.{if◌then◌else◌, None}
use Rattle.base.specs.Tests.{keep, has}
use Rattle.base.proofs.Tests.{both, same_list→≡, map_keep}
use borrow.Author.Tests.{eqb-true}
use Rattle.ids.specs.Ids.{same_node, same_id, before}
use Rattle.ids.proofs.Ids.{same_tree→≡, same_node→≡, same_id→≡}
use Rattle.ids.specs.declared.TreeIndex.{TreeIndex}
use Rattle.ids.specs.declared.FullNodeId.{FullNodeId}
use Rattle.record.specs.Batch.{NodeData, graft?, same_data, Listed, Batch}
use Rattle.state.specs.State.{NodeState, ids_of, Forest, present}
use Rattle.state.proofs.State.{present_has}
use Rattle.update.specs.Words.{tree_number}
use Rattle.update.specs.Gone.{gone}
use Rattle.update.specs.Outcome.{renewed, write, write_all, written, relink, outcome}
use Rattle.update.specs.Reports.{removed}
use Rattle.update.proofs.Reports.{removed_gone}
use Rattle.book.specs.Book.{Entry, entry_of, enter, enter_all, strike, is_entered, entry_of_node}

-- data that is equal by value has the same entry
same_entry : (x : FullNodeId) (c : Bool) (d e : NodeData) → same_data d e ≡ c → entry_of x (if c then d else e) ≡ entry_of x e
unfolding entry_of same_data graft?
same_entry x true d e q =
    let heads = both (both q).0 in
    let p : d.children ≡ e.children = same_list→≡ same_node same_node→≡ d.children e.children (both heads.0).0 in
    let f : d.flags ≡ e.flags = eqb-true d.flags e.flags (both heads.0).1 in
    let g : d.graft ≡ e.graft = same_tree→≡ d.graft e.graft heads.1 in
    λ i. entry_of x (record {
      active_descendant = d.active_descendant;
      graft = g i;
      children = p i;
      label = d.label;
      role = d.role;
      flags = f i;
      bounds = d.bounds;
      transform = d.transform;
    })
same_entry x false d e q = refl

entries_write : (x : FullNodeId) (d : NodeData) (ns : List NodeState) → map entry_of_node (write x d ns) ≡ enter x d (map entry_of_node ns)
unfolding write enter entry_of_node entry_of renewed
entries_write x d [] = refl
entries_write x d (n ∷ ns) = go (same_id x n.id) refl (before x n.id) (entries_write x d ns)
  where
    go : (c : Bool) → same_id x n.id ≡ c → (k : Bool) → map entry_of_node (write x d ns) ≡ enter x d (map entry_of_node ns)
        → map entry_of_node (if c then record { id = n.id; parent_and_index = n.parent_and_index; body = renewed n.body d } ∷ ns
        else if k then record { id = x; parent_and_index = None; body = d } ∷ n ∷ ns else n ∷ write x d ns)
        ≡ (if c then entry_of x d ∷ map entry_of_node ns else if k then entry_of x d ∷ entry_of_node n ∷ map entry_of_node ns else entry_of_node n ∷ enter x d (map entry_of_node ns))
    go true q k h =
        ap {B = List Entry} (λ e. e ∷ map entry_of_node ns)
        (same_entry n.id (same_data n.body d) n.body d refl ∙ ap (λ (y : FullNodeId). entry_of y d) (sym (same_id→≡ x n.id q)))
    go false q true h = refl
    go false q false h = ap {B = List Entry} (λ ks. entry_of_node n ∷ ks) h

entries_write_all : (t : TreeIndex) (ls : List Listed) (ns : List NodeState) → map entry_of_node (write_all t ls ns) ≡ enter_all t ls (map entry_of_node ns)
unfolding write_all enter_all
entries_write_all t [] ns = refl
entries_write_all t (l ∷ ls) ns =
    entries_write_all t ls (write (record { tree = t; node = l.id }) l.body ns)
    ∙ ap (λ (ks : List Entry). enter_all t ls ks) (entries_write (record { tree = t; node = l.id }) l.body ns)

entries_relink : (s : Forest) (b : Batch) (ns : List NodeState) → map entry_of_node (map (relink s b) ns) ≡ map entry_of_node ns
unfolding relink entry_of_node entry_of
entries_relink s b [] = refl
entries_relink s b (n ∷ ns) = ap {B = List Entry} (λ ks. entry_of_node n ∷ ks) (entries_relink s b ns)

entries_keep : (q : FullNodeId → Bool) (ns : List NodeState) → map entry_of_node (keep (λ n. q n.id) ns) ≡ keep (λ k. q k.id) (map entry_of_node ns)
unfolding entry_of_node entry_of
entries_keep q ns = map_keep entry_of_node (λ k. q k.id) ns

-- the nodes are entered and the removed ones struck
pub nodes_after : (s : Forest) (b : Batch)
    → map entry_of_node (outcome s b).nodes ≡ strike (removed s (outcome s b)) (enter_all (tree_number s b) b.nodes (map entry_of_node s.nodes))
unfolding outcome written strike
nodes_after s b =
    entries_relink s b (keep (λ n. not (gone s b n.id)) (written s b))
    ∙ entries_keep (λ x. not (gone s b x)) (written s b)
    ∙ ap (λ (ks : List Entry). keep (λ k. not (gone s b k.id)) ks) (entries_write_all (tree_number s b) b.nodes s.nodes)
    ∙ ap (λ (q : FullNodeId → Bool). keep (λ k. not (q k.id)) (enter_all (tree_number s b) b.nodes (map entry_of_node s.nodes)))
    (fun_ext (λ x. sym (removed_gone s b x)))

entered_has : (ns : List NodeState) (x : FullNodeId) → is_entered (map entry_of_node ns) x ≡ has same_id (ids_of ns) x
unfolding is_entered ids_of entry_of_node entry_of
entered_has [] x = refl
entered_has (n ∷ ns) x = ap (λ (c : Bool). same_id x n.id || c) (entered_has ns x)

-- a node is entered if and only if it is present
pub entered_present : (ns : List NodeState) (x : FullNodeId) → is_entered (map entry_of_node ns) x ≡ present ns x
entered_present ns x = entered_has ns x ∙ sym (present_has ns x)
