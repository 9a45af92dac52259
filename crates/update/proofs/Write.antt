-- Laws of writing: it keeps the order by id, adds at most what is listed, and what is found afterwards is told by what is listed. Assumes nothing.
use mathlib.Core.Bool.{Bool, true, false, not}
use mathlib.Core.List.{List, [], ◌∷◌}
use mathlib.Core.Path.{◌≡◌, refl, sym, ap, ◌∙◌}
use Prim.Native.Nat.{suc, ◌+◌, ◌≤◌}
use native.Mathlib.Omega.{arith}
use lib.ListN.{length}
use Rattle.std.specs.Prelude.{if◌then◌else◌, Option, None, Some}
use Rattle.base.specs.Tests.{◌and◌, is_some, all, has, distinct}
use Rattle.base.proofs.Tests.{both, joined}
use Rattle.base.proofs.Lists.{first_given_some, any_map, none_of}
use Rattle.ids.specs.Ids.{same_index, same_node, same_id, before}
use Rattle.ids.proofs.Ids.{same_node→≡, same_id→≡, same_id_refl, before_trans, before_total}
use Rattle.ids.specs.declared.TreeIndex.{TreeIndex}
use Rattle.ids.specs.declared.NodeId.{NodeId}
use Rattle.ids.specs.declared.FullNodeId.{FullNodeId}
use Rattle.record.specs.Batch.{NodeData, Listed, listed_ids}
use Rattle.state.specs.State.{NodeState, find}
use Rattle.state.specs.Sound.{ascending}
use Rattle.state.proofs.Order.{find_none}
use Rattle.update.specs.Words.{listing}
use Rattle.update.specs.Outcome.{renewed, write, write_all}

-- a node that is written where none stood
abbrev pub fresh : FullNodeId → NodeData → NodeState
fresh x d = record { id = x; parent_and_index = None; body = d }

-- a node that is written over another
abbrev pub over : NodeState → NodeData → NodeState
over n d = record { id = n.id; parent_and_index = n.parent_and_index; body = renewed n.body d }

-- the node of id x after d is written on what was found
unfoldable pub merged : FullNodeId → NodeData → Option NodeState → NodeState
merged x d None = fresh x d
merged x d (Some n) = over n d

-- the three ways to write before the end of a list: over its first node, before it, or after it
pub write_cases : (P : List NodeState → Type 0) (x : FullNodeId) (d : NodeData) (n : NodeState) (ns : List NodeState) → (same_id x n.id ≡ true → P (over n d ∷ ns))
    → (same_id x n.id ≡ false → before x n.id ≡ true → P (fresh x d ∷ n ∷ ns))
    → (same_id x n.id ≡ false → before x n.id ≡ false → P (n ∷ write x d ns)) → P (write x d (n ∷ ns))
unfolding write
write_cases P x d n ns same front back = go (same_id x n.id) refl (before x n.id) refl
  where
    go : (c : Bool) → same_id x n.id ≡ c → (k : Bool) → before x n.id ≡ k → P (if c then over n d ∷ ns else if k then fresh x d ∷ n ∷ ns else n ∷ write x d ns)
    go true q k f = same q
    go false q true f = front q f
    go false q false f = back q f

-- a test that the new node passes, and each old one still passes once it is written over
pub all_write : (p : NodeState → Bool) (x : FullNodeId) (d : NodeData) → p (fresh x d) ≡ true → ((n : NodeState) → p n ≡ true → p (over n d) ≡ true)
    → (ns : List NodeState) → all p ns ≡ true → all p (write x d ns) ≡ true
unfolding write
all_write p x d h k [] e = joined h refl
all_write p x d h k (n ∷ ns) e =
    write_cases (λ l. all p l ≡ true) x d n ns (λ _. joined (k n (both e).0) (both e).1) (λ _ _. joined h e) (λ _ _. joined (both e).0 (all_write p x d h k ns (both e).1))

-- ## The order

-- what comes before an id comes before all nodes that the id comes before
all_further : (x y : FullNodeId) (ns : List NodeState) → before x y ≡ true → all (λ n. before y n.id) ns ≡ true → all (λ n. before x n.id) ns ≡ true
all_further x y [] h e = refl
all_further x y (n ∷ ns) h e = joined (before_trans x y n.id h (both e).0) (all_further x y ns h (both e).1)

pub ascending_write : (x : FullNodeId) (d : NodeData) (ns : List NodeState) → ascending ns ≡ true → ascending (write x d ns) ≡ true
unfolding write ascending
ascending_write x d [] e = joined refl refl
ascending_write x d (n ∷ ns) e =
    write_cases (λ l. ascending l ≡ true) x d n ns (λ _. e) (λ _ f. joined (joined f (all_further x n.id ns f (both e).0)) e)
    (λ q f. joined (all_write (λ m. before n.id m.id) x d (before_total x n.id q f) (λ m h. h) ns (both e).0) (ascending_write x d ns (both e).1))

pub ascending_write_all : (t : TreeIndex) (ls : List Listed) (ns : List NodeState) → ascending ns ≡ true → ascending (write_all t ls ns) ≡ true
unfolding write_all
ascending_write_all t [] ns e = e
ascending_write_all t (l ∷ ls) ns e =
    ascending_write_all t ls (write (record { tree = t; node = l.id }) l.body ns) (ascending_write (record { tree = t; node = l.id }) l.body ns e)

-- ## The length

length_write : (x : FullNodeId) (d : NodeData) (ns : List NodeState) → length (write x d ns) ≤ suc (length ns)
unfolding write
length_write x d [] = omega arith
length_write x d (n ∷ ns) =
    let rest = length_write x d ns in
    write_cases (λ l. length l ≤ suc (suc (length ns))) x d n ns (λ _. omega arith) (λ _ _. omega arith) (λ _ _. omega arith)

pub length_write_all : (t : TreeIndex) (ls : List Listed) (ns : List NodeState) → length (write_all t ls ns) ≤ length ns + length ls
unfolding write_all
length_write_all t [] ns = omega arith
length_write_all t (l ∷ ls) ns =
    let y : FullNodeId = record { tree = t; node = l.id } in
    omega (arith, length_write_all t ls (write y l.body ns), length_write y l.body ns)

-- ## What is found

-- the node written
pub find_write : (x : FullNodeId) (d : NodeData) (ns : List NodeState) → ascending ns ≡ true → find x (write x d ns) ≡ Some (merged x d (find x ns))
unfolding write find ascending merged
find_write x d [] e = rw (same_id_refl x)
find_write x d (n ∷ ns) e =
    write_cases (λ l. find x l ≡ Some (merged x d (find x (n ∷ ns)))) x d n ns (λ q. rw q)
    (λ q f. rw (same_id_refl x, q, find_none x ns (all_further x n.id ns f (both e).0))) (λ q _. rw q (find_write x d ns (both e).1))

-- another node
pub find_write_other : (x y : FullNodeId) (d : NodeData) (ns : List NodeState) → same_id y x ≡ false → find y (write x d ns) ≡ find y ns
unfolding write find
find_write_other x y d [] h = rw h
find_write_other x y d (n ∷ ns) h =
    write_cases (λ l. find y l ≡ find y (n ∷ ns)) x d n ns (λ q. rw (ap (same_id y) (sym (same_id→≡ x n.id q)) ∙ h)) (λ _ _. rw h)
    (λ _ _. rw (find_write_other x y d ns h))

-- a node number has listed data where it is listed
pub listing_some : (ls : List Listed) (n : NodeId) → is_some (listing ls n) ≡ has same_node (listed_ids ls) n
unfolding listing listed_ids
listing_some ls n = first_given_some (λ l. same_node n l.id) (λ l. l.body) ls ∙ sym (any_map (same_node n) (λ l. l.id) ls)

-- the node of x after what is listed of it, if anything, is written on what was found
abbrev laid : FullNodeId → Option NodeData → Option NodeState → Option NodeState
laid x o was = elim o [ None ↦ was | Some d ↦ Some (merged x d was) ]

pub find_write_all : (t : TreeIndex) (ls : List Listed) (ns : List NodeState) → ascending ns ≡ true → distinct same_node (listed_ids ls) ≡ true
    → (x : FullNodeId)
    → find x (write_all t ls ns)
    ≡ (if same_index x.tree t then elim (listing ls x.node) [ None ↦ find x ns | Some d ↦ Some (merged x d (find x ns)) ] else find x ns)
unfolding write_all listing listed_ids same_id
find_write_all t [] ns e u x = go (same_index x.tree t)
  where
    go : (c : Bool) → find x ns ≡ (if c then find x ns else find x ns)
    go true = refl
    go false = refl
find_write_all t (l ∷ ls) ns e u x =
    find_write_all t ls ns' (ascending_write y l.body ns e) (both u).1 x ∙ go (same_index x.tree t) refl (same_node x.node l.id) refl
  where
    y : FullNodeId
    y = record { tree = t; node = l.id }

    ns' : List NodeState
    ns' = write y l.body ns

    other : same_id x y ≡ false → find x ns' ≡ find x ns
    other = find_write_other y x l.body ns

    go : (c : Bool) → same_index x.tree t ≡ c → (k : Bool) → same_node x.node l.id ≡ k
        → (if c then laid x (listing ls x.node) (find x ns') else find x ns')
        ≡ (if c then laid x (elim (if k then Some l.body else None) as (λ _. Option NodeData) [ None ↦ listing ls x.node | Some d ↦ Some d ]) (find x ns)
        else find x ns)
    go false q k f = other (unfold same_id ◌and◌ in rw q)
    go true q false f = ap (laid x (listing ls x.node)) (other (unfold same_id ◌and◌ in rw (q, f)))
    go true q true f =
        let unlisted : not (has same_node (listed_ids ls) x.node) ≡ true = rw (same_node→≡ x.node l.id f) (both u).0 in
        ap (λ (o : Option NodeData). laid x o (find x ns')) (none_of (listing ls x.node) (ap not (listing_some ls x.node) ∙ unlisted))
        ∙ rw (same_id→≡ x y (joined q f)) (find_write y l.body ns e)
