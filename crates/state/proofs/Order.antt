-- Laws of nodes in ascending order: what is found in them tells the list, and which changes keep the order. Assumes nothing.
use mathlib.Core.Bool.{Bool, true}
use mathlib.Core.List.{List, [], ◌∷◌, map}
use mathlib.Core.Path.{◌≡◌, refl, ap, ◌∙◌}
use Prim.Native.Nat.{ℕ, zero, suc, ◌+◌, ◌<◌}
use native.Mathlib.Numerals.{add-one}
use native.Mathlib.Omega.{arith}
use Rattle.std.specs.Prelude.{if◌then◌else◌, None, Some}
use Rattle.base.specs.Tests.{all, keep}
use Rattle.base.specs.Bytes.{list_of}
use Rattle.base.proofs.Cases.{by_test}
use Rattle.base.proofs.Tests.{both, joined, all_keep}
use Rattle.base.proofs.Lists.{all_map}
use Rattle.base.proofs.Bytes.{all_list_of}
use Rattle.base.proofs.Indexed.{all_list_of_at}
use Rattle.ids.specs.Ids.{same_id, before}
use Rattle.ids.proofs.Ids.{same_id→≡, same_id_sym, before_apart, before_trans}
use Rattle.ids.specs.declared.FullNodeId.{FullNodeId}
use Rattle.state.specs.State.{NodeState, find}
use Rattle.state.specs.Sound.{ascending}

-- ## Finding in order

-- an id that comes before all nodes is not found
pub find_none : (x : FullNodeId) (ns : List NodeState) → all (λ n. before x n.id) ns ≡ true → find x ns ≡ None
unfolding find
find_none x [] e = refl
find_none x (n ∷ ns) e = rw (same_id_sym x n.id ∙ before_apart x n.id (both e).0) (find_none x ns (both e).1)

-- ## Nodes kept

-- a test of ids keeps what is found under an id that passes
pub find_keep : (q : FullNodeId → Bool) (ns : List NodeState) (x : FullNodeId)
    → find x (keep (λ n. q n.id) ns) ≡ (if q x then find x ns else None)
unfolding find
find_keep q [] x = by_test (q x) (λ t. rw t) (λ t. rw t)
find_keep q (n ∷ ns) x =
    let h = find_keep q ns x in
    by_test (same_id x n.id)
    (λ e. let same = ap q (same_id→≡ x n.id e) in by_test (q n.id) (λ f. rw (f, e, same, f)) (λ f. rw (f, h, same, f)))
    (λ e. by_test (q n.id) (λ f. rw (f, e) h) (λ f. rw (f, e) h))

pub ascending_keep : (q : NodeState → Bool) (ns : List NodeState) → ascending ns ≡ true → ascending (keep q ns) ≡ true
unfolding ascending
ascending_keep q [] e = refl
ascending_keep q (n ∷ ns) e =
    let h = ascending_keep q ns (both e).1 in
    by_test (q n) (λ t. rw t (joined (all_keep (λ m. before n.id m.id) q ns (both e).0) h)) (λ t. rw t h)

-- ## Nodes changed under their ids

module _ (f : NodeState → NodeState) (same : (n : NodeState) → (f n).id ≡ n.id) where
  pub find_map : (ns : List NodeState) (x : FullNodeId) → find x (map f ns) ≡ elim (find x ns) [ None ↦ None | Some n ↦ Some (f n) ]
  unfolding find
  find_map [] x = refl
  find_map (n ∷ ns) x =
      let test = ap (same_id x) (same n) in by_test (same_id x n.id) (λ t. rw (test ∙ t, t)) (λ t. rw (test ∙ t, t) (find_map ns x))

  pub ascending_map : (ns : List NodeState) → ascending ns ≡ true → ascending (map f ns) ≡ true
  unfolding ascending
  ascending_map [] e = refl
  ascending_map (n ∷ ns) e = joined (all_map (λ m. before (f n).id m.id) f ns ∙ simp same (both e).0) (ascending_map ns (both e).1)

-- ## Nodes by index

module _ (node : ℕ → NodeState) where
  after_all : (n : ℕ) → ((i : ℕ) → i < n → before (node i).id (node (suc i)).id ≡ true) → (i : ℕ) → i < n → before (node 0).id (node (suc i)).id ≡ true
  after_all n h zero l = h zero l
  after_all n h (suc i) l = before_trans (node 0).id (node (suc i)).id (node (suc (suc i))).id (after_all n h i (omega arith)) (h (suc i) l)

ascending_each : (n : ℕ) (node : ℕ → NodeState) → ((i : ℕ) → suc i < n → before (node i).id (node (suc i)).id ≡ true) → ascending (list_of n node) ≡ true
unfolding ascending list_of
ascending_each zero node h = refl
ascending_each (suc n) node h =
    joined (all_list_of (λ k. before (node 0).id k.id) n (λ i. node (suc i)) (λ i l. after_all node n (λ k b. h k (omega arith)) i l))
    (ascending_each n (λ i. node (suc i)) (λ i l. h (suc i) (omega arith)))

-- where neighbours are in order all are
pub ascending_list_of : (n : ℕ) (f : ℕ → NodeState) → ((i : ℕ) → i + 1 < n → before (f i).id (f (i + 1)).id ≡ true) → ascending (list_of n f) ≡ true
ascending_list_of n f h = ascending_each n f (λ i l. rw (← add-one i) (h i (omega arith)))

-- and where all are in order neighbours are
pub ascending_at : (n : ℕ) (f : ℕ → NodeState) → ascending (list_of n f) ≡ true → (i : ℕ) → i + 1 < n → before (f i).id (f (i + 1)).id ≡ true
unfolding ascending list_of
ascending_at n f e i l = rw (add-one i) (go n f e i (omega arith))
  where
    go : (n : ℕ) (f : ℕ → NodeState) → ascending (list_of n f) ≡ true → (i : ℕ) → suc i < n → before (f i).id (f (suc i)).id ≡ true
    go zero f e i l = absurd (omega arith)
    go (suc n) f e zero l = all_list_of_at (λ k. before (f 0).id k.id) n (λ i. f (suc i)) (both e).0 zero (omega arith)
    go (suc n) f e (suc i) l = go n (λ i. f (suc i)) (both e).1 i (omega arith)
