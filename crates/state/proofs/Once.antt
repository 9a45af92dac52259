-- Going down, where every node met is recorded with the link under which it is met, meets no node twice. Assumes nothing.
use mathlib.Core.Bool.{true}
use mathlib.Core.List.{List, [], ◌∷◌, ◌++◌}
use Rattle.std.specs.Prelude.{Option, None, Some}
use Rattle.std.proofs.lemmas.Option.{same_Some}
use mathlib.Core.Path.{◌≡◌, refl, sym, ap, ◌∙◌, subst}
use Prim.Native.Nat.{ℕ, zero, suc, ◌+◌, ◌≤◌}
use native.Mathlib.Omega.{arith}
use lib.ListN.{length}
use borrow.Author.Tests.{eq-eqb}
use Rattle.base.specs.Tests.{all, count, same_option}
use Rattle.base.proofs.Cases.{by_test, by_order}
use Rattle.base.proofs.Tests.{both, joined, same_option→≡, clash}
use Rattle.ids.specs.Ids.{same_id}
use Rattle.ids.proofs.Ids.{same_id→≡, same_id_refl}
use Rattle.ids.specs.declared.NodeId.{NodeId}
use Rattle.ids.specs.declared.FullNodeId.{FullNodeId}
use Rattle.state.specs.State.{ParentAndIndex, same_link, NodeState, Forest, link_at}
use Rattle.state.specs.Down.{Met, met_under, children_met, below, below_id, down}
use Rattle.state.specs.Sound.{met_once, recorded}
use Rattle.state.proofs.State.{same_link→≡, find_id}
use Rattle.state.proofs.Down.{recorded_link, below_by, below_id_by}
use Rattle.state.proofs.Ends.{meets, total}

-- ## Counting

-- how often a link is met by
ways : Option ParentAndIndex → List Met → ℕ
ways k ms = count (λ m. same_option same_link k m.link) ms

-- one more is met by this link, or not
by_way : {P : Type 0} (k : Option ParentAndIndex) (m : Met) (ms : List Met) → (k ≡ m.link → ways k (m ∷ ms) ≡ suc (ways k ms) → P)
    → (ways k (m ∷ ms) ≡ ways k ms → P) → P
unfolding ways
by_way k m ms f g = by_test (same_option same_link k m.link) (λ t. f (same_option→≡ same_link same_link→≡ k m.link t) (rw t)) (λ t. g (rw t))

ways_here : (k : Option ParentAndIndex) (m : Met) (ms : List Met) → k ≡ m.link → ways k (m ∷ ms) ≡ suc (ways k ms)
unfolding ways same_link
ways_here k m ms e = let here : same_option same_link k m.link ≡ true = rw e (same m.link) in rw here
  where
    same : (o : Option ParentAndIndex) → same_option same_link o o ≡ true
    same None = refl
    same (Some l) = joined (same_id_refl l.parent) (eq-eqb l.index l.index refl)

ways_append : (k : Option ParentAndIndex) (xs ys : List Met) → ways k (xs ++ ys) ≡ ways k xs + ways k ys
unfolding ways
ways_append k [] ys = omega arith
ways_append k (x ∷ xs) ys =
    let h = ways_append k xs ys in by_test (same_option same_link k x.link) (λ t. rw t (omega arith)) (λ t. rw t (omega arith))

ways_cons : (k : Option ParentAndIndex) (m : Met) (ms : List Met) → ways k (m ∷ ms) ≡ ways k (m ∷ []) + ways k ms
ways_cons k m ms = ways_append k (m ∷ []) ms

-- a node that is recorded as it is met is met no more often than its link is met by
meets_most : (ns : List NodeState) (x : FullNodeId) (ms : List Met) → all (recorded ns) ms ≡ true → meets x ms ≤ ways (link_at ns x) ms
unfolding meets
meets_most ns x [] e = omega arith
meets_most ns x (m ∷ ms) e =
    let h = meets_most ns x ms (both e).1 in
    by_test (same_id x m.id)
    (λ t. rw t (omega (arith, ways_here (link_at ns x) m ms (ap (link_at ns) (same_id→≡ x m.id t) ∙ recorded_link ns m (both e).0))))
    (λ t. rw t (omega (arith, ways_cons (link_at ns x) m ms)))

-- ## One step down

-- each link at most once, and each with x as the parent and a place from i on
record From (x : FullNodeId) (i : ℕ) (ms : List Met) : Type 0 where
  each : (k : Option ParentAndIndex) → ways k ms ≤ 1
  under : (k : Option ParentAndIndex) → 1 ≤ ways k ms → (l : ParentAndIndex) × (k ≡ Some l) × (l.parent ≡ x) × (i ≤ l.index)

from_none : (x : FullNodeId) (i : ℕ) → From x i []
unfolding ways
from_none x i = record { each = λ k. omega arith; under = λ k h. absurd (omega arith) }

from_more : (x y : FullNodeId) (i : ℕ) (rest : List Met) → From x (suc i) rest → From x i (met_under x i y ∷ rest)
unfolding met_under
from_more x y i rest r = record {
  each = λ k. by_way k (met_under x i y) rest
      (λ q e. by_order 0 (ways k rest)
      (λ h. let z = r.under k h in
      let here : ◌≡◌ {A = ParentAndIndex} (record { parent = x; index = i }) z.0 = same_Some _ _ (sym q ∙ z.1) in
      absurd (omega (arith, z.3, ap (λ (l : ParentAndIndex). l.index) here)))
      (λ h. omega arith))
      (λ e. omega (arith, r.each k));
  under = λ k h. by_way k (met_under x i y) rest (λ q e. (record { parent = x; index = i }, q, refl, omega arith))
      (λ e. let z = r.under k (omega arith) in (z.0, z.1, z.2, omega (arith, z.3)));
}

from_places : (x : FullNodeId) (i : ℕ) (cs : List NodeId) → From x i (children_met x i cs)
unfolding children_met
from_places x i [] = from_none x i
from_places x i (c ∷ cs) = from_more x (record { tree = x.tree; node = c }) i (children_met x (suc i) cs) (from_places x (suc i) cs)

below_from : (s : Forest) (x : FullNodeId) → From x 0 (below_id s x)
below_from s x =
    below_id_by (From x 0) s x (from_none x 0)
    (λ n q. subst (λ y. From y 0 (below s n)) (find_id s.nodes x n q)
    (below_by (From n.id 0) s n (from_places n.id 0 n.body.children) (from_none n.id 0)
    (λ u. from_more n.id u.root 0 [] (from_none n.id 1))))

-- ## No node is met twice

-- what is known of the nodes met, vs, and of those still to be gone to, ms
record Known (ns : List NodeState) (vs ms : List Met) : Type 0 where
  apart : (k : Option ParentAndIndex) → ways k vs + ways k ms ≤ 1
  parents : (l : ParentAndIndex) → 1 ≤ ways (Some l) vs + ways (Some l) ms → 1 ≤ meets l.parent vs
  told : all (recorded ns) vs ≡ true

known_next : (s : Forest) (vs ms : List Met) (m : Met) → Known s.nodes vs (m ∷ ms) → recorded s.nodes m ≡ true
    → Known s.nodes (m ∷ vs) (below_id s m.id ++ ms)
unfolding meets
known_next s vs ms m h e = record { apart = apart; parents = parents; told = joined e h.told }
  where
    new : List Met
    new = below_id s m.id

    b : From m.id 0 new
    b = below_from s m.id

    -- the node was not met before
    fresh : meets m.id vs ≡ 0
    fresh = omega (arith, rw (recorded_link s.nodes m e) at (meets_most s.nodes m.id vs h.told), h.apart m.link, ways_here m.link m ms refl)

    -- so no link with the node as its parent was met by before
    none_before : (l : ParentAndIndex) → l.parent ≡ m.id → ways (Some l) vs + ways (Some l) (m ∷ ms) ≡ 0
    none_before l q =
        by_order 0 (ways (Some l) vs + ways (Some l) (m ∷ ms)) (λ z. absurd (omega (arith, rw q at (h.parents l z), fresh))) (λ z. omega arith)

    apart : (k : Option ParentAndIndex) → ways k (m ∷ vs) + ways k (new ++ ms) ≤ 1
    apart k =
        by_order 0 (ways k new)
        (λ z. let w = b.under k z in
        let n : ways k vs + ways k (m ∷ ms) ≡ 0 = rw w.1 (none_before w.0 w.2) in
        omega (arith, b.each k, ways_append k new ms, ways_cons k m vs, ways_cons k m ms))
        (λ z. omega (arith, h.apart k, ways_append k new ms, ways_cons k m vs, ways_cons k m ms))

    parents : (l : ParentAndIndex) → 1 ≤ ways (Some l) (m ∷ vs) + ways (Some l) (new ++ ms) → 1 ≤ meets l.parent (m ∷ vs)
    parents l p =
        by_test (same_id l.parent m.id) (λ t. rw t (omega arith))
        (λ t. by_order 0 (ways (Some l) new)
        (λ z. let w = b.under (Some l) z in
        let q : l.parent ≡ m.id = ap (λ (j : ParentAndIndex). j.parent) (same_Some l w.0 w.1) ∙ w.2 in
        absurd (clash t (rw q (same_id_refl m.id))))
        (λ z. rw t (h.parents l (omega (arith, ways_append (Some l) new ms, ways_cons (Some l) m vs, ways_cons (Some l) m ms)))))

down_once : (s : Forest) (room : ℕ) (vs ms : List Met) → Known s.nodes vs ms → all (recorded s.nodes) (down room s ms) ≡ true
    → (k : Option ParentAndIndex) → ways k vs + ways k (down room s ms) ≤ 1
unfolding down ways
down_once s zero vs ms h e k = omega (arith, h.apart k)
down_once s (suc room) vs [] h e k = omega (arith, h.apart k)
down_once s (suc room) vs (m ∷ ms) h e k =
    let r = known_next s vs ms m h (both e).0 in
    omega (arith, down_once s room (m ∷ vs) (below_id s m.id ++ ms) r (both e).1 k, ways_cons k m vs, ways_cons k m (down room s (below_id s m.id ++ ms)))

-- going down from a node that has no parent, where every node met is recorded so, no node is met twice
pub once : (s : Forest) (room : ℕ) (r : FullNodeId) → all (recorded s.nodes) (down room s (record { id = r; link = None } ∷ [])) ≡ true
    → (x : FullNodeId) → meets x (down room s (record { id = r; link = None } ∷ [])) ≤ 1
unfolding ways
once s room r e x =
    omega (arith, meets_most s.nodes x (down room s (top ∷ [])) e, down_once s room [] (top ∷ []) start e (link_at s.nodes x))
  where
    top : Met
    top = record { id = r; link = None }

    one : (k : Option ParentAndIndex) → ways k [] + ways k (top ∷ []) ≤ 1
    one None = omega arith
    one (Some l) = omega arith

    start : Known s.nodes [] (top ∷ [])
    start = record { apart = one; parents = λ l p. absurd (omega arith); told = refl }

-- ## Counting the nodes

-- n pigeons, one at most in each of n holes
pub each_once : (ns : List NodeState) (ms : List Met) → ((x : FullNodeId) → meets x ms ≤ 1) → (total ns ms ≤ length ns) × (total ns ms ≡ length ns → all (met_once ms) ns ≡ true)
unfolding total met_once meets
each_once [] ms h = (omega arith, λ e. refl)
each_once (n ∷ ns) ms h =
    let r = each_once ns ms h in
    let one = h n.id in
    (omega (arith, r.0), λ e. joined (eq-eqb (meets n.id ms) 1 (omega (arith, r.0))) (r.1 (omega (arith, r.0))))
