-- Going down once from each node of a forest in order: no link is met twice. In a sound shape every node is met once, under the link that it records.
-- Assumes nothing.
use mathlib.Core.Bool.{Bool, true, false, ◌||◌}
use mathlib.Core.List.{List, [], ◌∷◌, map, Memᴰ}
use mathlib.Core.Logic.{◌⊎◌, inl, inr, ⊎_elim}
use mathlib.Core.Path.{◌≡◌, refl, sym, ap, ◌∙◌, subst}
use Prim.Native.Nat.{ℕ, zero, suc, ◌+◌, ◌-◌, ◌≤◌, ◌<◌}
use native.Mathlib.Nat.{zero-add, suc-add}
use native.Mathlib.Omega.{arith}
use lib.ListN.{length}
use borrow.Author.Tests.{eqb-true, eq-eqb}
use Rattle.std.specs.Prelude.{if◌then◌else◌, Option, None, Some}
use Rattle.base.specs.Tests.{◌and◌, any, all, keep, count, has, same_option}
use Rattle.base.proofs.Cases.{by_test, by_option}
use Rattle.base.proofs.Tests.{both, joined, clash, refuted, all_member, or_right, has_keep}
use Rattle.base.proofs.Lists.{has_map, any_of, any_found}
use Rattle.ids.specs.Ids.{same_id, before}
use Rattle.ids.proofs.Ids.{same_id→≡, same_id_refl, before_self}
use Rattle.ids.specs.declared.NodeId.{NodeId}
use Rattle.ids.specs.declared.FullNodeId.{FullNodeId}
use Rattle.state.specs.State.{ParentAndIndex, same_link, NodeState, Forest, ids_of, present, link_at}
use Rattle.state.specs.Down.{Met, met_under, children_met, below, below_id, root_of, way_down, climb}
use Rattle.state.specs.Sound.{ascending}
use Rattle.state.proofs.State.{present_has, find_id, find_member, find_self}
use Rattle.state.proofs.Sound.{Shape, Root, root_of_shape}
use Rattle.state.proofs.Down.{Descent, descent, some_met, below_met, below_by, below_under}
use Rattle.state.proofs.Family.{child, parent_present}
use Rattle.reasons.specs.Shape.{ids_below, wider, widened, reached, links_below, links_from, met_links}
use Rattle.reasons.proofs.Lists.{has_member, keep_passes, member_keep, count_none, count_every, count_append, keep_member, map_member}
use Rattle.reasons.proofs.Lists.{member_map, count_map_keep}

-- ## One link

-- is this link
abbrev is_link : ParentAndIndex → Option ParentAndIndex → Bool
is_link k l = same_option same_link (Some k) l

children_later : (k : ParentAndIndex) (p : FullNodeId) (i : ℕ) (cs : List NodeId) → k.index < i → count (λ m. is_link k m.link) (children_met p i cs) ≡ 0
unfolding children_met met_under same_link
children_later k p i [] l = refl
children_later k p i (c ∷ cs) l =
    let other : is_link k (Some (record { parent = p; index = i })) ≡ false = refuted (λ e. omega (arith, eqb-true k.index i (both e).1)) in
    rw other (children_later k p (suc i) cs (omega arith))

children_once : (k : ParentAndIndex) (p : FullNodeId) (i : ℕ) (cs : List NodeId) → count (λ m. is_link k m.link) (children_met p i cs) ≤ 1
unfolding children_met met_under same_link
children_once k p i [] = omega arith
children_once k p i (c ∷ cs) =
    by_test (is_link k (Some (record { parent = p; index = i })))
    (λ t. rw t (omega (arith, children_later k p (suc i) cs (omega (arith, eqb-true k.index i (both t).1)))))
    (λ t. rw t (children_once k p (suc i) cs))

below_once : (s : Forest) (k : ParentAndIndex) (n : NodeState) → count (λ m. is_link k m.link) (below s n) ≤ 1
unfolding met_under
below_once s k n =
    below_by (λ ms. count (λ m. is_link k m.link) ms ≤ 1) s n (children_once k n.id 0 n.body.children) (omega arith)
    (λ u. by_test (is_link k (Some (record { parent = n.id; index = 0 }))) (λ t. rw t (omega arith)) (λ t. rw t (omega arith)))

-- below another node than its parent it is not met
below_elsewhere : (s : Forest) (k : ParentAndIndex) (n : NodeState) → (k.parent ≡ n.id → ⊥) → count (λ m. is_link k m.link) (below s n) ≡ 0
unfolding same_link
below_elsewhere s k n h =
    count_none (λ m. is_link k m.link) (below s n)
    (λ m i. let u = below_under s n m i in
    refuted (λ e. h (same_id→≡ k.parent n.id (both (rw u.1 at e)).0)))

-- ## What is met below the nodes

-- a link under which x is met is that of something below a node that is reached
pub links_below_lem : (s : Forest) (xs : List FullNodeId) (x : FullNodeId) (ns : List NodeState) (l : Option ParentAndIndex) → Memᴰ l (links_from s xs x ns)
    → (n : NodeState) × Memᴰ n ns × (m : Met) × Memᴰ m (below s n) × (m.id ≡ x) × (m.link ≡ l) × (has same_id xs n.id ≡ true)
unfolding links_from links_below
links_below_lem s xs x [] l i = absurd (mathlib.Core.List.Memᴰ.not-nil i)
links_below_lem s xs x (n ∷ ns) l i =
    ⊎_elim
    (λ j. by_test (has same_id xs n.id)
    (λ t. let z = map_member (λ m. m.link) (keep (λ m. same_id x m.id) (below s n)) l (rw t at j) in (
      n,
      mathlib.Core.List.Memᴰ.head refl,
      z.0,
      keep_member (λ m. same_id x m.id) (below s n) z.0 z.1,
      sym (same_id→≡ x z.0.id (keep_passes (λ m. same_id x m.id) (below s n) z.0 z.1)),
      z.2,
      t,
    ))
    (λ t. absurd (mathlib.Core.List.Memᴰ.not-nil (rw t at j))))
    (λ j. let z = links_below_lem s xs x ns l j in (z.0, mathlib.Core.List.Memᴰ.tail z.1, z.2, z.3, z.4, z.5, z.6))
    (mathlib.Core.List.Memᴰ.append_cases (if has same_id xs n.id then links_below s x n else []) i)

-- and what is below a node that is reached is met under its link
pub below_links : (s : Forest) (xs : List FullNodeId) (ns : List NodeState) (n : NodeState) (m : Met) → Memᴰ n ns → has same_id xs n.id ≡ true
    → Memᴰ m (below s n) → Memᴰ m.link (links_from s xs m.id ns)
unfolding links_from links_below
below_links s xs [] n m x3 e i = elim x3 [ ]
below_links s xs (k ∷ ns) n m (mathlib.Core.List.Memᴰ.head q) e i =
    let first : Memᴰ m.link (if has same_id xs k.id then links_below s m.id k else []) =
    rw (ap (λ (z : NodeState). has same_id xs z.id) (sym q) ∙ e)
    (member_map (λ m. m.link) (keep (λ j. same_id m.id j.id) (below s k)) m
    (member_keep (λ j. same_id m.id j.id) (below s k) m (rw q at i) (same_id_refl m.id))) in
    mathlib.Core.List.Memᴰ.append_left (links_from s xs m.id ns) first
below_links s xs (k ∷ ns) n m (mathlib.Core.List.Memᴰ.tail j) e i =
    mathlib.Core.List.Memᴰ.append_right (if has same_id xs k.id then links_below s m.id k else []) (below_links s xs ns n m j e i)

-- no link is met twice
from_once : (s : Forest) (xs : List FullNodeId) (x : FullNodeId) (k : ParentAndIndex) (ns : List NodeState) → ascending ns ≡ true
    → count (is_link k) (links_from s xs x ns) ≤ 1
unfolding links_from links_below ascending same_link
from_once s xs x k [] up = omega arith
from_once s xs x k (n ∷ ns) up =
    let rest = from_once s xs x k ns (both up).1 in
    let here = count_map_keep (λ m. m.link) (is_link k) (λ m. same_id x m.id) (below s n) in
    let split = count_append (is_link k) (if has same_id xs n.id then links_below s x n else []) (links_from s xs x ns) in
    by_test (has same_id xs n.id)
    (λ t. let sum = rw t at split in
    by_test (same_id k.parent n.id)
    (λ p. let later : count (is_link k) (links_from s xs x ns) ≡ 0 = count_none (is_link k) (links_from s xs x ns)
    (λ l i. after n ns (both up).0 (same_id→≡ k.parent n.id p) l i) in rw t (omega (arith, below_once s k n)))
    (λ p. let away = below_elsewhere s k n (λ q. clash p (rw q (same_id_refl n.id))) in rw t (omega arith)))
    (λ t. rw t rest)
  where
    -- the later nodes have other ids
    after : (n : NodeState) (ns : List NodeState) → all (λ m. before n.id m.id) ns ≡ true → k.parent ≡ n.id → (l : Option ParentAndIndex)
        → Memᴰ l (links_from s xs x ns) → is_link k l ≡ false
    after n ns up p l i =
        let z = links_below_lem s xs x ns l i in
        let u = below_under s z.0 z.2 z.3 in
        refuted (λ e. let q : n.id ≡ z.0.id = sym p ∙ same_id→≡ k.parent z.0.id (both (rw (sym z.5 ∙ u.1) at e)).0 in
        clash (before_self n.id) (subst (λ (y : FullNodeId). before n.id y ≡ true) (sym q)
        (all_member (λ m. before n.id m.id) ns z.0 up z.1)))

-- the root's part
abbrev pub root_links : Forest → FullNodeId → List (Option ParentAndIndex)
root_links s x = if same_option same_id (root_of s) (Some x) then None ∷ [] else []

pub differ_once : (s : Forest) (xs : List FullNodeId) (x : FullNodeId) → ascending s.nodes ≡ true → (l : Option ParentAndIndex)
    → count (same_option same_link l) (met_links s xs x) ≤ 1
unfolding met_links
differ_once s xs x up None =
    let split = count_append (same_option same_link None) (root_links s x) (links_from s xs x s.nodes) in
    let later : count (same_option same_link None) (links_from s xs x s.nodes) ≡ 0 =
    count_none (same_option same_link None) (links_from s xs x s.nodes)
    (λ l i. let z = links_below_lem s xs x s.nodes l i in rw (sym z.5 ∙ (below_under s z.0 z.2 z.3).1)) in
    by_test (same_option same_id (root_of s) (Some x)) (λ t. let sum = rw t at split in rw t (omega arith)) (λ t. let sum = rw t at split in rw t (omega arith))
differ_once s xs x up (Some k) =
    let split = count_append (is_link k) (root_links s x) (links_from s xs x s.nodes) in
    let rest = from_once s xs x k s.nodes up in
    by_test (same_option same_id (root_of s) (Some x)) (λ t. rw t rest) (λ t. rw t rest)

pub same_link_refl : (l : Option ParentAndIndex) → same_option same_link l l ≡ true
unfolding same_link
same_link_refl None = refl
same_link_refl (Some l) = joined (same_id_refl l.parent) (eq-eqb l.index l.index refl)

-- links that are all one link are at most one
pub one_link : (s : Forest) (xs : List FullNodeId) (x : FullNodeId) → ascending s.nodes ≡ true → (k : Option ParentAndIndex)
    → ((l : Option ParentAndIndex) → Memᴰ l (met_links s xs x) → k ≡ l) → length (met_links s xs x) ≤ 1
one_link s xs x up k h =
    omega (arith, differ_once s xs x up k, count_every (same_option same_link k) (met_links s xs x) (λ l i. rw (← h l i) (same_link_refl k)))

-- ## In a sound shape

-- one step more widens what is reached
pub widened_more : (k : ℕ) (s : Forest) (xs : List FullNodeId) → widened (suc k) s xs ≡ wider s (widened k s xs)
unfolding widened
widened_more zero s xs = refl
widened_more (suc k) s xs = widened_more k s (wider s xs)

-- what was reached stays so, if it is present
pub wider_old : (s : Forest) (xs : List FullNodeId) (x : FullNodeId) → present s.nodes x ≡ true → has same_id xs x ≡ true → has same_id (wider s xs) x ≡ true
unfolding wider
wider_old s xs x e q = has_keep same_id same_id→≡ _ (ids_of s.nodes) x ∙ joined (sym (present_has s.nodes x) ∙ e) (rw q)

-- also after more steps
pub widened_old : (j k : ℕ) (s : Forest) (xs : List FullNodeId) (x : FullNodeId) → present s.nodes x ≡ true → has same_id (widened k s xs) x ≡ true
    → has same_id (widened (j + k) s xs) x ≡ true
widened_old zero k s xs x e q = rw zero-add q
widened_old (suc j) k s xs x e q = rw (suc-add, widened_more (j + k) s xs) (wider_old s (widened (j + k) s xs) x e (widened_old j k s xs x e q))

-- and what is below it is reached, if it is present
pub wider_below : (s : Forest) (xs : List FullNodeId) (x : FullNodeId) → present s.nodes x ≡ true → (n : NodeState) → Memᴰ n s.nodes
    → has same_id xs n.id ≡ true
    → {l : Option ParentAndIndex} → Memᴰ (record { id = x; link = l }) (below s n) → has same_id (wider s xs) x ≡ true
unfolding wider ids_below
wider_below s xs x e n i q {l} j =
    has_keep same_id same_id→≡ _ (ids_of s.nodes) x
    ∙ joined (sym (present_has s.nodes x) ∙ e)
    (or_right (has same_id xs x)
    (any_of (λ n. has same_id xs n.id and has same_id (map (λ m. m.id) (below s n)) x) s.nodes n i
    (joined q (has_map same_id same_id_refl (λ (m : Met). m.id) (below s n) (record { id = x; link = l }) j))))

-- what is reached then was so, or stands below a node that was
pub wider_cases : (s : Forest) (xs : List FullNodeId) (x : FullNodeId) → has same_id (wider s xs) x ≡ true
    → (has same_id xs x ≡ true)
    ⊎ ((n : NodeState) × Memᴰ n s.nodes × (m : Met) × Memᴰ m (below s n) × (m.id ≡ x) × (has same_id xs n.id ≡ true))
unfolding wider ids_below
wider_cases s xs x e =
    let test : FullNodeId → Bool = λ y. has same_id xs y || any (λ n. has same_id xs n.id and has same_id (ids_below s n) y) s.nodes in
    let passes : test x ≡ true = (both (sym (has_keep same_id same_id→≡ test (ids_of s.nodes) x) ∙ e)).1 in
    by_test (has same_id xs x) (λ t. inl t) (λ t. inr
    (above (any_found (λ n. has same_id xs n.id and has same_id (ids_below s n) x) s.nodes (rw t at passes))))
  where
    above : (n : NodeState) × Memᴰ n s.nodes × (has same_id xs n.id and has same_id (ids_below s n) x ≡ true)
        → (n : NodeState) × Memᴰ n s.nodes × (m : Met) × Memᴰ m (below s n) × (m.id ≡ x) × (has same_id xs n.id ≡ true)
    above z =
        let known = both z.2 in
        let m = map_member (λ (m : Met). m.id) (below s z.0) x (has_member (ids_below s z.0) x known.1) in
        (z.0, z.1, m.0, m.1, m.2, known.0)

module _ (s : Forest) (h : Shape s) where
  r : Root s
  r = root_of_shape s h

  d : Descent s r.root
  d = descent s h r

  -- what is below a node is met
  pub below_way : (n : NodeState) (m : Met) → Memᴰ n s.nodes → Memᴰ m (below s n) → Memᴰ m (way_down s)
  unfolding below_id ids_of
  below_way n m i j =
      let there = present_has s.nodes n.id ∙ has_map same_id same_id_refl (λ k. k.id) s.nodes n i in
      let met = some_met n.id (way_down s) 0 (d.once n.id there) in
      below_met s h r met.0 m met.1 (rw (met.2, find_self s.nodes n h.ordered i, below_id) j)

  -- under the link that it records
  pub met_link : (xs : List FullNodeId) (x : FullNodeId) (l : Option ParentAndIndex) → Memᴰ l (met_links s xs x) → link_at s.nodes x ≡ l
  unfolding met_links
  met_link xs x l i =
      ⊎_elim
      (λ j. by_test (same_option same_id (root_of s) (Some x))
      (λ t. let same : r.root ≡ x = same_id→≡ r.root x (rw r.is_the_root at t) in
      ap (link_at s.nodes) (sym same) ∙ d.parentless ∙ sym (mathlib.Core.List.Memᴰ.eq_of_singleton (rw t at j)))
      (λ t. absurd (mathlib.Core.List.Memᴰ.not-nil (rw t at j))))
      (λ j. let z = links_below_lem s xs x s.nodes l j in
      ap (link_at s.nodes) (sym z.4) ∙ d.parented z.2 (below_way z.0 z.2 z.1 z.3) ∙ z.5)
      (mathlib.Core.List.Memᴰ.append_cases (root_links s x) i)

  -- at most once
  pub met_once : (xs : List FullNodeId) (x : FullNodeId) → length (met_links s xs x) ≤ 1
  met_once xs x = one_link s xs x h.ordered (link_at s.nodes x) (met_link xs x)

  -- a node that records no parent is climbed from to itself
  stays : (k : ℕ) (x : FullNodeId) → link_at s.nodes x ≡ None → climb k s.nodes x ≡ x
  unfolding climb
  stays zero x p = refl
  stays (suc k) x p = rw (p, climb)

  -- a node that can be climbed from to the root in k steps is reached in k
  climb_reached : (k : ℕ) (x : FullNodeId) → present s.nodes x ≡ true → climb k s.nodes x ≡ r.root → has same_id (widened k s (r.root ∷ [])) x ≡ true
  unfolding climb
  climb_reached zero x e q = unfold widened in rw (q, same_id_refl r.root)
  climb_reached (suc k) x e q =
      rw (widened_more k s (r.root ∷ []))
      (by_option (link_at s.nodes x)
      (λ p. wider_old s (widened k s (r.root ∷ [])) x e (climb_reached k x e (stays k x p ∙ rw (p, climb) at q)))
      (λ l p. let c = child s h x l p in
      let up = climb_reached k l.parent (parent_present s h x l p) (rw (p, climb) at q) in
      wider_below s (widened k s (r.root ∷ [])) x e c.parent (find_member s.nodes l.parent c.parent c.there)
      (rw (find_id s.nodes l.parent c.parent c.there) up) c.below))

  -- so every node is reached
  pub reached_all : (x : FullNodeId) → present s.nodes x ≡ true → has same_id (reached s) x ≡ true
  unfolding reached
  reached_all x e =
      let c = d.climbs x e in
      let q : length s.nodes ≡ length s.nodes - c.0 + c.0 = omega (arith, c.1) in
      rw (r.is_the_root, reached, q) (widened_old (length s.nodes - c.0) c.0 s (r.root ∷ []) x e (climb_reached c.0 x e c.2))

  -- and met
  pub met_some : (x : FullNodeId) → present s.nodes x ≡ true → met_links s (reached s) x ≡ [] → ⊥
  unfolding met_links climb
  met_some x e q =
      by_option (link_at s.nodes x)
      (λ p. let c = d.climbs x e in
      let top : x ≡ r.root = sym (stays c.0 x p) ∙ c.2 in
      let at-root : same_option same_id (root_of s) (Some x) ≡ true = rw (r.is_the_root, top, same_id_refl r.root) in
      let z : ◌≡◌ {A = List (Option ParentAndIndex)} (None ∷ links_from s (reached s) x s.nodes) [] = rw at-root at q in
      let no : ◌≡◌ {A = ℕ} 0 1 = cc in omega arith)
      (λ l p. let c = child s h x l p in
      let i = find_member s.nodes l.parent c.parent c.there in
      let up : has same_id (reached s) c.parent.id ≡ true = rw (find_id s.nodes l.parent c.parent c.there)
      (reached_all l.parent (parent_present s h x l p)) in
      mathlib.Core.List.Memᴰ.not-nil (subst (λ (ls : List (Option ParentAndIndex)). Memᴰ (Some l) ls) q
      (mathlib.Core.List.Memᴰ.append_right (root_links s x) (below_links s (reached s) s.nodes c.parent (record { id = x; link = Some l }) i up c.below))))
