-- What is said of a rule that is broken is so of it alone: two that are so agree. Assumes nothing.
use mathlib.Core.List.{List, [], ◌∷◌}
use Rattle.std.specs.Prelude.{Option, None, Some}
use Rattle.std.proofs.lemmas.Option.{same_Some}
use mathlib.Core.Path.{◌≡◌, refl, sym, ap, ◌∙◌}
use Prim.Native.Nat.{ℕ, zero, suc, ◌≤◌}
use native.Mathlib.Omega.{arith}
use Rattle.ids.specs.declared.FullNodeId.{FullNodeId}
use Rattle.state.specs.State.{ParentAndIndex, NodeState, Forest, parent_of, link_at, parent_at}
use Rattle.reasons.specs.Reasons.{Spot, Dropped, Broken, wrong_link}
use Rattle.reasons.specs.Shape.{reached, met_links}
use Rattle.reasons.specs.Breaks.{Up, there, step, Unmet, Topmost, Circle, Climbs, Breaks, rank, place, FirstRule}
use Rattle.reasons.proofs.Places.{at_same}

-- ## Climbing

-- one link is recorded
same_parent : (ns : List NodeState) (x : FullNodeId) (k l : ParentAndIndex) → link_at ns x ≡ Some k → link_at ns x ≡ Some l → l.parent ≡ k.parent
same_parent ns x k l p q = ap (λ (m : ParentAndIndex). m.parent) (same_Some l k (sym q ∙ p))

-- no step leads on from y
abbrev pub Stops : List NodeState → (FullNodeId → ParentAndIndex → Type 0) → FullNodeId → Type 0
Stops ns P y = (l : ParentAndIndex) → link_at ns y ≡ Some l → P y l → ⊥

module _ {ns : List NodeState} {P : FullNodeId → ParentAndIndex → Type 0} where
  -- the way up ends at one node
  pub up_one : {k m : ℕ} {x y z : FullNodeId} → Up ns P k x y → Up ns P m x z → Stops ns P y → Stops ns P z → y ≡ z
  up_one there there f g = refl
  up_one there (step l q p u) f g = absurd (f l q p)
  up_one (step l q p u) there f g = absurd (g l q p)
  up_one {x} (step l q p u) (step n r o v) f g = up_one u (rw (same_parent ns x l n q r) at v) f g

  -- and no way is longer
  up_longest : {k m : ℕ} {x y z : FullNodeId} → Up ns P k x y → Up ns P m x z → Stops ns P y → m ≤ k
  up_longest there there f = omega arith
  up_longest there (step l q p u) f = absurd (f l q p)
  up_longest (step l q p u) there f = omega arith
  up_longest {x} (step l q p u) (step n r o v) f = let h = up_longest u (rw (same_parent ns x l n q r) at v) f in omega arith

  -- a way, and another from where it ends
  up_joined : {k m : ℕ} {x y z : FullNodeId} → Up ns P k x y → Up ns P m y z → (n : ℕ) × (m ≤ n) × Up ns P n x z
  up_joined {m} there v = (m, omega arith, v)
  up_joined (step l q p u) v = let w = up_joined u v in (suc w.0, omega (arith, w.1), step l q p w.2)

  -- round a circle in so many steps or more
  up_round : {m : ℕ} {y : FullNodeId} (k : ℕ) → Up ns P (suc m) y y → (n : ℕ) × (k ≤ n) × Up ns P n y y
  up_round zero u = (0, omega arith, there)
  up_round (suc k) (step l q p u) =
      let w = up_round k (step l q p u) in
      let v = up_joined u w.2 in
      (suc v.0, omega (arith, w.1, v.1), step l q p v.2)

-- one node and one because of which
pub dropped_one : (d e : Dropped) → d.node ≡ e.node → d.by ≡ e.by → d ≡ e
dropped_one d e p q = λ i. record { node = p i; by = q i }

-- ## 1 and 19

module _ (s : Forest) where
  -- the topmost node never met, or that there is none
  top_stops : (d : Dropped) → parent_at s.nodes d.node ≡ d.by → ((p : FullNodeId) → d.by ≡ Some p → Unmet s p → ⊥)
      → Stops s.nodes (λ z l. Unmet s l.parent) d.node
  unfolding parent_at
  top_stops d records last l q u = last l.parent (sym records ∙ rw (parent_at, q)) u

  -- above a circle no node is topmost
  circle_endless : (x : FullNodeId) (d : Dropped) → Circle s x → Topmost s x d → ⊥
  circle_endless x d h k =
      let round = up_round (suc k.steps) h.back in
      let way = up_joined h.above round.2 in
      omega (arith, round.1, way.1, up_longest k.above way.2 (top_stops d k.records k.last))

  pub climbs_one : (x : FullNodeId) (o p : Option Dropped) → Climbs s x o → Climbs s x p → o ≡ p
  climbs_one x None None h k = refl
  climbs_one x None (Some d) h k = absurd (circle_endless x d h k)
  climbs_one x (Some d) None h k = absurd (circle_endless x d k h)
  climbs_one x (Some d) (Some e) h k =
      let same = up_one h.above k.above (top_stops d h.records h.last) (top_stops e k.records k.last) in
      ap Some (dropped_one d e same (sym h.records ∙ ap (parent_at s.nodes) same ∙ k.records))

  -- the link recorded and the link under which the node is met
  pub links_one : (p : Spot) (r m r' m' : Option FullNodeId) → Breaks s (wrong_link p r m) → Breaks s (wrong_link p r' m') → (r ≡ r') × (m ≡ m')
  unfolding Breaks
  links_one p r m r' m' h k =
      let same : h.0 ≡ k.0 = at_same h.1 k.1 in
      let x = h.3 in
      let y = k.3 in
      let one : x.1 ∷ [] ≡ y.1 ∷ [] = sym x.2 ∙ ap (λ (n : NodeState). met_links s (reached s) n.id) same ∙ y.2 in
      let link : x.1 ≡ y.1 = cc in
      (sym x.0 ∙ ap (λ (n : NodeState). parent_of n.parent_and_index) same ∙ y.0, sym x.3 ∙ ap parent_of link ∙ y.3)

  -- the rule, and where it is broken
  pub rule_one : (lo hi : ℕ) (b c : Broken) → FirstRule s lo hi b → FirstRule s lo hi c → (rank b ≡ rank c) × (place b ≡ place c)
  rule_one lo hi b c h k =
      let same : rank b ≡ rank c = omega (arith, h.first c k.breaks k.asked.0, k.first b h.breaks h.asked.0) in
      (same, omega (arith, h.lowest c k.breaks (sym same), k.lowest b h.breaks same))
