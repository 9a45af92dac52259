-- What a reason says is so of it alone: two that hold of one call have one number, and agree in what the row is about. Assumes nothing.
use mathlib.Core.Bool.{true, false, true≢false}
use mathlib.Core.List.{List, ◌∷◌}
use Rattle.std.proofs.lemmas.Option.{none-some, same_Some}
use mathlib.Core.Path.{◌≡◌, refl, sym, ap, ◌∙◌}
use Prim.Native.Nat.{ℕ}
use native.Mathlib.Omega.{arith}
use lib.ListN.{length}
use Rattle.std.specs.Prelude.{if◌then◌else◌, Option, None, Some}
use Rattle.base.specs.Bytes.{list_of}
use Rattle.base.proofs.Cases.{by_option, by_order}
use Rattle.base.proofs.Bytes.{length_list_of}
use Rattle.ids.specs.declared.TreeId.{TreeId}
use Rattle.ids.specs.declared.NodeId.{NodeId}
use Rattle.ids.specs.declared.FullNodeId.{FullNodeId}
use Rattle.record.specs.Batch.{Listed, Batch}
use Rattle.record_rules.specs.declared.Offence.{Offence}
use Rattle.state.specs.State.{ParentAndIndex, Forest, State, find, present, graft_at, link_at, subtree_of}
use Rattle.state.specs.declared.SubtreeState.{SubtreeState}
use Rattle.update.specs.Words.{here, listed}
use Rattle.update.specs.Pass.{places}
use Rattle.update.specs.Gone.{goes, asParent, fate}
use Rattle.update.specs.Outcome.{outcome}
use Rattle.reasons.specs.Reasons.{Dropped, Reason, number_of, listed_twice, named_twice, claimed_twice, focus_into_nothing, focus_absent, updated_and_gone, last_of}
use Rattle.reasons_calls.specs.Holds.{namers, ClaimsWhen, Goes, as_root, from, Way, ends, on, OfBatch, FirstOffence, this, later, Kept, Offends}
use Rattle.reasons_calls.specs.Holds.{in_header, in_record, in_totals, Holds, StartHolds}
use Rattle.reasons.proofs.Places.{at_same}
use Rattle.reasons.proofs.Only.{Stops, up_one, dropped_one}

-- ## 2

offence_one : {o p : Offence} {os : List (Option Offence)} → FirstOffence o os → FirstOffence p os → o ≡ p
offence_one this this = refl
offence_one (later h) (later k) = offence_one h k

offence_kept : {o : Offence} {os : List (Option Offence)} → FirstOffence o os → Kept os → ⊥
offence_kept {o} this k = none-some o (sym k)
offence_kept (later h) k = offence_kept h k

pub offends_one : (bytes : List ℕ) (o p : Offence) → Offends bytes o → Offends bytes p → o ≡ p
offends_one bytes o p (in_header h) (in_header k) = offence_one h k
offends_one bytes o p (in_header h) (in_record j m d k) = absurd (offence_kept h d.0)
offends_one bytes o p (in_header h) (in_totals d k) = absurd (offence_kept h d.0)
offends_one bytes o p (in_record i l c h) (in_header k) = absurd (offence_kept k c.0)
offends_one bytes o p (in_record i l c h) (in_record j m d k) =
    by_order i j (λ e. absurd (offence_kept h (d.1 i e)))
    (λ e. by_order j i (λ f. absurd (offence_kept k (c.1 j f))) (λ f. let same : i ≡ j = omega arith in offence_one (rw same at h) k))
offends_one bytes o p (in_record i l c h) (in_totals d k) = absurd (offence_kept h (d.1 i l))
offends_one bytes o p (in_totals c h) (in_header k) = absurd (offence_kept k c.0)
offends_one bytes o p (in_totals c h) (in_record j m d k) = absurd (offence_kept k (c.1 j m))
offends_one bytes o p (in_totals c h) (in_totals d k) = offence_one h k

-- ## 5 to 20

module _ (s : Forest) (b : Batch) where
  here_one : (m n : NodeId) → here s b m ≡ here s b n → m ≡ n
  unfolding here
  here_one m n q = ap (λ (x : FullNodeId). x.node) q

  -- 5
  pub listed_one : (x y : FullNodeId) (i j k l : ℕ) → OfBatch s b (listed_twice x i j) → OfBatch s b (listed_twice y k l) → (x ≡ y) × (i ≡ k) × (j ≡ l)
  unfolding OfBatch
  listed_one x y i j k l g h =
      let second : j ≡ l = by_order j l (λ e. absurd (h.5 g.0 i j g.3 g.4 g.2 e))
      (λ e. by_order l j (λ f. absurd (g.5 h.0 k l h.3 h.4 h.2 f)) (λ f. omega arith)) in
      let same : g.0 ≡ h.0 = at_same g.4 (rw (← second) at h.4) in
      let at-k = rw (← same) at h.3 in
      let first : i ≡ k = by_order i k (λ e. absurd (g.5 g.0 i k g.3 at-k e (omega (arith, h.2))))
      (λ e. by_order k i (λ f. absurd (g.5 g.0 k i at-k g.3 f g.2)) (λ f. omega arith)) in
      (sym g.1 ∙ ap (here s b) same ∙ h.1, first, second)

  -- 9: of a child
  pub named_one : (c : FullNodeId) (xs ys : List FullNodeId) → OfBatch s b (named_twice c xs) → OfBatch s b (named_twice c ys) → xs ≡ ys
  unfolding OfBatch
  named_one c xs ys g h = sym g.3 ∙ ap (λ (n : NodeId). namers s b n b.nodes) (here_one g.0 h.0 (g.1 ∙ sym h.1)) ∙ h.3

  -- 12: of a tree
  when_one : (i : ℕ) (t : TreeId) (x y : FullNodeId) → ClaimsWhen s b i x t → ClaimsWhen s b i y t → x ≡ y
  when_one i t x y g h =
      let same : places g.0 ≡ places h.0 = at_same g.1 h.1 in
      let one : g.0 ≡ h.0 = cc in
      sym g.2 ∙ ap (λ (l : Listed). here s b l.id) one ∙ h.2

  pub claimed_one : (t : TreeId) (x y z w : FullNodeId) → OfBatch s b (claimed_twice t x y) → OfBatch s b (claimed_twice t z w) → (x ≡ z) × (y ≡ w)
  unfolding OfBatch
  claimed_one t x y z w g h =
      let second : g.2 ≡ h.2 = by_order g.2 h.2 (λ e. absurd (omega (arith, h.6 g.2 y e g.5, h.6 g.1 x (omega (arith, g.3)) g.4, g.3)))
      (λ e. by_order h.2 g.2 (λ f. absurd (omega (arith, g.6 h.2 w f h.5, g.6 h.1 z (omega (arith, h.3)) h.4, h.3)))
      (λ f. omega arith)) in
      let first : h.1 ≡ g.1 = g.6 h.1 z (omega (arith, h.3)) h.4 in
      (when_one g.1 t x z g.4 (rw first at h.4), when_one g.2 t y w g.5 (rw (← second) at h.5))

  -- 18: of a node
  goes_stops : (d : Dropped) → Goes s b d → Stops s.nodes (λ z l. fate s b z l ≡ asParent) d.node
  goes_stops d (as_root q r t) l p f = absurd (none-some l (sym q ∙ p))
  goes_stops d (from k q g t) l p f =
      let same : k ≡ l = same_Some k l (sym q ∙ p) in
      let both : goes ≡ asParent = sym g ∙ ap (fate s b d.node) same ∙ f in
      let z : ◌≡◌ {A = ℕ} 0 1 = cc in
      omega arith

  goes_by : (d e : Dropped) → d.node ≡ e.node → Goes s b d → Goes s b e → d.by ≡ e.by
  goes_by d e n (as_root q r t) (as_root p o u) = t ∙ sym u
  goes_by d e n (as_root q r t) (from k p g u) = absurd (none-some k (sym q ∙ ap (link_at s.nodes) n ∙ p))
  goes_by d e n (from k p g u) (as_root q r t) = absurd (none-some k (sym q ∙ ap (link_at s.nodes) (sym n) ∙ p))
  goes_by d e n (from k p g u) (from l q h v) =
      let same : k ≡ l = same_Some k l (sym p ∙ ap (link_at s.nodes) n ∙ q) in
      u ∙ ap {B = Option FullNodeId} (λ (m : ParentAndIndex). if listed s b m.parent then Some m.parent else None) same ∙ sym v

  pub dropped_alone : (x : FullNodeId) (d e : Dropped) → OfBatch s b (updated_and_gone x (Some d)) → OfBatch s b (updated_and_gone x (Some e)) → d ≡ e
  unfolding OfBatch
  dropped_alone x d e g h =
      let p = g.1 in
      let q = h.1 in
      let same = up_one p.above q.above (goes_stops d p.why) (goes_stops e q.why) in
      dropped_one d e same (goes_by d e same p.why q.why)

-- ## The way through the grafts

module _ (s : Forest) where
  -- no graft leads on from x
  abbrev Last : FullNodeId → Type 0
  Last x = (t : TreeId) (u : SubtreeState) → graft_at s.nodes x ≡ Some t → subtree_of s t ≡ Some u → ⊥

  way_last : {x : FullNodeId} {xs : List FullNodeId} → Way s x xs → (y : FullNodeId) × (last_of xs ≡ Some y)
  unfolding last_of
  way_last {x} ends = (x, refl)
  way_last (on q r w) = let z = way_last w in (z.0, rw (z.1, last_of))

  last_on : (x : FullNodeId) (xs : List FullNodeId) (y z : FullNodeId) → last_of xs ≡ Some z → last_of (x ∷ xs) ≡ Some y → last_of xs ≡ Some y
  unfolding last_of
  last_on x xs y z e f = e ∙ (rw (e, last_of) at f)

  way_one : {x : FullNodeId} {xs ys : List FullNodeId} (y z : FullNodeId) → Way s x xs → Way s x ys → last_of xs ≡ Some y → last_of ys ≡ Some z → Last y
      → Last z → xs ≡ ys
  unfolding last_of
  way_one y z ends ends e f g h = refl
  way_one {x} y z ends (on {t} {u} q r w) e f g h = absurd (g t u (ap (graft_at s.nodes) (sym (same_Some x y e)) ∙ q) r)
  way_one {x} y z (on {t} {u} q r w) ends e f g h = absurd (h t u (ap (graft_at s.nodes) (sym (same_Some x z f)) ∙ q) r)
  way_one {x} y z (on {t} {u} {xs} q r w) (on {t = t'} {u = u'} {xs = ys} q' r' w') e f g h =
      let tree : t ≡ t' = same_Some t t' (sym q ∙ q') in
      let sub : u' ≡ u = same_Some u' u (sym r' ∙ ap (subtree_of s) (sym tree) ∙ r) in
      let v : Way s u.focus ys = rw (ap (λ (k : SubtreeState). k.focus) sub) at w' in
      ap {B = List FullNodeId} (λ zs. x ∷ zs) (way_one y z w v (last_on x xs y (way_last w).0 (way_last w).1 e)
      (last_on x ys z (way_last w').0 (way_last w').1 f) g h)

module _ (s : Forest) (b : Batch) where
  -- 15
  nothing_last : (t : TreeId) (x : FullNodeId) → graft_at (outcome s b).nodes x ≡ Some t → subtree_of (outcome s b) t ≡ None → Last (outcome s b) x
  nothing_last t x q r k u p e = none-some u (sym r ∙ ap (subtree_of (outcome s b)) (same_Some t k (sym q ∙ p)) ∙ e)

  pub nothing_one : (o p : Option TreeId) (xs ys : List FullNodeId) → OfBatch s b (focus_into_nothing o xs) → OfBatch s b (focus_into_nothing p ys)
      → (o ≡ p) × (xs ≡ ys)
  unfolding OfBatch
  nothing_one None None xs ys g h = (refl, g.0 ∙ sym h.0)
  nothing_one None (Some t) xs ys g h = absurd (none-some h.0 (sym g.1 ∙ h.1))
  nothing_one (Some t) None xs ys g h = absurd (none-some g.0 (sym h.1 ∙ g.1))
  nothing_one (Some t) (Some k) xs ys g h =
      let o = outcome s b in
      let sub : h.0 ≡ g.0 = same_Some h.0 g.0 (sym h.1 ∙ g.1) in
      let way : Way o g.0.focus ys = rw (ap (λ (u : SubtreeState). u.focus) sub) at h.2 in
      let same = way_one o g.3 h.3 g.2 way g.4 h.4 (nothing_last t g.3 g.5.0 g.5.1) (nothing_last k h.3 h.5.0 h.5.1) in
      let last : g.3 ≡ h.3 = same_Some g.3 h.3 (sym g.4 ∙ ap last_of same ∙ h.4) in
      (sym g.5.0 ∙ ap (graft_at o.nodes) last ∙ h.5.0, same)

  -- 17
  absent_last : (x : FullNodeId) → present (outcome s b).nodes x ≡ false → Last (outcome s b) x
  unfolding present graft_at
  absent_last x e t u q r =
      by_option (find x (outcome s b).nodes) (λ f. none-some t (rw (graft_at, f) at q)) (λ n f. true≢false (rw (present, f) at e))

  pub absent_one : (xs ys : List FullNodeId) → OfBatch s b (focus_absent xs) → OfBatch s b (focus_absent ys) → xs ≡ ys
  unfolding OfBatch
  absent_one xs ys g h =
      let o = outcome s b in
      let sub : h.0 ≡ g.0 = same_Some h.0 g.0 (sym h.1 ∙ g.1) in
      let way : Way o g.0.focus ys = rw (ap (λ (u : SubtreeState). u.focus) sub) at h.2 in
      way_one o g.3 h.3 g.2 way g.4 h.4 (absent_last g.3 g.5.1) (absent_last h.3 h.5.1)

-- ## The number

pub number_one : (s : State) (bytes : List ℕ) (room : ℕ) (q r : Reason) → Holds s bytes room q → Holds s bytes room r → number_of q ≡ number_of r
number_one s bytes room q r h k =
    let slice : List ℕ = list_of room (λ _. 0) in
    let n : length slice ≡ room = length_list_of room (λ _. 0) in
    sym (h.answers slice n) ∙ k.answers slice n

pub start_number_one : (bytes : List ℕ) (q r : Reason) → StartHolds bytes q → StartHolds bytes r → number_of q ≡ number_of r
start_number_one bytes q r h k = sym (h.answers true) ∙ k.answers true
