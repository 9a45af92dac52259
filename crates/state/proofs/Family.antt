-- In a sound shape a recorded link is a step down: the node stands below the parent that it records, at that place. Assumes nothing.
use mathlib.Core.Bool.{true}
use mathlib.Core.List.Memᴰ
use mathlib.Core.List.{List, Memᴰ}
use Rattle.std.specs.Prelude.{Some}
use Rattle.std.proofs.lemmas.Option.{none-some, same_Some}
use mathlib.Core.Path.{◌≡◌, sym, ap, ◌∙◌, subst}
use Rattle.base.specs.Tests.{is_some}
use Rattle.base.proofs.Lists.{some_from}
use Rattle.ids.specs.declared.FullNodeId.{FullNodeId}
use Rattle.state.specs.State.{ParentAndIndex, NodeState, Forest, find, present, link_at}
use Rattle.state.specs.Down.{Met, below, below_id, way_down}
use Rattle.state.proofs.State.{find_id}
use Rattle.state.proofs.Sound.{Shape, Root, root_of_shape}
use Rattle.state.proofs.Down.{Descent, descent, some_met, way_each, below_id_by, below_under}

-- a link by which m is met leads to a present node, one step above m
abbrev Placed : Forest → Met → Type 0
Placed s m = (l : ParentAndIndex) → m.link ≡ Some l → (n : NodeState) × (find l.parent s.nodes ≡ Some n) × Memᴰ m (below s n)

below_placed : (s : Forest) (x : FullNodeId) (m : Met) → Memᴰ m (below_id s x) → Placed s m
below_placed s x m =
    below_id_by (λ ms. Memᴰ m ms → Placed s m) s x (λ e. absurd (Memᴰ.not-nil e))
    (λ n q e l f. let u = below_under s n m e in
    let up : l ≡ record { parent = n.id; index = u.0 } = same_Some l _ (sym f ∙ u.1) in
    (n, rw (ap (λ k. k.parent) up ∙ find_id s.nodes x n q) q, e))

-- ## A recorded link

-- a node that records a link is present
pub linked_present : (ns : List NodeState) (x : FullNodeId) (l : ParentAndIndex) → link_at ns x ≡ Some l → present ns x ≡ true
unfolding link_at present
linked_present ns x l q = ap is_some (some_from (find x ns) (λ n. n.parent_and_index) l q).1

-- x stands below the parent of l, at the place that l says
pub record Child (s : Forest) (x : FullNodeId) (l : ParentAndIndex) : Type 0 where
  pub parent : NodeState
  pub there : find l.parent s.nodes ≡ Some parent
  pub below : Memᴰ (record { id = x; link = Some l }) (below s parent)

-- in a sound shape a node stands below the parent that it records
pub child : (s : Forest) → Shape s → (x : FullNodeId) (l : ParentAndIndex) → link_at s.nodes x ≡ Some l → Child s x l
child s h x l q = record { parent = p.0; there = p.1; below = subst (λ (m : Met). Memᴰ m (below s p.0)) whole p.2 }
  where
    r : Root s
    r = root_of_shape s h

    d : Descent s r.root
    d = descent s h r

    z : (m : Met) × Memᴰ m (way_down s) × (m.id ≡ x)
    z = some_met x (way_down s) 0 (d.once x (linked_present s.nodes x l q))

    linked : z.0.link ≡ Some l
    linked = sym (d.parented z.0 z.1) ∙ ap (link_at s.nodes) z.2 ∙ q

    whole : ◌≡◌ {A = Met} z.0 (record { id = x; link = Some l })
    whole = λ i. record { id = z.2 i; link = linked i }

    p : (n : NodeState) × (find l.parent s.nodes ≡ Some n) × Memᴰ z.0 (below s n)
    p =
        way_each (Placed s) s r (λ k f. absurd (none-some k f)) (λ k m _ i. below_placed s k.id m i) z.0 z.1 l linked

-- that parent is present
pub parent_present : (s : Forest) → Shape s → (x : FullNodeId) (l : ParentAndIndex) → link_at s.nodes x ≡ Some l → present s.nodes l.parent ≡ true
unfolding present
parent_present s h x l q = ap is_some (child s h x l q).there
