-- Laws of grafts: which node grafts a tree, and that in a sound state none grafts ROOT.
-- Assumes nothing.
use mathlib.Core.Bool.{Bool, true, not, true≢false}
use mathlib.Core.List.{List, [], ◌∷◌, Memᴰ}
use Rattle.std.specs.Prelude.{Some}
use Rattle.std.proofs.lemmas.Option.{none-some, same_Some}
use mathlib.Core.Path.{◌≡◌, refl, sym, ap, ◌∙◌}
use borrow.Author.Tests.{eqb-true}
use Rattle.base.specs.Tests.{is_none, all, count, same_option}
use Rattle.base.proofs.Cases.{by_test}
use Rattle.base.proofs.Tests.{same_option→≡, not_true, all_member}
use Rattle.base.proofs.Lists.{some_from, distinct_given, first_given_some, all_of, all_not}
use Rattle.ids.specs.Ids.{ROOT, same_tree, same_id}
use Rattle.ids.proofs.Ids.{same_tree→≡, same_tree_refl}
use Rattle.ids.specs.declared.TreeId.{TreeId}
use Rattle.ids.specs.declared.FullNodeId.{FullNodeId}
use Rattle.record.specs.Batch.{NodeData, graft?}
use Rattle.state.specs.State.{NodeState, Forest, find, link_at, graft_at, holder, subtree_of}
use Rattle.state.specs.declared.SubtreeState.{SubtreeState}
use Rattle.state.specs.Down.{Met, met_under, below, below_id, root_of, way_down}
use Rattle.state.specs.Sound.{met_once, grafts_differ}
use Rattle.state.proofs.State.{find_id, find_member, find_self, all_find}
use Rattle.state.proofs.Sound.{Shape, Root, root_of_shape}
use Rattle.state.proofs.Down.{Descent, descent, some_met, below_met}

-- ## Not to graft a tree

-- the data grafts another tree than t, or none
abbrev pub spares : TreeId → NodeData → Bool
spares t d = not (same_option same_tree (graft? d) (Some t))

-- what spares t does not graft it
pub spares_not : (t : TreeId) (d : NodeData) → spares t d ≡ true → graft? d ≡ Some t → ⊥
spares_not t d e q = true≢false (sym (same_tree_refl t) ∙ not_true (rw q at e))

-- and what does not graft t spares it
pub not_spares : (t : TreeId) (d : NodeData) → (graft? d ≡ Some t → ⊥) → spares t d ≡ true
not_spares t d h =
    by_test (same_option same_tree (graft? d) (Some t)) (λ q. absurd (h (same_option→≡ same_tree same_tree→≡ (graft? d) (Some t) q))) (λ q. rw q)

-- a tree has no graft holder where no node grafts it
pub holder_spared : (ns : List NodeState) (t : TreeId) → is_none (holder ns t) ≡ all (λ n. spares t n.body) ns
unfolding holder
holder_spared ns t =
    ap not (first_given_some (λ n. same_option same_tree (graft? n.body) (Some t)) (λ n. n.id) ns)
    ∙ sym (all_not (λ n. same_option same_tree (graft? n.body) (Some t)) ns)

-- ## The node that grafts a tree

-- a node that grafts t is found
pub graft_found : (ns : List NodeState) (x : FullNodeId) (t : TreeId) → graft_at ns x ≡ Some t
    → (n : NodeState) × (find x ns ≡ Some n) × (graft? n.body ≡ Some t)
unfolding graft_at
graft_found ns x t e = some_from (find x ns) (λ n. graft? n.body) t e

-- where all nodes spare t, none grafts it
pub graft_spared : (ns : List NodeState) (x : FullNodeId) (t : TreeId) → all (λ n. spares t n.body) ns ≡ true → graft_at ns x ≡ Some t → ⊥
graft_spared ns x t e q =
    let z = graft_found ns x t q in
    spares_not t z.0.body (all_find (λ n. spares t n.body) ns x z.0 e z.1) z.2

-- where no tree is grafted twice, the nodes that graft one tree are one
pub graft_one : (ns : List NodeState) → grafts_differ ns ≡ true → (x y : FullNodeId) (t : TreeId) → graft_at ns x ≡ Some t → graft_at ns y ≡ Some t → x ≡ y
unfolding grafts_differ
graft_one ns d x y t p q =
    let m = graft_found ns x t p in
    let n = graft_found ns y t q in
    sym (find_id ns x m.0 m.1)
    ∙ ap (λ (k : NodeState). k.id)
    (distinct_given same_tree same_tree_refl (λ k. graft? k.body) ns d m.0 n.0 t (find_member ns x m.0 m.1) (find_member ns y n.0 n.1) m.2 n.2)
    ∙ find_id ns y n.0 n.1

-- ## ROOT

-- below a graft its tree's root is met
below_graft : (s : Forest) (n : NodeState) (t : TreeId) (u : SubtreeState) → find n.id s.nodes ≡ Some n → graft? n.body ≡ Some t → subtree_of s t ≡ Some u
    → below_id s n.id ≡ met_under n.id 0 u.root ∷ []
unfolding below_id below
below_graft s n t u p q r = rw (p, below_id, q, below, r) refl

-- In a sound shape no node grafts ROOT: below it ROOT's root would be met, which records no parent.
pub root_spared : (s : Forest) → Shape s → all (λ n. spares ROOT n.body) s.nodes ≡ true
unfolding met_once root_of met_under
root_spared s h = all_of (λ n. spares ROOT n.body) s.nodes (λ n i. not_spares ROOT n.body (grafts n i))
  where
    r : Root s
    r = root_of_shape s h

    d : Descent s r.root
    d = descent s h r

    grafts : (n : NodeState) → Memᴰ n s.nodes → graft? n.body ≡ Some ROOT → ⊥
    grafts n i q =
        let once = eqb-true (count (λ m. same_id n.id m.id) (way_down s)) 1 (all_member (met_once (way_down s)) s.nodes n h.once i) in
        let met = some_met n.id (way_down s) 0 once in
        let u = some_from (subtree_of s ROOT) (λ v. Some v.root) r.root r.is_the_root in
        let under : Met = met_under n.id 0 u.0.root in
        let below-it : Memᴰ under (below_id s met.0.id) =
        rw (met.2, below_graft s n ROOT u.0 (find_self s.nodes n h.ordered i) q u.1) (mathlib.Core.List.Memᴰ.head refl) in
        let linked = d.parented under (below_met s h r met.0 under met.1 below-it) in
        none-some (record { parent = n.id; index = 0 })
        (sym d.parentless ∙ ap (link_at s.nodes) (sym (same_Some u.0.root r.root u.2)) ∙ linked)
