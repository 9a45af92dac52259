-- A forest that breaks a rule is not sound. Assumes nothing.
use mathlib.Core.Bool.{true, false}
use mathlib.Core.List.{List, [], ◌∷◌, map, Memᴰ}
use Rattle.std.specs.Prelude.{Option, Some}
use mathlib.Core.Path.{◌≡◌, refl, sym, ap, ◌∙◌, subst}
use Prim.Native.Nat.{ℕ, suc, ◌+◌, ◌<◌}
use native.Mathlib.Nat.{add-zero, zero-add}
use native.Mathlib.Omega.{arith}
use lib.ListN.{length}
use borrow.Author.Tests.{leb-true}
use Rattle.base.specs.Tests.{all, has, distinct, same_option}
use Rattle.base.proofs.Tests.{both, clash, refuted, not_true, all_member}
use Rattle.base.proofs.Lists.{distinct_given, has_map}
use Rattle.ids.specs.Ids.{same_tree, before}
use Rattle.ids.proofs.Ids.{same_tree_refl, before_self}
use Rattle.ids.specs.declared.TreeId.{TreeId}
use Rattle.record.specs.Batch.{graft?, fields_ok}
use Rattle.state.specs.State.{ParentAndIndex, same_link, NodeState, TreeEntry, Forest, link_at}
use Rattle.state.specs.Down.{below}
use Rattle.state.specs.Sound.{sound_shape, graft_is_bare, grafts_differ, grafted, all_grafted, one_id_each, focus_present, sound}
use Rattle.state.proofs.State.{find_self}
use Rattle.state.proofs.Sound.{Shape, shape_parts, Sound, sound_parts, root_of_shape}
use Rattle.state.proofs.Down.{descent}
use Rattle.state.proofs.Pool.{child_total, children_few}
use Rattle.reasons.specs.Reasons.{Broken, tooManyNodes, tooManyTrees, too_many_children, absent_below, met_twice, never_met, wrong_link}
use Rattle.reasons.specs.Reasons.{graft_with_children, grafted_twice, root_not_first, tree_twice, tree_unrooted, out_of_order, broken_field, no_focus}
use Rattle.reasons.specs.Shape.{ids_below, reached, met_links, broken_state}
use Rattle.reasons.specs.Breaks.{At, at_head, at_tail, Breaks}
use Rattle.reasons.proofs.Lists.{sum_member, all_fails, map_member}
use Rattle.reasons.proofs.First.{said}
use Rattle.reasons.proofs.Places.{at_member, ascending_places}
use Rattle.reasons.proofs.Broken.{member_present, state_says}
use Rattle.reasons.proofs.Links.{same_link_refl, below_way, met_link, met_once, met_some}

-- what a sound shape may break: the limits, the fields' rules and the focus's
unfoldable pub Beyond : Forest → Broken → Type 0
Beyond s tooManyNodes = 256 < length s.nodes
Beyond s tooManyTrees = 32 < length s.trees
Beyond s (too_many_children p) = 256 < length s.nodes
Beyond s (absent_below p x) = ⊥
Beyond s (met_twice p) = ⊥
Beyond s (never_met p d) = ⊥
Beyond s (wrong_link p recorded met) = ⊥
Beyond s (graft_with_children p) = ⊥
Beyond s (grafted_twice g) = ⊥
Beyond s root_not_first = ⊥
Beyond s (tree_twice k t) = ⊥
Beyond s (tree_unrooted k t) = ⊥
Beyond s (out_of_order p) = ⊥
Beyond s (broken_field p) = all (λ n. fields_ok n.body) s.nodes ≡ false
Beyond s no_focus = focus_present s ≡ false

-- ## Tables

-- ids that differ do not stand at two places
places_differ : {t : TreeId} {e f : TreeEntry} {es : List TreeEntry} {j k : ℕ} → distinct same_tree (map (λ e. e.id) es) ≡ true → At f es j → At e es k → j < k
    → e.id ≡ t → f.id ≡ t → ⊥
places_differ d (at_head p) (at_head q) l x y = omega arith
places_differ {e} {es = g ∷ es} d (at_head p) (at_tail i) l x y =
    let q : g.id ≡ e.id = ap (λ (z : TreeEntry). z.id) (sym p) ∙ y ∙ sym x in
    let there : has same_tree (map (λ e. e.id) es) g.id ≡ true = rw q (has_map same_tree same_tree_refl (λ e. e.id) es e (at_member i)) in
    clash (not_true (both d).0) there
places_differ d (at_tail i) (at_head q) l x y = omega arith
places_differ d (at_tail i) (at_tail j) l x y = places_differ (both d).1 i j (omega arith) x y

-- a tree of a table whose first number is k is grafted
grafted_at : {e : TreeEntry} (ns : List NodeState) (k : ℕ) {es : List TreeEntry} {j : ℕ} → all_grafted ns k es ≡ true → At e es j → grafted ns (k + j) e ≡ true
unfolding all_grafted
grafted_at ns k h (at_head p) = rw (add-zero, p) (both h).0
grafted_at {e} ns k {j = suc j} h (at_tail i) = let q : k + suc j ≡ suc k + j = omega arith in rw q (grafted_at ns (suc k) (both h).1 i)

-- ## The rules

module _ (s : Forest) (h : Shape s) where
  -- the link that is recorded of it
  node_link : (n : NodeState) → Memᴰ n s.nodes → link_at s.nodes n.id ≡ n.parent_and_index
  unfolding link_at
  node_link n i = rw (find_self s.nodes n h.ordered i, link_at)

  -- a link under which a node is met is the one that it records
  link_agrees : (n : NodeState) → Memᴰ n s.nodes → (l : Option ParentAndIndex) → met_links s (reached s) n.id ≡ l ∷ []
      → same_option same_link n.parent_and_index l ≡ true
  link_agrees n i l q =
      let same : n.parent_and_index ≡ l = sym (node_link n i) ∙ met_link s h (reached s) n.id l (rw q (Memᴰ.head refl)) in
      rw same (same_link_refl l)

  pub breaks_beyond : (b : Broken) → Breaks s b → Beyond s b
  unfolding Breaks Beyond child_total grafts_differ one_id_each ids_below
  breaks_beyond tooManyNodes z = z
  breaks_beyond tooManyTrees z = z
  breaks_beyond (too_many_children p) z = omega (arith, z.3, sum_member (λ n. length n.body.children) s.nodes z.0 (at_member z.1), children_few s h)
  breaks_beyond (absent_below p x) z =
      let n = z.0 in
      let m = map_member (λ m. m.id) (below s n.0) x n.3.0 in
      clash n.3.1 (rw (← m.2) ((descent s h (root_of_shape s h)).only m.0 (below_way s h n.0 m.0 (at_member n.1) m.1)))
  breaks_beyond (met_twice p) z = omega (arith, z.3, met_once s h (reached s) z.0.id)
  breaks_beyond (never_met p d) z = met_some s h z.0.0.id (member_present s z.0.0 (at_member z.0.1)) z.0.3
  breaks_beyond (wrong_link p recorded met) z = clash z.3.4 (link_agrees z.0 (at_member z.1) z.3.1 z.3.2)
  breaks_beyond (graft_with_children p) z = clash z.3 (all_member graft_is_bare s.nodes z.0 h.bare (at_member z.1))
  breaks_beyond (grafted_twice g) z =
      let m = z.3.1 in
      let one : z.0 ≡ m.2 = distinct_given same_tree same_tree_refl (λ n. graft? n.body) s.nodes h.differ z.0 m.2 g.tree
      (at_member z.1) (at_member m.3) z.3.0 m.4.1 in
      clash (before_self z.0.id) (subst (λ (n : NodeState). before z.0.id n.id ≡ true) (sym one)
      (ascending_places h.ordered z.1 m.3 m.1))
  breaks_beyond root_not_first z = clash z h.first
  breaks_beyond (tree_twice k t) z = places_differ h.one_id z.3.2.1 z.1 z.3.1 z.2 z.3.2.2
  breaks_beyond (tree_unrooted k t) z =
      clash z.3 (subst (λ (j : ℕ). grafted s.nodes j z.0 ≡ true) (zero-add k) (grafted_at s.nodes 0 h.held z.1))
  breaks_beyond (out_of_order p) z = let m = z.3 in clash m.4 (ascending_places h.ordered z.1 m.3 m.1)
  breaks_beyond (broken_field p) z = all_fails (λ n. fields_ok n.body) s.nodes z.0 (at_member z.1) z.3
  breaks_beyond no_focus z = z

-- ## The answers

-- a forest that breaks a rule for links or trees has no sound shape: `Beyond` of such a rule is ⊥
pub breaks_shape : (s : Forest) (b : Broken) → (Beyond s b → ⊥) → Breaks s b → sound_shape s ≡ false
breaks_shape s b f z = refuted (λ e. f (breaks_beyond s (shape_parts s e) b z))

-- a state that breaks a rule is not sound
pub breaks_unsound : (s : Forest) (b : Broken) → Breaks s b → sound s ≡ false
unfolding Beyond
breaks_unsound s b z = refuted (λ e. let p = sound_parts s e in within p b (breaks_beyond s (shape_parts s p.shape) b z))
  where
    within : Sound s → (b : Broken) → Beyond s b → ⊥
    within p tooManyNodes z = omega (arith, leb-true (length s.nodes) 256 p.few_nodes)
    within p tooManyTrees z = omega (arith, leb-true (length s.trees) 32 p.few_trees)
    within p (too_many_children x) z = omega (arith, leb-true (length s.nodes) 256 p.few_nodes)
    within p (absent_below x y) z = z
    within p (met_twice x) z = z
    within p (never_met x d) z = z
    within p (wrong_link x recorded met) z = z
    within p (graft_with_children x) z = z
    within p (grafted_twice g) z = z
    within p root_not_first z = z
    within p (tree_twice k t) z = z
    within p (tree_unrooted k t) z = z
    within p (out_of_order x) z = z
    within p (broken_field x) z = clash z p.fields
    within p no_focus z = clash z p.focus

-- so where a rule is found broken the state is not sound
pub state_broken : (s : Forest) (b : Broken) → broken_state s ≡ Some b → sound s ≡ false
state_broken s b e = breaks_unsound s b (said (Breaks s) (broken_state s) (state_says s) b e)
