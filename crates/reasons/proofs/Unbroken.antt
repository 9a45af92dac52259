-- Where no rule for links and trees is found broken, every one is kept. Assumes nothing.
use mathlib.Core.Bool.{true, false, not}
use mathlib.Core.List.Memᴰ
use mathlib.Core.List.{List, [], ◌∷◌, map, Memᴰ}
use mathlib.Core.Logic.{⊎_elim}
use mathlib.Core.Path.{◌≡◌, refl, sym, ap, ◌∙◌}
use Prim.Native.Nat.{ℕ, suc, ◌≤◌}
use native.Mathlib.Omega.{arith}
use lib.ListN.{length}
use borrow.Author.Tests.{leb-false}
use Rattle.std.specs.Prelude.{if◌then◌else◌, None, Some}
use Rattle.base.specs.Tests.{is_some, all, keep, has, distinct, same_option}
use Rattle.base.proofs.Cases.{by_test, by_option}
use Rattle.base.proofs.Tests.{joined, clash, refuted, not_false, or_false}
use Rattle.base.proofs.Lists.{all_of, any_found}
use Rattle.ids.specs.Ids.{same_tree, same_id, before}
use Rattle.ids.proofs.Ids.{same_tree_sym}
use Rattle.ids.specs.declared.TreeId.{TreeId}
use Rattle.ids.specs.declared.FullNodeId.{FullNodeId}
use Rattle.state.specs.State.{same_link, NodeState, TreeEntry, Forest, present}
use Rattle.state.specs.Sound.{graft_is_bare, grafts_differ, grafted, all_grafted, root_first, one_id_each, ascending}
use Rattle.reasons.specs.Reasons.{too_many_children, absent_below, met_twice, never_met, graft_with_children, grafted_twice, root_not_first}
use Rattle.reasons.specs.Shape.{spot, at, smallest, ids_below, reached, met_links, crowded, absent_ids, absence, is_met_twice, is_never_met}
use Rattle.reasons.specs.Shape.{topmost_within, unmet, met_link, disagrees, wrong_link_from, broken_links, graft_twice_from, tree_twice_from}
use Rattle.reasons.specs.Shape.{unrooted_from, broken_trees, disorder_from, broken_shape}
use Rattle.reasons.proofs.Lists.{member_has, keep_member, map_member}
use Rattle.reasons.proofs.Grafts.{grafts_some}
use Rattle.reasons.proofs.First.{none_each, none_made, none_if, none_unless}
use Rattle.reasons.proofs.Broken.{spot_none, Smallest, smallest_least, ids_absent}

-- ## The rules for trees

twice_none : (k : ℕ) (ids : List TreeId) (es : List TreeEntry) → tree_twice_from k ids es ≡ None
    → (distinct same_tree (map (λ e. e.id) es) ≡ true) × ((e : TreeEntry) → Memᴰ e es → has same_tree ids e.id ≡ false)
unfolding tree_twice_from
twice_none k ids [] q = (refl, λ e i. absurd (Memᴰ.not-nil i))
twice_none k ids (e ∷ es) q =
    let this = none_if (has same_tree ids e.id) _ _ q in
    let rest = twice_none (suc k) (e.id ∷ ids) es this.1 in
    let apart : has same_tree (map (λ f. f.id) es) e.id ≡ false = refuted (λ t. let z = any_found (same_tree e.id) (map (λ f. f.id) es) t in
    let f = map_member (λ (f : TreeEntry). f.id) es z.0 z.1 in
    clash (or_false (same_tree f.0.id e.id) (rest.1 f.0 f.1)).0 (same_tree_sym f.0.id e.id ∙ rw f.2 z.2)) in (
      joined (ap not apart) rest.0,
      λ f i. ⊎_elim (λ p. ap (λ (z : TreeEntry). has same_tree ids z.id) p ∙ this.0) (λ j. (or_false (same_tree f.id e.id) (rest.1 f j)).1)
          (Memᴰ.cases_cons i),
    )

unrooted_none : (ns : List NodeState) (k : ℕ) (es : List TreeEntry) → unrooted_from ns k es ≡ None → all_grafted ns k es ≡ true
unfolding unrooted_from all_grafted
unrooted_none ns k [] q = refl
unrooted_none ns k (e ∷ es) q = let this = none_unless (grafted ns k e) _ _ q in joined this.0 (unrooted_none ns (suc k) es this.1)

disorder_none : (k : ℕ) (ns : List NodeState) → disorder_from k ns ≡ None → ascending ns ≡ true
unfolding disorder_from ascending
disorder_none k [] q = refl
disorder_none k (n ∷ ns) q = let this = none_unless (all (λ m. before n.id m.id) ns) _ _ q in joined this.0 (disorder_none (suc k) ns this.1)

-- ## The rules for links

module _ (s : Forest) where
  wrong_none : (k : ℕ) (ns : List NodeState) → wrong_link_from k s (reached s) ns ≡ None → (n : NodeState) → Memᴰ n ns
      → same_option same_link n.parent_and_index (met_link s (reached s) n) ≡ true
  unfolding wrong_link_from disagrees
  wrong_none k [] e n x'' = elim x'' [ ]
  wrong_none k (m ∷ ns) e n (Memᴰ.head q) = rw q (not_false (none_if (disagrees s (reached s) m) _ _ e).0)
  wrong_none k (m ∷ ns) e n (Memᴰ.tail i) = wrong_none (suc k) ns (none_if (disagrees s (reached s) m) _ _ e).1 n i

  -- an absent id stands below a node
  pub absent_above : (ns : List NodeState) (x : FullNodeId) → Memᴰ x (absent_ids s ns) → (n : NodeState) × Memᴰ n ns × Memᴰ x (ids_below s n)
  unfolding absent_ids
  absent_above [] x i = absurd (Memᴰ.not-nil i)
  absent_above (n ∷ ns) x i =
      ⊎_elim (λ j. (n, Memᴰ.head refl, keep_member (λ x. not (present s.nodes x)) (ids_below s n) x j))
      (λ j. let z = absent_above ns x j in (z.0, Memᴰ.tail z.1, z.2))
      (Memᴰ.append_cases (keep (λ x. not (present s.nodes x)) (ids_below s n)) i)

  -- nothing is absent below a node
  absence_none : absence s ≡ None → (n : NodeState) (x : FullNodeId) → Memᴰ n s.nodes → Memᴰ x (ids_below s n) → present s.nodes x ≡ true
  unfolding absence
  absence_none e n x i j =
      let ids = absent_ids s s.nodes in
      by_option (smallest ids)
      (λ q. let empty : ids ≡ [] = rw q at (smallest_least s ids) in
      by_test (present s.nodes x) (λ t. t) (λ t. absurd (Memᴰ.not-nil (rw empty at (ids_absent s s.nodes n x i j t)))))
      (λ y q. let least : Smallest s ids y = rw q at (smallest_least s ids) in
      let above = absent_above s.nodes y least.0 in
      let nowhere = none_made (λ p. absent_below p y) (spot (λ n. has same_id (ids_below s n) y) s.nodes) (rw (q, absence) at e) in
      absurd (clash (spot_none 0 (λ n. has same_id (ids_below s n) y) s.nodes nowhere above.0 above.1)
      (member_has (ids_below s above.0) y above.2)))

-- every rule for links and trees
pub record Unbroken (s : Forest) : Type 0 where
  pub there : (n : NodeState) (x : FullNodeId) → Memᴰ n s.nodes → Memᴰ x (ids_below s n) → present s.nodes x ≡ true
  pub once : (n : NodeState) → Memᴰ n s.nodes → length (met_links s (reached s) n.id) ≤ 1
  pub met : (n : NodeState) → Memᴰ n s.nodes → met_links s (reached s) n.id ≡ [] → ⊥
  pub agrees : (n : NodeState) → Memᴰ n s.nodes → same_option same_link n.parent_and_index (met_link s (reached s) n) ≡ true
  pub bare : all graft_is_bare s.nodes ≡ true
  pub differ : grafts_differ s.nodes ≡ true
  pub first : root_first s.trees ≡ true
  pub one_id : one_id_each s.trees ≡ true
  pub held : all_grafted s.nodes 0 s.trees ≡ true
  pub ordered : ascending s.nodes ≡ true

pub unbroken : (s : Forest) → broken_shape s ≡ None → Unbroken s
unfolding broken_shape broken_links broken_trees unmet one_id_each is_met_twice is_never_met
unbroken s e =
    let parts = none_each (broken_links s (reached s) ∷ broken_trees s ∷ disorder_from 0 s.nodes ∷ []) e in
    let links = none_each
    (at too_many_children (spot crowded s.nodes)
    ∷ absence s
    ∷ at met_twice (spot (is_met_twice s (reached s)) s.nodes)
    ∷ unmet s (reached s)
    ∷ wrong_link_from 0 s (reached s) s.nodes
    ∷ at graft_with_children (spot (λ n. not (graft_is_bare n)) s.nodes)
    ∷ []) parts.0 in
    let trees = none_each
    (elim (graft_twice_from 0 s.nodes) [ None ↦ None | Some g ↦ Some (grafted_twice g) ]
    ∷ (if root_first s.trees then None else Some root_not_first)
    ∷ tree_twice_from 0 [] s.trees
    ∷ unrooted_from s.nodes 0 s.trees
    ∷ []) parts.1.0 in
    let twice = none_made met_twice (spot (is_met_twice s (reached s)) s.nodes) links.1.1.0 in
    let never = none_made (λ x. never_met x (topmost_within (length s.nodes) s (reached s) x.id)) (spot (is_never_met s (reached s)) s.nodes)
    links.1.1.1.0 in
    let full = none_made graft_with_children (spot (λ n. not (graft_is_bare n)) s.nodes) links.1.1.1.1.1.0 in
    record {
      there = absence_none s links.1.0;
      once = λ n i. omega (arith, leb-false 2 (length (met_links s (reached s) n.id)) (spot_none 0 (is_met_twice s (reached s)) s.nodes twice n i));
      met = λ n i q. clash (spot_none 0 (is_never_met s (reached s)) s.nodes never n i) (rw q);
      agrees = wrong_none s 0 s.nodes links.1.1.1.1.0;
      bare = all_of graft_is_bare s.nodes (λ n i. not_false (spot_none 0 (λ n. not (graft_is_bare n)) s.nodes full n i));
      differ = not_false (sym (grafts_some 0 s.nodes) ∙ ap is_some (none_made grafted_twice (graft_twice_from 0 s.nodes) trees.0));
      first = (none_unless (root_first s.trees) root_not_first None trees.1.0).0;
      one_id = (twice_none 0 [] s.trees trees.1.1.0).0;
      held = unrooted_none s.nodes 0 s.trees trees.1.1.1.0;
      ordered = disorder_none 0 s.nodes parts.1.1.0;
    }
