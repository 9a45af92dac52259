-- Grafts by index: which are bare, and that no tree is grafted twice, found one node at a time. Assumes nothing.
use mathlib.Core.Bool.{Bool, true, false, not}
use mathlib.Core.List.{List}
use Rattle.std.specs.Prelude.{None, Some}
use mathlib.Core.Path.{◌≡◌, refl, sym, ap, ◌∙◌}
use Prim.Native.Nat.{ℕ, zero, suc, ◌+◌, ◌≤◌, ◌<◌}
use native.Mathlib.Numerals.{add-one}
use native.Mathlib.Omega.{arith}
use lib.Dec.{eqb}
use lib.ListN.{length, get_or, set, replicate, length-set, length-replicate}
use lib.Seq.{get_or-set_same, get_or-set_other}
use borrow.Author.Tests.{eq-eqb, ne_eqb, eqb-true}
use Rattle.base.specs.Tests.{◌and◌, is_some, is_nil, any, all, distinct, given, same_option}
use Rattle.base.specs.Bytes.{bit, all_below, list_of}
use Rattle.base.proofs.Cases.{by_test, by_option, by_last}
use Rattle.base.proofs.Scan.{Passed, scan_start, scan_more, scan_fails, scan_end}
use Rattle.base.proofs.Tests.{both, iff, and_right, call_true, call_false, clash, refuted}
use Rattle.base.proofs.Lists.{first_given_some, all_not, any_given}
use Rattle.base.proofs.Indexed.{all_below_each, all_below_cong, all_indexed, any_indexed, given_indexed, given_some, given_none, distinct_last}
use Rattle.ids.specs.Ids.{same_tree}
use Rattle.ids.proofs.Ids.{same_tree→≡, same_tree_refl}
use Rattle.ids.specs.declared.TreeId.{TreeId}
use Rattle.ids.specs.declared.NodeId.{NodeId}
use Rattle.record.specs.Batch.{graft?}
use Rattle.state_array.specs.declared.ShapeRow.{ShapeRow}
use Rattle.state_array.specs.Layout.{child}
use Rattle.state.specs.State.{holder}
use Rattle.state.specs.Sound.{graft_is_bare, grafts_differ}
use Rattle.state_array.specs.View.{graft_in, id_in, shape_in, children_in, body_in, node_in, slots_of, view}
use Rattle.state_rules.specs.Parts.{bare_in, grafts_tree, none_grafts, mark_of, Marked}

-- sameness of tree ids goes both ways
pub same_tree_swap : (a b : TreeId) → same_tree a b ≡ same_tree b a
same_tree_swap a b =
    iff (λ e. rw (same_tree→≡ a b e) (same_tree_refl b)) (λ e. rw (same_tree→≡ b a e) (same_tree_refl a))

-- what the node in slot i grafts, no node before it grafts
unfoldable pub new_in : List ℕ → ℕ → Bool
new_in s i = elim (graft_in s i) [ None ↦ true | Some t ↦ none_grafts s t i ]

module _ (s : List ℕ) where
  -- what a flag says of the graft
  pub graft_none : (i : ℕ) → bit 8 (shape_in s i).flags ≡ false → graft_in s i ≡ None
  unfolding graft_in
  graft_none i e = rw e

  pub graft_some : (i : ℕ) → bit 8 (shape_in s i).flags ≡ true → graft_in s i ≡ Some (shape_in s i).graft
  unfolding graft_in
  graft_some i e = rw e

  -- a node grafts t where its graft is t
  grafts_is : (t : TreeId) (i : ℕ) → grafts_tree s t i ≡ elim (graft_in s i) [ None ↦ false | Some g ↦ same_tree t g ]
  unfolding grafts_tree graft_in ◌and◌
  grafts_is t i = by_test (bit 8 (shape_in s i).flags) (λ e. rw e) (λ e. rw e)

  -- none grafts t where t is not among the grafts
  none_is : (t : TreeId) (n : ℕ) → none_grafts s t n ≡ not (any (same_tree t) (given (graft_in s) (list_of n (λ i. i))))
  unfolding none_grafts
  none_is t n =
      all_below_cong n _ _ (λ i l. ap not (grafts_is t i)) ∙ sym (all_indexed _ n (λ i. i)) ∙ all_not _ (list_of n (λ i. i))
      ∙ ap not (sym (any_given (same_tree t) (graft_in s) (list_of n (λ i. i))))

  -- a node that is no graft is new, and a graft where none before it grafts its tree
  new_none : (i : ℕ) → bit 8 (shape_in s i).flags ≡ false → new_in s i ≡ true
  unfolding new_in
  new_none i e = rw (graft_none i e, new_in)

  new_some : (i : ℕ) → bit 8 (shape_in s i).flags ≡ true → new_in s i ≡ none_grafts s (shape_in s i).graft i
  unfolding new_in
  new_some i e = rw (graft_some i e, new_in)

  -- no graft twice, one node at a time
  differ_is : (n : ℕ) → distinct same_tree (given (graft_in s) (list_of n (λ i. i))) ≡ all_below n (new_in s)
  unfolding all_below new_in
  differ_is zero = unfold list_of in refl
  differ_is (suc n) =
      by_option (graft_in s n)
      (λ e. rw (← add-one n, given_none (graft_in s) n (λ i. i) e, differ_is n, e, new_in) (sym (and_right (all_below n (new_in s)))))
      (λ g e. rw (
        ← add-one n,
        given_some (graft_in s) n (λ i. i) g e,
        distinct_last same_tree same_tree_swap (given (graft_in s) (list_of n (λ i. i))) g,
        differ_is n,
        ← none_is g n,
        e,
        new_in,
      ))

  -- so no tree is grafted twice where each graft is new
  grafts_differ_lem : grafts_differ (view s).forest.nodes ≡ all_below (slots_of s) (new_in s)
  unfolding grafts_differ view node_in body_in graft? graft_in
  grafts_differ_lem = rw (given_indexed (λ k. graft? k.body) (graft_in s) (slots_of s) (node_in s) (λ i. i) (λ i. refl)) (differ_is (slots_of s))

-- ## Marks

-- the nodes before i, of n, each graft a new tree, and have their marks
pub record Marking (s : List ℕ) (n : ℕ) (seen : List ℕ) (i : ℕ) : Type 0 where
  pub passed : Passed (new_in s) n i
  pub long : length seen ≡ 4096
  pub marked : Marked seen s i

pub marking_start : {s : List ℕ} {n : ℕ} → Marking s n (replicate 4096 0) 0
marking_start = record { passed = scan_start; long = length-replicate {A = ℕ} 4096 0; marked = λ i l. absurd (omega arith) }

pub marking_end : {s seen : List ℕ} {n i : ℕ} → Marking s n seen i → n ≡ slots_of s → n ≤ i → true ≡ grafts_differ (view s).forest.nodes
marking_end {s} h b l = rw (grafts_differ_lem s) (scan_end h.passed b l)

-- one node more, with its row and whether it is a graft
module _ {s seen : List ℕ} {n i : ℕ} (h : Marking s n seen i) (more : i < n) {d : ShapeRow} (is : d ≡ shape_in s i) {g : Bool} (test : g ≡ bit 8 d.flags) where
  -- no graft: it needs no mark
  pub marking_none : g ≡ false → Marking s n seen (i + 1)
  marking_none e =
      let plain = rw is at (call_false test e) in
      record {
        passed = scan_more h.passed more (new_none s i plain);
        long = h.long;
        marked = λ k l b. by_last k i l (λ q. absurd (clash plain (rw q at b))) (λ m. h.marked k m b);
      }

  -- a graft, and whether it is new
  module _ (grafts : g ≡ true) {z : Bool} (new : z ≡ none_grafts s d.graft i) where
    fresh : new_in s i ≡ z
    fresh = new_some s i (rw is at (call_true test grafts)) ∙ rw (← is) (sym new)

    pub marking_fails : n ≡ slots_of s → z ≡ false → false ≡ grafts_differ (view s).forest.nodes
    marking_fails b e = rw (grafts_differ_lem s) (scan_fails h.passed b more (fresh ∙ e))

    pub marking_more : z ≡ true → Marking s n (set seen (mark_of d.graft) 1) (i + 1)
    marking_more e = record {
      passed = scan_more h.passed more (fresh ∙ e);
      long = length-set seen mark 1 ∙ h.long;
      marked = λ k l b. by_last k i l (λ q. rw (q, ← is) here)
          (λ m. by_test (eqb (mark_of (shape_in s k).graft) mark) (λ q. rw (eqb-true _ mark q) here)
          (λ q. get_or-set_other seen mark _ 1 0 (λ w. clash q (eq-eqb _ mark w)) ∙ h.marked k m b));
    }
      where
        mark : ℕ
        mark = mark_of d.graft

        here : get_or (set seen mark 1) mark 0 ≡ 1
        here = get_or-set_same seen mark 1 0 (omega (arith, h.long))

-- a tree without a mark is grafted by none
pub unmarked : (s seen : List ℕ) (n : ℕ) (t : TreeId) → Marked seen s n → get_or seen (mark_of t) 0 ≡ 0 → true ≡ none_grafts s t n
unfolding none_grafts grafts_tree
unmarked s seen n t h e = sym (all_below_each _ n (λ i l. ap not (refuted (grafts i l))))
  where
    grafts : (i : ℕ) → i < n → grafts_tree s t i ≡ true → ⊥
    grafts i l b =
        let z : get_or seen (mark_of t) 0 ≡ 1 = rw (same_tree→≡ t (shape_in s i).graft (both b).1) (h i l (both b).0) in
        omega arith

-- ## The definition, by index

module _ (s : List ℕ) where
  -- a list by index is empty where it has no index
  nil_of : (k : ℕ) (f : ℕ → NodeId) → is_nil (list_of k f) ≡ eqb k 0
  unfolding list_of
  nil_of zero f = sym (eq-eqb 0 0 refl)
  nil_of (suc k) f = sym (ne_eqb (suc k) 0 (λ e. omega arith))

  -- a node is bare by its row
  pub bare_at : (i : ℕ) → graft_is_bare (node_in s i) ≡ bare_in s i
  unfolding graft_is_bare node_in body_in children_in graft? bare_in
  bare_at i =
      by_test (bit 8 (shape_in s i).flags)
      (λ e. rw e (nil_of (shape_in s i).child_count (λ j. record { 0 = child s (id_in s i).node.0 ((shape_in s i).first_child + j) }))) (λ e. rw e)

  -- so are all of them
  pub all_bare : all graft_is_bare (view s).forest.nodes ≡ all_below (slots_of s) (bare_in s)
  unfolding view
  all_bare = all_indexed graft_is_bare (slots_of s) (node_in s) ∙ all_below_cong (slots_of s) _ _ (λ i l. bare_at i)

  -- a node grafts a tree by its row
  pub grafts_at : (x : TreeId) (i : ℕ) → same_option same_tree (graft? (node_in s i).body) (Some x) ≡ grafts_tree s x i
  unfolding node_in body_in graft? grafts_tree ◌and◌
  grafts_at x i = by_test (bit 8 (shape_in s i).flags) (λ e. rw e (same_tree_swap (shape_in s i).graft x)) (λ e. rw e)

  -- a tree has a holder where not none of the nodes grafts it
  pub holder_is : (x : TreeId) → is_some (holder (view s).forest.nodes x) ≡ not (none_grafts s x (slots_of s))
  unfolding holder view none_grafts
  holder_is x =
      first_given_some (λ k. same_option same_tree (graft? k.body) (Some x)) (λ k. k.id) (view s).forest.nodes
      ∙ any_indexed (λ k. same_option same_tree (graft? k.body) (Some x)) (slots_of s) (node_in s)
      ∙ ap not (all_below_cong (slots_of s) _ _ (λ i l. ap not (grafts_at x i)))
