-- The rule that is found broken is the first that is broken, and at its first place. Assumes nothing.
use mathlib.Core.Bool.{Bool, true, false, not, false≢true}
use mathlib.Core.List.Memᴰ
use mathlib.Core.List.{List, [], ◌∷◌, ◌++◌}
use Rattle.std.proofs.lemmas.Option.{none-some, same_Some}
use mathlib.Core.Path.{◌≡◌, refl, sym, ap, ◌∙◌}
use Prim.Native.Nat.{ℕ, zero, suc, ◌+◌, ◌-◌, ◌≤◌, ◌<◌}
use native.Mathlib.Nat.{add-zero, zero-add, suc-add}
use native.Mathlib.Omega.{arith}
use lib.Dec.{leb}
use lib.ListN.{length}
use borrow.Author.Tests.{lt-ltb, lt-leb, le-leb}
use Rattle.std.specs.Prelude.{if◌then◌else◌, Option, None, Some}
use Rattle.base.specs.Tests.{is_some, all, has, first_given}
use Rattle.base.proofs.Cases.{by_test, by_option, by_order}
use Rattle.base.proofs.Tests.{clash, refuted, all_member, or_right}
use Rattle.base.proofs.Lists.{has_given}
use Rattle.ids.specs.Ids.{same_tree, same_id, before}
use Rattle.ids.proofs.Ids.{same_tree_refl, same_id→≡, before_total}
use Rattle.ids.specs.declared.TreeId.{TreeId}
use Rattle.ids.specs.declared.FullNodeId.{FullNodeId}
use Rattle.record.specs.Batch.{graft?, fields_ok}
use Rattle.state.specs.State.{NodeState, TreeEntry, Forest, parent_of, holder}
use Rattle.state.specs.Sound.{graft_is_bare, grafted, root_first, focus_present}
use Rattle.reasons.specs.Reasons.{Spot, Regraft, Broken, tooManyNodes, tooManyTrees, too_many_children, absent_below, met_twice, never_met}
use Rattle.reasons.specs.Reasons.{wrong_link, graft_with_children, grafted_twice, root_not_first, tree_twice, tree_unrooted, out_of_order, broken_field}
use Rattle.reasons.specs.Reasons.{no_focus}
use Rattle.reasons.specs.Shape.{spot_from, spot, at, smallest, ids_below, reached, met_links, crowded, absent_ids, absence, is_met_twice, is_never_met}
use Rattle.reasons.specs.Shape.{topmost_within, unmet, met_link, disagrees, wrong_link_from, broken_links, graft_twice_from, tree_twice_from}
use Rattle.reasons.specs.Shape.{unrooted_from, broken_trees, disorder_from, broken_shape, broken_state}
use Rattle.reasons.specs.Breaks.{At, at_head, at_tail, Breaks, rank, place, FirstRule, FirstOfState, FirstOfShape}
use Rattle.reasons.proofs.Lists.{member_has}
use Rattle.reasons.proofs.First.{IfSome, said, says_else, says_map}
use Rattle.reasons.proofs.Places.{at_member, at_same, at_below, From, from_start}
use Rattle.reasons.proofs.Grafts.{holder_some}
use Rattle.reasons.proofs.Broken.{Smallest, smallest_least, absent_ids_lem, ids_absent, shape_says, state_says}
use Rattle.reasons.proofs.Unbroken.{absent_above}

-- ## The first of some

module _ {A : Type 0} where
  -- the first of some stands at a place before which there is none
  pub first_at : (os : List (Option A)) (x : A) → first_given (λ o. o) os ≡ Some x
      → (i : ℕ) × At (Some x) os i × ((j : ℕ) (o : Option A) → j < i → At o os j → o ≡ None)
  first_at [] x e = absurd (none-some x e)
  first_at (None ∷ os) x e =
      let z = first_at os x e in (suc z.0, at_tail z.1, one_more z.0 z.2)
    where
      one_more : (k : ℕ) → ((j : ℕ) (o : Option A) → j < k → At o os j → o ≡ None) → (j : ℕ) (o : Option A) → j < suc k → At o (None ∷ os) j → o ≡ None
      one_more k h zero o less (at_head q) = q
      one_more k h (suc j) o less (at_tail i) = h j o (omega arith) i
  first_at (Some y ∷ os) x e = (0, at_head (sym e), λ j o less i. absurd (omega arith))

  -- some of which are the first of others
  pub flat : (xs ys zs : List (Option A)) → first_given (λ o. o) (xs ++ first_given (λ o. o) ys ∷ zs) ≡ first_given (λ o. o) (xs ++ ys ++ zs)
  flat [] [] zs = refl
  flat [] (None ∷ ys) zs = flat [] ys zs
  flat [] (Some y ∷ ys) zs = refl
  flat (None ∷ xs) ys zs = flat xs ys zs
  flat (Some x ∷ xs) ys zs = refl

  -- what stands before what stands there
  at_earlier : {x : A} {xs : List A} {i : ℕ} (j : ℕ) → At x xs i → j ≤ i → (y : A) × At y xs j
  at_earlier {xs = []} zero i l = elim i [ ]
  at_earlier {xs = y ∷ ys} zero i l = (y, at_head refl)
  at_earlier (suc j) (at_head q) l = absurd (omega arith)
  at_earlier {x} {xs = y ∷ ys} (suc j) (at_tail i) l = let z = at_earlier {xs = ys} j i (omega arith) in (z.0, at_tail z.1)

  -- what stands in the first list, or in the second, stands in both
  at_left : {x : A} {xs : List A} {i : ℕ} (ys : List A) → At x xs i → At x (xs ++ ys) i
  at_left ys (at_head q) = at_head q
  at_left ys (at_tail i) = at_tail (at_left ys i)

  at_right : {x : A} {xs : List A} {i : ℕ} (ys : List A) → At x xs i → At x (ys ++ xs) (length ys + i)
  at_right {i} [] a = rw zero-add a
  at_right {i} (y ∷ ys) a = rw suc-add (at_tail (at_right ys a))

-- ## A rule that is broken is found, there or earlier

-- a search finds a broken rule, at this place or an earlier one
abbrev Finds : Option Broken → ℕ → Type 0
Finds o k = (b : Broken) × (o ≡ Some b) × (place b ≤ k)

-- counted from 0
counted : {o : Option Broken} {k : ℕ} → Finds o (0 + k) → Finds o k
counted z = (z.0, z.1, omega (arith, z.2))

unless_found : (t : Bool) (b : Broken) (k : ℕ) → place b ≡ 0 → t ≡ false → Finds (if t then None else Some b) k
unless_found true b k p e = absurd (false≢true (sym e))
unless_found false b k p e = (b, refl, omega arith)

spot_lowest : {n : NodeState} (k : ℕ) (p : NodeState → Bool) {ns : List NodeState} {i : ℕ} → At n ns i → p n ≡ true
    → (x : Spot) × (spot_from k p ns ≡ Some x) × (x.slot ≤ k + i)
unfolding spot_from
spot_lowest {n = n} k p {ns = []} x6 e = elim x6 [ ]
spot_lowest k p {ns = m ∷ ns} (at_head q) e = let t : p m ≡ true = ap p (sym q) ∙ e in (record { slot = k; id = m.id }, rw t, omega arith)
spot_lowest k p {ns = m ∷ ns} (at_tail i) e =
    by_test (p m) (λ t. (record { slot = k; id = m.id }, rw t, omega arith))
    (λ t. let z = spot_lowest (suc k) p i e in (z.0, rw t z.1, omega (arith, z.2)))

spot_finds : (p : NodeState → Bool) (f : Spot → Broken) {ns : List NodeState} {n : NodeState} {i : ℕ} → ((x : Spot) → place (f x) ≡ x.slot)
    → At n ns i → p n ≡ true
    → Finds (at f (spot p ns)) i
spot_finds p f where-is i e = let z = spot_lowest 0 p i e in (f z.0, rw z.1, omega (arith, where-is z.0, z.2))

unrooted_finds : {e : TreeEntry} (k : ℕ) (ns : List NodeState) {es : List TreeEntry} {i : ℕ} → At e es i → grafted ns (k + i) e ≡ false
    → Finds (unrooted_from ns k es) (k + i)
unfolding unrooted_from place
unrooted_finds {e = e} k ns {es = []} {i = y} x6 f = elim x6 [ ]
unrooted_finds {e} k ns {es = d ∷ es} (at_head q) f =
    let t : grafted ns k d ≡ false = ap (grafted ns k) (sym q) ∙ (rw add-zero at f) in (tree_unrooted k d.id, rw t, omega arith)
unrooted_finds {e} k ns {es = d ∷ es} {i = suc i} (at_tail a) f =
    let q : k + suc i ≡ suc k + i = omega arith in
    by_test (grafted ns k d) (λ t. let z = unrooted_finds (suc k) ns a (rw q at f) in (z.0, rw t z.1, omega (arith, z.2)))
    (λ t. (tree_unrooted k d.id, rw t, omega arith))

-- an entry whose id has an earlier number
twice_has : {e : TreeEntry} (k : ℕ) (ids : List TreeId) {es : List TreeEntry} {i : ℕ} → At e es i → has same_tree ids e.id ≡ true
    → Finds (tree_twice_from k ids es) (k + i)
unfolding tree_twice_from place
twice_has {e = e} k ids {es = []} x6 h = elim x6 [ ]
twice_has k ids {es = d ∷ es} (at_head q) h =
    let t : has same_tree ids d.id ≡ true = ap (λ (z : TreeEntry). has same_tree ids z.id) (sym q) ∙ h in (tree_twice k d.id, rw t, omega arith)
twice_has {e} k ids {es = d ∷ es} (at_tail a) h =
    by_test (has same_tree ids d.id) (λ t. (tree_twice k d.id, rw t, omega arith))
    (λ t. let z = twice_has (suc k) (d.id ∷ ids) a (or_right (same_tree e.id d.id) h) in (z.0, rw t z.1, omega (arith, z.2)))

twice_finds : {e f : TreeEntry} (k : ℕ) (ids : List TreeId) {es : List TreeEntry} {i j : ℕ} → At f es j → At e es i → j < i → f.id ≡ e.id
    → Finds (tree_twice_from k ids es) (k + i)
unfolding tree_twice_from place
twice_finds k ids (at_head p) (at_head q) l s = absurd (omega arith)
twice_finds {e} k ids {es = d ∷ es} (at_head p) (at_tail a) l s =
    let same : d.id ≡ e.id = ap (λ (z : TreeEntry). z.id) (sym p) ∙ s in
    let t : same_tree e.id d.id ≡ true = rw same (same_tree_refl e.id) in
    by_test (has same_tree ids d.id) (λ u. (tree_twice k d.id, rw u, omega arith))
    (λ u. let z = twice_has (suc k) (d.id ∷ ids) a (rw t) in (z.0, rw u z.1, omega (arith, z.2)))
twice_finds k ids (at_tail a) (at_head q) l s = absurd (omega arith)
twice_finds k ids {es = d ∷ es} (at_tail a) (at_tail c) l s =
    by_test (has same_tree ids d.id) (λ u. (tree_twice k d.id, rw u, omega arith))
    (λ u. let z = twice_finds (suc k) (d.id ∷ ids) a c (omega arith) s in (z.0, rw u z.1, omega (arith, z.2)))

disorder_finds : {n m : NodeState} (k : ℕ) {ns : List NodeState} {i j : ℕ} → At n ns i → At m ns j → i < j → before n.id m.id ≡ false
    → Finds (disorder_from k ns) (k + i)
unfolding disorder_from place
disorder_finds k (at_head p) (at_head q) l e = absurd (omega arith)
disorder_finds {m} k {ns = h ∷ ns} (at_head p) (at_tail a) l e =
    let t : all (λ z. before h.id z.id) ns ≡ false =
    refuted (λ y. clash (ap (λ (z : NodeState). before z.id m.id) (sym p) ∙ e) (all_member (λ z. before h.id z.id) ns m y (at_member a))) in
    (out_of_order (record { slot = k; id = h.id }), rw t, omega arith)
disorder_finds k (at_tail a) (at_head q) l e = absurd (omega arith)
disorder_finds k {ns = h ∷ ns} (at_tail a) (at_tail c) l e =
    by_test (all (λ z. before h.id z.id) ns) (λ t. let z = disorder_finds (suc k) a c (omega arith) e in (z.0, rw t z.1, omega (arith, z.2)))
    (λ t. (out_of_order (record { slot = k; id = h.id }), rw t, omega arith))

-- two nodes graft one tree
regraft_lowest : {n m : NodeState} (k : ℕ) {ns : List NodeState} {i j : ℕ} (t : TreeId) → At n ns i → At m ns j → i < j → graft? n.body ≡ Some t
    → graft? m.body ≡ Some t
    → (g : Regraft) × (graft_twice_from k ns ≡ Some g) × (g.node.slot ≤ k + i)
unfolding graft_twice_from
regraft_lowest k t (at_head p) (at_head q) l e f = absurd (omega arith)
regraft_lowest {m} k {ns = h ∷ ns} t (at_head p) (at_tail a) l e f =
    let q : graft? h.body ≡ Some t = ap (λ (z : NodeState). graft? z.body) (sym p) ∙ e in
    let held : is_some (holder ns t) ≡ true = holder_some ns t ∙ has_given same_tree same_tree_refl (λ z. graft? z.body) ns m t (at_member a) f in
    by_option (holder ns t) (λ r. absurd (false≢true (sym (ap is_some r) ∙ held)))
    (λ y r. (record { tree = t; node = record { slot = k; id = h.id }; other = y }, rw (q, graft_twice_from, r), omega arith))
regraft_lowest k t (at_tail a) (at_head q) l e f = absurd (omega arith)
regraft_lowest k {ns = h ∷ ns} t (at_tail a) (at_tail c) l e f =
    let z = regraft_lowest (suc k) t a c (omega arith) e f in
    by_option (graft? h.body) (λ q. (z.0, rw (q, graft_twice_from) z.1, omega (arith, z.2)))
    (λ u q. by_option (holder ns u) (λ r. (z.0, rw (q, graft_twice_from, r) z.1, omega (arith, z.2)))
    (λ y r. (record { tree = u; node = record { slot = k; id = h.id }; other = y }, rw (q, graft_twice_from, r), omega arith)))

module _ (s : Forest) where
  abbrev wrong : ℕ → NodeState → Broken
  wrong k n = wrong_link (record { slot = k; id = n.id }) (parent_of n.parent_and_index) (parent_of (met_link s (reached s) n))

  wrong_finds : {n : NodeState} (k : ℕ) {ns : List NodeState} {i : ℕ} → At n ns i → disagrees s (reached s) n ≡ true
      → Finds (wrong_link_from k s (reached s) ns) (k + i)
  unfolding wrong_link_from place
  wrong_finds {n = n} k {ns = []} x6 e = elim x6 [ ]
  wrong_finds k {ns = m ∷ ns} (at_head q) e =
      let t : disagrees s (reached s) m ≡ true = ap (disagrees s (reached s)) (sym q) ∙ e in (wrong k m, rw t, omega arith)
  wrong_finds k {ns = m ∷ ns} (at_tail a) e =
      by_test (disagrees s (reached s) m) (λ t. (wrong k m, rw t, omega arith))
      (λ t. let z = wrong_finds (suc k) a e in (z.0, rw t z.1, omega (arith, z.2)))

  -- the smallest absent id below a node
  absence_finds : (p : Spot) (x : FullNodeId) → Breaks s (absent_below p x) → Finds (absence s) p.slot
  unfolding absence Breaks place
  absence_finds p x z =
      let ids = absent_ids s s.nodes in
      let n = z.0 in
      let there = ids_absent s s.nodes n.0 x (at_member n.1) n.3.0 n.3.1 in
      by_option (smallest ids)
      (λ q. let empty : ids ≡ [] = rw q at (smallest_least s ids) in absurd (Memᴰ.not-nil (rw empty at there)))
      (λ y q. let least : Smallest s ids y = rw q at (smallest_least s ids) in
      let above = absent_above s s.nodes y least.0 in
      let small : before y x ≡ false = z.1 above.0 y above.1 above.2 (absent_ids_lem s s.nodes y least.0) in
      let same : y ≡ x = by_test (same_id y x) (λ t. same_id→≡ y x t) (λ t. absurd (clash (least.1 x there) (before_total y x t small))) in
      rw (q, absence) (spot_finds (λ m. has same_id (ids_below s m) y) (λ r. absent_below r y) (λ r. refl) n.1
      (rw same (member_has (ids_below s n.0) x n.3.0))))

  -- the search for the rule that a broken one is of
  unfoldable search : Broken → Option Broken
  search tooManyNodes = if leb (length s.nodes) 256 then None else Some tooManyNodes
  search tooManyTrees = if leb (length s.trees) 32 then None else Some tooManyTrees
  search (too_many_children p) = at too_many_children (spot crowded s.nodes)
  search (absent_below p x) = absence s
  search (met_twice p) = at met_twice (spot (is_met_twice s (reached s)) s.nodes)
  search (never_met p d) = unmet s (reached s)
  search (wrong_link p recorded met) = wrong_link_from 0 s (reached s) s.nodes
  search (graft_with_children p) = at graft_with_children (spot (λ n. not (graft_is_bare n)) s.nodes)
  search (grafted_twice g) = elim (graft_twice_from 0 s.nodes) [ None ↦ None | Some g ↦ Some (grafted_twice g) ]
  search root_not_first = if root_first s.trees then None else Some root_not_first
  search (tree_twice k t) = tree_twice_from 0 [] s.trees
  search (tree_unrooted k t) = unrooted_from s.nodes 0 s.trees
  search (out_of_order p) = disorder_from 0 s.nodes
  search (broken_field p) = at broken_field (spot (λ n. not (fields_ok n.body)) s.nodes)
  search no_focus = if focus_present s then None else Some no_focus

  finds : (c : Broken) → Breaks s c → Finds (search c) (place c)
  unfolding search Breaks place crowded is_met_twice is_never_met unmet disagrees met_link
  finds tooManyNodes z = unless_found (leb (length s.nodes) 256) tooManyNodes 0 refl (lt-leb (length s.nodes) 256 z)
  finds tooManyTrees z = unless_found (leb (length s.trees) 32) tooManyTrees 0 refl (lt-leb (length s.trees) 32 z)
  finds (too_many_children p) z = spot_finds crowded too_many_children (λ x. refl) z.1 (lt-ltb 256 (length z.0.body.children) z.3)
  finds (absent_below p x) z = absence_finds p x z
  finds (met_twice p) z = spot_finds (is_met_twice s (reached s)) met_twice (λ x. refl) z.1 (le-leb 2 (length (met_links s (reached s) z.0.id)) z.3)
  finds (never_met p d) z =
      spot_finds (is_never_met s (reached s)) (λ x. never_met x (topmost_within (length s.nodes) s (reached s) x.id)) (λ x. refl) z.0.1 (rw z.0.3)
  finds (wrong_link p recorded met) z = let m = z.3 in counted (wrong_finds 0 z.1 (rw (m.2, met_link, m.4)))
  finds (graft_with_children p) z = spot_finds (λ n. not (graft_is_bare n)) graft_with_children (λ x. refl) z.1 (rw z.3)
  finds (grafted_twice g) z =
      let m = z.3.1 in
      let r = regraft_lowest 0 g.tree z.1 m.3 m.1 z.3.0 m.4.1 in
      (grafted_twice r.0, rw (search, r.1), omega (arith, r.2))
  finds root_not_first z = unless_found (root_first s.trees) root_not_first 0 refl z
  finds (tree_twice k t) z = counted (twice_finds 0 [] z.3.2.1 z.1 z.3.1 (z.3.2.2 ∙ sym z.2))
  finds (tree_unrooted k t) z = counted (unrooted_finds 0 s.nodes z.1 (rw zero-add z.3))
  finds (out_of_order p) z = let m = z.3 in counted (disorder_finds 0 z.1 m.3 m.1 m.4)
  finds (broken_field p) z = spot_finds (λ n. not (fields_ok n.body)) broken_field (λ x. refl) z.1 (rw z.3)
  finds no_focus z = unless_found (focus_present s) no_focus 0 refl z

  -- ## The searches in order

  abbrev links : List (Option Broken)
  links =
      at too_many_children (spot crowded s.nodes)
      ∷ absence s
      ∷ at met_twice (spot (is_met_twice s (reached s)) s.nodes)
      ∷ unmet s (reached s)
      ∷ wrong_link_from 0 s (reached s) s.nodes
      ∷ at graft_with_children (spot (λ n. not (graft_is_bare n)) s.nodes)
      ∷ []

  abbrev trees : List (Option Broken)
  trees =
      elim (graft_twice_from 0 s.nodes) [ None ↦ None | Some g ↦ Some (grafted_twice g) ]
      ∷ (if root_first s.trees then None else Some root_not_first)
      ∷ tree_twice_from 0 [] s.trees
      ∷ unrooted_from s.nodes 0 s.trees
      ∷ []

  abbrev shape : List (Option Broken)
  shape = links ++ trees ++ disorder_from 0 s.nodes ∷ []

  abbrev limits : List (Option Broken)
  limits = (if leb (length s.nodes) 256 then None else Some tooManyNodes) ∷ (if leb (length s.trees) 32 then None else Some tooManyTrees) ∷ []

  abbrev others : List (Option Broken)
  others = at broken_field (spot (λ n. not (fields_ok n.body)) s.nodes) ∷ (if focus_present s then None else Some no_focus) ∷ []

  abbrev state : List (Option Broken)
  state = limits ++ shape ++ others

  shape_flat : broken_shape s ≡ first_given (λ o. o) shape
  unfolding broken_shape broken_links broken_trees
  shape_flat = flat [] links (broken_trees s ∷ disorder_from 0 s.nodes ∷ []) ∙ flat links trees (disorder_from 0 s.nodes ∷ [])

  state_flat : broken_state s ≡ first_given (λ o. o) state
  unfolding broken_state
  state_flat = ap (λ o. first_given (λ o. o) (limits ++ o ∷ others)) shape_flat ∙ flat limits shape others

  -- the search for a rule has its rank
  ranked : (c : Broken) → At (search c) state (rank c)
  unfolding search rank
  ranked tooManyNodes = at_head refl
  ranked tooManyTrees = at_tail (at_head refl)
  ranked (too_many_children p) = at_right limits (at_head refl)
  ranked (absent_below p x) = at_right limits (at_tail (at_head refl))
  ranked (met_twice p) = at_right limits (at_tail (at_tail (at_head refl)))
  ranked (never_met p d) = at_right limits (at_tail (at_tail (at_tail (at_head refl))))
  ranked (wrong_link p recorded met) = at_right limits (at_tail (at_tail (at_tail (at_tail (at_head refl)))))
  ranked (graft_with_children p) = at_right limits (at_tail (at_tail (at_tail (at_tail (at_tail (at_head refl))))))
  ranked (grafted_twice g) = at_right (limits ++ links) (at_head refl)
  ranked root_not_first = at_right (limits ++ links) (at_tail (at_head refl))
  ranked (tree_twice k t) = at_right (limits ++ links) (at_tail (at_tail (at_head refl)))
  ranked (tree_unrooted k t) = at_right (limits ++ links) (at_tail (at_tail (at_tail (at_head refl))))
  ranked (out_of_order p) = at_right (limits ++ links ++ trees) (at_head refl)
  ranked (broken_field p) = at_right (limits ++ shape) (at_head refl)
  ranked no_focus = at_right (limits ++ shape) (at_tail (at_head refl))

  -- ## What a search finds has the rank of its rule

  abbrev Ranks : ℕ → Broken → Type 0
  Ranks k b = rank b ≡ k

  absence_rank : IfSome (Ranks 3) (absence s)
  unfolding absence rank
  absence_rank =
      by_option (smallest (absent_ids s s.nodes)) (λ q. rw (q, absence) tt)
      (λ x q. rw (q, absence) (says_map (Ranks 3) (λ p. absent_below p x) (spot (λ n. has same_id (ids_below s n) x) s.nodes) (λ p e. refl)))

  wrong_rank : (k : ℕ) (ns : List NodeState) → IfSome (Ranks 6) (wrong_link_from k s (reached s) ns)
  unfolding wrong_link_from rank
  wrong_rank k [] = tt
  wrong_rank k (n ∷ ns) = says_else (Ranks 6) (disagrees s (reached s) n) _ _ (λ _. refl) (λ _. wrong_rank (suc k) ns)

  twice_rank : (k : ℕ) (ids : List TreeId) (es : List TreeEntry) → IfSome (Ranks 10) (tree_twice_from k ids es)
  unfolding tree_twice_from rank
  twice_rank k ids [] = tt
  twice_rank k ids (e ∷ es) = says_else (Ranks 10) (has same_tree ids e.id) _ _ (λ _. refl) (λ _. twice_rank (suc k) (e.id ∷ ids) es)

  unrooted_rank : (k : ℕ) (es : List TreeEntry) → IfSome (Ranks 11) (unrooted_from s.nodes k es)
  unfolding unrooted_from rank
  unrooted_rank k [] = tt
  unrooted_rank k (e ∷ es) = by_test (grafted s.nodes k e) (λ t. rw t (unrooted_rank (suc k) es)) (λ t. rw t refl)

  disorder_rank : (k : ℕ) (ns : List NodeState) → IfSome (Ranks 12) (disorder_from k ns)
  unfolding disorder_from rank
  disorder_rank k [] = tt
  disorder_rank k (n ∷ ns) = by_test (all (λ m. before n.id m.id) ns) (λ t. rw t (disorder_rank (suc k) ns)) (λ t. rw t refl)

  unless_rank : (k : ℕ) (t : Bool) (b : Broken) → rank b ≡ k → IfSome (Ranks k) (if t then None else Some b)
  unless_rank k true b e = tt
  unless_rank k false b e = e

  -- what some searches find has the ranks from k on
  abbrev Ranked : ℕ → List (Option Broken) → Type 0
  Ranked k [] = Unit {0}
  Ranked k (o ∷ os) = IfSome (Ranks k) o × Ranked (suc k) os

  ranked_at : {b : Broken} (k : ℕ) {os : List (Option Broken)} {i : ℕ} → Ranked k os → At (Some b) os i → rank b ≡ k + i
  ranked_at {b = b} k {os = []} h x6 = elim x6 [ ]
  ranked_at {b} k {os = o ∷ os} h (at_head q) = said (Ranks k) o h.0 b (sym q) ∙ sym (add-zero k)
  ranked_at k {os = o ∷ os} h (at_tail i) = omega (arith, ranked_at (suc k) h.1 i)

  all_ranked : Ranked 0 state
  unfolding rank unmet
  all_ranked =
      let nodes = unless_rank 0 (leb (length s.nodes) 256) tooManyNodes refl in
      let entries = unless_rank 1 (leb (length s.trees) 32) tooManyTrees refl in
      let children = says_map (Ranks 2) too_many_children (spot crowded s.nodes) (λ p e. refl) in
      let twice = says_map (Ranks 4) met_twice (spot (is_met_twice s (reached s)) s.nodes) (λ p e. refl) in
      let never = says_map (Ranks 5) (λ x. never_met x (topmost_within (length s.nodes) s (reached s) x.id))
      (spot (is_never_met s (reached s)) s.nodes) (λ p e. refl) in
      let full = says_map (Ranks 7) graft_with_children (spot (λ n. not (graft_is_bare n)) s.nodes) (λ p e. refl) in
      let regraft = says_map (Ranks 8) grafted_twice (graft_twice_from 0 s.nodes) (λ g e. refl) in
      let root = unless_rank 9 (root_first s.trees) root_not_first refl in
      let field = says_map (Ranks 13) broken_field (spot (λ n. not (fields_ok n.body)) s.nodes) (λ p e. refl) in
      let focus = unless_rank 14 (focus_present s) no_focus refl in
      let after : Ranked 8 (trees ++ disorder_from 0 s.nodes ∷ others) =
      (regraft, (root, (twice_rank 0 [] s.trees, (unrooted_rank 0 s.trees, (disorder_rank 0 s.nodes, (field, (focus, tt))))))) in
      (nodes, (entries, (children, (absence_rank, (twice, (never, (wrong_rank 0 s.nodes, (full, after))))))))

  -- ## The first rule

  first_rule : (lo : ℕ) (os : List (Option Broken)) → From lo os state → (b : Broken) → first_given (λ o. o) os ≡ Some b → Breaks s b
      → FirstRule s lo (lo + length os) b
  first_rule lo os from b e z =
      let f = first_at os b e in
      let there : At (Some b) state (lo + f.0) = from.place (Some b) f.0 f.1 in
      let r : rank b ≡ lo + f.0 = omega (arith, ranked_at 0 all_ranked there) in
      record {
        breaks = z;
        asked = (omega arith, omega (arith, at_below f.1));
        first = λ c y l.
            by_order (rank c) (rank b)
            (λ less. let k = rank c - lo in
            let o = at_earlier k f.1 (omega arith) in
            let none-there : o.0 ≡ None = f.2 k o.0 (omega arith) o.1 in
            let q : lo + k ≡ rank c = omega arith in
            let same : search c ≡ o.0 = at_same (ranked c) (rw q at (from.place o.0 k o.1)) in
            let w = finds c y in
            absurd (none-some w.0 (sym none-there ∙ sym same ∙ w.1)))
            (λ more. more);
        lowest = λ c y same.
            let w = finds c y in
            let q : search c ≡ Some b = at_same (ranked c) (rw (← r, ← same) at there) in
            let eq : w.0 ≡ b = same_Some w.0 b (sym w.1 ∙ q) in
            rw eq at w.2;
      }

  -- number 19's
  pub shape_first : (b : Broken) → broken_shape s ≡ Some b → FirstOfShape s b
  shape_first b e = first_rule 2 shape inner b (sym shape_flat ∙ e) (said (Breaks s) (broken_shape s) (shape_says s) b e)
    where
      inner : From 2 shape state
      inner = record { place = λ x j i. let e : 2 + j ≡ suc (suc j) = omega arith in rw e (at_tail (at_tail (at_left others i))) }

  -- number 1's
  pub state_first : (b : Broken) → broken_state s ≡ Some b → FirstOfState s b
  state_first b e = first_rule 0 state (from_start state) b (sym state_flat ∙ e) (said (Breaks s) (broken_state s) (state_says s) b e)
