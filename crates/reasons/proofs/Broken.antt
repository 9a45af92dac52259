-- The first rule of a sound state that is found broken is broken. Assumes nothing.
use mathlib.Core.Bool.{Bool, true, false, not, true≢false, false≢true}
use mathlib.Core.List.Memᴰ
use mathlib.Core.List.{List, [], ◌∷◌, Memᴰ}
use mathlib.Core.Logic.{⊎_elim}
use Rattle.std.proofs.lemmas.Option.{none-some, same_Some}
use mathlib.Core.Path.{◌≡◌, refl, sym, ap, ◌∙◌}
use Prim.Native.Nat.{ℕ, zero, suc, ◌+◌, ◌<◌}
use native.Mathlib.Omega.{arith}
use lib.Dec.{leb}
use lib.ListN.{length}
use borrow.Author.Tests.{ltb-true, leb-true, leb-false}
use Rattle.std.specs.Prelude.{if◌then◌else◌, Option, None, Some}
use Rattle.base.specs.Tests.{◌and◌, is_nil, all, keep, has, same_option}
use Rattle.base.proofs.Cases.{by_test, by_option}
use Rattle.base.proofs.Tests.{both, joined, not_true, clash, refuted, same_option→≡}
use Rattle.base.proofs.Lists.{some_from, has_map}
use Rattle.ids.specs.Ids.{same_tree, same_id, before}
use Rattle.ids.proofs.Ids.{same_tree→≡, same_id→≡, same_id_refl, before_self, before_trans, before_total}
use Rattle.ids.specs.declared.TreeId.{TreeId}
use Rattle.ids.specs.declared.FullNodeId.{FullNodeId}
use Rattle.record.specs.Batch.{graft?, fields_ok}
use Rattle.state.specs.State.{ParentAndIndex, NodeState, TreeEntry, Forest, ids_of, present, parent_of, link_at, parent_at, holder}
use Rattle.state.proofs.State.{present_has}
use Rattle.state.specs.Sound.{graft_is_bare, grafted, root_first, focus_present}
use Rattle.reasons.specs.Reasons.{Spot, Dropped, Broken, tooManyNodes, tooManyTrees, too_many_children, absent_below, met_twice, never_met}
use Rattle.reasons.specs.Reasons.{graft_with_children, grafted_twice, root_not_first, broken_field, no_focus}
use Rattle.reasons.specs.Shape.{spot_from, spot, at, smallest, ids_below, reached, met_links, crowded, absent_ids, absence, is_met_twice, is_never_met}
use Rattle.reasons.specs.Shape.{topmost_within, unmet, met_link, disagrees, wrong_link_from, broken_links, graft_twice_from, tree_twice_from}
use Rattle.reasons.specs.Shape.{unrooted_from, broken_trees, disorder_from, broken_shape, broken_state}
use Rattle.reasons.specs.Breaks.{NodeAt, TreeAt, there, step, Unmet, UnmetUp, Topmost, Climbs, Breaks}
use Rattle.reasons.proofs.Lists.{has_member, keep_passes, some_fails, nil_of, member_keep}
use Rattle.reasons.proofs.First.{IfSome, said, says_if, says_else, says_first, says_map, says_each, none_made, none_if}
use Rattle.reasons.proofs.Circle.{circle}
use Rattle.reasons.proofs.Places.{member_at, at_member, From, from_start, from_head, from_tail}

-- no node passes
pub spot_none : (k : ℕ) (p : NodeState → Bool) (ns : List NodeState) → spot_from k p ns ≡ None → (n : NodeState) → Memᴰ n ns → p n ≡ false
unfolding spot_from
spot_none k p [] e n x'' = elim x'' [ ]
spot_none k p (m ∷ ns) e n (Memᴰ.head q) = ap p q ∙ (none_if (p m) _ _ e).0
spot_none k p (m ∷ ns) e n (Memᴰ.tail i) = spot_none (suc k) p ns (none_if (p m) _ _ e).1 n i

module _ (s : Forest) where
  -- ## The first node that passes

  spot_from_lem : (k : ℕ) (p : NodeState → Bool) (ns : List NodeState) → From k ns s.nodes → IfSome (λ x. NodeAt s x (λ n. p n ≡ true)) (spot_from k p ns)
  unfolding spot_from
  spot_from_lem k p [] h = tt
  spot_from_lem k p (n ∷ ns) h =
      says_else (λ x. NodeAt s x (λ n. p n ≡ true)) (p n) _ _ (λ t. (n, from_head h, refl, t)) (λ t. spot_from_lem (suc k) p ns (from_tail h))

  spot_at : (p : NodeState → Bool) (x : Spot) → spot p s.nodes ≡ Some x → NodeAt s x (λ n. p n ≡ true)
  spot_at p x e = said (λ x. NodeAt s x (λ n. p n ≡ true)) (spot p s.nodes) (spot_from_lem 0 p s.nodes (from_start s.nodes)) x e

  -- a rule for the nodes, each by itself
  spot_says : (p : NodeState → Bool) (f : Spot → Broken) → ((x : Spot) → NodeAt s x (λ n. p n ≡ true) → Breaks s (f x))
      → IfSome (Breaks s) (at f (spot p s.nodes))
  spot_says p f h = says_map (Breaks s) f (spot p s.nodes) (λ x e. h x (spot_at p x e))

  -- ## The rules for links

  -- x is one of some ids, and none of them comes before it
  abbrev pub Smallest : List FullNodeId → FullNodeId → Type 0
  Smallest xs x = Memᴰ x xs × ((y : FullNodeId) → Memᴰ y xs → before y x ≡ false)

  -- of no ids there is none
  abbrev pub Least : List FullNodeId → Option FullNodeId → Type 0
  Least xs None = xs ≡ []
  Least xs (Some x) = Smallest xs x

  pub smallest_least : (xs : List FullNodeId) → Least xs (smallest xs)
  unfolding smallest
  smallest_least [] = refl
  smallest_least (x ∷ xs) =
      let rest = smallest_least xs in
      by_option (smallest xs)
      (λ q. let empty : xs ≡ [] = rw q at rest in
      rw (q, smallest) (
        Memᴰ.head refl,
        λ y i. ⊎_elim (λ p. rw p (before_self x)) (λ j. absurd (Memᴰ.not-nil (rw empty at j)))
            (Memᴰ.cases_cons i),
      ))
      (λ z q. rw (q, smallest) (pick z (rw q at rest) (before z x) refl))
    where
      pick : (z : FullNodeId) → Smallest xs z → (c : Bool) → before z x ≡ c → Least (x ∷ xs) (if c then Some z else Some x)
      pick z least true t = (
        Memᴰ.tail least.0,
        λ y i. ⊎_elim (λ p. rw p (refuted (λ e. clash (before_self x) (before_trans x z x e t)))) (λ j. least.1 y j)
            (Memᴰ.cases_cons i),
      )
      pick z least false t = (
        Memᴰ.head refl,
        λ y i. ⊎_elim (λ p. rw p (before_self x))
            (λ j. refuted (λ e. clash t (by_test (same_id y z) (λ p. rw (← same_id→≡ y z p) e) (λ p. before_trans z y x (before_total y z p (least.1 y j)) e))))
            (Memᴰ.cases_cons i),
      )

  pub absent_ids_lem : (ns : List NodeState) (x : FullNodeId) → Memᴰ x (absent_ids s ns) → present s.nodes x ≡ false
  unfolding absent_ids
  absent_ids_lem [] x i = absurd (Memᴰ.not-nil i)
  absent_ids_lem (n ∷ ns) x i =
      ⊎_elim (λ j. not_true (keep_passes (λ x. not (present s.nodes x)) (ids_below s n) x j)) (λ j. absent_ids_lem ns x j)
      (Memᴰ.append_cases (keep (λ x. not (present s.nodes x)) (ids_below s n)) i)

  -- and all that is absent below them
  pub ids_absent : (ns : List NodeState) (n : NodeState) (x : FullNodeId) → Memᴰ n ns → Memᴰ x (ids_below s n) → present s.nodes x ≡ false
      → Memᴰ x (absent_ids s ns)
  unfolding absent_ids
  ids_absent [] n x x5 i e = elim x5 [ ]
  ids_absent (k ∷ ns) n x (Memᴰ.head q) i e =
      Memᴰ.append_left (absent_ids s ns) (member_keep (λ x. not (present s.nodes x)) (ids_below s k) x (rw q at i) (rw e))
  ids_absent (k ∷ ns) n x (Memᴰ.tail j) i e = Memᴰ.append_right (keep (λ x. not (present s.nodes x)) (ids_below s k)) (ids_absent ns n x j i e)

  absence_says : IfSome (Breaks s) (absence s)
  unfolding absence Breaks
  absence_says =
      let ids = absent_ids s s.nodes in
      by_option (smallest ids) (λ q. rw (q, absence) tt)
      (λ x q. let z : Smallest ids x = rw q at (smallest_least ids) in
      rw (q, absence)
      (spot_says (λ n. has same_id (ids_below s n) x) (λ p. absent_below p x)
      (λ p n. (
        (n.0, n.1, n.2, (has_member (ids_below s n.0) x n.3, absent_ids_lem s.nodes x z.0)),
        λ k y i j e. z.1 y (ids_absent s.nodes k y i j e),
      ))))

  -- what stands in the list is present
  pub member_present : (n : NodeState) → Memᴰ n s.nodes → present s.nodes n.id ≡ true
  unfolding ids_of
  member_present n i = present_has s.nodes n.id ∙ has_map same_id same_id_refl (λ m. m.id) s.nodes n i

  -- what climbing finds in at most `room` steps: the topmost node, or that all of them lead to nodes never met
  abbrev Within : ℕ → FullNodeId → Option Dropped → Type 0
  Within room x None = (y : FullNodeId) × UnmetUp s room x y
  Within room x (Some d) = Topmost s x d

  -- one step more
  up_higher : {k : ℕ} {x p y : FullNodeId} → Unmet s p → parent_at s.nodes x ≡ Some p → UnmetUp s k p y → UnmetUp s (suc k) x y
  unfolding parent_at
  up_higher {k} {x} {p} {y} u q h =
      let l = some_from (link_at s.nodes x) (λ l. Some l.parent) p q in
      let same : l.0.parent ≡ p = same_Some l.0.parent p l.2 in
      step {k = k} {y = y} l.0 l.1 (rw same u) (rw same h)

  within_higher : (room : ℕ) (x p : FullNodeId) → Unmet s p → parent_at s.nodes x ≡ Some p → (o : Option Dropped) → Within room p o → Within (suc room) x o
  within_higher room x p u q None h = (h.0, up_higher u q h.1)
  within_higher room x p u q (Some d) h = record { steps = suc h.steps; above = up_higher u q h.above; records = h.records; last = h.last }

  topmost_says : (room : ℕ) (x : FullNodeId) → Within room x (topmost_within room s (reached s) x)
  unfolding topmost_within
  topmost_says zero x = (x, there)
  topmost_says (suc room) x =
      by_option (parent_at s.nodes x)
      (λ q. rw (q, topmost_within) (record { steps = 0; above = there; records = q; last = λ p e. absurd (none-some p e) }))
      (λ p q. rw (q, topmost_within) (pick p q (present s.nodes p and is_nil (met_links s (reached s) p)) refl (topmost_says room p)))
    where
      unmet_test : (p y : FullNodeId) → p ≡ y → Unmet s y → present s.nodes p and is_nil (met_links s (reached s) p) ≡ true
      unmet_test p y e h = joined (ap (present s.nodes) e ∙ h.0) (ap (λ z. is_nil (met_links s (reached s) z)) e ∙ ap is_nil h.1)

      pick : (p : FullNodeId) → parent_at s.nodes x ≡ Some p → (c : Bool) → present s.nodes p and is_nil (met_links s (reached s) p) ≡ c
          → Within room p (topmost_within room s (reached s) p)
          → Within (suc room) x (if c then topmost_within room s (reached s) p else Some (record { node = x; by = Some p }))
      pick p q true t above =
          let met = both t in within_higher room x p (met.0, nil_of met.1) q (topmost_within room s (reached s) p) above
      pick p q false t above =
          record { steps = 0; above = there; records = q; last = λ y e h. clash t (unmet_test p y (same_Some p y e) h) }

  -- as many steps as there are nodes
  climbs_within : (x : FullNodeId) (o : Option Dropped) → Unmet s x → Within (length s.nodes) x o → Climbs s x o
  climbs_within x None h z = circle s x z.0 h z.1
  climbs_within x (Some d) h z = z

  unmet_says : IfSome (Breaks s) (unmet s (reached s))
  unfolding unmet is_never_met Breaks
  unmet_says =
      let top : FullNodeId → Option Dropped = λ x. topmost_within (length s.nodes) s (reached s) x in
      spot_says (is_never_met s (reached s)) (λ x. never_met x (top x.id))
      (λ x z. let never = nil_of z.3 in
      let this : Unmet s x.id = rw (← z.2) (member_present z.0 (at_member z.1), never) in
      ((z.0, z.1, z.2, never), climbs_within x.id (top x.id) this (topmost_says (length s.nodes) x.id)))

  -- every node is met once, under one link
  abbrev MetOnce : Type 0
  MetOnce = (n : NodeState) → Memᴰ n s.nodes → (l : Option ParentAndIndex) × (met_links s (reached s) n.id ≡ l ∷ [])

  wrong_says : MetOnce → (k : ℕ) (ns : List NodeState) → From k ns s.nodes → IfSome (Breaks s) (wrong_link_from k s (reached s) ns)
  unfolding wrong_link_from disagrees met_link Breaks
  wrong_says once k [] h = tt
  wrong_says once k (n ∷ ns) h =
      let m = once n (at_member (from_head h)) in
      let is : met_link s (reached s) n ≡ m.0 = rw (m.1, met_link) in
      says_else (Breaks s) (disagrees s (reached s) n) _ _ (λ t. (n, from_head h, refl, (refl, m.0, m.1, ap parent_of (sym is), not_true (rw is at t))))
      (λ t. wrong_says once (suc k) ns (from_tail h))

  -- so it is where no node is met twice, and none never
  met_once : spot (is_met_twice s (reached s)) s.nodes ≡ None → spot (is_never_met s (reached s)) s.nodes ≡ None → MetOnce
  unfolding is_met_twice is_never_met
  met_once twice never n i =
      one (met_links s (reached s) n.id) (spot_none 0 (is_met_twice s (reached s)) s.nodes twice n i)
      (spot_none 0 (is_never_met s (reached s)) s.nodes never n i)
    where
      one : (ls : List (Option ParentAndIndex)) → leb 2 (length ls) ≡ false → is_nil ls ≡ false → (l : Option ParentAndIndex) × (ls ≡ l ∷ [])
      one [] few met = absurd (true≢false met)
      one (l ∷ []) few met = (l, refl)
      one (l ∷ k ∷ ls) few met = absurd (omega (arith, leb-false 2 (length (l ∷ k ∷ ls)) few))

  links_say : IfSome (Breaks s) (broken_links s (reached s))
  unfolding broken_links crowded is_met_twice unmet Breaks
  links_say =
      let crowd = spot_says crowded too_many_children (λ x z. (z.0, z.1, z.2, ltb-true 256 (length z.0.body.children) z.3)) in
      let twice = spot_says (is_met_twice s (reached s)) met_twice (λ x z. (z.0, z.1, z.2, leb-true 2 (length (met_links s (reached s) z.0.id)) z.3)) in
      let never : unmet s (reached s) ≡ None → spot (is_never_met s (reached s)) s.nodes ≡ None =
      none_made (λ x. never_met x (topmost_within (length s.nodes) s (reached s) x.id)) (spot (is_never_met s (reached s)) s.nodes) in
      let single : at met_twice (spot (is_met_twice s (reached s)) s.nodes) ≡ None → spot (is_met_twice s (reached s)) s.nodes ≡ None =
      none_made met_twice (spot (is_met_twice s (reached s)) s.nodes) in
      let full = spot_says (λ n. not (graft_is_bare n)) graft_with_children (λ x z. (z.0, z.1, z.2, not_true z.3)) in
      says_each (Breaks s)
      (at too_many_children (spot crowded s.nodes)
      ∷ absence s
      ∷ at met_twice (spot (is_met_twice s (reached s)) s.nodes)
      ∷ unmet s (reached s)
      ∷ wrong_link_from 0 s (reached s) s.nodes
      ∷ at graft_with_children (spot (λ n. not (graft_is_bare n)) s.nodes)
      ∷ []) (
        crowd,
        λ _. (
          absence_says,
          λ _. (
            twice,
            λ two.
                (unmet_says, λ all. (wrong_says (met_once (single two) (never all)) 0 s.nodes (from_start s.nodes), λ _. (full, λ _. tt))),
          ),
        ),
      )

  -- ## The rules for trees

  -- one of some nodes, with this id, grafts t
  abbrev Grafting : List NodeState → TreeId → FullNodeId → Type 0
  Grafting ns t y = (m : NodeState) × Memᴰ m ns × (m.id ≡ y) × (graft? m.body ≡ Some t)

  holder_says : (ns : List NodeState) (t : TreeId) → IfSome (Grafting ns t) (holder ns t)
  unfolding holder
  holder_says ns t =
      says_first (Grafting ns t) _ ns
      (λ m i. says_if (Grafting ns t) (same_option same_tree (graft? m.body) (Some t)) m.id
      (λ q. (m, i, refl, same_option→≡ same_tree same_tree→≡ (graft? m.body) (Some t) q)))

  pub regraft_says : (k : ℕ) (ns : List NodeState) → From k ns s.nodes → IfSome (λ g. Breaks s (grafted_twice g)) (graft_twice_from k ns)
  unfolding graft_twice_from Breaks
  regraft_says k [] h = tt
  regraft_says k (n ∷ ns) h =
      let rest = regraft_says (suc k) ns (from_tail h) in
      by_option (graft? n.body) (λ q. rw (q, graft_twice_from) rest)
      (λ t q. by_option (holder ns t) (λ r. rw (q, graft_twice_from, r) rest)
      (λ y r. let m = said (Grafting ns t) (holder ns t) (holder_says ns t) y r in
      let i = member_at m.1 in
      rw (q, graft_twice_from, r)
      (n, from_head h, refl, (q, (suc k + i.0, omega arith, m.0, (from_tail h).place m.0 i.0 i.1, (m.2, m.3))))))

  -- the tree ids of the entries before place k
  Earlier : ℕ → List TreeId → Type 0
  Earlier k ids = (t : TreeId) → has same_tree ids t ≡ true → (j : ℕ) × (j < k) × TreeAt s j t (λ _. Unit {0})

  twice_says : (k : ℕ) (ids : List TreeId) (es : List TreeEntry) → Earlier k ids → From k es s.trees → IfSome (Breaks s) (tree_twice_from k ids es)
  unfolding tree_twice_from Breaks Earlier
  twice_says k ids [] f h = tt
  twice_says k ids (e ∷ es) f h =
      says_else (Breaks s) (has same_tree ids e.id) _ _ (λ t. (e, from_head h, refl, f e.id t))
      (λ t. twice_says (suc k) (e.id ∷ ids) es (λ u q. by_test (same_tree u e.id)
      (λ r. (k, omega arith, (e, from_head h, sym (same_tree→≡ u e.id r), tt)))
      (λ r. let z = f u (rw r at q) in (z.0, omega (arith, z.1), z.2))) (from_tail h))

  unrooted_says : (k : ℕ) (es : List TreeEntry) → From k es s.trees → IfSome (Breaks s) (unrooted_from s.nodes k es)
  unfolding unrooted_from Breaks
  unrooted_says k [] h = tt
  unrooted_says k (e ∷ es) h =
      by_test (grafted s.nodes k e) (λ t. rw t (unrooted_says (suc k) es (from_tail h))) (λ t. rw t (e, from_head h, refl, t))

  -- a rule that holds by a test
  unless_says : (t : Bool) (b : Broken) → (t ≡ false → Breaks s b) → IfSome (Breaks s) (if t then None else Some b)
  unless_says true b h = tt
  unless_says false b h = h refl

  trees_say : IfSome (Breaks s) (broken_trees s)
  unfolding broken_trees Breaks Earlier
  trees_say =
      let regraft = says_map (Breaks s) grafted_twice (graft_twice_from 0 s.nodes)
      (said (λ g. Breaks s (grafted_twice g)) (graft_twice_from 0 s.nodes) (regraft_says 0 s.nodes (from_start s.nodes))) in
      let root = unless_says (root_first s.trees) root_not_first (λ t. t) in
      let twice = twice_says 0 [] s.trees (λ t e. absurd (false≢true e)) (from_start s.trees) in
      let unrooted = unrooted_says 0 s.trees (from_start s.trees) in
      says_each (Breaks s)
      (elim (graft_twice_from 0 s.nodes) [ None ↦ None | Some g ↦ Some (grafted_twice g) ]
      ∷ (if root_first s.trees then None else Some root_not_first)
      ∷ tree_twice_from 0 [] s.trees
      ∷ unrooted_from s.nodes 0 s.trees
      ∷ [])
      (regraft, λ _. (root, λ _. (twice, λ _. (unrooted, λ _. tt))))

  -- ## The whole

  disorder_says : (k : ℕ) (ns : List NodeState) → From k ns s.nodes → IfSome (Breaks s) (disorder_from k ns)
  unfolding disorder_from Breaks
  disorder_says k [] h = tt
  disorder_says k (n ∷ ns) h =
      by_test (all (λ m. before n.id m.id) ns) (λ t. rw t (disorder_says (suc k) ns (from_tail h)))
      (λ t. let m = some_fails (λ m. before n.id m.id) ns t in
      let i = member_at m.1 in
      rw t (n, from_head h, refl, (suc k + i.0, omega arith, m.0, (from_tail h).place m.0 i.0 i.1, m.2)))

  -- number 19's
  pub shape_says : IfSome (Breaks s) (broken_shape s)
  unfolding broken_shape
  shape_says =
      says_each (Breaks s) (broken_links s (reached s) ∷ broken_trees s ∷ disorder_from 0 s.nodes ∷ [])
      (links_say, λ _. (trees_say, λ _. (disorder_says 0 s.nodes (from_start s.nodes), λ _. tt)))

  -- number 1's
  pub state_says : IfSome (Breaks s) (broken_state s)
  unfolding broken_state Breaks
  state_says =
      let nodes = unless_says (leb (length s.nodes) 256) tooManyNodes (λ t. leb-false (length s.nodes) 256 t) in
      let trees = unless_says (leb (length s.trees) 32) tooManyTrees (λ t. leb-false (length s.trees) 32 t) in
      let field = spot_says (λ n. not (fields_ok n.body)) broken_field (λ x z. (z.0, z.1, z.2, not_true z.3)) in
      let focus = unless_says (focus_present s) no_focus (λ t. t) in
      says_each (Breaks s)
      ((if leb (length s.nodes) 256 then None else Some tooManyNodes)
      ∷ (if leb (length s.trees) 32 then None else Some tooManyTrees)
      ∷ broken_shape s
      ∷ at broken_field (spot (λ n. not (fields_ok n.body)) s.nodes)
      ∷ (if focus_present s then None else Some no_focus)
      ∷ [])
      (nodes, λ _. (trees, λ _. (shape_says, λ _. (field, λ _. (focus, λ _. tt)))))
