-- Rules 3 and 5 to 8, by slot: what the links under which a node is met say of it. Assumes nothing.
use mathlib.Core.Bool.{Bool, true, false, not, true≢false}
use mathlib.Core.List.{List, [], ◌∷◌}
use Rattle.std.specs.Prelude.{Option, None, Some}
use mathlib.Core.Path.{◌≡◌, refl, sym, ap, ◌∙◌}
use Prim.Native.Nat.{ℕ, suc, ◌+◌, ◌-◌, ◌≤◌, ◌<◌}
use native.Mathlib.Omega.{arith}
use lib.Dec.{eqb, ltb, leb}
use lib.ListN.{length}
use borrow.Author.Tests.{eq-eqb, ne_eqb, ltb-false, le-leb, lt-leb}
use Rattle.base.specs.Tests.{◌and◌, is_some, is_nil, same_option}
use Rattle.base.specs.Search.{First}
use Rattle.base.proofs.Bytes.{length_list_of}
use Rattle.base.proofs.Cases.{by_test, by_order}
use Rattle.base.proofs.Tests.{call_true, call_false}
use Rattle.ids.specs.Ids.{same_id}
use Rattle.ids.specs.declared.FullNodeId.{FullNodeId}
use Rattle.reasons.specs.Reasons.{Spot, too_many_children, met_twice, graft_with_children}
use Rattle.reasons.specs.Shape.{spot_from, at, met_links, crowded, is_met_twice, is_never_met, topmost_within, unmet, met_link, disagrees, wrong_link_from}
use Rattle.reasons_shape.specs.declared.reached.Links.{Links}
use Rattle.reasons_shape.specs.Reached.{Few, reached_in, first_link, Tells}
use Rattle.reasons_why.specs.Why.{why_broken, dropped_node, dropped_by}
use Rattle.reasons_why.specs.declared.Why.{Why}
use Rattle.state.specs.State.{ParentAndIndex, same_link, present, link_at, parent_of, parent_at}
use Rattle.state.specs.Sound.{graft_is_bare}
use Rattle.state_array.specs.declared.LinkRow.{LinkRow}
use Rattle.state_array.specs.declared.ShapeRow.{ShapeRow}
use Rattle.state_array.specs.View.{id_in, link_in, link_of, shape_in, children_in, body_in, node_in, slots_of, view}
use Rattle.state_lookup.specs.Lookup.{stands_at}
use Rattle.state_lookup.proofs.Found.{find_there, find_absent, present_slot}
use Rattle.state_rules.specs.Parts.{bare_in}
use Rattle.state_rules.proofs.Grafts.{bare_at}
use Rattle.reasons_shape.specs.Rules.{rule_why, node_why, ClimbSays}
use Rattle.reasons_shape.specs.declared.links.Climb.{Climb}
use Rattle.reasons_shape.proofs.Chain.{kept, found_of_lem}
use Rattle.base.proofs.Rest.{Rest, rest_start, rest_more}
use Rattle.reasons_shape.proofs.Slots.{nodes, nodes_at, nodes_past, nodes_many, Seeking, seeking_here, none_passes}

-- ## What a rule says of a slot

module _ (k : ℕ) (x : Spot) where
  pub crowd_says : why_broken k (Some (too_many_children x)) ≡ node_why k 3 x.slot (Some x.id) None None
  unfolding why_broken
  crowd_says = refl

  pub twice_says : why_broken k (Some (met_twice x)) ≡ node_why k 5 x.slot (Some x.id) None None
  unfolding why_broken
  twice_says = refl

  pub burden_says : why_broken k (Some (graft_with_children x)) ≡ node_why k 8 x.slot (Some x.id) None None
  unfolding why_broken
  burden_says = refl

-- ## Rules 3 and 8

pub crowded_is : (s : List ℕ) (i : ℕ) → crowded (node_in s i) ≡ ltb 256 (shape_in s i).child_count
unfolding crowded node_in body_in children_in
crowded_is s i = rw (length_list_of (shape_in s i).child_count _)

pub crowded_row : (s : List ℕ) (i : ℕ) {d : ShapeRow} → d ≡ shape_in s i → ltb 256 d.child_count ≡ crowded (node_in s i)
crowded_row s i is = sym (crowded_is s i ∙ rw (← is))

-- where rule 3 is kept, no node has more than 256 children
pub few_kept : (s : List ℕ) (k : ℕ) {w : Why} → w ≡ why_broken k (at too_many_children (spot_from 0 crowded (view s).forest.nodes)) → w.rule ≡ 0 → Few s
few_kept s k e h i l =
    ltb-false 256 (shape_in s i).child_count
    (sym (crowded_is s i) ∙ none_passes s crowded (plain (spot_from 0 crowded (view s).forest.nodes) (kept k _ (ap (λ (z : Why). z.rule) (sym e) ∙ h))) i l)
  where
    plain : (o : Option Spot) → at too_many_children o ≡ None → o ≡ None
    plain None q = refl
    plain (Some x) q = absurd (true≢false (ap (λ p. is_some p) q))

pub bare_is : (s : List ℕ) (i : ℕ) {r b : Bool} → r ≡ bare_in s i → not r ≡ b → not (graft_is_bare (node_in s i)) ≡ b
bare_is s i test h = ap not (bare_at s i ∙ sym test) ∙ h

-- ## How often a node is met

module _ {ls : List (Option ParentAndIndex)} {r : Links} (t : Tells ls r) where
  told_twice : eqb r.count 2 ≡ leb 2 (length ls)
  told_twice =
      by_order 1 (length ls) (λ h. eq-eqb r.count 2 (omega (arith, t.count)) ∙ sym (le-leb 2 (length ls) (omega arith)))
      (λ h. ne_eqb r.count 2 (λ e. omega (arith, t.count)) ∙ sym (lt-leb 2 (length ls) (omega arith)))

pub told_none : {ls : List (Option ParentAndIndex)} {r : Links} → Tells ls r → eqb r.count 0 ≡ is_nil ls
told_none {ls = []} {r} t = eq-eqb r.count 0 t.count
told_none {ls = l ∷ ls} {r} t = ne_eqb r.count 0 (λ e. omega (arith, t.count))

module _ (s : List ℕ) (i : ℕ) {x : FullNodeId} (own : x ≡ id_in s i) where
  pub twice_is : {r : Links} → Tells (met_links (view s).forest (reached_in s) x) r
      → eqb r.count 2 ≡ is_met_twice (view s).forest (reached_in s) (node_in s i)
  unfolding is_met_twice node_in
  twice_is t = rw (← own) (told_twice t)

  pub never_is : {r b : Bool} → r ≡ is_nil (met_links (view s).forest (reached_in s) x) → r ≡ b
      → is_never_met (view s).forest (reached_in s) (node_in s i) ≡ b
  unfolding is_never_met node_in
  never_is test h = rw (← own) (sym test ∙ h)

-- ## Parents

pub parent_none : (l : LinkRow) → l.linked ≡ 0 → None ≡ parent_of (link_of l)
unfolding parent_of link_of
parent_none l e = rw (eq-eqb l.linked 0 e)

pub parent_some : (l : LinkRow) → (l.linked ≡ 0 → ⊥) → (Some l.parent) ≡ parent_of (link_of l)
unfolding parent_of link_of
parent_some l e = rw (ne_eqb l.linked 0 e)

module _ (s : List ℕ) (x : FullNodeId) {n i : ℕ} (slots : n ≡ slots_of s) (first : First (stands_at s x) (slots_of s) i) where
  pub parent_absent : n ≤ i → None ≡ parent_at (view s).forest.nodes x
  unfolding parent_at link_at
  parent_absent h = let away : link_at (view s).forest.nodes x ≡ None = rw (find_absent s x i first (rw slots at h), link_at) in rw (away, parent_at)

  pub parent_there : i < n → {l : LinkRow} → l ≡ link_in s i → (r : Option FullNodeId) → r ≡ parent_of (link_of l) → r ≡ parent_at (view s).forest.nodes x
  unfolding parent_at link_at parent_of node_in
  parent_there h {l} is r e =
      let there : link_at (view s).forest.nodes x ≡ link_of l = rw (find_there s x i first (rw slots at h), link_at, is) in
      e ∙ ap parent_of (sym there)

  pub lost_is : {r : Bool} → r ≡ is_nil (met_links (view s).forest (reached_in s) x)
      → present (view s).forest.nodes x and is_nil (met_links (view s).forest (reached_in s) x) ≡ ltb i n and r
  lost_is test = rw (present_slot s x i first, slots, test)

-- ## Climbing

-- what is left of the climb from x after i of n steps
pub record Climbing (s : List ℕ) (x : FullNodeId) (n i : ℕ) (y : FullNodeId) : Type 0 where
  pub rest : topmost_within (n - i) (view s).forest (reached_in s) y ≡ topmost_within (slots_of s) (view s).forest (reached_in s) x

pub climbing_start : {s : List ℕ} {x : FullNodeId} {n : ℕ} → n ≡ slots_of s → Climbing s x n 0 x
climbing_start {n = n} slots = let whole : n - 0 ≡ n = omega arith in record { rest = rw (whole, slots) }

module _ {s : List ℕ} {x y : FullNodeId} {n i : ℕ} (g : Climbing s x n i y) where
  -- no step is left
  pub climbing_end : n ≤ i → ClimbSays (topmost_within (slots_of s) (view s).forest (reached_in s) x) (record { node = None; by = None })
  unfolding topmost_within dropped_node dropped_by
  climbing_end h = let z : n - i ≡ 0 = omega arith in rw (← rw z at g.rest) (record { node = refl; by = refl })

  module _ (some_left : i < n) {p : Option FullNodeId} (above : p ≡ parent_at (view s).forest.nodes y) where
    -- a node without a parent
    pub climbing_top : p ≡ None
        → ClimbSays (topmost_within (slots_of s) (view s).forest (reached_in s) x) (record { node = Some y; by = None })
    unfolding topmost_within dropped_node dropped_by
    climbing_top q =
        let z : n - i ≡ suc (n - (i + 1)) = omega arith in
        rw (← rw (z, sym above ∙ q, topmost_within) at g.rest) (record { node = refl; by = refl })

    module _ {u : FullNodeId} (q : p ≡ Some u) {r : Bool}
        (test : r ≡ present (view s).forest.nodes u and is_nil (met_links (view s).forest (reached_in s) u)) where
      -- one whose parent is met or absent
      pub climbing_held : r ≡ false
          → ClimbSays (topmost_within (slots_of s) (view s).forest (reached_in s) x) (record { node = Some y; by = Some u })
      unfolding topmost_within dropped_node dropped_by
      climbing_held h =
          let z : n - i ≡ suc (n - (i + 1)) = omega arith in
          rw (← rw (z, sym above ∙ q, topmost_within, call_false test h) at g.rest) (record { node = refl; by = refl })

      -- one whose parent is neither
      pub climbing_on : r ≡ true → Climbing s x n (i + 1) u
      unfolding topmost_within
      climbing_on h =
          let z : n - i ≡ suc (n - (i + 1)) = omega arith in
          record { rest = rw (z, sym above ∙ q, topmost_within, call_true test h) at g.rest }

-- ## Rule 6

module _ {s : List ℕ} {i n k : ℕ} (g : Seeking s (is_never_met (view s).forest (reached_in s)) i) (slots : n ≡ slots_of s) {w : Why} where
  pub unmet_kept : n ≤ i → w ≡ rule_why k 0 → w ≡ why_broken k (unmet (view s).forest (reached_in s))
  unfolding why_broken unmet spot_from
  unmet_kept h e = e ∙ rw (← g.rest.same, nodes_past s i (rw slots at h))

  pub unmet_broken : i < n → {x : FullNodeId} → x ≡ id_in s i → {r : Bool} → r ≡ is_nil (met_links (view s).forest (reached_in s) x) → r ≡ true
      → {top : Climb} → ClimbSays (topmost_within (slots_of s) (view s).forest (reached_in s) x) top
      → w ≡ node_why k 6 i (Some x) top.by top.node → w ≡ why_broken k (unmet (view s).forest (reached_in s))
  unfolding why_broken unmet
  unmet_broken l own test h climb e =
      e ∙ rw (seeking_here g slots l (never_is s i own test h), nodes_many s, climb.node, climb.by, own)

-- ## Rule 7

-- two links, by their rows
pub same_none : (a b : LinkRow) → a.linked ≡ 0 → eqb b.linked 0 ≡ same_option same_link (link_of a) (link_of b)
unfolding link_of
same_none a b e = rw (eq-eqb a.linked 0 e) (by_test (eqb b.linked 0) (λ t. rw t) (λ t. rw t))

pub same_some : (a b : LinkRow) → (a.linked ≡ 0 → ⊥)
    → same_option same_link (link_of a) (link_of b) ≡ not (eqb b.linked 0) and (same_id a.parent b.parent and eqb a.index b.index)
unfolding link_of same_link ◌and◌
same_some a b e = rw (ne_eqb a.linked 0 e) (by_test (eqb b.linked 0) (λ t. rw t) (λ t. rw t))

-- the nodes of the slots before i record the links under which they are met
pub record Agreeing (s : List ℕ) (i : ℕ) : Type 0 where
  pub rest : Rest (λ k. wrong_link_from k (view s).forest (reached_in s)) (nodes s) i

pub agreeing_start : {s : List ℕ} → Agreeing s 0
agreeing_start = record { rest = rest_start }

module _ {s : List ℕ} {i n : ℕ} (g : Agreeing s i) (slots : n ≡ slots_of s) where
  pub agreeing_end : {k : ℕ} {w : Why} → n ≤ i → w ≡ rule_why k 0 → w ≡ why_broken k (wrong_link_from 0 (view s).forest (reached_in s) (view s).forest.nodes)
  unfolding why_broken wrong_link_from
  agreeing_end {k} h e = e ∙ ap (why_broken k) (rw (nodes_past s i (rw slots at h)) at g.rest.same)

  module _ (l : i < n) {own : LinkRow} (is : own ≡ link_in s i) {x : FullNodeId} (self : x ≡ id_in s i) {met : Links}
      (told : Tells (met_links (view s).forest (reached_in s) x) met) {r : Bool}
      (test : r ≡ same_option same_link (link_of own) (link_of met.first)) where
    -- the link under which it is met
    met_is : met_link (view s).forest (reached_in s) (node_in s i) ≡ link_of met.first
    unfolding met_link node_in first_link
    met_is = rw (← self) (go (met_links (view s).forest (reached_in s) x) told.first)
      where
        go : (ls : List (Option ParentAndIndex)) → link_of met.first ≡ first_link ls
            → (elim ls as (λ _. Option ParentAndIndex) [ [] ↦ None | a ∷ rest ↦ a ]) ≡ link_of met.first
        go [] e = sym e
        go (a ∷ rest) e = sym e

    disagrees_is : disagrees (view s).forest (reached_in s) (node_in s i) ≡ not r
    unfolding disagrees node_in
    disagrees_is = rw (met_is, test, is)

    pub agreeing_more : r ≡ true → Agreeing s (i + 1)
    unfolding wrong_link_from
    agreeing_more h = record { rest = rest_more g.rest (nodes_at s i (rw slots at l)) (rw (disagrees_is ∙ ap not h)) }

    pub agreeing_fails : {k : ℕ} {w : Why} → r ≡ false → {y by also : Option FullNodeId} → y ≡ Some (id_in s i) → by ≡ parent_of (link_of own)
        → also ≡ parent_of (link_of met.first) → w ≡ node_why k 7 i y by also
        → w ≡ why_broken k (wrong_link_from 0 (view s).forest (reached_in s) (view s).forest.nodes)
    unfolding why_broken wrong_link_from node_in
    agreeing_fails {k} h here a b e =
        e ∙ rw (here, found_of_lem a, found_of_lem b, is, ← met_is)
        (ap (why_broken k) (rw (nodes_at s i (rw slots at l), disagrees_is ∙ ap not h) at g.rest.same))
