-- The way down as `goes_down` goes it: what its two tables say is still to be met, and a law for each way on and out. Assumes nothing.
use mathlib.Core.Bool.{Bool, true, false, not, ◌||◌}
use mathlib.Core.List.{List, [], ◌∷◌, ◌++◌, append-nil}
use Rattle.std.specs.Prelude.{Option, Some, None}
use mathlib.Core.Path.{◌≡◌, refl, sym, ap, ◌∙◌}
use Prim.Native.Nat.{ℕ, zero, suc, ◌+◌, ◌-◌, ◌≤◌, ◌<◌}
use Rattle.base.proofs.Cases.{by_test, by_order, by_last}
use native.Mathlib.Numerals.{add-one}
use native.Mathlib.Omega.{arith}
use lib.Dec.{eqb, ltb, leb}
use lib.ListN.{length, drop, get_or, set, replicate, length-set, length-replicate}
use lib.Seq.{get_or-set_same, get_or-set_other}
use borrow.Author.Tests.{eq-eqb, ne_eqb, lt-ltb, le-ltb, ltb-true, ltb-false, leb-true, leb-false}
use Rattle.base.specs.Tests.{◌and◌, same_option}
use Rattle.base.proofs.Tests.{or_false}
use Rattle.base.specs.Search.{First}
use Rattle.ids.specs.Ids.{same_id}
use Rattle.ids.specs.declared.FullNodeId.{FullNodeId}
use Rattle.state_array.specs.declared.LinkRow.{LinkRow}
use Rattle.state.specs.State.{ParentAndIndex, same_link, NodeState, Forest}
use Rattle.state.specs.Down.{Met, met_under, below, below_id}
use Rattle.state.specs.Sound.{recorded}
use Rattle.state_array.specs.View.{id_in, link_in, link_of, node_in, slots_of, view}
use Rattle.state_lookup.specs.Lookup.{stands_at, in_order, SlotOf}
use Rattle.state_lookup.proofs.Found.{find_there, find_absent}
use Rattle.state_sound.specs.Counted.{counted}
use Rattle.state_rules.specs.Parts.{below_in, KidSays}
use Rattle.state_sound.specs.Parts.{MetAt, counted_below}

-- ## The pass over a list

module _ (f : Forest) (x : Met) (xs : List Met) where
  -- a node that is not recorded so, one too many, and one that is gone down from
  pub counted_refused : (left : ℕ) → recorded f.nodes x ≡ false → counted left f (x ∷ xs) ≡ false
  unfolding counted ◌and◌
  counted_refused zero e = refl
  counted_refused (suc left) e = rw e

  pub counted_full : (left : ℕ) → left < 1 → counted left f (x ∷ xs) ≡ false
  unfolding counted
  counted_full zero h = refl
  counted_full (suc left) h = absurd (omega arith)

  pub counted_on : (left : ℕ) → 0 < left → recorded f.nodes x ≡ true → counted left f (x ∷ xs) ≡ counted (left - 1) f (below_id f x.id ++ xs)
  unfolding counted ◌and◌
  counted_on zero h e = absurd (omega arith)
  counted_on (suc left) h e = let one_less : suc left - 1 ≡ left = omega arith in rw (e, one_less)

-- nothing is left
pub counted_end : (f : Forest) (left : ℕ) → counted left f [] ≡ eqb left 0
unfolding counted
counted_end f zero = sym (eq-eqb 0 0 refl)
counted_end f (suc left) = sym (ne_eqb (suc left) 0 (λ e. omega arith))

-- ## What the tables say

-- What is still to be gone to: of each node gone down from, the deepest first, what is met from the next place on.
-- The node at depth k stands in slot `path k`, and its next place is `nexts k`.
unfoldable pub pending : Forest → (ℕ → NodeState) → List ℕ → List ℕ → ℕ → List Met
pending s node path nexts zero = []
pending s node path nexts (suc d) = drop (get_or nexts d 0) (below s (node (get_or path d 0))) ++ pending s node path nexts d

-- only what stands below the depth counts
pending_cong : (f : Forest) (node : ℕ → NodeState) (a a' b b' : List ℕ) (d : ℕ)
    → ((k : ℕ) → k < d → get_or a k 0 ≡ get_or a' k 0) → ((k : ℕ) → k < d → get_or b k 0 ≡ get_or b' k 0)
    → pending f node a b d ≡ pending f node a' b' d
unfolding pending
pending_cong f node a a' b b' zero h k = refl
pending_cong f node a a' b b' (suc d) h k =
    rw (h d (omega arith), k d (omega arith), pending_cong f node a a' b b' d (λ i l. h i (omega arith)) (λ i l. k i (omega arith)))

-- the deepest, and the rest
pending_top : (f : Forest) (node : ℕ → NodeState) (path nexts : List ℕ) (depth : ℕ) → 0 < depth
    → pending f node path nexts depth ≡ drop (get_or nexts (depth - 1) 0) (below f (node (get_or path (depth - 1) 0))) ++ pending f node path nexts (depth - 1)
unfolding pending
pending_top f node path nexts zero h = absurd (omega arith)
pending_top f node path nexts (suc d) h = let one_less : suc d - 1 ≡ d = omega arith in rw one_less

-- ## One node

module _ (s : List ℕ) (x : FullNodeId) (i : ℕ) (found : First (stands_at s x) (slots_of s) i) where
  -- what a search says of a node met by a link: absent, or there with the link that it records
  module _ (link : Option ParentAndIndex) where
    pub recorded_absent : slots_of s ≤ i → recorded (view s).forest.nodes (record { id = x; link = link }) ≡ false
    unfolding recorded
    recorded_absent h = rw (find_absent s x i found h, recorded)

    pub recorded_there : i < slots_of s → recorded (view s).forest.nodes (record { id = x; link = link }) ≡ same_option same_link (link_of (link_in s i)) link
    unfolding recorded node_in
    recorded_there h = rw (find_there s x i found h, recorded)

  -- what is met below it
  pub below_there : i < slots_of s → below_id (view s).forest x ≡ below_in s i
  unfolding below_id
  below_there h = rw (find_there s x i found h, below_id)

-- what a row says of a link to p at place j
pub agrees_is : (l : LinkRow) (p : FullNodeId) (j : ℕ)
    → same_option same_link (link_of l) (Some (record { parent = p; index = j })) ≡ not (eqb l.linked 0) and (same_id l.parent p and eqb l.index j)
unfolding link_of same_link ◌and◌
agrees_is l p j = by_test (eqb l.linked 0) (λ e. rw e) (λ e. rw e)

-- the slot of a node that is met, for each way out of `met_at`
module _ (s : List ℕ) (p j : ℕ) {x : FullNodeId} {n i : ℕ} (slots : n ≡ slots_of s) (slot : SlotOf s x i) (up : in_order s ≡ true) where
  -- the link by which it is met
  abbrev link : Option ParentAndIndex
  link = Some (record { parent = id_in s p; index = j })

  -- what is not recorded so has no slot
  nowhere : recorded (view s).forest.nodes (met_under (id_in s p) j x) ≡ false → MetAt s p j x n
  nowhere h = record { first = λ l. absurd (omega arith); says = h ∙ sym (le-ltb n (slots_of s) (omega arith)) }

  -- absent
  pub met_absent : n ≤ i → MetAt s p j x n
  unfolding met_under
  met_absent h = nowhere (recorded_absent s x i (slot.first up) link (rw slots at h))

  -- there, with another link or with this one
  module _ (h : i < n) {l : LinkRow} (is : l ≡ link_in s i) {y : FullNodeId} (own : y ≡ id_in s p) {z : Bool}
      (e : z ≡ same_option same_link (link_of l) (Some (record { parent = y; index = j }))) where
    told : recorded (view s).forest.nodes (met_under (id_in s p) j x) ≡ z
    unfolding met_under
    told = recorded_there s x i (slot.first up) link (rw slots at h) ∙ sym (rw (is, own) at e)

    pub met_otherwise : z ≡ false → MetAt s p j x n
    met_otherwise q = nowhere (told ∙ q)

    pub met_there : z ≡ true → MetAt s p j x i
    met_there q = record { first = λ _. slot.first up; says = told ∙ q ∙ sym (lt-ltb i (slots_of s) (rw slots at h)) }

-- ## The invariant

-- Of the pass that starts below the node in slot r, what is left is what the tables say, and they have room for the `left` nodes still to be met.
-- n is how many slots hold nodes.
pub record Going (s : List ℕ) (n r : ℕ) (path nexts : List ℕ) (depth left : ℕ) : Type 0 where
  pub slots : n ≡ slots_of s
  pub few : n ≤ 320
  pub deep : depth + left ≤ n
  pub long : length path ≡ 320
  pub wide : length nexts ≡ 320
  pub there : (k : ℕ) → k < depth → get_or path k 0 < n
  pub small : (k : ℕ) → k < depth → get_or nexts k 0 + left ≤ n
  pub rest : counted left (view s).forest (pending (view s).forest (node_in s) path nexts depth) ≡ counted_below s r

-- at the start
pub going_start : {s : List ℕ} {n r : ℕ} → n ≡ slots_of s → r < slots_of s → Going s n r (replicate 320 r) (replicate 320 0) 1 (n - 1)
unfolding pending counted_below
going_start {s} {n} {r} e h = record {
  slots = e;
  few = omega arith;
  deep = omega arith;
  long = length-replicate {A = ℕ} 320 r;
  wide = length-replicate {A = ℕ} 320 0;
  there = λ k l. let z : k ≡ 0 = omega arith in rw (z, e) h;
  small = λ k l. let z : k ≡ 0 = omega arith in rw z (omega arith);
  rest = rw (e, append-nil (below_in s r));
}

module _ {s : List ℕ} {n r : ℕ} {path nexts : List ℕ} {depth left : ℕ} (g : Going s n r path nexts depth left) where
  -- the forest that the state shows
  abbrev f : Forest
  f = (view s).forest

  -- nothing more at all
  pub going_end : depth ≤ 0 → eqb left 0 ≡ counted_below s r
  unfolding pending
  going_end e = let z : depth ≡ 0 = omega arith in sym (rw z at (sym g.rest) ∙ counted_end f left)

  module _ (some_left : 0 < depth) where
    -- the depth of the deepest, its slot, its next place, what is met below it, and what comes after
    abbrev top : ℕ
    top = depth - 1

    abbrev p : ℕ
    p = get_or path top 0

    abbrev place : ℕ
    place = get_or nexts top 0

    abbrev ms : List Met
    ms = below_in s p

    abbrev after : List Met
    after = pending f (node_in s) path nexts top

    -- a place is no more than there are nodes
    pub next_small : get_or nexts (depth - 1) 0 ≤ 320
    next_small = omega (arith, g.small top (omega arith), g.few)

    module _ {k : Option FullNodeId} (says : KidSays ms place (id_in s p) k) where
      -- nothing more below the deepest
      pub going_back : k ≡ None → Going s n r path nexts (depth - 1) left
      unfolding KidSays
      going_back q = record {
        slots = g.slots;
        few = g.few;
        deep = omega (arith, g.deep);
        long = g.long;
        wide = g.wide;
        there = λ k l. g.there k (omega arith);
        small = λ k l. g.small k (omega arith);
        rest = sym (ap (λ (l : List Met). counted left f (l ++ after)) (rw q at says)) ∙ rw (pending_top f (node_in s) path nexts depth some_left) at g.rest;
      }

      module _ {id : FullNodeId} (q : k ≡ Some id) {i : ℕ} (met : MetAt s p place id i) where
        -- the child, and what comes after it
        next : counted left f (met_under (id_in s p) place id ∷ (drop (place + 1) ms ++ after)) ≡ counted_below s r
        unfolding KidSays
        next = sym (ap (λ (l : List Met). counted left f (l ++ after)) (rw q at says)) ∙ rw (pending_top f (node_in s) path nexts depth some_left) at g.rest

        -- a node that is absent, or records another link; or one too many
        pub going_stopped : (leb n i || ltb left 1) ≡ true → false ≡ counted_below s r
        going_stopped h =
            by_test (leb n i)
            (λ t. sym (counted_refused _ (met_under (id_in s p) place id) _ left (met.says ∙ le-ltb i (slots_of s) (omega (arith, leb-true n i t, g.slots)))) ∙ next)
            (λ t. sym (counted_full _ (met_under (id_in s p) place id) _ left (ltb-true left 1 (rw t at h))) ∙ next)

        -- the node met is gone down from next
        module _ (on : (leb n i || ltb left 1) ≡ false) where
          abbrev path' : List ℕ
          path' = set path depth i

          abbrev nexts' : List ℕ
          nexts' = set (set nexts top (place + 1)) depth 0

          room : (i < n) × (0 < left)
          room = let w = or_false (leb n i) on in (leb-false n i w.0, ltb-false left 1 w.1)

          -- what the tables hold after one more
          slot_new : get_or path' depth 0 ≡ i
          slot_new = get_or-set_same path depth i 0 (omega (arith, g.deep, g.long, g.few, room.1))

          slot_old : (k : ℕ) → k < depth → get_or path' k 0 ≡ get_or path k 0
          slot_old k l = get_or-set_other path depth k i 0 (λ e. omega arith)

          next_new : get_or nexts' depth 0 ≡ 0
          next_new = get_or-set_same (set nexts top (place + 1)) depth 0 0 (rw (length-set nexts top (place + 1)) (omega (arith, g.deep, g.wide, g.few, room.1)))

          next_top : get_or nexts' top 0 ≡ place + 1
          next_top =
              get_or-set_other (set nexts top (place + 1)) depth top 0 0 (λ e. omega arith)
              ∙ get_or-set_same nexts top (place + 1) 0 (omega (arith, g.deep, g.wide, g.few))

          next_old : (k : ℕ) → k < top → get_or nexts' k 0 ≡ get_or nexts k 0
          next_old k l = get_or-set_other (set nexts top (place + 1)) depth k 0 0 (λ e. omega arith) ∙ get_or-set_other nexts top k (place + 1) 0 (λ e. omega arith)

          -- what they say is still to be gone to
          pending_on : pending f (node_in s) path' nexts' (depth + 1) ≡ below_in s i ++ (drop (place + 1) ms ++ after)
          unfolding pending
          pending_on =
              rw (
                add-one depth,
                slot_new,
                next_new,
                pending_top f (node_in s) path' nexts' depth some_left,
                slot_old top (omega arith),
                next_top,
                pending_cong f (node_in s) path' path nexts' nexts top (λ k l. slot_old k (omega arith)) next_old,
              )

          pub going_on : Going s n r (set path depth i) (set (set nexts (depth - 1) (place + 1)) depth 0) (depth + 1) (left - 1)
          unfolding met_under
          going_on =
              let there : i < slots_of s = omega (arith, room.0, g.slots) in
              record {
                slots = g.slots;
                few = g.few;
                deep = omega (arith, g.deep, room.1);
                long = length-set path depth i ∙ g.long;
                wide = length-set (set nexts top (place + 1)) depth 0 ∙ length-set nexts top (place + 1) ∙ g.wide;
                there = λ k l. by_last k depth l (λ e. rw (e, slot_new) room.0) (λ b. rw (slot_old k b) (g.there k b));
                small = λ k l. by_last k depth l (λ e. rw (e, next_new) (omega (arith, g.deep)))
                    (λ b. by_order k top (λ t. rw (next_old k t) (omega (arith, g.small k b)))
                    (λ t. let e : k ≡ top = omega arith in rw (e, next_top) (omega (arith, g.small top (omega arith), room.1))));
                rest =
                    rw (pending_on, ← below_there s id i (met.first there) there)
                    (sym (counted_on f (met_under (id_in s p) place id) (drop (place + 1) ms ++ after) left room.1 (met.says ∙ lt-ltb i (slots_of s) there)) ∙ next);
              }

-- there is room for one more, as a rule for `omega`
pub some_room : (n i left : ℕ) → (leb n i || ltb left 1) ≡ false → 0 < left
some_room n i left e = ltb-false left 1 (or_false (leb n i) e).1
