-- Laws of the climb from a node that goes to the node whose own fate it is, and of 18's reason. Assumes nothing.
use mathlib.Core.List.{List}
use mathlib.Core.Path.{◌≡◌, refl, sym, ap, ◌∙◌, subst}
use Prim.Native.Nat.{ℕ, suc, ◌+◌, ◌-◌, ◌≤◌, ◌<◌}
use native.Mathlib.Omega.{arith}
use lib.Dec.{eqb, ltb}
use lib.ListN.{length, get_or}
use borrow.Author.Tests.{lt-ltb, le-ltb, eqb-true, eqb-false}
use Rattle.base.proofs.Cases.{by_test}
use Rattle.std.specs.Prelude.{if◌then◌else◌, Option, None, Some}
use Rattle.base.specs.Search.{First}
use Rattle.base.proofs.Tests.{both}
use Rattle.ids.specs.declared.FullNodeId.{FullNodeId}
use Rattle.record.specs.Batch.{Batch}
use Rattle.reasons.specs.Reasons.{Dropped, accepted, updated_and_gone}
use Rattle.reasons_calls.specs.Outcome.{dropper, dropped_within, removed_reason}
use Rattle.reasons_why.specs.declared.Why.{Why}
use Rattle.reasons_why.specs.Why.{dropped_node, dropped_by, why_of, why_for}
use Rattle.record_reader.specs.Reader.{no_listed, listed_at}
use Rattle.state.specs.State.{ParentAndIndex, Forest, find}
use Rattle.state_array.specs.declared.LinkRow.{LinkRow}
use Rattle.state_array.specs.View.{id_in, link_in, link_of, slots_of}
use Rattle.update.specs.Words.{here}
use Rattle.update.specs.Gone.{Fate, stays, goes, asParent, replaced, fate}
use Rattle.update.specs.Numbers.{updated_and_removed}
use Rattle.calls.specs.Fates.{fate_code, fate_by, fate_mark, fate_word}
use Rattle.calls.proofs.gone.Climb.{goes_if_code, as_parent, flag_not_two}
use Rattle.calls.proofs.gone.Slots.{link_at_lem, slot_stands, no_link, a_link, turn_at, parent_there, parent_id}
use Rattle.calls.specs.Layout.{TURNS, ABOVE, LISTED_SLOTS}
use Rattle.calls.specs.declared.notes.Scope.{Scope}
use Rattle.calls.specs.Setting.{asked, forest}
use Rattle.calls.specs.Codes.{id_at, node_at, slot_at}
use Rattle.calls.specs.Says.{turn_mark, listed_slot, Told, PLANNED}
use Rattle.calls.proofs.notes.Positions.{first_given_at}
use Rattle.calls.proofs.notes.Places.{find_at, forest_id, forest_link}
use Rattle.update_focus.proofs.Numbers.{forest_length}
use Rattle.calls.proofs.notes.Marks.{turn_listed, turn_none}
use Rattle.calls.specs.Noted.{clash_noted, parent_noted}
use Rattle.calls.proofs.rows.Clashes.{differs_old, clash_is, clash_first}
use Rattle.calls.specs.declared.why_outcome.climb.Lost.{Lost}
use Rattle.calls.specs.WhyPass.{plain_nodes}
use Rattle.calls.specs.Climbs.{lost_of, dropped_from, dropped_at, removed_at}

-- fewer columns are written too
pub told_fewer : {state bytes : List ℕ} {c : Scope} {notes : List ℕ} {j : ℕ} → j ≤ PLANNED → Told PLANNED state bytes c notes → Told j state bytes c notes
told_fewer l told = record { given = told.given; long = told.long; written = λ i h. told.written i (omega arith) }

-- the fate with the number 1
fate_goes : (f : Fate) → fate_code f ≡ 1 → f ≡ goes
unfolding fate_code
fate_goes stays e = absurd (omega arith)
fate_goes goes e = refl
fate_goes asParent e = absurd (omega arith)

-- ## The node in a slot

module _ {state bytes : List ℕ} {c : Scope} {notes : List ℕ} (told : Told PLANNED state bytes c notes) {at : ℕ} (within : at < slots_of state) where
  abbrev s : Forest
  s = forest state

  abbrev b : Batch
  b = asked bytes c

  abbrev x : FullNodeId
  x = id_at s at

  inside : at < length s.nodes
  inside = omega (arith, forest_length state)

  -- it is there
  there : find x s.nodes ≡ Some (node_at s at)
  there = find_at s told.given.kept.ascending at inside

  -- its fate, by its link
  fate_is : (o : Option ParentAndIndex) → link_of (link_in state at) ≡ o → fate_word state bytes c at ≡ fate_code (fate_by s b x o)
  unfolding fate_word fate_mark
  fate_is o e = rw (link_at_lem s told.given.kept.ascending at inside, forest_link state at within, e)

  -- without a link it lost its place, by nobody
  dropped_top : (room : ℕ) → link_of (link_in state at) ≡ None → dropped_within s b (suc room) x ≡ Some (record { node = x; by = None })
  unfolding dropped_within
  dropped_top room e = rw (there, dropped_within, forest_link state at within, e)

  -- under a parent, by its fate
  dropped_under : (room : ℕ) (l : ParentAndIndex) → link_of (link_in state at) ≡ Some l → (f : Fate) → fate s b x l ≡ f
      → dropped_within s b (suc room) x
      ≡ (elim f as (λ _. Option Dropped) [
        | stays ↦ None
        | goes ↦ Some (record { node = x; by = dropper s b l.parent })
        | asParent ↦ dropped_within s b room l.parent
      ])
  unfolding dropped_within
  dropped_under room l e f q = rw (there, dropped_within, forest_link state at within, e, q)

  -- ## Its parent

  -- a node that fares as its parent does has one
  parented : fate_word state bytes c at ≡ 2 → (link_in state at).linked ≡ 0 → ⊥
  unfolding fate_by
  parented e q = flag_not_two (replaced s b x) (sym (goes_if_code (replaced s b x)) ∙ sym (fate_is None (no_link (link_in state at) q)) ∙ e)

  module _ (linked : (link_in state at).linked ≡ 0 → ⊥) where
    -- its link
    abbrev link : ParentAndIndex
    link = record { parent = (link_in state at).parent; index = (link_in state at).index }

    -- the slot of its parent
    above_within : get_or notes (ABOVE + at) 0 < slots_of state
    above_within = parent_there (told_fewer (omega arith) told) within linked

    above_id : id_at s (get_or notes (ABOVE + at) 0) ≡ (link_in state at).parent
    above_id = parent_id (told_fewer (omega arith) told) within linked

    -- the parent's turn
    above_turn : get_or notes (TURNS + get_or notes (ABOVE + at) 0) 0 ≡ turn_mark s b (link_in state at).parent
    above_turn = turn_at (told_fewer (omega arith) told) (get_or notes (ABOVE + at) 0) above_within ∙ ap (turn_mark s b) above_id

    -- it is listed, or not
    parent_noted_lem : parent_noted notes at (link_in state at).parent ≡ dropper s b (link_in state at).parent
    unfolding parent_noted dropper
    parent_noted_lem =
        let p = (link_in state at).parent in
        let turn = get_or notes (TURNS + get_or notes (ABOVE + at) 0) 0 in
        by_test (eqb turn 0) (λ t. rw (t, turn_none s b p (sym above_turn ∙ eqb-true turn 0 t)))
        (λ t. let listed-there = eqb-false turn 0 t in let mark : 0 < turn_mark s b p = omega (arith, above_turn) in rw (t, turn_listed s b p ∙ lt-ltb 0 _ mark))

    -- its fate
    under : {k : ℕ} → fate_word state bytes c at ≡ k → fate_code (fate s b x link) ≡ k
    unfolding fate_by
    under e = sym (fate_is (Some link) (a_link (link_in state at) linked)) ∙ e

    -- it goes
    dropped_goes : (room : ℕ) → fate_word state bytes c at ≡ 1
        → dropped_within s b (suc room) x ≡ Some (record { node = x; by = dropper s b (link_in state at).parent })
    dropped_goes room e = dropped_under room link (a_link (link_in state at) linked) goes (fate_goes (fate s b x link) (under e))

    -- it fares as its parent does
    dropped_above : (room : ℕ) → fate_word state bytes c at ≡ 2 → dropped_within s b (suc room) x ≡ dropped_within s b room (id_at s (get_or notes (ABOVE + at) 0))
    dropped_above room e =
        dropped_under room link (a_link (link_in state at) linked) asParent (as_parent (fate s b x link) (under e))
        ∙ ap (dropped_within s b room) (sym above_id)

    -- without room it lost its place only if it goes
    dropped_not : (fate_word state bytes c at ≡ 1 → ⊥) → dropped_within s b 1 x ≡ None
    unfolding fate_by dropped_within fate_code
    dropped_not h = go (fate s b x link) refl
      where
        go : (f : Fate) → fate s b x link ≡ f → dropped_within s b 1 x ≡ None
        go stays q = dropped_under 0 link (a_link (link_in state at) linked) stays q
        go goes q = absurd (h (fate_is (Some link) (a_link (link_in state at) linked) ∙ ap fate_code q))
        go asParent q = dropped_under 0 link (a_link (link_in state at) linked) asParent q

  -- room does not matter where it does not fare as its parent does
  settled : (room : ℕ) → (fate_word state bytes c at ≡ 2 → ⊥) → dropped_within s b 1 x ≡ dropped_within s b (suc room) x
  unfolding fate_by fate_code
  settled room h = by_link (link_of (link_in state at)) refl
    where
      by_fate : (l : ParentAndIndex) → link_of (link_in state at) ≡ Some l → (f : Fate) → fate s b x l ≡ f → dropped_within s b 1 x ≡ dropped_within s b (suc room) x
      by_fate l e stays q = dropped_under 0 l e stays q ∙ sym (dropped_under room l e stays q)
      by_fate l e goes q = dropped_under 0 l e goes q ∙ sym (dropped_under room l e goes q)
      by_fate l e asParent q = absurd (h (fate_is (Some l) e ∙ ap fate_code q))

      by_link : (o : Option ParentAndIndex) → link_of (link_in state at) ≡ o → dropped_within s b 1 x ≡ dropped_within s b (suc room) x
      by_link None e = dropped_top 0 e ∙ sym (dropped_top room e)
      by_link (Some l) e = by_fate l e (fate s b x l) refl

  -- ## Where the climb ends

  dropped_here : dropped_at state bytes c at ≡ dropped_within s b 1 x
  unfolding dropped_at
  dropped_here = rw (lt-ltb at (slots_of state) within)

  -- as the code finds its link and its id
  module _ {l : LinkRow} (is : l ≡ link_in state at) {y : FullNodeId} (id : y ≡ id_in state at) where
    -- it has no parent
    pub here_top : l.linked ≡ 0 → Some (record { node = y; by = None }) ≡ lost_of (dropped_at state bytes c at)
    unfolding lost_of
    here_top e =
        rw (id, ← forest_id state at within)
        (sym (ap lost_of (dropped_here ∙ dropped_top 0 (no_link (link_in state at) (rw is at e)))))

    module _ (linked : l.linked ≡ 0 → ⊥) {k : ℕ} (fares : k ≡ fate_word state bytes c at) where
      -- it has one, and does not go
      pub here_stays : (k ≡ 1 → ⊥) → None ≡ lost_of (dropped_at state bytes c at)
      unfolding lost_of
      here_stays h = sym (ap lost_of (dropped_here ∙ dropped_not (rw is at linked) (λ e. h (fares ∙ e))))

      -- it goes
      pub here_goes : {p : Option FullNodeId} → k ≡ 1 → p ≡ parent_noted notes at l.parent
          → Some (record { node = y; by = p }) ≡ lost_of (dropped_at state bytes c at)
      unfolding lost_of
      here_goes e by =
          rw (id, by, is, parent_noted_lem (rw is at linked), ← forest_id state at within)
          (sym (ap lost_of (dropped_here ∙ dropped_goes (rw is at linked) 0 (sym fares ∙ e))))

-- the slot of its parent, as the code finds its link
pub parent_room : {state bytes : List ℕ} {c : Scope} {notes : List ℕ} → Told PLANNED state bytes c notes → {at : ℕ} → at < slots_of state
    → {l : LinkRow} → l ≡ link_in state at → (l.linked ≡ 0 → ⊥) → get_or notes (ABOVE + at) 0 < 320
parent_room told within is h = omega (arith, above_within told within (rw is at h))

-- ## The climb

-- from slot i it has come to the slot `at` in so many steps
pub record Climbing (state bytes : List ℕ) (c : Scope) (i steps at : ℕ) : Type 0 where
  pub there : at < slots_of state
  pub same : dropped_from state bytes c i ≡ dropped_within (forest state) (asked bytes c) (slots_of state - steps) (id_at (forest state) at)

pub climbing_starts : {state bytes : List ℕ} {c : Scope} {i : ℕ} → i < slots_of state → Climbing state bytes c i 0 i
climbing_starts {state} {bytes} {c} {i} h =
    let all : slots_of state ≡ slots_of state - 0 = omega arith in
    record { there = h; same = ap (λ k. dropped_within (forest state) (asked bytes c) k (id_at (forest state) i)) (forest_length state ∙ all) }

module _ {state bytes : List ℕ} {c : Scope} {i steps at n : ℕ} (h : Climbing state bytes c i steps at) where
  -- no step is left
  pub climbing_over : n ≤ steps → n ≡ slots_of state → dropped_at state bytes c n ≡ dropped_from state bytes c i
  unfolding dropped_at dropped_within
  climbing_over l e =
      let none_left : slots_of state - steps ≡ 0 = omega arith in
      rw (le-ltb n (slots_of state) (omega arith)) (sym (h.same ∙ rw none_left))

  module _ {notes : List ℕ} (told : Told PLANNED state bytes c notes) (more : steps < n) (count : n ≡ slots_of state) {k : ℕ} (fares : k ≡ fate_word state bytes c at) where
    step : slots_of state - steps ≡ suc (slots_of state - (steps + 1))
    step = omega arith

    -- a node that does not fare as its parent does
    pub climbing_ends : (k ≡ 2 → ⊥) → dropped_at state bytes c at ≡ dropped_from state bytes c i
    climbing_ends e =
        dropped_here told h.there ∙ settled told h.there (slots_of state - (steps + 1)) (λ q. e (fares ∙ q))
        ∙ sym (h.same ∙ ap (λ j. dropped_within (forest state) (asked bytes c) j (id_at (forest state) at)) step)

    -- one that does
    pub climbing_goes : k ≡ 2 → Climbing state bytes c i (steps + 1) (get_or notes (ABOVE + at) 0)
    climbing_goes e =
        let two = sym fares ∙ e in
        let linked = parented told h.there two in
        record {
          there = above_within told h.there linked;
          same =
              h.same ∙ ap (λ j. dropped_within (forest state) (asked bytes c) j (id_at (forest state) at)) step
              ∙ dropped_above told h.there linked (slots_of state - (steps + 1)) two;
        }

-- what the slot where it ends says
module _ (state bytes : List ℕ) (c : Scope) (i at : ℕ) {n : ℕ} (e : dropped_at state bytes c at ≡ dropped_from state bytes c i) (count : n ≡ slots_of state) where
  pub lost_none : n ≤ at → None ≡ lost_of (dropped_from state bytes c i)
  unfolding lost_of dropped_at
  lost_none l = rw (← e, le-ltb at (slots_of state) (omega arith))

  pub lost_there : {r : Option Lost} → r ≡ lost_of (dropped_at state bytes c at) → r ≡ lost_of (dropped_from state bytes c i)
  lost_there q = q ∙ ap lost_of e

-- ## The reason

-- what its fields are
lost_by : Option Lost → Option FullNodeId
lost_by None = None
lost_by (Some l) = l.by

lost_node : Option Lost → Option FullNodeId
lost_node None = None
lost_node (Some l) = Some l.node

by_is : (d : Option Dropped) → lost_by (lost_of d) ≡ dropped_by d
unfolding lost_by lost_of dropped_by
by_is None = refl
by_is (Some d) = refl

node_is : (d : Option Dropped) → lost_node (lost_of d) ≡ dropped_node d
unfolding lost_node lost_of dropped_node
node_is None = refl
node_is (Some d) = refl

-- of the node in slot i, as the code finds its id
module _ (state bytes : List ℕ) (c : Scope) (i : ℕ) {y : FullNodeId} (h : i < slots_of state) (id : y ≡ id_in state i) {w : Why} where
  gone_is : (r : Option Lost) → r ≡ lost_of (dropped_from state bytes c i) → w ≡ plain_nodes 18 y (lost_by r) (lost_node r)
      → w ≡ why_of (updated_and_gone (id_at (forest state) i) (dropped_from state bytes c i))
  unfolding why_of plain_nodes
  gone_is r e q =
      let there : y ≡ id_at (forest state) i = id ∙ sym (forest_id state i h) in
      let by = ap lost_by e ∙ by_is (dropped_from state bytes c i) in
      let node = ap lost_node e ∙ node_is (dropped_from state bytes c i) in
      q ∙ (λ k. plain_nodes 18 (there k) (by k) (node k))

  -- no node lost its place
  pub gone_alone : {r : Option Lost} → r ≡ None → r ≡ lost_of (dropped_from state bytes c i) → w ≡ plain_nodes 18 y None None
      → w ≡ why_of (updated_and_gone (id_at (forest state) i) (dropped_from state bytes c i))
  unfolding lost_by lost_node
  gone_alone n e q = gone_is None (sym n ∙ e) q

  -- one did
  pub gone_lost : {r : Option Lost} {l : Lost} → r ≡ Some l → r ≡ lost_of (dropped_from state bytes c i) → w ≡ plain_nodes 18 y l.by (Some l.node)
      → w ≡ why_of (updated_and_gone (id_at (forest state) i) (dropped_from state bytes c i))
  unfolding lost_by lost_node
  gone_lost {l = l} n e q = gone_is (Some l) (sym n ∙ e) q

-- the id of listed node i
abbrev listed_id : List ℕ → List ℕ → Scope → ℕ → FullNodeId
listed_id state bytes c i = here (forest state) (asked bytes c) (listed_at (asked bytes c) i).id

module _ {state bytes : List ℕ} {c : Scope} {notes : List ℕ} (told : Told PLANNED state bytes c notes) {i : ℕ}
    (noted : First (clash_noted notes) c.listed i) where
  first : First (removed_at state bytes c) c.listed i
  first = clash_first (told_fewer (omega arith) told) noted

  count : c.listed ≡ length (asked bytes c).nodes
  count = told.given.scoped.listed

  -- what the search says of the reason
  reason_is : removed_reason (forest state) (asked bytes c)
      ≡ (if ltb i (length (asked bytes c).nodes)
      then Some (updated_and_gone (listed_id state bytes c i) (dropped_within (forest state) (asked bytes c) (length (forest state).nodes) (listed_id state bytes c i)))
      else None)
  unfolding removed_reason listed_at
  reason_is =
      first_given_at (updated_and_removed (forest state) (asked bytes c)) _ no_listed (asked bytes c).nodes i
      (subst (λ n. First (removed_at state bytes c) n i) count first)

  -- none is
  pub removed_none : {w : Why} → c.listed ≤ i → w ≡ why_of accepted → w ≡ why_for (removed_reason (forest state) (asked bytes c))
  unfolding why_for
  removed_none l e = e ∙ sym (rw (reason_is, le-ltb i (length (asked bytes c).nodes) (omega (arith, count))))

  -- one is: it was present, so it has a slot
  module _ (l : i < c.listed) where
    stands : (slot_at (forest state) (listed_id state bytes c i) < length (forest state).nodes)
        × (id_at (forest state) (slot_at (forest state) (listed_id state bytes c i)) ≡ listed_id state bytes c i)
    stands =
        slot_stands (forest state) (listed_id state bytes c i)
        (differs_old (forest state) (asked bytes c) (listed_at (asked bytes c) i)
        (both (sym (clash_is (forest state) (asked bytes c) (listed_at (asked bytes c) i)) ∙ first.hit l)).1)

    slot_is : get_or notes (LISTED_SLOTS + i) 0 ≡ slot_at (forest state) (listed_id state bytes c i)
    unfolding listed_slot
    slot_is = told.written 3 (omega arith) i l

    pub removed_within : get_or notes (LISTED_SLOTS + i) 0 < slots_of state
    removed_within = omega (arith, slot_is, stands.0, forest_length state)

    pub removed_some : {w : Why}
        → w ≡ why_of (updated_and_gone (id_at (forest state) (get_or notes (LISTED_SLOTS + i) 0)) (dropped_from state bytes c (get_or notes (LISTED_SLOTS + i) 0)))
        → w ≡ why_for (removed_reason (forest state) (asked bytes c))
    unfolding why_for
    removed_some e =
        let id : id_at (forest state) (get_or notes (LISTED_SLOTS + i) 0) ≡ listed_id state bytes c i = ap (id_at (forest state)) slot_is ∙ stands.1 in
        e ∙ rw id (sym (rw (reason_is, lt-ltb i (length (asked bytes c).nodes) (omega (arith, count)))))
