-- Laws of what is left of the pass: at a child entry, at a node's own turn; and of the whole: how it begins, goes on and ends. Assumes nothing.
use mathlib.Core.Bool.{true, false, Bool, ◌||◌}
use mathlib.Core.List.{List, [], ◌++◌, ◌∷◌, append_assoc, append-nil}
use mathlib.Core.Path.{◌≡◌, sym, ap, ◌∙◌, refl}
use Prim.Native.Nat.{ℕ, ◌+◌, ◌≤◌, ◌<◌, suc, ◌-◌}
use native.Mathlib.Omega.{arith}
use lib.ListN.{length, replicate, set, get_or-replicate, length-set, length-replicate, get_or, take, drop, take-append-drop, length-append, length-take, drop_of_length-le}
use Rattle.std.specs.Prelude.{if◌then◌else◌, Option, None, Some}
use Rattle.base.specs.Tests.{◌and◌, has}
use Rattle.base.proofs.Tests.{clash}
use Rattle.ids.specs.declared.TreeId.{TreeId}
use Rattle.record.specs.Batch.{Batch, named_ids, NodeData, Listed}
use Rattle.state.specs.State.{Forest}
use Rattle.update.specs.Pass.{Event, names, places, placed_at_turn, namings, events}
use Rattle.reasons_calls.specs.Pass.{claimer_among, pass_reason, pass_fault}
use Rattle.calls.specs.declared.notes.Scope.{Scope}
use Rattle.calls.specs.Setting.{asked, forest}
use Rattle.calls.specs.Says.{Told, READ}
use Rattle.calls.proofs.notes.Told.{few_listed, few_named}
use Rattle.calls.specs.declared.pass.Step.{Step}
use Rattle.calls.specs.declared.pass.Cause.{Cause}
use Rattle.calls.specs.declared.pass.Cause.TheVariants.{NamedTwice}
use Rattle.calls.specs.Causes.{Within, Explains}
use Rattle.calls.specs.Steps.{At, seen, rest, placing, placing_if, Moves, is_taken, Claimed, PlacedIs, entries_before, rest_over, waits}
use native.Mathlib.Numerals.{add-one}
use lib.Seq.{take-suc, drop-cons, take-append_seam}
use Rattle.ids.specs.Ids.{same_node}
use Rattle.ids.specs.declared.NodeId.{NodeId}
use Rattle.record.proofs.Batch.{named_append, named_at}
use Rattle.record_reader.specs.Reader.{no_node, no_listed, listed_at}
use Rattle.update.specs.Words.{listing}

-- ## The children that nodes name

-- the first nodes of a list name the first children
named_take : (ls : List Listed) (i : ℕ) → named_ids (take i ls) ≡ take (length (named_ids (take i ls))) (named_ids ls)
named_take ls i =
    sym
    (ap (λ l. take (length (named_ids (take i ls))) (named_ids l)) (sym (take-append-drop i ls))
    ∙ ap (take (length (named_ids (take i ls)))) (named_append (take i ls) (drop i ls))
    ∙ take-append_seam (named_ids (take i ls)) (named_ids (drop i ls)))

-- a node's children are among all
pub entries_before_within : (b : Batch) (i : ℕ) → entries_before b i ≤ length (named_ids b.nodes)
entries_before_within b i =
    let all = named_ids b.nodes in
    omega (arith, ap length (named_take b.nodes i) ∙ length-take (length (named_ids (take i b.nodes))) all)

-- one node more
named_more : (ls : List Listed) (i : ℕ) → i < length ls → named_ids (take (i + 1) ls) ≡ named_ids (take i ls) ++ (get_or ls i no_listed).body.children
unfolding named_ids
named_more ls i h =
    rw (add-one, take-suc ls i no_listed, named_append (take i ls) (get_or ls i no_listed ∷ [])) (ap (λ l. named_ids (take i ls) ++ l) (append-nil (get_or ls i no_listed).body.children))

module _ (b : Batch) (i : ℕ) (h : i < length b.nodes) where
  -- where the next node's children begin
  pub entries_before_more : entries_before b (i + 1) ≡ entries_before b i + length (listed_at b i).body.children
  unfolding listed_at
  entries_before_more = ap length (named_more b.nodes i h) ∙ length-append (named_ids (take i b.nodes)) (get_or b.nodes i no_listed).body.children

  -- the children named up to a node's own turn
  named_until : named_ids (take i b.nodes) ++ (listed_at b i).body.children ≡ take (entries_before b (i + 1)) (named_ids b.nodes)
  unfolding listed_at
  named_until = sym (named_more b.nodes i h) ∙ named_take b.nodes (i + 1)

-- ## What is left of the pass

module _ (s : Forest) (b : Batch) where
  -- a child is named, and placed if it waited for that
  namings_cons : (earlier : List Listed) (c : NodeId) (cs : List NodeId) → namings s b earlier (c ∷ cs) ≡ names c ∷ (waits s b earlier c ++ namings s b earlier cs)
  unfolding namings waits
  namings_cons earlier c cs = ap (λ es. names c ∷ es) (on (listing earlier c))
    where
      later : List Event
      later = namings s b earlier cs

      turn : (v : Event) (t : Bool) → (if t then later else v ∷ later) ≡ (if t then [] else v ∷ []) ++ later
      turn v true = refl
      turn v false = refl

      on : (o : Option NodeData)
          → (elim o as (λ _. List Event) [ None ↦ later | Some d ↦ if placed_at_turn s b c then later else places (record { id = c; body = d }) ∷ later ])
          ≡ (elim o as (λ _. List Event) [ None ↦ [] | Some d ↦ if placed_at_turn s b c then [] else places (record { id = c; body = d }) ∷ [] ]) ++ later
      on None = refl
      on (Some d) = turn (places (record { id = c; body = d })) (placed_at_turn s b c)

  -- all of it, at the first child of the first node
  over_all : (earlier ls : List Listed) → rest_over s b earlier 0 ls ≡ events s b earlier ls
  unfolding rest_over events
  over_all earlier [] = refl
  over_all earlier (l ∷ ls) = refl

  -- what happens at a node's own turn
  abbrev own : List Listed → Listed → List Event
  own earlier l = if placed_at_turn s b l.id || has same_node (named_ids earlier ++ l.body.children) l.id then places l ∷ [] else []

  module _ (earlier : List Listed) (l : Listed) (ls : List Listed) (m : ℕ) where
    -- at a child
    over_name : m < length l.body.children
        → rest_over s b earlier m (l ∷ ls) ≡ names (get_or l.body.children m no_node) ∷ (waits s b earlier (get_or l.body.children m no_node) ++ rest_over s b earlier (suc m) (l ∷ ls))
    unfolding rest_over
    over_name h =
        let c = get_or l.body.children m no_node in
        rw (drop-cons l.body.children m no_node h, namings_cons earlier c (drop (suc m) l.body.children))
        (ap (λ es. names c ∷ es) (simp append_assoc))

    -- past the children
    over_own : length l.body.children ≤ m → rest_over s b earlier m (l ∷ ls) ≡ own earlier l ++ rest_over s b (earlier ++ l ∷ []) 0 ls
    unfolding rest_over namings
    over_own h = rw (drop_of_length-le l.body.children h, over_all (earlier ++ l ∷ []) ls)

  -- the pass begins
  pub rest_all : rest s b 0 0 ≡ events s b [] b.nodes
  unfolding rest named_ids
  rest_all = over_all [] b.nodes

  -- and ends
  pub rest_end : (i j : ℕ) → length b.nodes ≤ i → rest s b i j ≡ []
  unfolding rest rest_over
  rest_end i j h = rw (drop_of_length-le b.nodes h)

  module _ (i j : ℕ) (at : At b i j) (h : i < length b.nodes) where
    -- at a child entry
    pub rest_name : j < entries_before b (i + 1)
        → rest s b i j ≡ names (get_or (named_ids b.nodes) j no_node) ∷ (waits s b (take i b.nodes) (get_or (named_ids b.nodes) j no_node) ++ rest s b i (j + 1))
    unfolding rest listed_at
    rest_name e =
        let l = get_or b.nodes i no_listed in
        let m = j - entries_before b i in
        let short : m < length l.body.children = omega (arith, entries_before_more b i h, at.begun) in
        let here : entries_before b i + m ≡ j = omega (arith, at.begun) in
        let next : j + 1 - entries_before b i ≡ suc m = omega (arith, at.begun) in
        let child : get_or (named_ids b.nodes) j no_node ≡ get_or l.body.children m no_node =
        ap (λ k. get_or (named_ids b.nodes) k no_node) (sym here) ∙ named_at b.nodes i m no_node no_listed h short in
        rw (drop-cons b.nodes i no_listed h, child, next) (over_name (take i b.nodes) l (drop (suc i) b.nodes) m short)

    -- at the node's own turn
    pub rest_own : j ≡ entries_before b (i + 1)
        → rest s b i j
        ≡ (if placed_at_turn s b (listed_at b i).id || has same_node (take j (named_ids b.nodes)) (listed_at b i).id then places (listed_at b i) ∷ [] else []) ++ rest s b (i + 1) j
    unfolding rest listed_at
    rest_own e =
        let l = get_or b.nodes i no_listed in
        let m = j - entries_before b i in
        let none_left : j - entries_before b (i + 1) ≡ 0 = omega arith in
        rw (drop-cons b.nodes i no_listed h)
        (over_own (take i b.nodes) l (drop (suc i) b.nodes) m (omega (arith, entries_before_more b i h))
        ∙ rw (none_left, e, ← named_until b i h, add-one, take-suc b.nodes i no_listed h))

-- the pass stands at child entry j of listed node i, and its answer is what is left to meet
pub record Going (s : Forest) (b : Batch) (notes done : List ℕ) (i j : ℕ) : Type 0 where
  pub here : At b i j
  pub listed : i ≤ length b.nodes
  pub placed : List Listed
  pub claimed : Claimed s b notes done placed
  pub left : pass_reason s b (seen (named_ids b.nodes) j) placed (rest s b i j) ≡ pass_fault s b
  pub few : length b.nodes ≤ 64
  pub long : length done ≡ 64

-- no node is done yet
none_done : (s : Forest) (b : Batch) (notes : List ℕ) → length b.nodes ≤ 64 → Claimed s b notes (replicate 64 0) []
unfolding claimer_among
none_done s b notes few = record { free = λ t f. refl; held = λ t m l e. absurd (clash (free t m l) e) }
  where
    free : (t : TreeId) (m : ℕ) → m < length b.nodes → is_taken b notes (replicate 64 0) t m ≡ false
    free t m l = unfold is_taken ◌and◌ in (rw (get_or-replicate {A = ℕ} 64 m 0 0 (omega arith)))

-- at the first child entry
pub begins : {state bytes : List ℕ} {c : Scope} {notes : List ℕ} → Told READ state bytes c notes → Going (forest state) (asked bytes c) notes (replicate 64 0) 0 0
unfolding named_ids seen pass_fault
begins {state} {bytes} {c} {notes} told =
    let few : length (asked bytes c).nodes ≤ 64 = omega (arith, told.given.scoped.listed, few_listed state bytes c told.given) in
    record {
      here = record { begun = omega arith; within = λ h. omega arith };
      listed = omega arith;
      placed = [];
      claimed = none_done (forest state) (asked bytes c) notes few;
      left = ap (pass_reason (forest state) (asked bytes c) [] []) (rest_all (forest state) (asked bytes c));
      few = few;
      long = length-replicate {A = ℕ} 64 0;
    }

-- past the last node
pub ends : {state bytes : List ℕ} {c : Scope} {notes done : List ℕ} {i j : ℕ} → Told READ state bytes c notes → Going (forest state) (asked bytes c) notes done i j
    → c.listed ≤ i → Explains (forest state) (asked bytes c) (pass_fault (forest state) (asked bytes c)) None
unfolding pass_reason
ends {i = i} {j} told g h = record {
  within = tt;
  is = sym g.left ∙ ap (pass_reason _ _ _ g.placed) (rest_end _ _ i j (omega (arith, told.given.scoped.listed)));
}

module _ {s : Forest} {b : Batch} {notes done : List ℕ} {i j : ℕ} (g : Going s b notes done i j) {r : Step} (m : Moves s b i j r) where
  -- at a child named before
  pub stops_twice : r.twice ≡ true → Explains s b (pass_fault s b) (Some (NamedTwice j))
  unfolding Within
  stops_twice e = record { within = m.entry e; is = sym g.left ∙ m.twice g.placed e }

  module _ (e : r.twice ≡ false) where
    -- what is left after the step
    after_step : pass_reason s b (seen (named_ids b.nodes) r.j) g.placed (placing_if b r.at ++ rest s b r.i r.j) ≡ pass_fault s b
    after_step = sym (m.once g.placed e) ∙ g.left

    -- no node is placed, and it goes on
    pub goes_unplaced : r.at ≡ None → Going s b notes done r.i r.j
    goes_unplaced q = record {
      here = m.there;
      listed = m.listed;
      placed = g.placed;
      claimed = g.claimed;
      left = rw q at after_step;
      few = g.few;
      long = g.long;
    }

  module _ (e : r.twice ≡ false) {p : ℕ} (at : r.at ≡ Some p) {o : Option Cause} (placed : PlacedIs s b notes done p o) where
    after_placed : pass_reason s b (seen (named_ids b.nodes) r.j) g.placed (placing b p ++ rest s b r.i r.j) ≡ pass_fault s b
    after_placed = rw at at after_step e

    -- the node is listed
    node_within : p < length b.nodes
    node_within = rw at at m.at_within

    -- at a node whose placing meets a row
    pub stops : {met : Cause} → o ≡ Some met → Explains s b (pass_fault s b) (Some met)
    stops {met} q = record {
      within = rw q at placed.within;
      is = sym after_placed ∙ placed.meets met q g.placed g.claimed (seen (named_ids b.nodes) r.j) (rest s b r.i r.j);
    }

    -- it goes on after the others
    pub goes : o ≡ None → Going s b notes (set done p 1) r.i r.j
    goes q =
        let on = placed.goes q (omega (arith, node_within, g.few, g.long)) g.placed g.claimed in
        record {
          here = m.there;
          listed = m.listed;
          placed = on.after;
          claimed = on.claimed_after;
          left = sym (on.left (seen (named_ids b.nodes) r.j) (rest s b r.i r.j)) ∙ after_placed;
          few = g.few;
          long = length-set done p 1 ∙ g.long;
        }

-- how far it is
pub going_within : {state bytes : List ℕ} {c : Scope} {notes done : List ℕ} {i j : ℕ} → Told READ state bytes c notes
    → Going (forest state) (asked bytes c) notes done i j → i < c.listed → i + j < 320
going_within {state} {bytes} {c} {i = i} told g h =
    omega (
      arith,
      few_listed state bytes c told.given,
      few_named state bytes c told.given,
      told.given.scoped.named,
      entries_before_within (asked bytes c) (i + 1),
      g.here.within (omega (arith, told.given.scoped.listed)),
    )

-- a node that a step places is listed
pub step_listed : {state bytes : List ℕ} {c : Scope} {notes : List ℕ} → Told READ state bytes c notes → {i j p : ℕ} {r : Step} → Moves (forest state) (asked bytes c) i j r → r.at ≡ Some p → p < c.listed
step_listed told m at = omega (arith, rw at at m.at_within, told.given.scoped.listed)
