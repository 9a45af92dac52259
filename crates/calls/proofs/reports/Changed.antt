-- Laws of the outcome that stands in `next`, and of what changed of a node: its link, its data, its mark. Assumes nothing.
use mathlib.Core.Bool.{Bool, true, false, not, ◌||◌}
use mathlib.Core.List.{List, [], ◌∷◌}
use mathlib.Core.Path.{◌≡◌, refl, sym, ap, ap₂, ◌∙◌}
use Prim.Native.Nat.{ℕ, zero, suc, ◌+◌, ◌-◌, ◌*◌, ◌≤◌, ◌<◌}
use native.Mathlib.Omega.{arith}
use lib.Dec.{eqb, ltb}
use lib.ListN.{length, get_or}
use borrow.Author.Tests.{lt-ltb, ltb-true, ltb-false, eq-eqb, ne_eqb}
use Rattle.std.specs.Prelude.{if◌then◌else◌, Option, None, Some}
use Rattle.base.specs.Tests.{◌and◌, is_some, all, same_option, distinct}
use Rattle.base.proofs.Tests.{both, bit_is}
use Rattle.ids.specs.Ids.{same_node, same_id}
use Rattle.ids.specs.declared.FullNodeId.{FullNodeId}
use Rattle.record.specs.Batch.{NodeData, fields_ok, same_data, Batch, listed_ids}
use Rattle.record_reader.specs.Reader.{listed_at}
use Rattle.state.specs.State.{same_link, NodeState, Forest, find, parent_of}
use Rattle.state_array.specs.Layout.{SLOTS}
use Rattle.state_array.specs.Stored.{no_state}
use Rattle.state_array.specs.View.{slots_of, id_in, link_in, link_of}
use Rattle.state_array.specs.declared.LinkRow.{LinkRow}
use Rattle.update.specs.Words.{old, listed, turn}
use Rattle.update.specs.Gone.{gone}
use Rattle.update.specs.Outcome.{pane_root, link_after, outcome}
use Rattle.update.specs.Reports.{is_updated, is_relinked}
use Rattle.update.proofs.Outcome.{node_after, find_old_outcome, ascending_outcome}
use Rattle.update.proofs.Reports.{data_changed, link_changed, updated_is, relinked_is}
use Rattle.calls.specs.declared.notes.Scope.{Scope}
use Rattle.calls.specs.Layout.{TURNS, DIFFERS, CODES}
use Rattle.calls.specs.Noted.{differ_noted}
use Rattle.calls.proofs.notes.Told.{few_listed}
use Rattle.base.proofs.Cases.{by_test, by_order}
use Rattle.calls.specs.Setting.{asked, forest, KeptForest}
use Rattle.calls.specs.Codes.{node_at, id_at, slot_at, flag, differs, code_of, change_of}
use Rattle.calls.specs.Says.{turn_mark, turn_word, differ_word, code_word, changed_word, outcome_count, Told, PLANNED}
use Rattle.calls.proofs.notes.Places.{slot_old, slot_id, find_at, forest_id, forest_link}
use Rattle.update_focus.proofs.Numbers.{forest_length}
use Rattle.calls.proofs.notes.Marks.{turn_listed, turn_none, turn_within, turn_here, turn_listing}
use Rattle.calls.specs.Outcomes.{Outcomes, PaneRootIs}
use Rattle.state.specs.Sound.{ascending}

module _ {k : ℕ} {state bytes : List ℕ} {c : Scope} {notes next : List ℕ} (given : Outcomes k state bytes c notes next) where
  -- they are the outcome's
  pub shows : forest next ≡ outcome (forest state) (asked bytes c)
  shows = ap (λ a. a.forest) given.next_is

  -- as many as slots
  pub counted : slots_of next ≡ outcome_count state bytes c
  counted = sym (forest_length next) ∙ ap (λ (f : Forest). length f.nodes) shows

  -- in order, as before
  pub ascending_next : ascending (forest next).nodes ≡ true
  ascending_next = rw shows (ascending_outcome (forest state) (asked bytes c) given.told.given.kept.ascending)

module _ (was next : LinkRow) where
  -- a link to no parent does not count as a change
  pub unlinked_unchanged : next.linked ≡ 0 → false ≡ (is_some (link_of next) and not (same_option same_link (link_of was) (link_of next)))
  unfolding link_of ◌and◌
  unlinked_unchanged e = rw (eq-eqb next.linked 0 e)

  -- any other does where the place or the parent differs
  pub link_changed_is : {v : Bool} → (next.linked ≡ 0 → ⊥) → v ≡ same_id was.parent next.parent
      → ((eqb was.linked 0 || not (eqb was.index next.index)) || not v)
      ≡ (is_some (link_of next) and not (same_option same_link (link_of was) (link_of next)))
  unfolding link_of same_link ◌and◌
  link_changed_is h same = rw (ne_eqb next.linked 0 h, same) (go (eqb was.linked 0))
    where
      on : (i p : Bool) → (not i || not p) ≡ not (p and i)
      on true true = refl
      on true false = refl
      on false true = refl
      on false false = refl

      go : (c : Bool) → ((c || not (eqb was.index next.index)) || not (same_id was.parent next.parent))
          ≡ not (same_option same_link (if c then None else Some (record { parent = was.parent; index = was.index })) (Some (record { parent = next.parent; index = next.index })))
      go true = refl
      go false = on (eqb was.index next.index) (same_id was.parent next.parent)

  -- from a parent to none
  pub parent_lost : next.linked ≡ 0 → not (eqb was.linked 0) ≡ not (same_option same_id (parent_of (link_of was)) (parent_of (link_of next)))
  unfolding link_of parent_of
  parent_lost e = rw (eq-eqb next.linked 0 e) (go (eqb was.linked 0))
    where
      go : (c : Bool) → not c ≡ not (same_option same_id (parent_of (if c then None else Some (record { parent = was.parent; index = was.index }))) None)
      go true = refl
      go false = refl

  -- to a parent
  pub parent_changed_is : {v : Bool} → (next.linked ≡ 0 → ⊥) → v ≡ same_id was.parent next.parent
      → (eqb was.linked 0 || not v) ≡ not (same_option same_id (parent_of (link_of was)) (parent_of (link_of next)))
  unfolding link_of parent_of
  parent_changed_is h same = rw (ne_eqb next.linked 0 h, same) (go (eqb was.linked 0))
    where
      go : (c : Bool) → (c || not (same_id was.parent next.parent))
          ≡ not (same_option same_id (parent_of (if c then None else Some (record { parent = was.parent; index = was.index }))) (Some next.parent))
      go true = refl
      go false = refl

-- ## Data

module _ (s : Forest) (b : Batch) (kept : KeptForest s) (i : ℕ) (within : i < length s.nodes) where
  -- a node that is not listed keeps its data
  data_none : turn_mark s b (id_at s i) ≡ 0 → data_changed s b (node_at s i) ≡ false
  unfolding data_changed ◌and◌
  data_none e = rw (turn_none s b (id_at s i) e)

  -- one that is listed has other data where the node listed at its turn differs
  data_at : (k : ℕ) → turn_mark s b (id_at s i) ≡ suc k → differs s b (listed_at b k) ≡ data_changed s b (node_at s i)
  unfolding differs data_changed ◌and◌
  data_at k e =
      let now : listed s b (id_at s i) ≡ true = turn_listed s b (id_at s i) ∙ rw (e, lt-ltb 0 (suc k) (omega arith)) in
      ap (λ (o : Option NodeState). elim o as (λ _. Bool) [ None ↦ false | Some n ↦ not (same_data n.body (listed_at b k).body) ])
      (ap (λ x. find x s.nodes) (turn_here s b (id_at s i) k e) ∙ find_at s kept.ascending i within)
      ∙ sym (ap₂ (λ (c : Bool) (o : Option NodeData). c and elim o as (λ _. Bool) [ None ↦ false | Some d ↦ not (same_data (node_at s i).body d) ])
      now (turn_listing s b (id_at s i) k e))

  -- its fields are in order
  fields : fields_ok (node_at s i).body ≡ true
  fields = at s.nodes kept.fields i within
    where
      at : (ns : List NodeState) → all (λ n. fields_ok n.body) ns ≡ true → (j : ℕ) → j < length ns → fields_ok (get_or ns j no_state).body ≡ true
      at [] e j l = absurd (omega arith)
      at (n ∷ ns) e zero l = (both e).0
      at (n ∷ ns) e (suc j) l = at ns (both e).1 j (omega arith)

module _ {state bytes : List ℕ} {c : Scope} {notes : List ℕ} (told : Told PLANNED state bytes c notes) {i : ℕ} (h : i < slots_of state) where
  within : i < length (forest state).nodes
  within = omega (arith, forest_length state)

  turn_word_lem : get_or notes (TURNS + i) 0 ≡ turn_mark (forest state) (asked bytes c) (id_at (forest state) i)
  unfolding turn_word
  turn_word_lem = told.written 5 (omega arith) i h

  -- a node without a turn
  data_unlisted : get_or notes (TURNS + i) 0 < 1 → false ≡ data_changed (forest state) (asked bytes c) (node_at (forest state) i)
  data_unlisted e = sym (data_none (forest state) (asked bytes c) told.given.kept i within (omega (arith, turn_word_lem)))

  module _ (e : 1 ≤ get_or notes (TURNS + i) 0) where
    turn_is : turn_mark (forest state) (asked bytes c) (id_at (forest state) i) ≡ suc (get_or notes (TURNS + i) 0 - 1)
    turn_is = omega (arith, turn_word_lem)

    -- the turn of a node that is listed
    turn_below : get_or notes (TURNS + i) 0 - 1 < c.listed
    turn_below = omega (arith, turn_within (forest state) (asked bytes c) (id_at (forest state) i) _ turn_is, told.given.scoped.listed)

    data_listed : eqb (get_or notes (DIFFERS + (get_or notes (TURNS + i) 0 - 1)) 0) 1 ≡ data_changed (forest state) (asked bytes c) (node_at (forest state) i)
    unfolding differ_word
    data_listed =
        ap (λ (m : ℕ). eqb m 1) (told.written 10 (omega arith) (get_or notes (TURNS + i) 0 - 1) turn_below)
        ∙ bit_is (differs (forest state) (asked bytes c) (listed_at (asked bytes c) (get_or notes (TURNS + i) 0 - 1)))
        ∙ data_at (forest state) (asked bytes c) told.given.kept i within (get_or notes (TURNS + i) 0 - 1) turn_is

  -- by the notes
  data_noted : differ_noted notes i ≡ data_changed (forest state) (asked bytes c) (node_at (forest state) i)
  unfolding differ_noted
  data_noted =
      by_test (ltb (get_or notes (TURNS + i) 0) 1) (λ t. rw t (data_unlisted (ltb-true _ 1 t))) (λ t. rw t (data_listed (ltb-false _ 1 t)))

  -- the turn is low
  turn_low : get_or notes (TURNS + i) 0 ≤ 64
  turn_low = by_order (get_or notes (TURNS + i) 0) 1 (λ l. omega arith) (λ l. omega (arith, turn_below l, few_listed state bytes c told.given))

-- ## Codes

module _ (s : Forest) (b : Batch) (few : length s.nodes ≤ 256) (x : FullNodeId) where
  -- a code from 320 on is that of a new node
  code_new : SLOTS ≤ code_of s b x → old s b x ≡ false
  unfolding code_of
  code_new = go (old s b x) (slot_old s x b)
    where
      go : (o : Bool) → o ≡ ltb (slot_at s x) (length s.nodes) → 320 ≤ (if o then slot_at s x else 320 + turn s b x) → o ≡ false
      go true e h = absurd (omega (arith, ltb-true (slot_at s x) (length s.nodes) (sym e)))
      go false e h = refl

  -- any other is the slot of an old one
  code_old : code_of s b x < SLOTS → (old s b x ≡ true) × (slot_at s x ≡ code_of s b x)
  unfolding code_of
  code_old = go (old s b x)
    where
      go : (o : Bool) → (if o then slot_at s x else 320 + turn s b x) < 320 → (o ≡ true) × (slot_at s x ≡ (if o then slot_at s x else 320 + turn s b x))
      go true h = (refl, refl)
      go false h = absurd (omega arith)

-- ## An old node that stays

module _ (s : Forest) (b : Batch) (kept : KeptForest s) (once : distinct same_node (listed_ids b.nodes) ≡ true) (r : ℕ) (h : r < length (outcome s b).nodes)
    (here : slot_at s (id_at (outcome s b) r) < length s.nodes) where
  -- its node before and after
  abbrev old_node : NodeState
  old_node = node_at s (slot_at s (id_at (outcome s b) r))

  abbrev after : NodeState
  after = node_at (outcome s b) r

  found : find old_node.id s.nodes ≡ Some old_node
  found = find_at s kept.ascending (slot_at s after.id) here

  -- it stays, with the link that stands in the outcome
  stays : (gone s b old_node.id ≡ false) × (link_after s b old_node.id old_node.parent_and_index ≡ after.parent_and_index)
  unfolding node_after
  stays =
      go (gone s b old_node.id)
      (sym (find_old_outcome s b kept.ascending once old_node found)
      ∙ ap (λ x. find x (outcome s b).nodes) (slot_id s after.id here)
      ∙ find_at (outcome s b) (ascending_outcome s b kept.ascending) r h)
    where
      go : (g : Bool) → (if g then None else Some (node_after s b old_node)) ≡ Some after
          → (g ≡ false) × (link_after s b old_node.id old_node.parent_and_index ≡ after.parent_and_index)
      go true e = let z : ◌≡◌ {A = ℕ} 0 1 = cc in absurd (omega arith)
      go false e = let same : node_after s b old_node ≡ after = cc in (refl, ap (λ n. n.parent_and_index) same)

  -- so it is updated or relinked by these
  updated_by : is_updated s (outcome s b) (pane_root s b) old_node
      ≡ (data_changed s b old_node
      || (is_some after.parent_and_index and not (same_option same_link old_node.parent_and_index after.parent_and_index))
      || pane_root s b after.id)
  unfolding link_changed ◌and◌
  updated_by =
      updated_is s b kept.ascending once old_node found (fields s b kept (slot_at s after.id) here) (pane_root s b)
      ∙ rw (stays.0, stays.1, slot_id s after.id here)

  relinked_by : is_relinked s (outcome s b) after.id ≡ not (same_option same_id (parent_of old_node.parent_and_index) (parent_of after.parent_and_index))
  unfolding ◌and◌
  relinked_by = rw (stays.0, stays.1, slot_id s after.id here) at (relinked_is s b kept.ascending once old_node found)

-- ## The word of a node

module _ {state bytes : List ℕ} {c : Scope} {notes next : List ℕ} (given : Outcomes PLANNED state bytes c notes next) {r : ℕ} (h : r < slots_of next) where
  abbrev s : Forest
  s = forest state

  abbrev b : Batch
  b = asked bytes c

  below : r < outcome_count state bytes c
  below = omega (arith, counted given)

  code_is : get_or notes (CODES + r) 0 ≡ code_of s b (id_at (outcome s b) r)
  unfolding code_word
  code_is = given.told.written 12 (omega arith) r below

  -- a new node
  pub changed_new : SLOTS ≤ get_or notes (CODES + r) 0 → 1 ≡ changed_word state bytes c r
  unfolding changed_word change_of
  changed_new e = rw (code_new s b given.told.given.kept.few_nodes (id_at (outcome s b) r) (rw (← code_is) e))

  module _ (e : get_or notes (CODES + r) 0 < SLOTS) where
    is_old : (old s b (id_at (outcome s b) r) ≡ true) × (slot_at s (id_at (outcome s b) r) ≡ get_or notes (CODES + r) 0)
    is_old = rw code_is (code_old s b given.told.given.kept.few_nodes (id_at (outcome s b) r) (rw (← code_is) e))

    here : slot_at s (id_at (outcome s b) r) < length s.nodes
    here = ltb-true (slot_at s (id_at (outcome s b) r)) (length s.nodes) (sym (slot_old s (id_at (outcome s b) r) b) ∙ is_old.0)

    -- its slot
    pub slot_below : get_or notes (CODES + r) 0 < slots_of state
    slot_below = omega (arith, is_old.1, here, forest_length state)

    -- and its turn
    pub turn_few : get_or notes (TURNS + get_or notes (CODES + r) 0) 0 ≤ 64
    turn_few = turn_low given.told slot_below

    -- an old one
    pub changed_old : (before after : LinkRow) {v : ℕ} {other link pane parent : Bool} {x : FullNodeId} → v ≡ 2 * flag (other || link || pane) + 4 * flag parent
        → other ≡ differ_noted notes (get_or notes (CODES + r) 0)
        → link ≡ (is_some (link_of after) and not (same_option same_link (link_of before) (link_of after)))
        → x ≡ id_in next r → PaneRootIs c x pane
        → parent ≡ not (same_option same_id (parent_of (link_of before)) (parent_of (link_of after)))
        → before ≡ link_in state (get_or notes (CODES + r) 0) → after ≡ link_in next r → v ≡ changed_word state bytes c r
    unfolding changed_word change_of
    changed_old before after says d l id pane_is m before_is after_is =
        let p = (rw id at pane_is) s b given.told.given.scoped in
        let once = given.told.given.once in
        let kept = given.told.given.kept in
        let old-link : link_of before ≡ (node_at s (slot_at s (id_at (outcome s b) r))).parent_and_index =
        ap link_of before_is ∙ sym (forest_link state (get_or notes (CODES + r) 0) slot_below) ∙ ap (λ i. (node_at s i).parent_and_index) (sym is_old.1) in
        let new-link : link_of after ≡ (node_at (outcome s b) r).parent_and_index =
        ap link_of after_is ∙ sym (forest_link next r h) ∙ ap (λ (f : Forest). (node_at f r).parent_and_index) (shows given) in
        let id_is : id_in next r ≡ id_at (outcome s b) r = sym (forest_id next r h) ∙ ap (λ (f : Forest). id_at f r) (shows given) in
        says
        ∙ rw (d, data_noted given.told slot_below, l, p, m, old-link, new-link, id_is, ← is_old.1, is_old.0)
        (ap₂ (λ (t u : Bool). 2 * flag t + 4 * flag u) (sym (updated_by s b kept once r below here)) (sym (relinked_by s b kept once r below here)))
