-- What the notes say of the node in a slot, and of its parent. Assumes nothing.
use mathlib.Core.Bool.{Bool, true, false, not}
use mathlib.Core.List.{List}
use mathlib.Core.Path.{◌≡◌, refl, sym, ap, ◌∙◌}
use Prim.Native.Nat.{ℕ, ◌+◌, ◌-◌, ◌≤◌, ◌<◌}
use native.Mathlib.Omega.{arith}
use lib.Dec.{ltb}
use lib.ListN.{length, get_or}
use borrow.Author.Tests.{lt-ltb, le-ltb, eq-eqb, ne_eqb, ltb-true}
use Rattle.base.specs.Tests.{◌and◌, is_some, same_option}
use Rattle.base.proofs.Tests.{is_some_if, joined}
use Rattle.ids.specs.Ids.{same_tree, same_id}
use Rattle.ids.specs.declared.FullNodeId.{FullNodeId}
use Rattle.record.specs.Batch.{graft?}
use Rattle.record.specs.Parse.{batch_of}
use Rattle.record_reader.specs.Reader.{listed_at}
use Rattle.state.specs.State.{graft_at, ParentAndIndex, NodeState, Forest, present, link_at}
use Rattle.state_array.specs.declared.LinkRow.{LinkRow}
use Rattle.state_array.specs.View.{id_in, link_in, link_of, slots_of}
use Rattle.update.specs.Words.{here, claim, claimed_from, lets_go}
use Rattle.update.specs.Gone.{goes_if, fate_elsewhere, fate}
use Rattle.calls.specs.Layout.{TURNS, NAMINGS, CLAIMS, ABOVE}
use Rattle.calls.specs.Columns.{Holds}
use Rattle.calls.specs.declared.notes.Scope.{Scope}
use Rattle.calls.specs.Setting.{asked, forest}
use Rattle.calls.specs.Codes.{id_at, slot_at, flag, node_at}
use Rattle.calls.specs.Says.{turn_mark, naming_mark, graft_below, ClaimedFromIs, slot_above, turn_word, naming_word, claim_word, Told, above_word}
use Rattle.calls.proofs.notes.Places.{slot_self, forest_id, forest_link, slot_present, slot_id, find_at}
use Rattle.update_focus.proofs.Numbers.{forest_length}
use Rattle.calls.proofs.notes.Marks.{turn_none}
use Rattle.calls.proofs.notes.Grafts.{graft_slot, claimed_from_is, lets_go_turn}
use Rattle.calls.proofs.notes.Setting.{batched_at}
use Rattle.calls.proofs.notes.Told.{batched}
use Rattle.calls.specs.Fates.{fate_code, fate_by, fate_mark, fate_word, ReplacedIs, FateHereIs, FateUnderIs, ABOVE_TOLD}
use Rattle.calls.proofs.gone.Fates.{same_index_lem, other_index, mine_true, mine_false}
use Rattle.std.specs.Prelude.{Option, None, Some}
use Rattle.state.specs.Sound.{ascending}
use Rattle.state_lookup.specs.Lookup.{in_slot, SlotOf}
use Rattle.state_lookup.proofs.Order.{slot_here, slot_of_place}

-- ## The nodes of a forest

module _ (s : Forest) where
  -- the link of the node in a slot
  pub link_at_lem : ascending s.nodes ≡ true → (i : ℕ) → i < length s.nodes → link_at s.nodes (id_at s i) ≡ (node_at s i).parent_and_index
  unfolding link_at
  link_at_lem up i h = ap (λ (o : Option NodeState). elim o as (λ _. Option ParentAndIndex) [ None ↦ None | Some n ↦ n.parent_and_index ]) (find_at s up i h)

  -- an id that is present stands in its slot
  pub slot_stands : (x : FullNodeId) → present s.nodes x ≡ true → (slot_at s x < length s.nodes) × (id_at s (slot_at s x) ≡ x)
  slot_stands x e = let h = ltb-true (slot_at s x) (length s.nodes) (sym (slot_present s x) ∙ e) in (h, slot_id s x h)

-- ## A row's link

module _ (l : LinkRow) where
  -- a row without a link
  pub no_link : l.linked ≡ 0 → link_of l ≡ None
  unfolding link_of
  no_link e = rw (eq-eqb l.linked 0 e)

  -- a row with one
  pub a_link : (l.linked ≡ 0 → ⊥) → link_of l ≡ Some (record { parent = l.parent; index = l.index })
  unfolding link_of
  a_link h = rw (ne_eqb l.linked 0 h)

-- ## The slot of a row's parent

module _ (state : List ℕ) (l : LinkRow) where
  -- there is none
  pub slot_top : {n : ℕ} → n ≡ slots_of state → l.linked ≡ 0 → n ≡ slot_above state (link_of l)
  unfolding slot_above
  slot_top count e = count ∙ rw (no_link l e)

  module _ (up : ascending (forest state).nodes ≡ true) {r : ℕ} (linked : l.linked ≡ 0 → ⊥) where
    -- a search finds it
    pub slot_under : SlotOf state l.parent r → r ≡ slot_above state (link_of l)
    unfolding slot_above
    slot_under found = rw (a_link l linked) (slot_of_place state l.parent r up found)

    -- it stands in a slot
    pub slot_near : {n : ℕ} {y : FullNodeId} {v : Bool} → n ≡ slots_of state → r < n → y ≡ id_in state r → v ≡ same_id l.parent y → v ≡ true
        → r ≡ slot_above state (link_of l)
    unfolding in_slot
    slot_near count h id same e =
        slot_under (slot_here {id = id_in state} refl refl (joined (lt-ltb r (slots_of state) (omega arith)) (ap (same_id l.parent) (sym id) ∙ sym same ∙ e)))

-- the word of the column
pub above_is : (state bytes : List ℕ) (c : Scope) (i : ℕ) → i < slots_of state → slot_above state (link_of (link_in state i)) ≡ above_word state bytes c i
unfolding above_word
above_is state bytes c i h = ap (slot_above state) (sym (forest_link state i h))

-- the turn of the node in a slot
pub turn_at : {state bytes : List ℕ} {c : Scope} {notes : List ℕ} → Told ABOVE_TOLD state bytes c notes → (i : ℕ) → i < slots_of state
    → get_or notes (TURNS + i) 0 ≡ turn_mark (forest state) (asked bytes c) (id_at (forest state) i)
unfolding turn_word
turn_at told i h = told.written 5 (omega arith) i h

module _ {state bytes : List ℕ} {c : Scope} {notes : List ℕ} (told : Told ABOVE_TOLD state bytes c notes) {i : ℕ} (h : i < slots_of state) where
  within : i < length (forest state).nodes
  within = omega (arith, forest_length state)

  -- ## The node

  -- its marks
  turn_is : get_or notes (TURNS + i) 0 ≡ turn_mark (forest state) (asked bytes c) (id_in state i)
  turn_is = turn_at told i h ∙ ap (turn_mark (forest state) (asked bytes c)) (forest_id state i h)

  naming_is : get_or notes (NAMINGS + i) 0 ≡ naming_mark (forest state) (asked bytes c) (id_in state i)
  unfolding naming_word
  naming_is = told.written 6 (omega arith) i h ∙ ap (naming_mark (forest state) (asked bytes c)) (forest_id state i h)

  -- ## Its parent

  module _ (linked : (link_in state i).linked ≡ 0 → ⊥) where
    -- the word of its slot
    parent_word : get_or notes (ABOVE + i) 0 ≡ slot_at (forest state) (link_in state i).parent
    unfolding slot_above
    parent_word = told.written 8 (omega arith) i h ∙ sym (above_is state bytes c i h) ∙ ap (slot_above state) (a_link (link_in state i) linked)

    -- it stands there
    stands : (slot_at (forest state) (link_in state i).parent < length (forest state).nodes)
        × (id_at (forest state) (slot_at (forest state) (link_in state i).parent) ≡ (link_in state i).parent)
    stands =
        slot_stands (forest state) (link_in state i).parent
        (told.given.kept.parent_present (id_at (forest state) i) _
        (link_at_lem (forest state) told.given.kept.ascending i within ∙ forest_link state i h ∙ a_link (link_in state i) linked))

    pub parent_there : get_or notes (ABOVE + i) 0 < slots_of state
    parent_there = omega (arith, parent_word, stands.0, forest_length state)

    pub parent_id : id_at (forest state) (get_or notes (ABOVE + i) 0) ≡ (link_in state i).parent
    parent_id = rw parent_word stands.1

  -- ## The node as a graft

  graft_is : graft_at (forest state).nodes (id_at (forest state) i) ≡ graft_below state i
  graft_is = graft_slot state (id_at (forest state) i) ∙ ap (graft_below state) (slot_self (forest state) told.given.kept.ascending i within)

  claims_are : Holds notes CLAIMS c.listed (λ j. flag (is_some (claim (forest state) (asked bytes c) (listed_at (asked bytes c) j))))
  unfolding claim_word
  claims_are j l = told.written 7 (omega arith) j l

  -- whether the tree that it grafted is claimed
  claimed_is : {r : ℕ} → ClaimedFromIs (batch_of bytes) notes c.listed (graft_below state i) r
      → is_some (claimed_from (forest state) (asked bytes c) (id_at (forest state) i)) ≡ ltb r c.listed
  claimed_is {r} e =
      ap (λ o. is_some o)
      (claimed_from_is (forest state) (asked bytes c) bytes (batched state bytes c told.given) notes c.listed told.given.scoped.listed claims_are
      (id_at (forest state) i) r (rw graft_is e))
      ∙ is_some_if (ltb r c.listed) (here (forest state) (asked bytes c) (listed_at (asked bytes c) r).id)

  -- ## The fate of a root of another tree under it

  module _ {r : ℕ} (claimed : ClaimedFromIs (batch_of bytes) notes c.listed (graft_below state i) r) where
    -- the tree is claimed
    pub under_claimed : r < c.listed → FateUnderIs state bytes c i 0
    unfolding fate_elsewhere fate_code
    under_claimed l x apart = rw (other_index _ x.tree apart, claimed_is claimed ∙ lt-ltb r c.listed l)

    module _ (free : c.listed ≤ r) where
      -- under a graft that is not listed
      pub under_unlisted : get_or notes (TURNS + i) 0 < 1 → FateUnderIs state bytes c i 2
      unfolding fate_elsewhere fate_code lets_go ◌and◌
      under_unlisted l x apart =
          rw (other_index _ x.tree apart, claimed_is claimed ∙ le-ltb r c.listed free, turn_none (forest state) (asked bytes c) (id_at (forest state) i) (omega (arith, turn_at told i h)))

      module _ (listed : 1 ≤ get_or notes (TURNS + i) 0) {v : Bool}
          (held : v ≡ same_option same_tree (graft? (listed_at (batch_of bytes) (get_or notes (TURNS + i) 0 - 1)).body) (graft_below state i)) where
        -- one that is listed lets go of its tree, or not
        lets_go_lem : lets_go (forest state) (asked bytes c) (id_at (forest state) i) ≡ not v
        lets_go_lem =
            let j = get_or notes (TURNS + i) 0 - 1 in
            let same = rw (batched_at bytes (asked bytes c) (batched state bytes c told.given) j, ← graft_is) at held in
            lets_go_turn (forest state) (asked bytes c) (id_at (forest state) i) j (omega (arith, turn_at told i h)) ∙ ap not (sym same)

        pub under_held : v ≡ true → FateUnderIs state bytes c i 2
        unfolding fate_elsewhere fate_code
        under_held e x apart = rw (other_index _ x.tree apart, claimed_is claimed ∙ le-ltb r c.listed free, lets_go_lem, e)

        pub under_let_go : v ≡ false → FateUnderIs state bytes c i 1
        unfolding fate_elsewhere fate_code
        under_let_go e x apart = rw (other_index _ x.tree apart, claimed_is claimed ∙ le-ltb r c.listed free, lets_go_lem, e)

  -- ## Its fate, by its link

  fate_is : {r : ℕ} → r ≡ fate_code (fate_by (forest state) (asked bytes c) (id_in state i) (link_of (link_in state i))) → r ≡ fate_word state bytes c i
  unfolding fate_word fate_mark
  fate_is e = e ∙ rw (link_at_lem (forest state) told.given.kept.ascending i within, forest_id state i h, forest_link state i h)

  -- as the code finds its id and its link
  module _ {x : FullNodeId} (id : x ≡ id_in state i) {l : LinkRow} (link : l ≡ link_in state i) where
    -- a node without a parent
    pub fate_top : {t : Bool} {r : ℕ} → l.linked ≡ 0 → ReplacedIs c x (get_or notes (TURNS + i) 0) (get_or notes (NAMINGS + i) 0) t → r ≡ fate_code (goes_if t)
        → r ≡ fate_word state bytes c i
    unfolding fate_by
    fate_top top goes e =
        fate_is (e ∙ ap (λ (t : Bool). fate_code (goes_if t)) ((rw id at goes) (forest state) (asked bytes c) told.given.scoped turn_is naming_is)
        ∙ rw (no_link (link_in state i) (rw link at top)))

    module _ (linked : l.linked ≡ 0 → ⊥) where
      parented : (link_in state i).linked ≡ 0 → ⊥
      parented = rw link at linked

      pub parent_within : get_or notes (ABOVE + i) 0 < slots_of state
      parent_within = parent_there parented

      -- in the batch's tree
      pub fate_mine : {r : ℕ} → x.tree.0 ≡ c.tree.0
          → FateHereIs c x l.parent (get_or notes (TURNS + i) 0) (get_or notes (NAMINGS + i) 0) (get_or notes (TURNS + get_or notes (ABOVE + i) 0) 0) r
          → r ≡ fate_word state bytes c i
      unfolding fate_by fate
      fate_mine e f =
          let under : get_or notes (TURNS + get_or notes (ABOVE + i) 0) 0 ≡ turn_mark (forest state) (asked bytes c) (link_in state i).parent =
          turn_at told (get_or notes (ABOVE + i) 0) parent_within ∙ ap (turn_mark (forest state) (asked bytes c)) (parent_id parented) in
          fate_is ((rw (id, link) at f) (forest state) (asked bytes c) told.given.scoped turn_is naming_is under
          ∙ rw (a_link (link_in state i) parented, mine_true (forest state) (asked bytes c) c told.given.scoped (id_in state i) (rw id at e)))

      -- in another, below its root or at it
      module _ (other : x.tree.0 ≡ c.tree.0 → ⊥) where
        fate_other : {r : ℕ} → r ≡ fate_code (fate_elsewhere (forest state) (asked bytes c) (id_in state i) (link_in state i).parent) → r ≡ fate_word state bytes c i
        unfolding fate_by fate
        fate_other e =
            fate_is (e ∙ rw (a_link (link_in state i) parented, mine_false (forest state) (asked bytes c) c told.given.scoped (id_in state i) (rw id at other)))

        pub fate_below : l.parent.tree.0 ≡ x.tree.0 → 2 ≡ fate_word state bytes c i
        unfolding fate_elsewhere fate_code
        fate_below e = fate_other (rw (same_index_lem _ (id_in state i).tree (rw (id, link) at e)))

        pub fate_root : {r : ℕ} → (l.parent.tree.0 ≡ x.tree.0 → ⊥) → FateUnderIs state bytes c (get_or notes (ABOVE + i) 0) r → r ≡ fate_word state bytes c i
        fate_root apart f = fate_other ((rw (parent_id parented) at f) (id_in state i) (rw (id, link) at apart))
