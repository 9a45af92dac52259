-- Laws of 12's second part: the first tree that two nodes graft, one node at a time, and which of them claims it. Assumes nothing.
use mathlib.Core.Bool.{Bool, true, false}
use mathlib.Core.List.{List, [], ◌∷◌}
use mathlib.Core.Path.{◌≡◌, refl, sym, ap, ap₂, ◌∙◌}
use Prim.Native.Nat.{ℕ, suc, ◌+◌, ◌≤◌, ◌<◌}
use native.Mathlib.Numerals.{add-one}
use native.Mathlib.Omega.{arith}
use lib.Dec.{eqb, ltb}
use lib.ListN.{length, get_or, drop, drop_of_length-le}
use lib.Seq.{drop-cons}
use borrow.Author.Tests.{lt-ltb, le-ltb}
use Rattle.std.specs.Prelude.{if◌then◌else◌, Option, None, Some}
use Rattle.base.specs.Tests.{◌and◌, is_some, same_option, first_given, has}
use Rattle.base.specs.Bytes.{bit}
use Rattle.base.proofs.Tests.{bit_is}
use Rattle.ids.specs.Ids.{same_tree, same_node}
use Rattle.ids.specs.declared.TreeId.{TreeId}
use Rattle.ids.specs.declared.NodeId.{NodeId}
use Rattle.ids.specs.declared.FullNodeId.{FullNodeId}
use Rattle.record.specs.Batch.{NodeData, graft?, Batch, listed_ids}
use Rattle.record.proofs.Batch.{listed_length}
use Rattle.reasons.specs.Reasons.{accepted, claimed_from_holder}
use Rattle.reasons.specs.Shape.{graft_twice_from}
use Rattle.reasons_calls.specs.Outcome.{claims, clash_reason}
use Rattle.reasons_why.specs.declared.Why.{Why}
use Rattle.reasons_why.specs.Why.{why_of, why_for}
use Rattle.reasons_why.proofs.Found.{found_none, found_some}
use Rattle.record_reader.specs.Reader.{listed_at}
use Rattle.state.specs.State.{NodeState, Forest, holder}
use Rattle.state_array.specs.declared.ShapeRow.{ShapeRow}
use Rattle.state_array.specs.Stored.{no_state}
use Rattle.state_array.specs.View.{id_in, shape_in, graft_in, body_in, node_in, slots_of, view}
use Rattle.update.specs.Words.{here, listing, listed, turn, claim}
use Rattle.calls.proofs.gone.Fates.{mine_true, mine_false}
use Rattle.calls.specs.declared.notes.Scope.{Scope}
use Rattle.calls.specs.Layout.{LISTED, CLAIMS}
use Rattle.calls.specs.Setting.{asked, forest}
use Rattle.calls.specs.Says.{PositionIn, listed_word, claim_word, Told, PLANNED, turn_mark}
use Rattle.calls.proofs.notes.Positions.{first_unique, has_position}
use Rattle.calls.proofs.notes.Places.{forest_node}
use Rattle.update_focus.proofs.Numbers.{forest_length}
use Rattle.calls.proofs.notes.Marks.{turn_first, turn_listing, turn_here}
use Rattle.calls.proofs.notes.Grafts.{graft_test}
use Rattle.calls.proofs.pass.Read.{searched}
use Rattle.calls.specs.declared.why_outcome.grafts.Regraft as declared
use Rattle.calls.specs.Regrafts.{regraft_of, regrafter}

-- ## One node more

-- whether it grafts t
holder_step : (n : NodeState) (ms : List NodeState) (t : TreeId) (b : Bool) → same_option same_tree (graft? n.body) (Some t) ≡ b
    → holder (n ∷ ms) t ≡ (if b then Some n.id else holder ms t)
unfolding holder
holder_step n ms t true e = rw (e, first_given)
holder_step n ms t false e = rw (e, first_given)

-- a node after it grafts its tree too, or none does
module _ (k : ℕ) (n : NodeState) (ms : List NodeState) where
  twice_plain : graft? n.body ≡ None → graft_twice_from k (n ∷ ms) ≡ graft_twice_from (suc k) ms
  unfolding graft_twice_from
  twice_plain e = rw (e, graft_twice_from)

  twice_once : (t : TreeId) → graft? n.body ≡ Some t → holder ms t ≡ None → graft_twice_from k (n ∷ ms) ≡ graft_twice_from (suc k) ms
  unfolding graft_twice_from
  twice_once t e q = rw (e, graft_twice_from, q)

  twice_here : (t : TreeId) (y : FullNodeId) → graft? n.body ≡ Some t → holder ms t ≡ Some y
      → graft_twice_from k (n ∷ ms) ≡ Some (record { tree = t; node = record { slot = k; id = n.id }; other = y })
  unfolding graft_twice_from
  twice_here t y e q = rw (e, graft_twice_from, q)

-- ## The nodes from a slot on

module _ (s : List ℕ) where
  abbrev ns : List NodeState
  ns = (view s).forest.nodes

  -- the node in slot i, and those after it
  nodes_from : (i : ℕ) → i < slots_of s → drop i ns ≡ node_in s i ∷ drop (i + 1) ns
  nodes_from i h =
      drop-cons ns i no_state (omega (arith, forest_length s)) ∙ rw (forest_node s i h, ← add-one i)

  -- none is left
  nodes_over : (i : ℕ) → slots_of s ≤ i → drop i ns ≡ []
  nodes_over i h = let past : length ns ≤ i = omega (arith, forest_length s) in drop_of_length-le ns past

  -- what the node in slot i grafts, by its row
  graft_is : (i : ℕ) {d : ShapeRow} {g : Bool} → d ≡ shape_in s i → g ≡ bit 8 d.flags → graft? (node_in s i).body ≡ (if g then Some d.graft else None)
  unfolding node_in body_in graft?
  graft_is i is test = rw (← is, ← test)

  -- the node after it that grafts the same
  regrafter_at : (i : ℕ) → i < slots_of s
      → regrafter ns i ≡ (elim (graft? (node_in s i).body) as (λ _. Option FullNodeId) [ None ↦ None | Some t ↦ holder (drop (i + 1) ns) t ])
  unfolding regrafter
  regrafter_at i h =
      ap (λ (n : NodeState). elim (graft? n.body) as (λ _. Option FullNodeId) [ None ↦ None | Some t ↦ holder (drop (i + 1) ns) t ]) (forest_node s i h)

  -- ## The next node that grafts a tree

  module _ (t : TreeId) where
    -- the first node from slot `from` on that grafts t is the first from slot j on
    pub record Seeking (from n j : ℕ) : Type 0 where
      pub count : n ≡ slots_of s
      pub same : holder (drop from ns) t ≡ holder (drop j ns) t

    pub seeking_starts : {from n : ℕ} → n ≡ slots_of s → Seeking from n from
    seeking_starts e = record { count = e; same = refl }

    module _ {from n j : ℕ} (h : Seeking from n j) where
      pub seeking_ends : n ≤ j → None ≡ holder (drop from ns) t
      unfolding holder
      seeking_ends l = sym (rw (h.same, nodes_over j (omega (arith, h.count))))

      module _ (l : j < n) {d : ShapeRow} {g z : Bool} (is : d ≡ shape_in s j) (test : g ≡ bit 8 d.flags) (tree : z ≡ same_tree d.graft t) where
        step : {b : Bool} → g and z ≡ b → holder (drop j ns) t ≡ (if b then Some (id_in s j) else holder (drop (j + 1) ns) t)
        unfolding node_in body_in graft? graft_in
        step {b} e =
            ap (λ ms. holder ms t) (nodes_from j (omega (arith, h.count))) ∙ holder_step (node_in s j) (drop (j + 1) ns) t b (graft_test s j t is test tree e)

        pub seeking_hits : {x : FullNodeId} → g and z ≡ true → x ≡ id_in s j → Some x ≡ holder (drop from ns) t
        seeking_hits e id = sym ((h.same ∙ step e ∙ ap Some (sym id)))

        pub seeking_goes : g and z ≡ false → Seeking from n (j + 1)
        seeking_goes e = record { count = h.count; same = h.same ∙ step e }

  -- ## The node that grafts what the node in slot i grafts

  module _ {i : ℕ} (h : i < slots_of s) {d : ShapeRow} {g : Bool} (is : d ≡ shape_in s i) (test : g ≡ bit 8 d.flags) where
    regrafter_is : regrafter ns i ≡ (elim (if g then Some d.graft else None) as (λ _. Option FullNodeId) [ None ↦ None | Some t ↦ holder (drop (i + 1) ns) t ])
    regrafter_is = regrafter_at i h ∙ rw (graft_is i is test)

    pub other_none : g ≡ false → None ≡ regrafter ns i
    other_none e = let plain : g ≡ false = e in sym (rw (regrafter_is, plain))

    pub other_some : {r : Option FullNodeId} → g ≡ true → r ≡ (holder (drop (i + 1) ns) d.graft) → r ≡ regrafter ns i
    other_some e q = let grafts : g ≡ true = e in q ∙ sym (rw (regrafter_is, grafts))

  -- ## The first tree that two nodes graft

  -- it is the first from slot i on
  pub record Scanning (n i : ℕ) : Type 0 where
    pub count : n ≡ slots_of s
    pub same : graft_twice_from 0 ns ≡ graft_twice_from i (drop i ns)

  pub scanning_starts : {n : ℕ} → n ≡ slots_of s → Scanning n 0
  scanning_starts e = record { count = e; same = refl }

  module _ {n i : ℕ} (h : Scanning n i) where
    pub scanning_ends : n ≤ i → None ≡ graft_twice_from 0 ns
    unfolding graft_twice_from
    scanning_ends l = sym (h.same ∙ rw (nodes_over i (omega (arith, h.count))))

    module _ (l : i < n) {r : Option FullNodeId} (other : r ≡ (regrafter ns i)) where
      within : i < slots_of s
      within = omega (arith, h.count)

      -- by what the node in slot i grafts
      other_is : (o : Option TreeId) → graft? (node_in s i).body ≡ o
          → r ≡ (elim o as (λ _. Option FullNodeId) [ None ↦ None | Some t ↦ holder (drop (i + 1) ns) t ])
      other_is o e = other ∙ (regrafter_at i within ∙ rw e)

      -- no later node does
      pub scanning_goes : r ≡ None → Scanning n (i + 1)
      scanning_goes q = record {
        count = h.count;
        same =
            h.same ∙ ap (graft_twice_from i) (nodes_from i within) ∙ go (graft? (node_in s i).body) refl
            ∙ ap (λ k. graft_twice_from k (drop (i + 1) ns)) (sym (add-one i));
      }
        where
          go : (o : Option TreeId) → graft? (node_in s i).body ≡ o → graft_twice_from i (node_in s i ∷ drop (i + 1) ns) ≡ graft_twice_from (suc i) (drop (i + 1) ns)
          go None e = twice_plain i (node_in s i) (drop (i + 1) ns) e
          go (Some t) e = twice_once i (node_in s i) (drop (i + 1) ns) t e (found_none (holder (drop (i + 1) ns) t) (other_is (Some t) e) q)

      -- a later node does
      pub scanning_hits : {y x : FullNodeId} {d : ShapeRow} → r ≡ Some y → d ≡ shape_in s i → x ≡ id_in s i
          → Some (record { tree = d.graft; node = record { slot = i; id = x }; other = y }) ≡ graft_twice_from 0 ns
      unfolding node_in
      scanning_hits {y} {x} {d} q is id =
          sym (h.same ∙ ap (graft_twice_from i) (nodes_from i within) ∙ go (bit 8 (shape_in s i).flags) refl ∙ rw (← is, ← id))
        where
          go : (g : Bool) → bit 8 (shape_in s i).flags ≡ g → graft_twice_from i (node_in s i ∷ drop (i + 1) ns)
              ≡ Some (record { tree = (shape_in s i).graft; node = record { slot = i; id = id_in s i }; other = y })
          go false e =
              let plain : ◌≡◌ {A = Option FullNodeId} None (Some y) = found_some None (other_is None (graft_is i refl refl ∙ rw e)) q in
              absurd (let z : ◌≡◌ {A = ℕ} 0 1 = cc in omega arith)
          go true e =
              let t = (shape_in s i).graft in
              let grafts : graft? (node_in s i).body ≡ Some t = graft_is i refl refl ∙ rw e in
              twice_here i (node_in s i) (drop (i + 1) ns) t y grafts (found_some (holder (drop (i + 1) ns) t) (other_is (Some t) grafts) q)

-- ## Whether a node claims a tree

module _ {state bytes : List ℕ} {c : Scope} {notes : List ℕ} (told : Told PLANNED state bytes c notes) (x : FullNodeId) where
  abbrev f : Forest
  f = forest state

  abbrev b : Batch
  b = asked bytes c

  -- a node of another tree
  pub claims_other : (x.tree.0 ≡ c.tree.0 → ⊥) → false ≡ claims f b x
  unfolding claims listed ◌and◌
  claims_other h = sym (rw (mine_false f b c told.given.scoped x h))

  -- one of the batch's tree, by its place among the listed nodes
  module _ (own : x.tree.0 ≡ c.tree.0) {r : ℕ} (search : PositionIn notes LISTED c.listed x.node.0 r) where
    turn_is : turn f b x ≡ r
    unfolding listed_word asked
    turn_is =
        first_unique (λ i. same_node x.node (listed_at b i).id) (length b.nodes) (turn f b x) r (turn_first f b x)
        (rw told.given.scoped.listed at
        (searched (λ m. get_or notes (LISTED + m) 0) (λ m. (listed_at b m).id) c.listed x.node.0 r (λ m l. told.written 0 (omega arith) m l) search))

    is_listed : listed f b x ≡ ltb r c.listed
    unfolding listed turn ◌and◌
    is_listed =
        let places : has same_node (listed_ids b.nodes) x.node ≡ ltb r c.listed =
        has_position same_node x.node (listed_ids b.nodes) ∙ ap₂ ltb turn_is (listed_length b.nodes ∙ sym told.given.scoped.listed) in
        rw (mine_true f b c told.given.scoped x own) places

    marked : listed f b x ≡ true → turn_mark f b x ≡ suc r
    unfolding turn_mark
    marked e = rw (e, turn_is)

    here_node : {n : NodeId} → here f b n ≡ x → n ≡ x.node
    unfolding here
    here_node e = ap (λ (y : FullNodeId). y.node) e

    claims_by : {d : NodeData} → listed f b x ≡ true → listing b.nodes x.node ≡ Some d
        → claims f b x ≡ is_some (claim f b (record { id = x.node; body = d }))
    unfolding claims ◌and◌
    claims_by e q = rw (e, q)

    -- it is not listed
    pub claims_unlisted : c.listed ≤ r → false ≡ claims f b x
    unfolding claims ◌and◌
    claims_unlisted l = sym (rw (is_listed, le-ltb r c.listed l))

    -- it is
    pub claims_listed : r < c.listed → eqb (get_or notes (CLAIMS + r) 0) 1 ≡ claims f b x
    unfolding claims claim_word
    claims_listed l =
        ap (λ m. eqb m 1) (told.written 7 (omega arith) r l) ∙ bit_is (is_some (claim f b (listed_at b r))) ∙ sym claims_it
      where
        there : listed f b x ≡ true
        there = is_listed ∙ lt-ltb r c.listed l

        mark : turn_mark f b x ≡ suc r
        mark = marked there

        node_is : x.node ≡ (listed_at b r).id
        node_is = sym (here_node (turn_here f b x r mark))

        claims_it : claims f b x ≡ is_some (claim f b (listed_at b r))
        claims_it = claims_by there (turn_listing f b x r mark) ∙ ap (λ (n : NodeId). is_some (claim f b (record { id = n; body = (listed_at b r).body }))) node_is

-- ## The reason

module _ (s : Forest) (d : Batch) (o : Forest) (r : Option declared.Regraft) (twice : regraft_of r ≡ graft_twice_from 0 o.nodes) {w : Why} where
  -- no tree is grafted twice
  pub clash_none : r ≡ None → w ≡ why_of accepted → w ≡ why_for (clash_reason s d o)
  unfolding clash_reason why_for regraft_of
  clash_none q e = e ∙ sym (rw (sym twice ∙ ap regraft_of q, clash_reason))

  -- one is, and the first of its two nodes claims it, or not
  module _ {g : declared.Regraft} (q : r ≡ Some g) {v : Bool} (test : v ≡ claims s d g.node) where
    pub clash_claims : v ≡ true → w ≡ why_of (claimed_from_holder g.tree g.other g.node) → w ≡ why_for (clash_reason s d o)
    unfolding clash_reason why_for regraft_of
    clash_claims c e = e ∙ sym (rw (sym twice ∙ ap regraft_of q, clash_reason, ← test, c))

    pub clash_holds : v ≡ false → w ≡ why_of (claimed_from_holder g.tree g.node g.other) → w ≡ why_for (clash_reason s d o)
    unfolding clash_reason why_for regraft_of
    clash_holds c e = e ∙ sym (rw (sym twice ∙ ap regraft_of q, clash_reason, ← test, c))
