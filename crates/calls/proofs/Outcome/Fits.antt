-- The outcome fits in memory: its data is of bytes and of 64-bit floats, and its tree numbers are of 32 bits. Assumes nothing.
use mathlib.Core.Bool.{Bool, true, false}
use mathlib.Core.List.{List, [], ◌∷◌, map, Memᴰ}
use mathlib.Core.Path.{◌≡◌, refl, sym, ap, ◌∙◌}
use Prim.Native.Nat.{ℕ, ◌-◌, ◌≤◌, ◌<◌}
use native.Mathlib.Omega.{arith}
use lib.Dec.{eqb, ltb}
use lib.Ieee.{fits, binary64}
use lib.ListN.{length, get_or, drop, length-map}
use borrow.Author.Tests.{lt-ltb, ltb-true}
use Rattle.base.proofs.Cases.{by_test, by_option}
use Rattle.std.specs.Prelude.{if◌then◌else◌, Option, None, Some}
use Rattle.base.specs.Tests.{◌and◌, all, has, first_given, same_option}
use Rattle.base.proofs.Tests.{all_member}
use Rattle.base.proofs.Lists.{all_at, all_index, all_or, all_take, all_drop}
use Rattle.state_array.proofs.Labels.{float_fits}
use Rattle.base.proofs.Bytes.{all_list_of}
use Rattle.ids.specs.Ids.{ROOT, same_tree, same_node, same_index}
use Rattle.ids.specs.declared.TreeId.{TreeId}
use Rattle.ids.specs.declared.NodeId.{NodeId}
use Rattle.ids.specs.declared.FullNodeId.{FullNodeId}
use Rattle.record.specs.Batch.{NodeData, graft?, fields_ok, Batch}
use Rattle.record.specs.Parse.{node_of, batch_of}
use Rattle.record.specs.Layout.{node_count, record_at, label_length, label_start, label_at}
use Rattle.record_reader.specs.Reader.{no_listed, listed_at}
use Rattle.state.specs.State.{ParentAndIndex, Forest, graft_at, holder}
use Rattle.state_array.specs.Layout.{word, LABEL_LENGTH}
use Rattle.state_array.specs.View.{id_in, link_in, link_of, label_byte, label_in, bounds_in, transform_in, body_in, node_in, slots_of, view}
use Rattle.state_array.specs.Stored.{no_state, floats_of, NodeFits, Fits}
use Rattle.update.specs.Words.{tree_number, here, mine, naming, claim, claimer, claimed_from}
use Rattle.update.specs.Outcome.{under_graft, pane_root, link_is_cut, link_here, link_elsewhere, link_after, outcome}
use Rattle.update.proofs.Outcome.{all_outcome}
use Rattle.calls.specs.declared.notes.Scope.{Scope}
use Rattle.calls.specs.Setting.{asked, forest, Given}
use Rattle.calls.specs.Codes.{node_at, id_at, code_id, code_link, code_of}
use Rattle.calls.proofs.notes.Positions.{position_first}
use Rattle.calls.proofs.notes.Setting.{batched_facts}
use Rattle.calls.proofs.notes.Told.{batched}
use Rattle.calls.proofs.Outcome.Codes.{code_id_lem}
use Rattle.calls.proofs.Outcome.Nodes.{code_link_lem}
use Rattle.calls.proofs.Outcome.Room.{entries_few, nodes_few, trees_few}

-- ## Lists

module _ {A : Type 0} (p : A → Bool) where
  -- a test of what may be there
  abbrev or_none : Option A → Bool
  or_none None = true
  or_none (Some x) = p x

  or_none_if : (t : Bool) (x : A) → p x ≡ true → or_none (if t then Some x else None) ≡ true
  or_none_if true x e = e
  or_none_if false x e = refl

-- what the first that gives something gives
or_none_given : {A B : Type 0} (p : B → Bool) (f : A → Option B) (xs : List A) → ((x : A) → Memᴰ x xs → or_none p (f x) ≡ true)
    → or_none p (first_given f xs) ≡ true
or_none_given p f [] h = refl
or_none_given p f (x ∷ xs) h =
    by_option (f x) (λ q. rw (q, first_given) (or_none_given p f xs (λ y m. h y (Memᴰ.tail m))))
    (λ y q. rw (q, first_given) (rw q at (h x (Memᴰ.head refl))))

-- ## Data

-- a label of bytes
abbrev pub bytes_fit : NodeData → Bool
bytes_fit d = all (λ x. ltb x 256) d.label

-- floats of 64 bits
abbrev pub floats_fit : NodeData → Bool
floats_fit d = all (fits binary64) (floats_of d)

-- of a state's nodes
view_floats : (state : List ℕ) → all (λ n. floats_fit n.body) (forest state).nodes ≡ true
unfolding view node_in body_in bounds_in transform_in floats_of ◌and◌
view_floats state = all_list_of (λ n. floats_fit n.body) (slots_of state) (node_in state) (λ i l. simp float_fits)

view_bytes : (state : List ℕ) → all (λ n. bytes_fit n.body) (forest state).nodes ≡ true
unfolding view node_in body_in label_in label_byte
view_bytes state =
    all_list_of (λ n. bytes_fit n.body) (slots_of state) (node_in state)
    (λ i l. all_list_of (λ x. ltb x 256) (word state LABEL_LENGTH i) (label_byte state i)
    (λ j k. by_test (ltb j 32) (λ t. rw t (omega (arith, lt-ltb))) (λ t. rw t (omega (arith, lt-ltb)))))

-- of a record's nodes
asked_floats : (bytes : List ℕ) (c : Scope) → all (λ l. floats_fit l.body) (asked bytes c).nodes ≡ true
unfolding asked batch_of floats_of ◌and◌
asked_floats bytes c = all_list_of (λ l. floats_fit l.body) (node_count bytes) (node_of bytes) (λ i l. simp float_fits)

-- a record of bytes has labels of bytes
asked_bytes : (bytes : List ℕ) (c : Scope) → ((i : ℕ) → get_or bytes i 0 < 256) → all (λ l. bytes_fit l.body) (asked bytes c).nodes ≡ true
unfolding asked batch_of
asked_bytes bytes c h =
    let whole = all_index (λ x. ltb x 256) bytes 0 (λ i l. lt-ltb (get_or bytes i 0) 256 (h i)) in
    all_list_of (λ l. bytes_fit l.body) (node_count bytes) (node_of bytes)
    (λ i l.
    all_take (λ x. ltb x 256) (label_length bytes (record_at i)) (drop (label_at bytes (label_start bytes (record_at i))) bytes)
    (all_drop (λ x. ltb x 256) (label_at bytes (label_start bytes (record_at i))) bytes whole))

-- by index
pub asked_labels : (bytes : List ℕ) (c : Scope) → ((i : ℕ) → get_or bytes i 0 < 256) → (i : ℕ) → i < length (asked bytes c).nodes
    → all (λ x. ltb x 256) (listed_at (asked bytes c) i).body.label ≡ true
unfolding listed_at
asked_labels bytes c h i l = all_at (λ k. bytes_fit k.body) (asked bytes c).nodes no_listed (asked_bytes bytes c h) i l

-- ## Tree numbers

-- a tree number of 32 bits
abbrev small : FullNodeId → Bool
small x = ltb x.tree.0 4294967296

abbrev small_link : Option ParentAndIndex → Bool
small_link o = or_none (λ l. small l.parent) o

-- of a state's nodes
view_small : (state : List ℕ) → all (λ n. small n.id) (forest state).nodes ≡ true
unfolding view node_in id_in
view_small state = all_list_of (λ n. small n.id) (slots_of state) (node_in state) (λ i l. lt-ltb (id_in state i).tree.0 4294967296 (omega arith))

view_links : (state : List ℕ) → all (λ n. small_link n.parent_and_index) (forest state).nodes ≡ true
unfolding view node_in link_in link_of
view_links state =
    all_list_of (λ n. small_link n.parent_and_index) (slots_of state) (node_in state)
    (λ i l. by_test (eqb (link_in state i).linked 0) (λ t. rw t) (λ t. rw t (lt-ltb (link_in state i).parent.tree.0 4294967296 (omega arith))))

module _ (s : Forest) (b : Batch) (few : length s.trees ≤ 32) (ids : all (λ n. small n.id) s.nodes ≡ true) where
  -- of the batch's nodes
  here_small : (n : NodeId) → small (here s b n) ≡ true
  unfolding here tree_number
  here_small n =
      let ts = map (λ e. e.id) s.trees in
      lt-ltb (tree_number s b).0 4294967296 (omega (arith, (position_first same_tree b.tree ROOT ts).within, length-map s.trees (λ e. e.id)))

  naming_small : (x : FullNodeId) → small_link (naming s b x) ≡ true
  unfolding naming
  naming_small x =
      by_test (mine s b x)
      (λ t. rw t (or_none_given (λ l. small l.parent) _ b.nodes
      (λ l m. or_none_if (λ k. small k.parent) (has same_node l.body.children x.node) _ (here_small l.id))))
      (λ t. rw t)

  holder_small : (t : TreeId) → or_none small (holder s.nodes t) ≡ true
  unfolding holder
  holder_small t =
      or_none_given small _ s.nodes
      (λ n m. or_none_if small (same_option same_tree (graft? n.body) (Some t)) n.id (all_member (λ k. small k.id) s.nodes n ids m))

  claimed_small : (p : FullNodeId) → or_none small (claimed_from s b p) ≡ true
  unfolding claimed_from claimer
  claimed_small p =
      by_option (graft_at s.nodes p) (λ q. rw (q, claimed_from))
      (λ t q. rw (q, claimed_from)
      (or_none_given small _ b.nodes (λ l m. or_none_if small (same_option same_tree (claim s b l) (Some t)) (here s b l.id) (here_small l.id))))

  -- under a holder
  under_small : (o : Option FullNodeId) (l : Option ParentAndIndex) → or_none small o ≡ true → small_link l ≡ true
      → small_link (elim o as (λ _. Option ParentAndIndex) [ None ↦ l | Some g ↦ under_graft g ]) ≡ true
  unfolding under_graft
  under_small None l e h = h
  under_small (Some g) l e h = e

  here_link : (x : FullNodeId) (was : Option ParentAndIndex) → small_link was ≡ true → small_link (link_here s b x was) ≡ true
  unfolding link_here
  here_link x was h =
      by_test (pane_root s b x) (λ p. rw p (under_small (holder s.nodes b.tree) None (holder_small b.tree) refl))
      (λ p. by_test (link_is_cut s b x) (λ c. rw (p, c))
      (λ c. by_option (naming s b x) (λ o. rw (p, c, o) h) (λ l o. rw (p, c, o) (rw o at (naming_small x)))))

  elsewhere_link : (x : FullNodeId) (was : Option ParentAndIndex) → small_link was ≡ true → small_link (link_elsewhere s b x was) ≡ true
  unfolding link_elsewhere
  elsewhere_link x None h = refl
  elsewhere_link x (Some l) h =
      by_test (same_index l.parent.tree x.tree) (λ t. rw t h)
      (λ t. rw t (under_small (claimed_from s b l.parent) (Some l) (claimed_small l.parent) h))

  link_small : (x : FullNodeId) (was : Option ParentAndIndex) → small_link was ≡ true → small_link (link_after s b x was) ≡ true
  unfolding link_after
  link_small x was h = by_test (mine s b x) (λ t. rw t (here_link x was h)) (λ t. rw t (elsewhere_link x was h))

  -- of codes
  code_small : (c : ℕ) → small (code_id s b c) ≡ true
  unfolding code_id
  code_small c =
      by_test (ltb c 320) (λ t. rw t (all_or (λ n. small n.id) s.nodes no_state ids (lt-ltb 0 4294967296 (omega arith)) c))
      (λ t. rw t (here_small (listed_at b (c - 320)).id))

  code_link_small : (links : all (λ n. small_link n.parent_and_index) s.nodes ≡ true) (c : ℕ) → small_link (code_link s b c) ≡ true
  unfolding code_link
  code_link_small links c =
      by_test (ltb c 320) (λ t. rw t (all_or (λ n. small_link n.parent_and_index) s.nodes no_state links refl c)) (λ t. rw t)

-- ## The outcome

module _ (state bytes : List ℕ) (c : Scope) (g : Given state bytes c) (labels : (i : ℕ) → i < length (asked bytes c).nodes → all (λ x. ltb x 256) (listed_at (asked bytes c) i).body.label ≡ true) where
  -- every node's data obeys the record's rules
  pub body_fits : all (λ n. fields_ok n.body) (outcome (forest state) (asked bytes c)).nodes ≡ true
  body_fits = all_outcome fields_ok (forest state) (asked bytes c) g.kept.fields (batched_facts bytes (asked bytes c) (batched state bytes c g)).fields

  listed_bytes : all (λ l. bytes_fit l.body) (asked bytes c).nodes ≡ true
  unfolding listed_at
  listed_bytes = all_index (λ l. bytes_fit l.body) (asked bytes c).nodes no_listed labels

  module _ (r : ℕ) (l : r < length (outcome (forest state) (asked bytes c)).nodes) where
    few : length (asked bytes c).nodes ≤ 64
    few = (batched_facts bytes (asked bytes c) (batched state bytes c g)).nodes_limit

    code : ℕ
    code = code_of (forest state) (asked bytes c) (id_at (outcome (forest state) (asked bytes c)) r)

    pub tree_fits : (id_at (outcome (forest state) (asked bytes c)) r).tree.0 < 4294967296
    unfolding code
    tree_fits =
        let is = code_id_lem (forest state) (asked bytes c) g.kept few g.once r l in
        ltb-true _ 4294967296 (ap small (sym is) ∙ code_small (forest state) (asked bytes c) g.kept.few_trees (view_small state) code)

    pub parent_fits : (k : ParentAndIndex) → (node_at (outcome (forest state) (asked bytes c)) r).parent_and_index ≡ Some k → k.parent.tree.0 < 4294967296
    unfolding code
    parent_fits k e =
        let is = code_link_lem (forest state) (asked bytes c) g.kept few g.once r l in
        let x = code_id (forest state) (asked bytes c) code in
        let was = code_link (forest state) (asked bytes c) code in
        ltb-true k.parent.tree.0 4294967296
        (ap small_link (sym e ∙ is)
        ∙ link_small (forest state) (asked bytes c) g.kept.few_trees (view_small state) x was
        (code_link_small (forest state) (asked bytes c) g.kept.few_trees (view_small state) (view_links state) code))

    pub node_fits : NodeFits (get_or (outcome (forest state) (asked bytes c)).nodes r no_state)
    node_fits = record {
      body = record {
        fields = all_at (λ n. fields_ok n.body) (outcome (forest state) (asked bytes c)).nodes no_state body_fits r l;
        bytes = all_at (λ n. bytes_fit n.body) (outcome (forest state) (asked bytes c)).nodes no_state
            (all_outcome bytes_fit (forest state) (asked bytes c) (view_bytes state) listed_bytes) r l;
        floats = all_at (λ n. floats_fit n.body) (outcome (forest state) (asked bytes c)).nodes no_state
            (all_outcome floats_fit (forest state) (asked bytes c) (view_floats state) (asked_floats bytes c)) r l;
      };
      tree = tree_fits;
      parent = parent_fits;
    }

  pub outcome_fits : Fits (record { forest = outcome (forest state) (asked bytes c); host_focused = (view state).host_focused })
  outcome_fits =
      let facts = batched_facts bytes (asked bytes c) (batched state bytes c g) in
      record {
        nodes = nodes_few (forest state) (asked bytes c) g.kept facts.nodes_limit;
        trees = trees_few (forest state) (asked bytes c) g.kept g.numbered;
        entries = entries_few (forest state) (asked bytes c) g.kept facts.named_limit;
        each = node_fits;
      }
