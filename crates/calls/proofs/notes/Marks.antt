-- Laws of marks: what a node's turn and its naming say of it, and which slot a key marks. Assumes nothing.
use mathlib.Core.Bool.{Bool, true, false, not, false≢true}
use mathlib.Core.List.{List, [], ◌∷◌, ◌++◌}
use mathlib.Core.Path.{◌≡◌, refl, sym, ap, ◌∙◌}
use Prim.Native.Nat.{ℕ, zero, suc, ◌+◌, ◌-◌, ◌≤◌, ◌<◌}
use native.Mathlib.Numerals.{add-one}
use native.Mathlib.Omega.{arith}
use lib.Dec.{eqb, ltb}
use lib.ListN.{length, get_or, take, length-append}
use borrow.Author.Tests.{eqb-true, eq-eqb, lt-ltb, le-ltb, ltb-true}
use Rattle.std.specs.Prelude.{if◌then◌else◌, Option, None, Some}
use Rattle.base.specs.Tests.{◌and◌, any, has, distinct, position, first_given}
use Rattle.base.specs.Search.{First}
use Rattle.base.proofs.Cases.{by_test, by_order}
use Rattle.base.proofs.Tests.{both, joined, iff}
use Rattle.base.proofs.Lists.{first_given_some, none_of, any_append}
use Rattle.ids.specs.Ids.{same_node}
use Rattle.ids.proofs.Ids.{same_index→≡, same_index_refl, same_node→≡, same_node_refl}
use Rattle.ids.specs.declared.NodeId.{NodeId}
use Rattle.ids.specs.declared.FullNodeId.{FullNodeId}
use Rattle.record.specs.Batch.{Listed, Batch, listed_ids, named_ids}
use Rattle.record.proofs.Batch.{listed_length, listed_at_lem, listed_position, listed_has}
use Rattle.record_reader.specs.Reader.{no_node, no_listed, listed_at}
use Rattle.state.specs.State.{ParentAndIndex, Forest}
use Rattle.state.specs.Sound.{ascending}
use Rattle.update.specs.Words.{listing, tree_number, here, mine, listed, turn, naming, named}
use Rattle.calls.specs.Codes.{id_at, slot_at}
use Rattle.calls.specs.Says.{turn_mark, naming_mark}
use Rattle.calls.proofs.notes.Positions.{first_unique, first_cong, position_first, has_position, position_append, position_self, first_given_at}
use Rattle.calls.proofs.notes.Places.{slot_id, slot_self}

-- ## A mark

-- a mark is not 0 where its test holds
mark_test : (c : Bool) (p : ℕ) → c ≡ ltb 0 (if c then suc p else 0)
mark_test true p = sym (lt-ltb 0 (suc p) (omega arith))
mark_test false p = refl

-- one more than what it marks
mark_is : (c : Bool) (p k : ℕ) → (if c then suc p else 0) ≡ suc k → (c ≡ true) × (p ≡ k)
mark_is true p k e = (refl, omega arith)
mark_is false p k e = absurd (omega arith)

mark_none : (c : Bool) (p : ℕ) → (if c then suc p else 0) ≡ 0 → c ≡ false
mark_none true p e = absurd (omega arith)
mark_none false p e = refl

module _ (s : Forest) (b : Batch) where
  -- a node of the batch's tree, by its number
  pub mine_here : (x : FullNodeId) → mine s b x ≡ true → here s b x.node ≡ x
  unfolding mine here
  mine_here x e = let p = sym (same_index→≡ x.tree (tree_number s b) e) in λ i. record { tree = p i; node = x.node }

  pub here_mine : (n : NodeId) → mine s b (here s b n) ≡ true
  unfolding mine here
  here_mine n = same_index_refl (tree_number s b)

  -- ## Turns

  -- the turn is where a search among the listed nodes ends
  pub turn_first : (x : FullNodeId) → First (λ i. same_node x.node (listed_at b i).id) (length b.nodes) (turn s b x)
  unfolding turn listed_at
  turn_first x =
      let h = position_first same_node x.node no_node (listed_ids b.nodes) in
      first_cong _ _ (length b.nodes) (turn s b x) (λ i l. ap (same_node x.node) (listed_at_lem b.nodes i no_listed)) (rw (listed_length b.nodes) at h)

  module _ (x : FullNodeId) where
    pub turn_listed : listed s b x ≡ ltb 0 (turn_mark s b x)
    unfolding turn_mark
    turn_listed = mark_test (listed s b x) (turn s b x)

    pub turn_none : turn_mark s b x ≡ 0 → listed s b x ≡ false
    unfolding turn_mark
    turn_none e = mark_none (listed s b x) (turn s b x) e

    pub turn_is : (k : ℕ) → turn_mark s b x ≡ suc k → turn s b x ≡ k
    unfolding turn_mark
    turn_is k e = (mark_is (listed s b x) (turn s b x) k e).1

    module _ (k : ℕ) (e : turn_mark s b x ≡ suc k) where
      -- the turn is below the number of listed nodes
      pub turn_within : k < length b.nodes
      unfolding turn_mark listed turn
      turn_within =
          let m = mark_is (listed s b x) (turn s b x) k e in
          rw m.1 at (listed_position b.nodes x.node no_node (both m.0).1).0

      -- the node listed there has the number
      turn_node : x.node ≡ (listed_at b k).id
      turn_node =
          let first = rw (turn_is k e) at (turn_first x) in
          same_node→≡ x.node (listed_at b k).id (first.hit turn_within)

      -- and is the node
      pub turn_here : here s b (listed_at b k).id ≡ x
      unfolding turn_mark listed
      turn_here = ap (here s b) (sym turn_node) ∙ mine_here x (both (mark_is (listed s b x) (turn s b x) k e).0).0

      -- and it is listed with the data that stands there
      pub turn_listing : listing b.nodes x.node ≡ Some (listed_at b k).body
      unfolding listing listed_at
      turn_listing =
          let first = rw (turn_is k e) at (turn_first x) in
          first_given_at (λ l. same_node x.node l.id) (λ l. l.body) no_listed b.nodes k first ∙ rw (lt-ltb k (length b.nodes) turn_within)

  -- the listed node i is listed
  pub listed_self : (i : ℕ) → i < length b.nodes → listed s b (here s b (listed_at b i).id) ≡ true
  unfolding listed here mine listed_at
  listed_self i h = joined (same_index_refl (tree_number s b)) (listed_has b.nodes i no_listed h)

  -- at turn i, where no number is listed twice
  pub turn_self : distinct same_node (listed_ids b.nodes) ≡ true → (i : ℕ) → i < length b.nodes → turn s b (here s b (listed_at b i).id) ≡ i
  unfolding turn here listed_at
  turn_self u i h =
      rw (← listed_at_lem b.nodes i no_listed)
      (position_self same_node same_node→≡ same_node_refl (listed_ids b.nodes) no_node u i (rw (listed_length b.nodes) h))

-- ## Namings

-- a number is named where a listed node has it among its children
has_named : (ls : List Listed) (n : NodeId) → has same_node (named_ids ls) n ≡ any (λ l. has same_node l.body.children n) ls
unfolding named_ids
has_named [] n = refl
has_named (l ∷ ls) n = rw (any_append (same_node n) l.body.children (named_ids ls), has_named ls n)

module _ (s : Forest) (b : Batch) (x : FullNodeId) where
  -- the link under a listed node
  abbrev named_by : Listed → ParentAndIndex
  named_by l = record { parent = here s b l.id; index = position same_node l.body.children x.node }

  -- the first listed node of those that name x
  abbrev namer : List Listed → Option ParentAndIndex
  namer ls = first_given (λ l. if has same_node l.body.children x.node then Some (named_by l) else None) ls

  -- a node is named where it is of the batch's tree and its number is
  pub named_is : named s b x ≡ (mine s b x and has same_node (named_ids b.nodes) x.node)
  unfolding named naming ◌and◌
  named_is =
      by_test (mine s b x)
      (λ t. rw t (first_given_some (λ l. has same_node l.body.children x.node) named_by b.nodes ∙ sym (has_named b.nodes x.node))) (λ t. rw t)

  pub naming_named : named s b x ≡ ltb 0 (naming_mark s b x)
  unfolding naming_mark
  naming_named =
      named_is ∙ mark_test (mine s b x and has same_node (named_ids b.nodes) x.node) (position same_node (named_ids b.nodes) x.node)

  pub naming_none : naming_mark s b x ≡ 0 → naming s b x ≡ None
  unfolding named
  naming_none e = none_of (naming s b x) (ap not (naming_named ∙ ap (ltb 0) e))

  -- a number that stands among the children of listed node i, and of none before it, is named by it
  namer_at : (ls : List Listed) (i : ℕ) → i < length ls → length (named_ids (take i ls)) ≤ position same_node (named_ids ls) x.node
      → position same_node (named_ids ls) x.node < length (named_ids (take (suc i) ls))
      → namer ls ≡ Some (record { parent = here s b (get_or ls i no_listed).id; index = position same_node (named_ids ls) x.node - length (named_ids (take i ls)) })
  unfolding named_ids
  namer_at [] i h l m = absurd (omega arith)
  namer_at (k ∷ ks) zero h l m =
      let cs = k.body.children in
      let e = position_append same_node x.node cs (named_ids ks) in
      by_test (has same_node cs x.node)
      (λ q. let same : position same_node cs x.node - 0 ≡ position same_node cs x.node = omega arith in rw (q, first_given, rw q at e, same))
      (λ q. absurd (omega (arith, rw q at e, length-append cs [])))
  namer_at (k ∷ ks) (suc i) h l m =
      let cs = k.body.children in
      let e = position_append same_node x.node cs (named_ids ks) in
      let before = length-append cs (named_ids (take i ks)) in
      let through = length-append cs (named_ids (take (suc i) ks)) in
      by_test (has same_node cs x.node)
      (λ q. absurd (omega (arith, rw q at e, ltb-true (position same_node cs x.node) (length cs) (sym (has_position same_node x.node cs) ∙ q))))
      (λ q. let at = rw q at e in
      let same : position same_node (cs ++ named_ids ks) x.node - length (cs ++ named_ids (take i ks))
      ≡ position same_node (named_ids ks) x.node - length (named_ids (take i ks)) = omega arith in
      rw (q, first_given, same) (namer_at ks i (omega arith) (omega arith) (omega arith)))

  -- the link of a node that is first named at entry j, which is among the children of listed node i
  pub naming_link : (j i : ℕ) → naming_mark s b x ≡ suc j → i < length b.nodes → length (named_ids (take i b.nodes)) ≤ j
      → j < length (named_ids (take (i + 1) b.nodes))
      → naming s b x ≡ Some (record { parent = here s b (listed_at b i).id; index = j - length (named_ids (take i b.nodes)) })
  unfolding naming_mark naming listed_at
  naming_link j i e h l m =
      let is = mark_is (mine s b x and has same_node (named_ids b.nodes) x.node) (position same_node (named_ids b.nodes) x.node) j e in
      rw ((both is.0).0, naming, ← is.1) (namer_at b.nodes i h (rw is.1 l) (rw (is.1, ← add-one i) m))

-- ## Which slot a key marks

module _ (s : Forest) (b : Batch) (up : ascending s.nodes ≡ true) (keys : List NodeId) (i : ℕ) (within : i < length s.nodes) where
  -- a key stands in slot i if it is the number there, and the node is of the batch's tree
  key_test : (j : ℕ) → eqb (slot_at s (here s b (get_or keys j no_node))) i ≡ (mine s b (id_at s i) and same_node (id_at s i).node (get_or keys j no_node))
  unfolding here
  key_test j = iff to from
    where
      n : NodeId
      n = get_or keys j no_node

      to : eqb (slot_at s (here s b n)) i ≡ true → (mine s b (id_at s i) and same_node (id_at s i).node n) ≡ true
      to e =
          let at : slot_at s (here s b n) ≡ i = eqb-true (slot_at s (here s b n)) i e in
          let same : id_at s i ≡ here s b n = ap (id_at s) (sym at) ∙ slot_id s (here s b n) (omega arith) in
          rw same (joined (here_mine s b n) (same_node_refl n))

      from : (mine s b (id_at s i) and same_node (id_at s i).node n) ≡ true → eqb (slot_at s (here s b n)) i ≡ true
      from e =
          let same : here s b n ≡ id_at s i = ap (here s b) (sym (same_node→≡ (id_at s i).node n (both e).1)) ∙ mine_here s b (id_at s i) (both e).0 in
          eq-eqb (slot_at s (here s b n)) i (ap (slot_at s) same ∙ slot_self s up i within)

  -- the first key of slot i is its mark
  mark_first : (r : ℕ) → First (λ j. eqb (slot_at s (here s b (get_or keys j no_node))) i) (length keys) r
      → (if mine s b (id_at s i) and has same_node keys (id_at s i).node then suc (position same_node keys (id_at s i).node) else 0) ≡ (if ltb r (length keys) then suc r else 0)
  unfolding ◌and◌
  mark_first r h =
      let f = first_cong _ _ (length keys) r (λ j l. key_test j) h in
      by_test (mine s b (id_at s i))
      (λ c. let same : position same_node keys (id_at s i).node ≡ r = first_unique _ (length keys) _ r (position_first same_node (id_at s i).node no_node keys) (rw c at f) in
      rw (c, has_position same_node (id_at s i).node keys, same))
      (λ c. by_order r (length keys) (λ l. absurd (false≢true (rw c at (f.hit l)))) (λ l. rw (c, le-ltb r (length keys) l)))

-- the turn and the naming of the node in slot i, by the slots of the listed nodes and of the children that they name
module _ (s : Forest) (b : Batch) (up : ascending s.nodes ≡ true) (i : ℕ) (within : i < length s.nodes) (r : ℕ) where
  pub turn_mark_lem : First (λ j. eqb (slot_at s (here s b (get_or (listed_ids b.nodes) j no_node))) i) (length (listed_ids b.nodes)) r
      → turn_mark s b (id_at s i) ≡ (if ltb r (length (listed_ids b.nodes)) then suc r else 0)
  unfolding turn_mark listed turn
  turn_mark_lem h = mark_first s b up (listed_ids b.nodes) i within r h

  pub naming_mark_lem : First (λ j. eqb (slot_at s (here s b (get_or (named_ids b.nodes) j no_node))) i) (length (named_ids b.nodes)) r
      → naming_mark s b (id_at s i) ≡ (if ltb r (length (named_ids b.nodes)) then suc r else 0)
  unfolding naming_mark
  naming_mark_lem h = mark_first s b up (named_ids b.nodes) i within r h
