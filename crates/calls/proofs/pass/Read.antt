-- What the columns of the notes say to the pass: searches for a node's number, when a listed node is placed at its turn. Assumes nothing.
use mathlib.Core.Bool.{Bool, true, false, ◌||◌, true≢false}
use mathlib.Core.List.{List, [], ◌∷◌}
use mathlib.Core.Path.{◌≡◌, sym, ap, ap₂, ◌∙◌, refl}
use Prim.Native.Nat.{ℕ, suc, ◌+◌, ◌≤◌, ◌<◌, zero}
use native.Mathlib.Omega.{arith}
use lib.Dec.{eqb, ltb, leb}
use lib.ListN.{length, get_or, take}
use borrow.Author.Tests.{lt-ltb, le-ltb, eqb-true, eq-eqb, ltb-false, le-leb}
use Rattle.std.specs.Prelude.{if◌then◌else◌, Some, None}
use Rattle.base.specs.Tests.{◌and◌, is_some, same_option, has, position}
use Rattle.base.specs.Search.{First}
use Rattle.base.proofs.Tests.{has_at, bit_is, iff, or_right}
use Rattle.ids.specs.Ids.{same_node, same_id}
use Rattle.ids.proofs.Ids.{same_node_refl}
use Rattle.ids.specs.declared.NodeId.{NodeId}
use Rattle.ids.specs.declared.FullNodeId.{FullNodeId}
use Rattle.record.specs.Batch.{Batch, named_ids, Listed}
use Rattle.record_reader.specs.Reader.{no_node, listed_at, no_listed}
use Rattle.state.specs.State.{Forest}
use Rattle.state_array.specs.View.{slots_of}
use Rattle.update.specs.Words.{here, old, is_root, claim, listing}
use Rattle.calls.specs.Layout.{LISTED, NAMED, ENDS, LISTED_SLOTS, NAMED_SLOTS, NAMINGS, CLAIMS}
use Rattle.calls.specs.declared.notes.Scope.{Scope}
use Rattle.calls.specs.Setting.{asked, forest, root_in}
use Rattle.calls.specs.Codes.{id_at, slot_at}
use Rattle.calls.specs.Says.{naming_mark, PositionIn, listed_word, named_word, end_word, listed_slot, named_slot, naming_word, claim_word, Told, READ}
use Rattle.calls.proofs.notes.Positions.{first_unique, position_first, first_cong, first_given_at}
use Rattle.calls.proofs.notes.Places.{slot_old, slot_id}
use Rattle.update_focus.proofs.Numbers.{forest_length}
use Rattle.calls.proofs.notes.Marks.{here_mine}
use Rattle.calls.specs.Steps.{entries_before, due_of}
use native.Mathlib.Decide.{dec_lt}
use native.Mathlib.Numerals.{add-one}
use lib.Seq.{length-take-le, get_or-take}
use Rattle.base.specs.Bytes.{list_of}
use Rattle.base.proofs.Search.{first_here, first_end, first_any, ltb_suc}
use Rattle.update.specs.Pass.{placed_at_turn}

-- ## Numbers and nodes

-- either way round
eqb_swap : (a c : ℕ) → eqb a c ≡ eqb c a
eqb_swap a c = iff (λ e. eq-eqb c a (sym (eqb-true a c e))) (λ e. eq-eqb a c (sym (eqb-true c a e)))

-- a search for a number, as one for a node
pub searched : (words : ℕ → ℕ) (nodes : ℕ → NodeId) (n x r : ℕ) → ((m : ℕ) → m < n → words m ≡ (nodes m).0) → First (λ m. eqb (words m) x) n r
    → First (λ m. same_node (record { 0 = x }) (nodes m)) n r
unfolding same_node
searched words nodes n x r say h = first_cong _ _ n r (λ m l. ap (λ w. eqb w x) (say m l) ∙ eqb_swap (nodes m).0 x) h

-- ## The first of a list

module _ {A : Type 0} where
  -- by index
  list_of_take : (xs : List A) (d : A) (j : ℕ) → j ≤ length xs → list_of j (λ m. get_or xs m d) ≡ take j xs
  unfolding list_of
  list_of_take [] d zero h = refl
  list_of_take [] d (suc j) h = absurd (omega arith)
  list_of_take (x ∷ xs) d zero h = refl
  list_of_take (x ∷ xs) d (suc j) h = ap (λ ys. x ∷ ys) (list_of_take xs d j (omega arith))

  -- a search among them
  pub search_has : (same : A → A → Bool) (x : A) (xs : List A) (d : A) (j r : ℕ) → j ≤ length xs → First (λ m. same x (get_or xs m d)) j r
      → ltb r j ≡ has same (take j xs) x
  search_has same x xs d j r h f = first_any (same x) j (λ m. get_or xs m d) r f ∙ ap (λ ys. has same ys x) (list_of_take xs d j h)

  -- the position among all tells whether x is among them
  pub has_before : (same : A → A → Bool) (x : A) (xs : List A) (j : ℕ) → j ≤ length xs → has same (take j xs) x ≡ ltb (position same xs x) j
  has_before same x [] zero h = sym (le-ltb 0 0 (omega arith))
  has_before same x [] (suc j) h = absurd (omega arith)
  has_before same x (y ∷ ys) zero h = sym (le-ltb (position same (y ∷ ys) x) 0 (omega arith))
  has_before same x (y ∷ ys) (suc j) h = go (same x y) (has_before same x ys j (omega arith))
    where
      go : (c : Bool) → has same (take j ys) x ≡ ltb (position same ys x) j
          → (c || has same (take j ys) x) ≡ ltb (if c then zero else suc (position same ys x)) (suc j)
      go true e = sym (lt-ltb 0 (suc j) (omega arith))
      go false e = e ∙ sym (ltb_suc (position same ys x) j)

-- the place of what is named for the first time
pub first_place : (xs : List NodeId) (j : ℕ) → j < length xs → has same_node (take j xs) (get_or xs j no_node) ≡ false → position same_node xs (get_or xs j no_node) ≡ j
first_place xs j h e = go (dec_lt j (position same_node xs x))
  where
    x : NodeId
    x = get_or xs j no_node

    go : Dec (j < position same_node xs x) → position same_node xs x ≡ j
    go (yes l) = absurd (true≢false (sym (same_node_refl x) ∙ (position_first same_node x no_node xs).passed j l))
    go (no l) = omega (arith, ltb-false (position same_node xs x) j (sym (has_before same_node x xs j (omega arith)) ∙ e))

-- ## The listed nodes before node n

module _ (ls : List Listed) (x : NodeId) (n p : ℕ) (h : n ≤ length ls) (f : First (λ m. same_node x (get_or ls m no_listed).id) (length ls) p) where
  -- what a search among them says of a node's data
  listing_first : (r : ℕ) → First (λ m. same_node x (get_or ls m no_listed).id) n r
      → listing (take n ls) x ≡ (if ltb r n then Some (get_or (take n ls) r no_listed).body else None)
  unfolding listing
  listing_first r g =
      let long = length-take-le n ls h in
      let among = first_cong _ _ n r (λ m l. ap (λ (y : Listed). same_node x y.id) (sym (get_or-take n ls m no_listed l))) g in
      rw long at (first_given_at (λ (l : Listed). same_node x l.id) (λ l. l.body) no_listed (take n ls) r (rw long among))

  -- it is listed there
  pub listing_found : p < n → listing (take n ls) x ≡ Some (get_or ls p no_listed).body
  listing_found l = listing_first p (first_here _ n p f.passed l (f.hit (omega arith))) ∙ rw (lt-ltb p n l, get_or-take n ls p no_listed l)

  -- it is not
  pub listing_missing : n ≤ p → listing (take n ls) x ≡ None
  listing_missing l = listing_first n (first_end _ n p f.passed l) ∙ rw (le-ltb n n (omega arith))

-- ## When a listed node is placed at its turn

module _ (s : Forest) (b : Batch) (i : ℕ) where
  -- an old node
  pub due_old : old s b (here s b (listed_at b i).id) ≡ true → due_of s b i ≡ 0
  unfolding due_of placed_at_turn
  due_old e = rw e

  -- the root
  pub due_root : is_root s b (here s b (listed_at b i).id) ≡ true → due_of s b i ≡ 0
  unfolding due_of placed_at_turn
  due_root e = rw (or_right (old s b (here s b (listed_at b i).id)) e)

  -- any other
  pub due_named : {p : ℕ} → old s b (here s b (listed_at b i).id) ≡ false → is_root s b (here s b (listed_at b i).id) ≡ false
      → p ≡ position same_node (named_ids b.nodes) (listed_at b i).id → p + 1 ≡ due_of s b i
  unfolding due_of placed_at_turn
  due_named e r q = rw (e, r, add-one, q)

  -- after j children
  pub due_reached : (j : ℕ) → j ≤ length (named_ids b.nodes)
      → leb (due_of s b i) j ≡ (placed_at_turn s b (listed_at b i).id || has same_node (take j (named_ids b.nodes)) (listed_at b i).id)
  unfolding due_of
  due_reached j h = go (placed_at_turn s b (listed_at b i).id)
    where
      go : (t : Bool) → leb (if t then 0 else suc (position same_node (named_ids b.nodes) (listed_at b i).id)) j
          ≡ (t || has same_node (take j (named_ids b.nodes)) (listed_at b i).id)
      go true = le-leb 0 j (omega arith)
      go false = sym (has_before same_node (listed_at b i).id (named_ids b.nodes) j h)

  -- once it is named by child j
  pub due_place : (j : ℕ) → due_of s b i ≡ j + 1
      → (placed_at_turn s b (listed_at b i).id ≡ false) × (position same_node (named_ids b.nodes) (listed_at b i).id ≡ j)
  unfolding due_of
  due_place j e = go (placed_at_turn s b (listed_at b i).id) e
    where
      go : (t : Bool) → (if t then 0 else suc (position same_node (named_ids b.nodes) (listed_at b i).id)) ≡ j + 1
          → (t ≡ false) × (position same_node (named_ids b.nodes) (listed_at b i).id ≡ j)
      go true e = absurd (omega arith)
      go false e = (refl, omega arith)

  pub due_is : (j : ℕ) → placed_at_turn s b (listed_at b i).id ≡ false → position same_node (named_ids b.nodes) (listed_at b i).id ≡ j → due_of s b i ≡ j + 1
  unfolding due_of
  due_is j e p = rw (e, p, add-one)

  -- at the latest after all
  pub due_low : due_of s b i ≤ length (named_ids b.nodes) + 1
  unfolding due_of
  due_low = go (placed_at_turn s b (listed_at b i).id)
    where
      go : (t : Bool) → (if t then 0 else suc (position same_node (named_ids b.nodes) (listed_at b i).id)) ≤ length (named_ids b.nodes) + 1
      go true = omega arith
      go false = omega (arith, (position_first same_node (listed_at b i).id no_node (named_ids b.nodes)).within)

-- as far as another number that is the same
pub first_count : (f : ℕ → Bool) (m n r : ℕ) → m ≡ n → First f m r → First f n r
first_count f m n r e h = rw e at h

-- the mark of a child, by its place among all
naming_is : (s : Forest) (b : Batch) (j : ℕ) → j < length (named_ids b.nodes)
    → naming_mark s b (here s b (get_or (named_ids b.nodes) j no_node)) ≡ suc (position same_node (named_ids b.nodes) (get_or (named_ids b.nodes) j no_node))
unfolding naming_mark here ◌and◌
naming_is s b j h =
    let c = get_or (named_ids b.nodes) j no_node in
    rw (here_mine s b c, has_at same_node (named_ids b.nodes) c no_node j h (same_node_refl c))

module _ {state bytes : List ℕ} {c : Scope} {notes : List ℕ} (told : Told READ state bytes c notes) where
  -- ## Listed nodes

  -- its number
  listed_word_lem : (i : ℕ) → i < c.listed → get_or notes (LISTED + i) 0 ≡ (listed_at (asked bytes c) i).id.0
  unfolding listed_word
  listed_word_lem i h = told.written 0 (omega arith) i h

  -- where its children end
  pub end_word_lem : (i : ℕ) → i < c.listed → get_or notes (ENDS + i) 0 ≡ entries_before (asked bytes c) (i + 1)
  unfolding end_word
  end_word_lem i h = told.written 2 (omega arith) i h

  -- whether it is old
  old_listed : (i n : ℕ) → i < c.listed → n ≡ slots_of state
      → ltb (get_or notes (LISTED_SLOTS + i) 0) n ≡ old (forest state) (asked bytes c) (here (forest state) (asked bytes c) (listed_at (asked bytes c) i).id)
  unfolding listed_slot
  old_listed i n h e =
      ap₂ ltb (told.written 3 (omega arith) i h) (e ∙ sym (forest_length state))
      ∙ sym (slot_old (forest state) (here (forest state) (asked bytes c) (listed_at (asked bytes c) i).id) (asked bytes c))

  module _ (i n : ℕ) (h : i < c.listed) (e : n ≡ slots_of state) where
    pub listed_old : get_or notes (LISTED_SLOTS + i) 0 < n
        → old (forest state) (asked bytes c) (here (forest state) (asked bytes c) (listed_at (asked bytes c) i).id) ≡ true
    listed_old l = sym (old_listed i n h e) ∙ lt-ltb _ n l

    pub listed_new : n ≤ get_or notes (LISTED_SLOTS + i) 0
        → old (forest state) (asked bytes c) (here (forest state) (asked bytes c) (listed_at (asked bytes c) i).id) ≡ false
    listed_new l = sym (old_listed i n h e) ∙ le-ltb _ n l

  -- whether it is the root
  pub root_listed : {i : ℕ} {r v : Bool} → i < c.listed → r ≡ same_option same_id (root_in c) (Some (record { tree = c.tree; node = record { 0 = get_or notes (LISTED + i) 0 } }))
      → r ≡ v → is_root (forest state) (asked bytes c) (here (forest state) (asked bytes c) (listed_at (asked bytes c) i).id) ≡ v
  unfolding is_root here
  root_listed {i} h e f =
      ap₂ (λ r (x : FullNodeId). same_option same_id r (Some x)) (sym told.given.scoped.root)
      (ap₂ (λ t w. record { tree = t; node = record { 0 = w } }) (sym told.given.scoped.tree) (sym (listed_word_lem i h))) ∙ sym e ∙ f

  -- whether it claims a tree
  pub claim_listed : (i : ℕ) → i < c.listed → eqb (get_or notes (CLAIMS + i) 0) 1 ≡ is_some (claim (forest state) (asked bytes c) (listed_at (asked bytes c) i))
  unfolding claim_word
  claim_listed i h =
      ap (λ w. eqb w 1) (told.written 7 (omega arith) i h) ∙ bit_is (is_some (claim (forest state) (asked bytes c) (listed_at (asked bytes c) i)))

  -- a search among them
  listed_search : (x p : ℕ) → PositionIn notes LISTED c.listed x p
      → First (λ m. same_node (record { 0 = x }) (listed_at (asked bytes c) m).id) (length (asked bytes c).nodes) p
  listed_search x p f =
      first_count _ c.listed (length (asked bytes c).nodes) p told.given.scoped.listed
      (searched (λ m. get_or notes (LISTED + m) 0) (λ m. (listed_at (asked bytes c) m).id) c.listed x p listed_word_lem f)

  -- ## Named children

  -- a child's number
  pub named_word_lem : (j : ℕ) → j < c.named → get_or notes (NAMED + j) 0 ≡ (get_or (named_ids (asked bytes c).nodes) j no_node).0
  unfolding named_word
  named_word_lem j h = told.written 1 (omega arith) j h

  -- its id
  pub child_here : {j : ℕ} → j < c.named
      → record { tree = c.tree; node = record { 0 = get_or notes (NAMED + j) 0 } } ≡ here (forest state) (asked bytes c) (get_or (named_ids (asked bytes c).nodes) j no_node)
  unfolding here
  child_here {j} h = ap₂ (λ t w. record { tree = t; node = record { 0 = w } }) told.given.scoped.tree (named_word_lem j h)

  -- whether it is old
  old_named : (j n : ℕ) → j < c.named → n ≡ slots_of state
      → ltb (get_or notes (NAMED_SLOTS + j) 0) n
      ≡ old (forest state) (asked bytes c) (here (forest state) (asked bytes c) (get_or (named_ids (asked bytes c).nodes) j no_node))
  unfolding named_slot
  old_named j n h e =
      ap₂ ltb (told.written 4 (omega arith) j h) (e ∙ sym (forest_length state))
      ∙ sym (slot_old (forest state) (here (forest state) (asked bytes c) (get_or (named_ids (asked bytes c).nodes) j no_node)) (asked bytes c))

  module _ (j n : ℕ) (h : j < c.named) (e : n ≡ slots_of state) where
    pub named_old : get_or notes (NAMED_SLOTS + j) 0 < n
        → old (forest state) (asked bytes c) (here (forest state) (asked bytes c) (get_or (named_ids (asked bytes c).nodes) j no_node)) ≡ true
    named_old l = sym (old_named j n h e) ∙ lt-ltb _ n l

    pub named_new : n ≤ get_or notes (NAMED_SLOTS + j) 0
        → old (forest state) (asked bytes c) (here (forest state) (asked bytes c) (get_or (named_ids (asked bytes c).nodes) j no_node)) ≡ false
    named_new l = sym (old_named j n h e) ∙ le-ltb _ n l

  -- whether one that is old was named before
  pub named_mark : (j : ℕ) → j < c.named → get_or notes (NAMED_SLOTS + j) 0 < slots_of state
      → leb (get_or notes (NAMINGS + get_or notes (NAMED_SLOTS + j) 0) 0) j
      ≡ has same_node (take j (named_ids (asked bytes c).nodes)) (get_or (named_ids (asked bytes c).nodes) j no_node)
  unfolding named_slot naming_word
  named_mark j h l =
      let s = forest state in
      let b = asked bytes c in
      let all = named_ids b.nodes in
      let x = here s b (get_or all j no_node) in
      let few : j < length all = omega (arith, told.given.scoped.named) in
      let slot : get_or notes (NAMED_SLOTS + j) 0 ≡ slot_at s x = told.written 4 (omega arith) j h in
      let node : id_at s (get_or notes (NAMED_SLOTS + j) 0) ≡ x = ap (id_at s) slot ∙ slot_id s x (omega (arith, forest_length state)) in
      ap (λ m. leb m j) (told.written 6 (omega arith) (get_or notes (NAMED_SLOTS + j) 0) l ∙ ap (naming_mark s b) node ∙ naming_is s b j few)
      ∙ sym (has_before same_node (get_or all j no_node) all j (omega arith))

  -- a search for one among the listed nodes
  pub child_search : (j p : ℕ) → j < c.named → PositionIn notes LISTED c.listed (get_or notes (NAMED + j) 0) p
      → First (λ m. same_node (get_or (named_ids (asked bytes c).nodes) j no_node) (listed_at (asked bytes c) m).id) (length (asked bytes c).nodes) p
  child_search j p h f =
      let same : ◌≡◌ {A = NodeId} (record { 0 = get_or notes (NAMED + j) 0 }) (get_or (named_ids (asked bytes c).nodes) j no_node) =
      ap (λ w. record { 0 = w }) (named_word_lem j h) in
      rw same at (listed_search (get_or notes (NAMED + j) 0) p f)

  -- a search for listed node i among all
  pub named_place : (i p : ℕ) → i < c.listed → PositionIn notes NAMED c.named (get_or notes (LISTED + i) 0) p
      → p ≡ position same_node (named_ids (asked bytes c).nodes) (listed_at (asked bytes c) i).id
  named_place i p h f =
      let all = named_ids (asked bytes c).nodes in
      let same : ◌≡◌ {A = NodeId} (record { 0 = get_or notes (LISTED + i) 0 }) (listed_at (asked bytes c) i).id = ap (λ w. record { 0 = w }) (listed_word_lem i h) in
      first_unique (λ m. same_node (listed_at (asked bytes c) i).id (get_or all m no_node)) (length all) p (position same_node all (listed_at (asked bytes c) i).id)
      (rw same at (first_count _ c.named (length all) p told.given.scoped.named
      (searched (λ m. get_or notes (NAMED + m) 0) (λ m. get_or all m no_node) c.named (get_or notes (LISTED + i) 0) p named_word_lem f)))
      (position_first same_node (listed_at (asked bytes c) i).id no_node all)

  -- a search among the first j
  pub named_search : (j x p : ℕ) → j ≤ c.named → PositionIn notes NAMED j x p → ltb p j ≡ has same_node (take j (named_ids (asked bytes c).nodes)) (record { 0 = x })
  named_search j x p h f =
      let all = named_ids (asked bytes c).nodes in
      search_has same_node (record { 0 = x }) all no_node j p (omega (arith, told.given.scoped.named))
      (searched (λ m. get_or notes (NAMED + m) 0) (λ m. get_or all m no_node) j x p (λ m l. named_word_lem m (omega arith)) f)
