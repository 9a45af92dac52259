-- Laws of the pass: every listed node that has a place is placed, and a pass without number places no node that claims ROOT.
-- Assumes nothing.
use Rattle.record.proofs.Batch.{named_append}
use mathlib.Core.Bool.{Bool, true, false, not, ◌||◌, true≢false, false≢true}
use mathlib.Core.List.Memᴰ
use mathlib.Core.List.{List, [], ◌∷◌, ◌++◌, append_assoc, Memᴰ}
use mathlib.Core.Path.{◌≡◌, refl, sym, ap, ◌∙◌, subst}
use Prim.Native.Nat.{ℕ}
use native.Mathlib.Omega.{arith}
use lib.Seq.{append_snoc}
use Rattle.std.specs.Prelude.{if◌then◌else◌, Option, None, Some}
use Rattle.base.specs.Tests.{◌and◌, is_some, is_nil, any, has, distinct, position, given}
use Rattle.base.specs.Tables.{row, found}
use Rattle.base.proofs.Tests.{both, not_true, or_false, one_of}
use Rattle.base.proofs.Tables.{first_zero, first_found_zero}
use Rattle.base.proofs.Lists.{has_given, first_given_append, first_given_some, has_map, any_append, any_member}
use Rattle.ids.specs.Ids.{ROOT, same_tree, same_node}
use Rattle.ids.proofs.Ids.{same_tree_refl, same_node→≡, same_node_refl, same_index_refl}
use Rattle.ids.specs.declared.TreeId.{TreeId}
use Rattle.ids.specs.declared.NodeId.{NodeId}
use Rattle.record.specs.Batch.{NodeData, graft?, Listed, Batch, listed_ids, named_ids}
use Rattle.state.specs.State.{Forest}
use Rattle.update.specs.Words.{listing, tree_number, here, mine, naming, named, claim}
use Rattle.update.specs.Pass.{Event, names, places, placed_at_turn, namings, events, fault, pass}
use Rattle.update.specs.Numbers.{placeless}

-- ## Listed and named

-- two lists in a row: the first list's answer, else the second's
listing_append : (xs ys : List Listed) (n : NodeId) → listing (xs ++ ys) n ≡ (elim (listing xs n) as (λ _. Option NodeData) [ None ↦ listing ys n | Some d ↦ Some d ])
unfolding listing
listing_append xs ys n = first_given_append (λ l. if same_node n l.id then Some l.body else None) xs ys

-- one more node: its data, if it is the one
listing_snoc : (xs : List Listed) (l : Listed) (n : NodeId) (c : Bool) → listing xs n ≡ None → same_node n l.id ≡ c
    → listing (xs ++ l ∷ []) n ≡ (if c then Some l.body else None)
unfolding listing
listing_snoc xs l n c e q = rw (listing_append xs (l ∷ []) n, e) (ap (λ (t : Bool). data_if t) q ∙ go c)
  where
    data_if : Bool → Option NodeData
    data_if t = let o : Option NodeData = if t then Some l.body else None in elim o [ None ↦ None | Some d ↦ Some d ]

    go : (t : Bool) → data_if t ≡ (if t then Some l.body else None)
    go true = refl
    go false = refl

-- the children named by a list, told at one of its nodes
named_ids_split : (xs : List Listed) (l : Listed) (ls : List Listed) (n : NodeId)
    → has same_node (named_ids (xs ++ l ∷ ls)) n ≡ (has same_node (named_ids xs ++ l.body.children) n || has same_node (named_ids ls) n)
unfolding named_ids
named_ids_split xs l ls n =
    ap (λ (ns : List NodeId). has same_node ns n) (named_append xs (l ∷ ls) ∙ sym (append_assoc (named_ids xs) l.body.children (named_ids ls)))
    ∙ any_append (same_node n) (named_ids xs ++ l.body.children) (named_ids ls)

-- a node is named where it is among the children of a listed node
any_named : (ls : List Listed) (n : NodeId) → any (λ l. has same_node l.body.children n) ls ≡ has same_node (named_ids ls) n
unfolding named_ids
any_named [] n = refl
any_named (l ∷ ls) n =
    ap (λ (c : Bool). has same_node l.body.children n || c) (any_named ls n) ∙ sym (any_append (same_node n) l.body.children (named_ids ls))

-- and that says the same of a node of the batch
pub named_has : (s : Forest) (b : Batch) (n : NodeId) → named s b (here s b n) ≡ has same_node (named_ids b.nodes) n
unfolding named naming mine here
named_has s b n =
    rw (same_index_refl (tree_number s b))
    (first_given_some (λ l. has same_node l.body.children n) (λ l. record { parent = here s b l.id; index = position same_node l.body.children n }) b.nodes ∙ any_named b.nodes n)

module _ (s : Forest) (b : Batch) where
  -- ## Rows 9 to 12

  -- what a pass without number says at a child that is named
  names_zero : (seen : List NodeId) (claimed : List TreeId) (c : NodeId) (es : List Event) → fault s b seen claimed (names c ∷ es) ≡ 0
      → fault s b (c ∷ seen) claimed es ≡ 0
  unfolding fault
  names_zero seen claimed c es e =
      let rest = fault s b (c ∷ seen) claimed es in
      (first_found_zero rest [] (first_zero (row 9 (has same_node seen c)) (found rest ∷ []) (λ z t. omega arith) e).1).0

  -- and at a node that is placed: it does not claim ROOT
  places_zero : (seen : List NodeId) (claimed : List TreeId) (l : Listed) (es : List Event) → fault s b seen claimed (places l ∷ es) ≡ 0
      → (has same_tree (given (claim s b) (l ∷ [])) ROOT ≡ false) × (fault s b seen (given (claim s b) (l ∷ []) ++ claimed) es ≡ 0)
  unfolding fault
  places_zero seen claimed l es e =
      let new = given (claim s b) (l ∷ []) in
      let rest = fault s b seen (new ++ claimed) es in
      let twelve = row 12 (any (has same_tree claimed) new) in
      let eleven = row 11 (has same_tree new ROOT) in
      let ten = row 10 (is_some (graft? l.body) and not (is_nil l.body.children)) in
      let after-ten = first_zero ten (eleven ∷ twelve ∷ found rest ∷ []) (λ z t. omega arith) e in
      let after-eleven = first_zero eleven (twelve ∷ found rest ∷ []) (λ z t. omega arith) after-ten.1 in
      let after-twelve = first_zero twelve (found rest ∷ []) (λ z t. omega arith) after-eleven.1 in
      (after-eleven.0, (first_found_zero rest [] after-twelve.1).0)

  -- so no node that is placed claims ROOT
  fault_root : (seen : List NodeId) (claimed : List TreeId) (es : List Event) (l : Listed) → fault s b seen claimed es ≡ 0 → Memᴰ (places l) es
      → claim s b l ≡ Some ROOT → ⊥
  fault_root seen claimed [] l e x3 r = elim x3 [ ]
  fault_root seen claimed (names c ∷ es) l e (Memᴰ.head q) r = let z : ◌≡◌ {A = ℕ} 0 1 = cc in omega arith
  fault_root seen claimed (names c ∷ es) l e (Memᴰ.tail i) r = fault_root (c ∷ seen) claimed es l (names_zero seen claimed c es e) i r
  fault_root seen claimed (places k ∷ es) l e (Memᴰ.head q) r =
      let p : l ≡ k = cc in
      true≢false
      (sym (has_given same_tree same_tree_refl (claim s b) (k ∷ []) k ROOT (Memᴰ.head refl) (ap (claim s b) (sym p) ∙ r))
      ∙ (places_zero seen claimed k es e).0)
  fault_root seen claimed (places k ∷ es) l e (Memᴰ.tail i) r =
      fault_root seen (given (claim s b) (k ∷ []) ++ claimed) es l (places_zero seen claimed k es e).1 i r

  -- ## The turn of a node

  -- what happens to the node itself
  abbrev own : List Listed → Listed → List Event
  own earlier k = if placed_at_turn s b k.id || has same_node (named_ids earlier ++ k.body.children) k.id then places k ∷ [] else []

  module _ (earlier : List Listed) (k : Listed) (ls : List Listed) (v : Event) where
    -- an event at one of its children happens
    events_children : Memᴰ v (namings s b earlier k.body.children) → Memᴰ v (events s b earlier (k ∷ ls))
    unfolding events
    events_children i = Memᴰ.append_left (events s b (earlier ++ k ∷ []) ls) (Memᴰ.append_left (own earlier k) i)

    -- an event of its own
    events_own : Memᴰ v (own earlier k) → Memᴰ v (events s b earlier (k ∷ ls))
    unfolding events
    events_own i = Memᴰ.append_left (events s b (earlier ++ k ∷ []) ls) (Memᴰ.append_right (namings s b earlier k.body.children) i)

    -- an event of a later node
    events_later : Memᴰ v (events s b (earlier ++ k ∷ []) ls) → Memᴰ v (events s b earlier (k ∷ ls))
    unfolding events
    events_later i = Memᴰ.append_right (namings s b earlier k.body.children ++ own earlier k) i

  -- ## A node that waits

  -- what happens at later children happens
  namings_rest : (earlier : List Listed) (c : NodeId) (cs : List NodeId) (v : Event) → Memᴰ v (namings s b earlier cs) → Memᴰ v (namings s b earlier (c ∷ cs))
  unfolding namings
  namings_rest earlier c cs v i = Memᴰ.tail (on (listing earlier c))
    where
      turn : (d : NodeData) (t : Bool) → Memᴰ v (if t then namings s b earlier cs else places (record { id = c; body = d }) ∷ namings s b earlier cs)
      turn d true = i
      turn d false = Memᴰ.tail i

      on : (o : Option NodeData)
          → Memᴰ v (elim o as (λ _. List Event) [
            | None ↦ namings s b earlier cs
            | Some d ↦ if placed_at_turn s b c then namings s b earlier cs else places (record { id = c; body = d }) ∷ namings s b earlier cs
          ])
      on None = i
      on (Some d) = turn d (placed_at_turn s b c)

  module _ (l : Listed) (waits : placed_at_turn s b l.id ≡ false) where
    -- a node that was listed and waits is placed when it is named
    namings_place : (earlier : List Listed) (cs : List NodeId) → listing earlier l.id ≡ Some l.body → has same_node cs l.id ≡ true
        → Memᴰ (places l) (namings s b earlier cs)
    unfolding namings
    namings_place earlier [] e f = absurd (false≢true f)
    namings_place earlier (c ∷ cs) e f = go (same_node l.id c) refl f (namings_place earlier cs e)
      where
        go : (t : Bool) → same_node l.id c ≡ t → (t || has same_node cs l.id) ≡ true
            → (has same_node cs l.id ≡ true → Memᴰ (places l) (namings s b earlier cs)) → Memᴰ (places l) (namings s b earlier (c ∷ cs))
        go true q g h =
            subst (λ (x : NodeId). Memᴰ (places l) (namings s b earlier (x ∷ cs))) (same_node→≡ l.id c q)
            (rw (e, waits) (Memᴰ.tail (Memᴰ.head refl)))
        go false q g h = namings_rest earlier c cs (places l) (h g)

    -- so it is when a later node names it
    events_named : (earlier ls : List Listed) → listing earlier l.id ≡ Some l.body → has same_node (named_ids ls) l.id ≡ true
        → Memᴰ (places l) (events s b earlier ls)
    unfolding events named_ids
    events_named earlier [] e f = absurd (false≢true f)
    events_named earlier (k ∷ ls) e f =
        go (has same_node k.body.children l.id) refl (sym (any_append (same_node l.id) k.body.children (named_ids ls)) ∙ f)
        (events_named (earlier ++ k ∷ []) ls (rw (listing_append earlier (k ∷ []) l.id, e) refl))
      where
        go : (t : Bool) → has same_node k.body.children l.id ≡ t → (t || has same_node (named_ids ls) l.id) ≡ true
            → (has same_node (named_ids ls) l.id ≡ true → Memᴰ (places l) (events s b (earlier ++ k ∷ []) ls))
            → Memᴰ (places l) (events s b earlier (k ∷ ls))
        go true q g h = events_children earlier k ls (places l) (namings_place earlier k.body.children e q)
        go false q g h = events_later earlier k ls (places l) (h g)

  -- ## Every node that has a place

  -- a listed node that has a place is placed at its turn, or later when it is named
  events_turn : (earlier : List Listed) (l : Listed) (ls : List Listed) → listing earlier l.id ≡ None
      → (placed_at_turn s b l.id || has same_node (named_ids (earlier ++ l ∷ ls)) l.id) ≡ true → Memᴰ (places l) (events s b earlier (l ∷ ls))
  unfolding listing
  events_turn earlier l ls e f = go (placed_at_turn s b l.id || has same_node (named_ids earlier ++ l.body.children) l.id) refl
    where
      go : (c : Bool) → (placed_at_turn s b l.id || has same_node (named_ids earlier ++ l.body.children) l.id) ≡ c → Memᴰ (places l) (events s b earlier (l ∷ ls))
      go true q = events_own earlier l ls (places l) (rw q (Memᴰ.head refl))
      go false q =
          let waits = or_false (placed_at_turn s b l.id) q in
          let listed : listing (earlier ++ l ∷ []) l.id ≡ Some l.body = listing_snoc earlier l l.id true e (same_node_refl l.id) in
          let named-later : has same_node (named_ids ls) l.id ≡ true = rw (waits.0, named_ids_split earlier l ls l.id, waits.1) at f in
          events_later earlier l ls (places l) (events_named l waits.0 (earlier ++ l ∷ []) ls listed named-later)

  -- so is every listed node, where none is listed twice
  pub events_place : (earlier ls : List Listed) (l : Listed) → Memᴰ l ls → distinct same_node (listed_ids ls) ≡ true → listing earlier l.id ≡ None
      → (placed_at_turn s b l.id || has same_node (named_ids (earlier ++ ls)) l.id) ≡ true → Memᴰ (places l) (events s b earlier ls)
  unfolding listed_ids listing
  events_place earlier [] l x4 d e f = elim x4 [ ]
  events_place earlier (k ∷ ls) l (Memᴰ.head q) d e f = rw q (events_turn earlier k ls (rw q at e) (rw q at f))
  events_place earlier (k ∷ ls) l (Memᴰ.tail i) d e f =
      events_later earlier k ls (places l)
      (events_place (earlier ++ k ∷ []) ls l i (both d).1 (listing_snoc earlier k l.id false e (apart (same_node l.id k.id) refl)) (rw (append_snoc earlier k ls) f))
    where
      apart : (c : Bool) → same_node l.id k.id ≡ c → c ≡ false
      apart true q =
          sym (has_map same_node same_node_refl (λ x. x.id) ls l i)
          ∙ ap (has same_node (listed_ids ls)) (same_node→≡ l.id k.id q)
          ∙ not_true (both d).0
      apart false q = refl

  -- after the rows 5 and 9 to 13 no listed node claims ROOT
  pub none_claims_root : distinct same_node (listed_ids b.nodes) ≡ true → pass s b ≡ 0 → any (placeless s b) b.nodes ≡ false
      → (l : Listed) → Memᴰ l b.nodes → claim s b l ≡ Some ROOT → ⊥
  unfolding pass placeless listing
  none_claims_root d e f l i = fault_root [] [] (events s b [] b.nodes) l e (events_place [] b.nodes l i d refl has_place)
    where
      has_place : (placed_at_turn s b l.id || has same_node (named_ids b.nodes) l.id) ≡ true
      has_place =
          ap (λ (c : Bool). placed_at_turn s b l.id || c) (sym (named_has s b l.id))
          ∙ one_of (placed_at_turn s b l.id) (named s b (here s b l.id)) (any_member (placeless s b) b.nodes l f i)
