-- Laws of what the pass meets: at a child that is named, and at a node that is placed. Assumes nothing.
use mathlib.Core.Bool.{Bool, true, false, not, ◌||◌, false≢true, true≢false}
use mathlib.Core.List.{List, [], ◌∷◌}
use Rattle.std.proofs.lemmas.Option.{none-some}
use mathlib.Core.Path.{◌≡◌, refl, sym, ap, ◌∙◌, ap₂}
use Prim.Native.Nat.{ℕ, zero, suc, ◌+◌, ◌≤◌, ◌<◌}
use native.Mathlib.Numerals.{add-one}
use native.Mathlib.Omega.{arith}
use lib.Dec.{eqb, ltb}
use lib.ListN.{length, get_or, take, set}
use lib.Seq.{take-suc, get_or-set_same, get_or-set_other}
use borrow.Author.Tests.{eqb-true, eqb-false, lt-ltb, eq-eqb, ne_eqb}
use Rattle.std.specs.Prelude.{if◌then◌else◌, None, Some, option_map}
use Rattle.base.specs.Tests.{◌and◌, is_some, same_option, has, is_nil}
use Rattle.base.proofs.Tests.{and_false}
use Rattle.base.proofs.Lists.{any_append, none_of}
use Rattle.base.specs.Search.{First}
use Rattle.base.proofs.Search.{first_here, first_end}
use Rattle.base.proofs.Cases.{by_test}
use Rattle.ids.specs.Ids.{same_tree, same_node, ROOT}
use Rattle.ids.proofs.Ids.{same_tree→≡}
use Rattle.ids.specs.declared.TreeId.{TreeId}
use Rattle.ids.specs.declared.NodeId.{NodeId}
use Rattle.record.specs.Batch.{graft?, has_graft, Listed, Batch, NodeData}
use Rattle.record_reader.specs.Reader.{no_node, listed_at}
use Rattle.record.specs.Parse.{batch_of}
use Rattle.state.specs.State.{Forest, graft_at}
use Rattle.update.specs.Words.{here, claim}
use Rattle.update.specs.Pass.{places}
use Rattle.reasons.specs.Reasons.{Reason}
use Rattle.reasons_calls.specs.Pass as reasons
use Rattle.reasons_calls.specs.Pass.{claimer_among}
use Rattle.reasons_calls.proofs.Steps.{crowded, claimer_last, claimer_before, places_stops, places_goes, placing_crowded, placing_claimless, placing_root, placing_claimed, placing_claim}
use Rattle.calls.specs.Layout.{CLAIMS}
use Rattle.calls.specs.declared.notes.Scope.{Scope}
use Rattle.calls.specs.Setting.{asked, forest}
use Rattle.calls.specs.Says.{Told, READ}
use Rattle.calls.specs.declared.pass.Cause.{Cause}
use Rattle.calls.specs.declared.pass.Cause.TheVariants.{GraftOverChildren, GraftOfRoot, ClaimedTwice}
use Rattle.calls.specs.Causes.{cause_reason, Within}
use Rattle.calls.specs.Steps.{seen, is_taken, placing, Claimed, GoesOn, PlacedIs}
use mathlib.Core.Bool as bool
use Rattle.calls.proofs.notes.Setting.{batched_at}
use Rattle.calls.proofs.notes.Told.{batched}
use Rattle.calls.proofs.pass.Read.{claim_listed}

-- ## A child that is named

-- one child more
pub seen_more : (cs : List NodeId) (j : ℕ) → seen cs (j + 1) ≡ get_or cs j no_node ∷ seen cs j
unfolding seen
seen_more cs j = rw add-one

-- the first j children, in their order
pub seen_has : (cs : List NodeId) (j : ℕ) (x : NodeId) → j ≤ length cs → has same_node (seen cs j) x ≡ has same_node (take j cs) x
unfolding seen
seen_has cs zero x h = refl
seen_has cs (suc j) x h =
    rw (seen_has cs j x (omega arith), take-suc cs j no_node (omega arith), any_append (same_node x) (take j cs) (get_or cs j no_node ∷ []))
    (last (same_node x (get_or cs j no_node)) (has same_node (take j cs) x))
  where
    last : (a c : Bool) → (a || c) ≡ (c || (a || false))
    last true true = refl
    last true false = refl
    last false true = refl
    last false false = refl

-- ## The placing of a node

module _ (b : Batch) (i : ℕ) where
  -- of a listed node
  pub placing_here : i < length b.nodes → placing b i ≡ places (listed_at b i) ∷ []
  unfolding placing
  placing_here h = rw (lt-ltb i (length b.nodes) h)

-- ## The trees that are claimed

-- a claim is the node's graft
pub claim_given : (s : Forest) (b : Batch) (l : Listed) → is_some (claim s b l) ≡ true → claim s b l ≡ Some l.body.graft
unfolding claim graft?
claim_given s b l e = go (same_option same_tree (graft? l.body) (graft_at s.nodes (here s b l.id))) (has_graft l.body) e
  where
    go : (c d : Bool) → is_some (if c then None else (if d then Some l.body.graft else None)) ≡ true
        → (if c then None else (if d then Some l.body.graft else None)) ≡ Some l.body.graft
    go true d e = absurd (false≢true e)
    go false true e = refl
    go false false e = absurd (false≢true e)

-- ## Another node is done

module _ (b : Batch) (notes done : List ℕ) (i : ℕ) (t : TreeId) where
  -- whether node m claims a tree, and t is its graft
  abbrev claims : ℕ → Bool
  claims m = eqb (get_or notes (CLAIMS + m) 0) 1

  abbrev same : ℕ → Bool
  same m = same_tree (listed_at b m).body.graft t

  -- it is the one, and claims its graft
  taken_self : i < length done → claims i ≡ true → is_taken b notes (set done i 1) t i ≡ same i
  unfolding is_taken ◌and◌
  taken_self k e = rw (get_or-set_same done i 1 0 k, e)

  -- it is another
  taken_other : (m : ℕ) → (m ≡ i → ⊥) → is_taken b notes (set done i 1) t m ≡ is_taken b notes done t m
  unfolding is_taken
  taken_other m n = rw (get_or-set_other done i m 1 0 n)

  -- a node that claims nothing, or another tree
  taken_claimless : (marks : List ℕ) (m : ℕ) → claims m ≡ false → is_taken b notes marks t m ≡ false
  unfolding is_taken ◌and◌
  taken_claimless marks m e = rw (e, and_false (eqb (get_or marks m 0) 1))

  taken_apart : (marks : List ℕ) (m : ℕ) → same m ≡ false → is_taken b notes marks t m ≡ false
  unfolding is_taken
  taken_apart marks m e = rw (e, and_false (eqb (get_or marks m 0) 1 and claims m))

-- the node that claims a tree among those placed, once listed node i is done
module _ {s : Forest} {b : Batch} {notes done : List ℕ} {placed : List Listed} (before : Claimed s b notes done placed) (i : ℕ) where
  -- it claims nothing, or is none
  claimed_still : (after : List Listed) → ((m : ℕ) → m < length b.nodes → m ≡ i → eqb (get_or notes (CLAIMS + m) 0) 1 ≡ false)
      → ((t : TreeId) → claimer_among s b after t ≡ claimer_among s b placed t) → Claimed s b notes (set done i 1) after
  claimed_still after none_here same = record {
    free = λ t f. same t ∙ before.free t (λ m l. sym (kept t m l) ∙ f m l);
    held = λ t m l e. same t ∙ before.held t m l (sym (kept t m l) ∙ e);
  }
    where
      kept : (t : TreeId) (m : ℕ) → m < length b.nodes → is_taken b notes (set done i 1) t m ≡ is_taken b notes done t m
      kept t m l =
          by_test (eqb m i)
          (λ q. let e = none_here m l (eqb-true m i q) in taken_claimless b notes done i t (set done i 1) m e ∙ sym (taken_claimless b notes done i t done m e))
          (λ q. taken_other b notes done i t m (eqb-false m i q))

  -- it is the first to claim a tree
  claimed_more : (t : TreeId) → i < length b.nodes → i < length done → eqb (get_or notes (CLAIMS + i) 0) 1 ≡ true → claim s b (listed_at b i) ≡ Some t
      → (listed_at b i).body.graft ≡ t → claimer_among s b placed t ≡ None → Claimed s b notes (set done i 1) (listed_at b i ∷ placed)
  claimed_more t h k e c g first = record { free = free; held = held }
    where
      self : (x : TreeId) → is_taken b notes (set done i 1) x i ≡ same_tree t x
      self x = taken_self b notes done i x k e ∙ ap (λ y. same_tree y x) g

      others : (x : TreeId) → same_tree t x ≡ false → claimer_among s b (listed_at b i ∷ placed) x ≡ claimer_among s b placed x
      others x q = claimer_before s b placed (listed_at b i) x (rw c q)

      free : (x : TreeId) → ((m : ℕ) → m < length b.nodes → is_taken b notes (set done i 1) x m ≡ false) → claimer_among s b (listed_at b i ∷ placed) x ≡ None
      free x f =
          let apart = sym (self x) ∙ f i h in
          others x apart ∙ before.free x (λ m l. by_test (eqb m i)
          (λ q. let n : m ≡ i = eqb-true m i q in taken_apart b notes done i x done m (rw (n, g) apart))
          (λ q. sym (taken_other b notes done i x m (eqb-false m i q)) ∙ f m l))

      held : (x : TreeId) (m : ℕ) → m < length b.nodes → is_taken b notes (set done i 1) x m ≡ true → claimer_among s b (listed_at b i ∷ placed) x ≡ Some (listed_at b m)
      held x m l v =
          by_test (eqb m i)
          (λ q. let n : m ≡ i = eqb-true m i q in
          claimer_last s b placed (listed_at b i) x (rw c (sym (self x) ∙ rw n at v)) ∙ ap (λ y. Some (listed_at b y)) (sym n))
          (λ q. let was = sym (taken_other b notes done i x m (eqb-false m i q)) ∙ v in
          by_test (same_tree t x)
          (λ y. absurd (none-some (listed_at b m) (sym first ∙ ap (claimer_among s b placed) (same_tree→≡ t x y) ∙ before.held x m l was)))
          (λ y. others x y ∙ before.held x m l was))

-- the search for it, as the code makes it
module _ {state bytes : List ℕ} {c : Scope} {notes : List ℕ} {i : ℕ} (told : Told READ state bytes c notes) (done : List ℕ) (t : TreeId)
    (none_passed : (m : ℕ) → m < i → is_taken (batch_of bytes) notes done t m ≡ false) where
  pub claimer_found : {r : Bool} → i < c.listed → r ≡ is_taken (batch_of bytes) notes done t i → r ≡ true → First (is_taken (asked bytes c) notes done t) c.listed i
  unfolding is_taken listed_at asked
  claimer_found h e q = first_here _ c.listed i none_passed h (sym e ∙ q)

  pub claimer_none : c.listed ≤ i → First (is_taken (asked bytes c) notes done t) c.listed c.listed
  unfolding is_taken listed_at asked
  claimer_none h = first_end _ c.listed i none_passed h

-- a graft node with children, as the code asks it
crowded_is : (d : NodeData) {g v : Bool} {n : ℕ} → g ≡ is_some (graft? d) → n ≡ length d.children → bool.◌&&◌ g (ltb 0 n) ≡ v → crowded d ≡ v
unfolding ◌and◌
crowded_is d g n e = sym (ap₂ bool.◌&&◌ g (ap (ltb 0) n ∙ some_length d.children)) ∙ e
  where
    some_length : (ns : List NodeId) → ltb 0 (length ns) ≡ not (is_nil ns)
    some_length [] = refl
    some_length (n ∷ ns) = lt-ltb 0 (suc (length ns)) (omega arith)

-- ## A node that is done and claims a tree

-- one of two marks is not there
pub untaken : (a c d : Bool) → (not a || not c) ≡ true → a and c and d ≡ false
unfolding ◌and◌
untaken true true d e = absurd (false≢true e)
untaken true false d e = refl
untaken false c d e = refl

-- both are, and the node's graft g is compared
pub taken : (a c : Bool) {g h : TreeId} (t : TreeId) {r : Bool} → (not a || not c) ≡ false → g ≡ h → r ≡ same_tree g t → r ≡ a and c and same_tree h t
unfolding ◌and◌
taken true true t e q s = s ∙ ap (λ x. same_tree x t) q
taken true false t e q s = absurd (true≢false e)
taken false c t e q s = absurd (true≢false e)

-- ## A node, and those placed before it

module _ {state bytes : List ℕ} {c : Scope} {notes : List ℕ} {i : ℕ} (told : Told READ state bytes c notes) where
  -- no row holds, and the pass goes on
  goes_on : (done : List ℕ)
      → ((placed : List Listed) → i < length done → Claimed (forest state) (asked bytes c) notes done placed → GoesOn (forest state) (asked bytes c) notes done i placed)
      → PlacedIs (forest state) (asked bytes c) notes done i None
  goes_on done f = record { within = tt; goes = λ _ k placed. f placed k; meets = λ met q. absurd (none-some met q) }

  -- a listed node, as the record says whether it is a graft node and how many children it has
  module _ (h : i < c.listed) {g : Bool} {n : ℕ} (grafts : g ≡ is_some (graft? (listed_at (batch_of bytes) i).body))
      (count : n ≡ length (listed_at (batch_of bytes) i).body.children) where
    is_here : i < length (asked bytes c).nodes
    is_here = omega (arith, told.given.scoped.listed)

    same_node_lem : listed_at (batch_of bytes) i ≡ listed_at (asked bytes c) i
    same_node_lem = batched_at bytes (asked bytes c) (batched state bytes c told.given) i

    crowded_at : {v : Bool} → bool.◌&&◌ g (ltb 0 n) ≡ v → crowded (listed_at (asked bytes c) i).body ≡ v
    crowded_at e = rw same_node_lem at (crowded_is (listed_at (batch_of bytes) i).body grafts count e)

    -- a row holds
    stops : {done : List ℕ} (r : Cause) (x : Reason) → Within (asked bytes c) r → cause_reason (forest state) (asked bytes c) r ≡ x
        → ((placed : List Listed) → Claimed (forest state) (asked bytes c) notes done placed → reasons.placing (forest state) (asked bytes c) placed (listed_at (asked bytes c) i) ≡ Some x)
        → PlacedIs (forest state) (asked bytes c) notes done i (Some r)
    stops r x inside is e = record {
      within = inside;
      goes = λ z. absurd (none-some r (sym z));
      meets = λ met q placed before seen es. rw (placing_here (asked bytes c) i is_here)
          (places_stops (forest state) (asked bytes c) seen placed es (listed_at (asked bytes c) i) x (e placed before) ∙ ap Some (sym is) ∙ ap (option_map (cause_reason (forest state) (asked bytes c))) q);
    }

    -- row 10
    pub placed_crowded : {done : List ℕ} → bool.◌&&◌ g (ltb 0 n) ≡ true → PlacedIs (forest state) (asked bytes c) notes done i (Some (GraftOverChildren i))
    unfolding Within cause_reason
    placed_crowded e =
        stops (GraftOverChildren i) _ is_here refl (λ placed before. placing_crowded (forest state) (asked bytes c) placed (listed_at (asked bytes c) i) (crowded_at e))

    module _ (few : bool.◌&&◌ g (ltb 0 n) ≡ false) where
      -- none does
      goes_here : {done : List ℕ}
          → ((placed : List Listed) → i < length done → Claimed (forest state) (asked bytes c) notes done placed
          → Claimed (forest state) (asked bytes c) notes (set done i 1) (listed_at (asked bytes c) i ∷ placed) × (reasons.placing (forest state) (asked bytes c) placed (listed_at (asked bytes c) i) ≡ None))
          → PlacedIs (forest state) (asked bytes c) notes done i None
      goes_here {done} f = goes_on done (λ placed k before. record {
        after = listed_at (asked bytes c) i ∷ placed;
        claimed_after = (f placed k before).0;
        left = λ seen es. rw (placing_here (asked bytes c) i is_here)
            (places_goes (forest state) (asked bytes c) seen placed es (listed_at (asked bytes c) i) (f placed k before).1);
      })

      -- a node without a claim
      pub placed_claimless : {done : List ℕ} → (get_or notes (CLAIMS + i) 0 ≡ 1 → ⊥) → PlacedIs (forest state) (asked bytes c) notes done i None
      placed_claimless e =
          let none-claimed = ne_eqb (get_or notes (CLAIMS + i) 0) 1 e in
          let l = listed_at (asked bytes c) i in
          let unclaimed = none_of (claim (forest state) (asked bytes c) l) (ap not (sym (claim_listed told i h) ∙ none-claimed)) in
          goes_here (λ placed k before. (
            claimed_still before i (l ∷ placed) (λ m n q. rw q none-claimed)
                (λ t. claimer_before (forest state) (asked bytes c) placed l t (rw unclaimed)),
            placing_claimless (forest state) (asked bytes c) placed l (crowded_at few) unclaimed,
          ))

      -- one that claims its graft t
      module _ (claims : get_or notes (CLAIMS + i) 0 ≡ 1) {t : TreeId} (graft : t ≡ (listed_at (batch_of bytes) i).body.graft) {r : Bool} (root : r ≡ same_tree t ROOT) where
        graft_at_lem : (listed_at (asked bytes c) i).body.graft ≡ t
        graft_at_lem = sym (rw same_node_lem at graft)

        claims_graft : claim (forest state) (asked bytes c) (listed_at (asked bytes c) i) ≡ Some t
        claims_graft =
            claim_given (forest state) (asked bytes c) (listed_at (asked bytes c) i) (sym (claim_listed told i h) ∙ eq-eqb _ _ claims) ∙ ap Some graft_at_lem

        -- row 11
        pub placed_root : {done : List ℕ} → r ≡ true → PlacedIs (forest state) (asked bytes c) notes done i (Some (GraftOfRoot i))
        unfolding Within cause_reason
        placed_root e =
            stops (GraftOfRoot i) _ is_here refl
            (λ placed before. placing_root (forest state) (asked bytes c) placed (listed_at (asked bytes c) i) (crowded_at few) claims_graft (sym root ∙ e))

        module _ (other : r ≡ false) {done : List ℕ} {m : ℕ} (search : First (is_taken (asked bytes c) notes done t) c.listed m) where
          -- row 12
          pub placed_claimed : m < c.listed → PlacedIs (forest state) (asked bytes c) notes done i (Some (ClaimedTwice i m))
          unfolding Within cause_reason
          placed_claimed e =
              let there : m < length (asked bytes c).nodes = omega (arith, told.given.scoped.listed) in
              stops (ClaimedTwice i m) _ (is_here, there) (rw graft_at_lem)
              (λ placed before. placing_claimed (forest state) (asked bytes c) placed (listed_at (asked bytes c) i) (crowded_at few) claims_graft (sym root ∙ other)
              (listed_at (asked bytes c) m) (before.held t m there (search.hit e)))

          -- a node that claims a tree first
          pub placed_claim : c.listed ≤ m → PlacedIs (forest state) (asked bytes c) notes done i None
          placed_claim e =
              goes_here (λ placed k before.
              let first = before.free t (λ j l. search.passed j (omega (arith, told.given.scoped.listed))) in (
                claimed_more before i t is_here k (eq-eqb _ _ claims) claims_graft graft_at_lem first,
                placing_claim (forest state) (asked bytes c) placed (listed_at (asked bytes c) i) (crowded_at few) claims_graft (sym root ∙ other) first,
              ))
