-- The reason of 12's clash says what is so: of two nodes of the outcome that graft one tree, one held it before and the other claims it.
-- Assumes nothing.
use mathlib.Core.Bool.{Bool, true, false, not, ◌||◌}
use mathlib.Core.List.Memᴰ
use mathlib.Core.List.{List, [], ◌∷◌, Memᴰ}
use mathlib.Core.Logic.{⊎_elim}
use Rattle.std.proofs.lemmas.Option.{none-some, same_Some}
use mathlib.Core.Path.{◌≡◌, refl, sym, ap, ◌∙◌, subst}
use Prim.Native.Nat.{ℕ}
use native.Mathlib.Omega.{arith}
use borrow.Author.Tests.{eqb-true}
use Rattle.std.specs.Prelude.{if◌then◌else◌, Option, None, Some}
use Rattle.base.specs.Tests.{◌and◌, is_some, is_nil, any, has, same_option, distinct, given}
use Rattle.base.specs.Bytes.{bit}
use Rattle.base.proofs.Cases.{by_test, by_option}
use Rattle.base.proofs.Tests.{both, clash, same_option→≡, one_of, or_false, and_false}
use Rattle.base.proofs.Lists.{some_from, has_given, any_member}
use Rattle.ids.specs.Ids.{ROOT, same_tree, same_node, same_id}
use Rattle.ids.proofs.Ids.{same_tree→≡, same_tree_refl, same_index→≡, same_id_refl, same_id_sym, before_apart}
use Rattle.ids.specs.declared.TreeId.{TreeId}
use Rattle.ids.specs.declared.NodeId.{NodeId}
use Rattle.ids.specs.declared.FullNodeId.{FullNodeId}
use Rattle.record.specs.Batch.{NodeData, graft?, same_data, Listed, Batch, listed_ids}
use Rattle.state.specs.State.{NodeState, Forest, find, graft_at}
use Rattle.state.specs.Sound.{grafts_differ, ascending}
use Rattle.state.proofs.State.{find_self}
use Rattle.state.proofs.Grafts.{graft_one}
use Rattle.update.specs.Words.{listing, tree_number, here, mine, listed, named, claim}
use Rattle.update.specs.Pass.{Event, names, places, placed_at_turn, events}
use Rattle.update.specs.Gone.{gone}
use Rattle.update.specs.Outcome.{renewed, relink, outcome}
use Rattle.update.specs.Numbers.{placeless}
use Rattle.update.proofs.Write.{merged, listing_some}
use Rattle.update.proofs.Outcome.{found_written, found_after, find_outcome, ascending_outcome}
use Rattle.update.proofs.Pass.{named_has, events_place}
use Rattle.reasons_calls.specs.Pass.{claimer_among, second_claim, placing, pass_reason, pass_fault}
use Rattle.reasons_calls.specs.Outcome.{claims, clash_reason}
use Rattle.reasons_calls.proofs.Numbers.{claimer_some, pass_none}
use Rattle.reasons_calls.proofs.Events.{listing_member}
use Rattle.reasons.specs.Reasons.{claimed_twice, claimed_from_holder, grafted_twice, Regraft}
use Rattle.reasons.specs.Shape.{graft_twice_from}
use Rattle.reasons.specs.Breaks.{Breaks}
use Rattle.reasons_calls.specs.Holds.{Grafts, Claims, OfBatch}
use Rattle.reasons.proofs.First.{IfSome, said, none_made, none_if, none_or}
use Rattle.reasons.proofs.Places.{at_member, from_start, ascending_places}
use Rattle.reasons.proofs.Broken.{regraft_says}

-- two nodes in order that graft one tree have two ids
regraft_apart : (s : Forest) → ascending s.nodes ≡ true → (g : Regraft) → Breaks s (grafted_twice g)
    → Grafts s g.node.id g.tree × Grafts s g.other g.tree × (same_id g.other g.node.id ≡ false)
unfolding Breaks
regraft_apart s up g z =
    let m = z.3.1 in (
      (z.0, at_member z.1, z.2, z.3.0),
      (m.2, at_member m.3, m.4.0, m.4.1),
      rw (← z.2, ← m.4.0) (before_apart z.0.id m.2.id (ascending_places up z.1 m.3 m.1)),
    )

-- ## Data

-- data that takes another's place grafts what that one says
graft_renewed : (was new : NodeData) → graft? (renewed was new) ≡ graft? new
unfolding renewed same_data graft?
graft_renewed was new =
    by_test (same_data was new)
    (λ t. let flags : was.flags ≡ new.flags = eqb-true was.flags new.flags (both (both (both t).0).0).1 in
    let graft : was.graft ≡ new.graft = same_tree→≡ was.graft new.graft (both (both t).0).1 in
    rw t (λ i. if bit 8 (flags i) then Some (graft i) else None))
    (λ t. rw t)

module _ (s : Forest) (b : Batch) where
  -- ## The pass

  -- what a pass without reason says of a node that is placed: none of those placed before claims its tree
  pub placing_none : (placed : List Listed) (l : Listed) → placing s b placed l ≡ None → (t : TreeId) → claim s b l ≡ Some t
      → has same_tree (given (claim s b) placed) t ≡ false
  unfolding placing second_claim
  placing_none placed l e t q =
      let past = none_if (same_option same_tree (claim s b l) (Some ROOT)) _ _
      (none_if (is_some (graft? l.body) and not (is_nil l.body.children)) _ _ e).1 in
      sym (claimer_some s b placed t)
      ∙ ap is_some (none_made (λ k. claimed_twice t (here s b k.id) (here s b l.id)) (claimer_among s b placed t) (rw (q, second_claim) at past.1))

  claims_apart : (seen : List NodeId) (placed : List Listed) (es : List Event) → pass_reason s b seen placed es ≡ None
      → (l : Listed) → Memᴰ (places l) es → (t : TreeId) → claim s b l ≡ Some t → has same_tree (given (claim s b) placed) t ≡ false
  unfolding pass_reason
  claims_apart seen placed [] e l x3 t q = elim x3 [ ]
  claims_apart seen placed (names c ∷ es) e l (Memᴰ.head p) t q = let z : ◌≡◌ {A = ℕ} 0 1 = cc in absurd (omega arith)
  claims_apart seen placed (names c ∷ es) e l (Memᴰ.tail i) t q = claims_apart (c ∷ seen) placed es (none_if (has same_node seen c) _ _ e).1 l i t q
  claims_apart seen placed (places k ∷ es) e l (Memᴰ.head p) t q =
      let same : l ≡ k = cc in
      placing_none placed k (none_or (placing s b placed k) _ e).0 t (ap (claim s b) (sym same) ∙ q)
  claims_apart seen placed (places k ∷ es) e l (Memᴰ.tail i) t q =
      let rest = claims_apart seen (k ∷ placed) es (none_or (placing s b placed k) _ e).1 l i t q in
      by_option (claim s b k) (λ c. rw (c, given) at rest) (λ u c. (or_false (same_tree t u) (rw (c, given) at rest)).1)

  -- so no two nodes that are placed claim one tree
  claims_one : (seen : List NodeId) (placed : List Listed) (es : List Event) → pass_reason s b seen placed es ≡ None → (t : TreeId)
      → (k l : Listed) → Memᴰ (places k) es → Memᴰ (places l) es → claim s b k ≡ Some t → claim s b l ≡ Some t → k ≡ l
  unfolding pass_reason
  claims_one seen placed [] e t k l i j p q = elim i [ ]
  claims_one seen placed (names c ∷ es) e t k l i j p q =
      claims_one (c ∷ seen) placed es (none_if (has same_node seen c) _ _ e).1 t k l (later k i) (later l j) p q
    where
      later : (k : Listed) → Memᴰ (places k) (names c ∷ es) → Memᴰ (places k) es
      later k (Memᴰ.head x) = let z : ◌≡◌ {A = ℕ} 0 1 = cc in absurd (omega arith)
      later k (Memᴰ.tail m) = m
  claims_one seen placed (places m ∷ es) e t k l i j p q =
      let rest = (none_or (placing s b placed m) _ e).1 in
      let first : (n : Listed) → Memᴰ (places n) es → claim s b m ≡ Some t → claim s b n ≡ Some t → ⊥ = λ n x c d.
      clash (claims_apart seen (m ∷ placed) es rest n x t d) (has_given same_tree same_tree_refl (claim s b) (m ∷ placed) m t (Memᴰ.head refl) c) in
      ⊎_elim
      (λ x. let a : k ≡ m = cc in
      ⊎_elim (λ y. let c : l ≡ m = cc in a ∙ sym c) (λ y. absurd (first l y (ap (claim s b) (sym a) ∙ p) q)) (Memᴰ.cases_cons j))
      (λ x. ⊎_elim (λ y. let c : l ≡ m = cc in absurd (first k x (ap (claim s b) (sym c) ∙ q) p))
      (λ y. claims_one seen (m ∷ placed) es rest t k l x y p q) (Memᴰ.cases_cons j))
      (Memᴰ.cases_cons i)

  -- ## The outcome

  -- a node that grafts t in the outcome held it before, or claims it
  pub data Role (x : FullNodeId) (t : TreeId) : Type 0 where
    holds : graft_at s.nodes x ≡ Some t → claims s b x ≡ false → Role x t
    claiming : (l : Listed) → Memᴰ l b.nodes → here s b l.id ≡ x → claim s b l ≡ Some t → claims s b x ≡ true → Role x t

  -- a listed node claims a tree where its claim is one
  claims_listed : (x : FullNodeId) (d : NodeData) → mine s b x ≡ true → listing b.nodes x.node ≡ Some d
      → claims s b x ≡ is_some (claim s b (record { id = x.node; body = d }))
  unfolding claims listed ◌and◌
  claims_listed x d h l = rw (l, h, ← listing_some b.nodes x.node, l)

  claims_unlisted : (x : FullNodeId) → mine s b x ≡ true → listing b.nodes x.node ≡ None → claims s b x ≡ false
  unfolding claims
  claims_unlisted x h l = rw l (and_false (listed s b x))

  -- the batch's node of this number
  here_is : (x : FullNodeId) → mine s b x ≡ true → here s b x.node ≡ x
  unfolding here mine
  here_is x h = let p = sym (same_index→≡ x.tree (tree_number s b) h) in λ i. record { tree = p i; node = x.node }

  -- a listed node that grafts t held it before, or claims it
  role_listed : (x : FullNodeId) (d : NodeData) (t : TreeId) → mine s b x ≡ true → listing b.nodes x.node ≡ Some d → graft? d ≡ Some t → Role x t
  unfolding claim
  role_listed x d t h l q =
      let l' : Listed = record { id = x.node; body = d } in
      by_test (same_option same_tree (graft? d) (graft_at s.nodes (here s b x.node)))
      (λ c. let same = same_option→≡ same_tree same_tree→≡ (graft? d) (graft_at s.nodes (here s b x.node)) c in
      holds (ap (graft_at s.nodes) (sym (here_is x h)) ∙ sym same ∙ q) (claims_listed x d h l ∙ rw c))
      (λ c. claiming l' (listing_member s b b.nodes x.node d l) (here_is x h) (rw c q) (claims_listed x d h l ∙ rw (c, q)))

  -- by what is found there once all listed nodes are written
  role_written : (x : FullNodeId) (m : NodeState) (t : TreeId) → found_written s b x ≡ Some m → graft? m.body ≡ Some t → Role x t
  unfolding found_written graft_at merged
  role_written x m t f q =
      by_test (mine s b x)
      (λ h. by_option (listing b.nodes x.node) (λ l. holds (held (rw (h, l) at f)) (claims_unlisted x h l))
      (λ d l. role_listed x d t h l (sym (same_graft d (find x s.nodes))
      ∙ ap (λ (n : NodeState). graft? n.body) (same_Some _ m (rw (h, l) at f)) ∙ q)))
      (λ h. holds (held (rw h at f)) (not_mine h))
    where
      held : find x s.nodes ≡ Some m → graft_at s.nodes x ≡ Some t
      held e = rw (e, graft_at) q

      same_graft : (d : NodeData) (o : Option NodeState) → graft? (merged x d o).body ≡ graft? d
      same_graft d None = refl
      same_graft d (Some n) = graft_renewed n.body d

      not_mine : mine s b x ≡ false → claims s b x ≡ false
      not_mine h = unfold claims listed ◌and◌ in (rw h)

  role_of : ascending s.nodes ≡ true → distinct same_node (listed_ids b.nodes) ≡ true
      → (n : NodeState) → Memᴰ n (outcome s b).nodes → (t : TreeId) → graft? n.body ≡ Some t → Role n.id t
  unfolding found_after relink
  role_of up once n i t q =
      let found : found_after s b n.id ≡ Some n = sym (find_outcome s b up once n.id) ∙ find_self (outcome s b).nodes n (ascending_outcome s b up) i in
      by_test (gone s b n.id) (λ g. absurd (none-some n (rw g at found)))
      (λ g. let z = some_from (found_written s b n.id) (λ m. Some (relink s b m)) n (rw g at found) in
      role_written n.id z.0 t z.1 (ap (λ (m : NodeState). graft? m.body) (same_Some (relink s b z.0) n z.2) ∙ q))

  -- ## The clash

  module _ (differ : grafts_differ s.nodes ≡ true) (once : distinct same_node (listed_ids b.nodes) ≡ true) (passed : pass_fault s b ≡ None)
      (placed : any (placeless s b) b.nodes ≡ false) where
    -- a listed node is placed in the pass
    is_placed : (l : Listed) → Memᴰ l b.nodes → Memᴰ (places l) (events s b [] b.nodes)
    unfolding placeless listing
    is_placed l i =
        events_place s b [] b.nodes l i once refl
        (ap (λ (c : Bool). placed_at_turn s b l.id || c) (sym (named_has s b l.id))
        ∙ one_of (placed_at_turn s b l.id) (named s b (here s b l.id)) (any_member (placeless s b) b.nodes l placed i))

    has_place : (l : Listed) → Memᴰ l b.nodes → placeless s b l ≡ false
    has_place l i = any_member (placeless s b) b.nodes l placed i

    -- one claims the tree, the other holds it
    role_claims : (x y : FullNodeId) (t : TreeId) → same_id x y ≡ false → Role x t → Role y t → claims s b x ≡ true
        → (graft_at s.nodes y ≡ Some t) × Claims s b x t
    unfolding pass_fault
    role_claims x y t apart (holds p c) role e = absurd (clash c e)
    role_claims x y t apart (claiming k i f p c) (holds q d) e = (q, (k, i, f, (has_place k i, p)))
    role_claims x y t apart (claiming k i f p c) (claiming l j g q d) e =
        let same : k ≡ l = claims_one [] [] (events s b [] b.nodes) passed t k l (is_placed k i) (is_placed l j) p q in
        absurd (clash apart (subst (λ (z : FullNodeId). same_id x z ≡ true) (sym f ∙ ap (λ (z : Listed). here s b z.id) same ∙ g) (same_id_refl x)))

    -- one holds it, the other claims it
    role_holds : (x y : FullNodeId) (t : TreeId) → same_id x y ≡ false → Role x t → Role y t → claims s b x ≡ false
        → (graft_at s.nodes x ≡ Some t) × Claims s b y t
    role_holds x y t apart (claiming k i f p c) role e = absurd (clash e c)
    role_holds x y t apart (holds p c) (claiming l j f q d) e = (p, (l, j, f, (has_place l j, q)))
    role_holds x y t apart (holds p c) (holds q d) e =
        absurd (clash apart (subst (λ (z : FullNodeId). same_id x z ≡ true) (graft_one s.nodes differ x y t p q) (same_id_refl x)))

    pub clash_true : ascending s.nodes ≡ true → IfSome (OfBatch s b) (clash_reason s b (outcome s b))
    unfolding clash_reason OfBatch
    clash_true up =
        let o = outcome s b in
        by_option (graft_twice_from 0 o.nodes) (λ q. rw (q, clash_reason) tt)
        (λ g q. let z = regraft_apart o (ascending_outcome s b up) g
        (said (λ g. Breaks o (grafted_twice g)) (graft_twice_from 0 o.nodes) (regraft_says o 0 o.nodes (from_start o.nodes)) g q) in
        rw (q, clash_reason) (on g z.0 z.1 z.2 (claims s b g.node.id) refl))
      where
        role : (x : FullNodeId) (t : TreeId) → Grafts (outcome s b) x t → Role x t
        role x t n = subst (λ (y : FullNodeId). Role y t) n.2 (role_of up once n.0 n.1 t n.3)

        on : (g : Regraft) → Grafts (outcome s b) g.node.id g.tree → Grafts (outcome s b) g.other g.tree → same_id g.other g.node.id ≡ false
            → (c : Bool) → claims s b g.node.id ≡ c
            → OfBatch s b (if c then claimed_from_holder g.tree g.other g.node.id else claimed_from_holder g.tree g.node.id g.other)
        on g n m apart true e =
            let z = role_claims g.node.id g.other g.tree (same_id_sym g.node.id g.other ∙ apart) (role g.node.id g.tree n)
            (role g.other g.tree m) e in
            (pass_none s b passed, apart, m, n, z.0, z.1)
        on g n m apart false e =
            let differ : same_id g.node.id g.other ≡ false = same_id_sym g.node.id g.other ∙ apart in
            let z = role_holds g.node.id g.other g.tree differ (role g.node.id g.tree n) (role g.other g.tree m) e in
            (pass_none s b passed, differ, n, m, z.0, z.1)
