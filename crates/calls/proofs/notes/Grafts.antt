-- What the rows of a state say of grafts. Assumes nothing.
use mathlib.Core.Bool.{Bool, true, false, not}
use mathlib.Core.List.{List}
use mathlib.Core.Path.{◌≡◌, refl, sym, ap, ◌∙◌}
use Prim.Native.Nat.{ℕ, suc, ◌+◌, ◌<◌}
use native.Mathlib.Omega.{arith}
use lib.Dec.{eqb, ltb}
use lib.ListN.{length, get_or}
use borrow.Author.Tests.{lt-ltb, le-ltb}
use Rattle.std.specs.Prelude.{if◌then◌else◌, Option, None, Some}
use Rattle.base.specs.Tests.{◌and◌, is_some, same_option}
use Rattle.base.specs.Bytes.{bit}
use Rattle.base.proofs.Cases.{by_test, by_option, by_order}
use Rattle.base.proofs.Tests.{both, is_some_if, call_true, call_false, clash}
use Rattle.state_array.specs.declared.ShapeRow.{ShapeRow}
use Rattle.base.proofs.Lists.{none_of}
use Rattle.ids.specs.Ids.{same_tree}
use Rattle.ids.specs.declared.TreeId.{TreeId}
use Rattle.ids.specs.declared.FullNodeId.{FullNodeId}
use Rattle.record.specs.Batch.{NodeData, graft?, Listed, Batch}
use Rattle.record.specs.Parse.{batch_of}
use Rattle.record_reader.specs.Reader.{no_listed, listed_at}
use Rattle.state.specs.State.{Forest, graft_at}
use Rattle.state_array.specs.View.{graft_in, shape_in, body_in, node_in, slots_of}
use Rattle.update.specs.Words.{here, listed, claim, claimer, claimed_from, lets_go}
use Rattle.calls.specs.Layout.{CLAIMS}
use Rattle.calls.specs.Columns.{Holds}
use Rattle.calls.specs.Setting.{Batched, forest}
use Rattle.calls.specs.Codes.{slot_at, flag}
use Rattle.calls.specs.Says.{turn_mark, graft_below, ClaimerIs, ClaimedFromIs}
use Rattle.calls.proofs.notes.Positions.{first_cong, first_given_at}
use Rattle.calls.proofs.notes.Places.{slot_found, forest_node}
use Rattle.update_focus.proofs.Numbers.{forest_length}
use Rattle.calls.proofs.notes.Marks.{turn_listed, turn_listing}
use Rattle.calls.proofs.notes.Setting.{batched_at}

-- ## Options

-- none agrees with an option that has no value
same_none : {A : Type 0} (same : A → A → Bool) (o : Option A) → not (is_some o) ≡ same_option same None o
same_none same None = refl
same_none same (Some x) = refl

-- ## A listed node's graft

-- whether data grafts a tree is its flag
pub graft_flag : (d : NodeData) → bit 8 d.flags ≡ is_some (graft? d)
unfolding graft?
graft_flag d = sym (is_some_if (bit 8 d.flags) d.graft)

-- the tree that it grafts
pub graft_given : (d : NodeData) → is_some (graft? d) ≡ true → graft? d ≡ Some d.graft
unfolding graft?
graft_given d e = rw (graft_flag d ∙ e)

-- whether it is t, by what was read
pub claim_read : (b : Batch) (i : ℕ) (t : TreeId) (w : Bool) {g : TreeId} {z c : Bool} → g ≡ (listed_at b i).body.graft → z ≡ same_tree g t → w and z ≡ c
    → w and same_tree (listed_at b i).body.graft t ≡ c
claim_read b i t w is test e = rw (← is, ← test) e

-- ## A slot's graft

module _ (state : List ℕ) (i : ℕ) where
  -- whether it is a tree's, by its row
  pub graft_test : (t : TreeId) {d : ShapeRow} {g z b : Bool} → d ≡ shape_in state i → g ≡ bit 8 d.flags → z ≡ same_tree d.graft t → g and z ≡ b
      → same_option same_tree (graft_in state i) (Some t) ≡ b
  unfolding graft_in ◌and◌
  graft_test t {d} {g} is e f q = rw (← is, ← e) (by_test g (λ h. rw h (sym f ∙ rw h at q)) (λ h. rw h (rw h at q)))

  -- whether a slot of a node grafts a tree
  pub graft_below_some : (ltb i (slots_of state) and bit 8 (shape_in state i).flags) ≡ is_some (graft_below state i)
  unfolding graft_below graft_in ◌and◌
  graft_below_some = by_test (ltb i (slots_of state)) (λ c. by_test (bit 8 (shape_in state i).flags) (λ d. rw (c, d)) (λ d. rw (c, d))) (λ c. rw c)

  -- the tree that it grafts
  graft_below_given : is_some (graft_below state i) ≡ true → graft_below state i ≡ Some (shape_in state i).graft
  unfolding graft_below graft_in
  graft_below_given e = let there = both (graft_below_some ∙ e) in rw (there.0, there.1)

-- ## The graft of a listed node and of a slot

module _ (d : NodeData) (state : List ℕ) (i : ℕ) where
  -- a listed node that grafts nothing has the slot's graft if the slot has none
  pub same_graft_none : is_some (graft? d) ≡ false → not (is_some (graft_below state i)) ≡ same_option same_tree (graft? d) (graft_below state i)
  same_graft_none e = rw (none_of (graft? d) (ap not e)) (same_none same_tree (graft_below state i))

  -- one that grafts a tree has the slot's graft if the slot grafts the same
  pub same_graft_some : is_some (graft? d) ≡ true
      → (is_some (graft_below state i) and same_tree d.graft (shape_in state i).graft) ≡ same_option same_tree (graft? d) (graft_below state i)
  unfolding ◌and◌
  same_graft_some e =
      rw (graft_given d e) (by_test (is_some (graft_below state i)) (λ q. rw (graft_below_given state i q)) (λ q. rw (none_of (graft_below state i) (ap not q))))

-- ## The claim of a slot's graft

module _ (b : Batch) (notes : List ℕ) (k : ℕ) (state : List ℕ) (i : ℕ) {g : Bool} (test : g ≡ is_some (graft_below state i)) where
  -- a slot that grafts nothing
  pub claimed_none : g ≡ false → ClaimedFromIs b notes k (graft_below state i) k
  claimed_none e = record { ungrafted = λ _. refl; of_graft = λ t q. absurd (clash (call_false test e) (ap is_some q)) }

  -- one that grafts a tree
  pub claimed_some : g ≡ true → {d : ShapeRow} → d ≡ shape_in state i → {r : ℕ} → ClaimerIs b notes k d.graft r → ClaimedFromIs b notes k (graft_below state i) r
  claimed_some e {d} is h = record {
    ungrafted = λ q. absurd (clash (ap is_some q) (call_true test e));
    of_graft = λ t q. let same : d.graft ≡ t = cc (graft_below_given state i (call_true test e)) in rw same at h;
  }

-- ## Grafts of the forest of a state

-- the graft of the node in slot i
node_graft : (state : List ℕ) (i : ℕ) → graft? (node_in state i).body ≡ graft_in state i
unfolding node_in body_in graft? graft_in
node_graft state i = refl

-- what an id grafts is what its slot grafts
pub graft_slot : (state : List ℕ) (x : FullNodeId) → graft_at (forest state).nodes x ≡ graft_below state (slot_at (forest state) x)
unfolding graft_at graft_below
graft_slot state x =
    let s = forest state in
    rw (slot_found s x, graft_at, forest_length state)
    (by_order (slot_at s x) (slots_of state) (λ l. rw (lt-ltb (slot_at s x) (slots_of state) l, forest_node state (slot_at s x) l) (node_graft state (slot_at s x)))
    (λ l. rw (le-ltb (slot_at s x) (slots_of state) l)))

-- ## Claims

module _ (s : Forest) (b : Batch) where
  -- a node claims t if it claims a tree and grafts t
  claim_test : (l : Listed) (t : TreeId) → (eqb (flag (is_some (claim s b l))) 1 and same_tree l.body.graft t) ≡ same_option same_tree (claim s b l) (Some t)
  unfolding claim graft? ◌and◌
  claim_test l t =
      by_test (same_option same_tree (graft? l.body) (graft_at s.nodes (here s b l.id))) (λ c. rw c)
      (λ c. by_test (bit 8 l.body.flags) (λ d. rw (c, d)) (λ d. rw (c, d)))

  -- a listed node lets go of a graft that it does not keep
  pub lets_go_turn : (x : FullNodeId) (k : ℕ) → turn_mark s b x ≡ suc k
      → lets_go s b x ≡ not (same_option same_tree (graft? (listed_at b k).body) (graft_at s.nodes x))
  unfolding lets_go ◌and◌
  lets_go_turn x k e =
      let is_listed : listed s b x ≡ true = turn_listed s b x ∙ ap (ltb 0) e ∙ lt-ltb 0 (suc k) (omega arith) in
      rw (is_listed, turn_listing s b x k e)

  module _ (bytes : List ℕ) (batched : Batched bytes b) (notes : List ℕ) (k : ℕ) (count : k ≡ length b.nodes)
      (say : Holds notes CLAIMS k (λ i. flag (is_some (claim s b (listed_at b i))))) where
    -- the listed node that claims a tree
    pub claimer_is : (t : TreeId) (r : ℕ) → ClaimerIs (batch_of bytes) notes k t r
        → claimer s b t ≡ (if ltb r k then Some (here s b (listed_at b r).id) else None)
    unfolding claimer listed_at
    claimer_is t r h =
        let test : (i : ℕ) → i < k
        → (eqb (get_or notes (CLAIMS + i) 0) 1 and same_tree (listed_at (batch_of bytes) i).body.graft t) ≡ same_option same_tree (claim s b (listed_at b i)) (Some t) =
        λ i l. rw (batched_at bytes b batched i, say i l) (claim_test (listed_at b i) t) in
        first_given_at (λ l. same_option same_tree (claim s b l) (Some t)) (λ l. here s b l.id) no_listed b.nodes r (rw (← count) (first_cong _ _ k r test h))
        ∙ rw (← count)

    -- the listed node that claims the tree that p grafted
    pub claimed_from_is : (p : FullNodeId) (r : ℕ) → ClaimedFromIs (batch_of bytes) notes k (graft_at s.nodes p) r
        → claimed_from s b p ≡ (if ltb r k then Some (here s b (listed_at b r).id) else None)
    unfolding claimed_from
    claimed_from_is p r h =
        by_option (graft_at s.nodes p) (λ q. rw (q, claimed_from, le-ltb r k (omega (arith, h.ungrafted q))))
        (λ t q. rw (q, claimed_from) (claimer_is t r (h.of_graft t q)))
