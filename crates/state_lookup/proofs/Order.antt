-- Ids in ascending order: neighbours in order are all in order, an id stands in one slot, and bisection finds it. Assumes nothing.
use mathlib.Core.Bool.{Bool, true, false}
use mathlib.Core.List.{List}
use mathlib.Core.Path.{◌≡◌, refl, sym, ap, ◌∙◌}
use Prim.Native.Nat.{ℕ, zero, suc, ◌+◌, ◌-◌, ◌/◌, ◌≤◌, ◌<◌}
use native.Mathlib.Nat.{le_of_lt}
use native.Mathlib.Numerals.{add-one}
use native.Mathlib.Omega.{arith}
use borrow.Author.Tests.{ltb-true, lt-ltb}
use Rattle.base.specs.Tests.{position}
use Rattle.base.specs.Search.{First}
use Rattle.base.proofs.Cases.{by_order}
use Rattle.base.proofs.Tests.{both, joined, iff, clash, refuted}
use Rattle.base.proofs.Bytes.{all_below_at}
use Rattle.base.proofs.Indexed.{all_below_each}
use Rattle.base.proofs.Search.{first_position}
use Rattle.ids.specs.Ids.{same_id, before}
use Rattle.ids.proofs.Ids.{same_id→≡, before_apart, before_trans}
use Rattle.ids.specs.declared.FullNodeId.{FullNodeId}
use Rattle.state.specs.State.{ids_of}
use Rattle.state.specs.Sound.{ascending}
use Rattle.state.proofs.Order.{ascending_list_of, ascending_at}
use Rattle.state_array.specs.View.{id_in, node_in, slots_of, view}
use Rattle.state_array.proofs.View.{view_ids}
use Rattle.state_lookup.specs.Lookup.{ascend, in_order, in_slot, SlotAmong, SlotOf}

module _ (id : ℕ → FullNodeId) (n : ℕ) (up : ascend n id ≡ true) where
  -- neighbours are in order
  neighbours : (i : ℕ) → suc i < n → before (id i) (id (suc i)) ≡ true
  unfolding ascend
  neighbours i h = rw add-one at (all_below_at (λ k. before (id k) (id (k + 1))) (n - 1) i up (omega arith))

  -- and so are any two
  pub in_order_pair : (i k : ℕ) → i < k → k < n → before (id i) (id k) ≡ true
  in_order_pair i zero h l = absurd (omega arith)
  in_order_pair i (suc k) h l =
      by_order i k (λ b. before_trans (id i) (id k) (id (suc k)) (in_order_pair i k b (omega arith)) (neighbours k l))
      (λ b. let e : i ≡ k = omega arith in rw e (neighbours k l))

  module _ (x : FullNodeId) where
    -- where the id stands, a search from the first slot would find it
    pub stands_first : (i : ℕ) → i < n → same_id x (id i) ≡ true → First (λ i. same_id x (id i)) n i
    stands_first i h e = record {
      within = omega arith;
      passed = λ k l. before_apart (id k) x (rw (same_id→≡ x (id i) e) (in_order_pair k i l h));
      hit = λ _. e;
    }

    -- a slot that stands before the id: so do all slots before it
    before_slot : (i k : ℕ) → i < n → before (id i) x ≡ true → k ≤ i → before (id k) x ≡ true
    before_slot i k h b l =
        by_order k i (λ m. before_trans (id k) (id i) x (in_order_pair k i m h) b) (λ m. let e : k ≡ i = omega arith in rw e b)

    -- between the slots that stand before the id and those that do not, the id does not stand: it stands nowhere
    stands_nowhere : (low : ℕ) → ((k : ℕ) → k < low → before (id k) x ≡ true)
        → ((k : ℕ) → low ≤ k → k < n → before (id k) x ≡ false) → in_slot n id x low ≡ false → First (λ i. same_id x (id i)) n n
    unfolding in_slot
    stands_nowhere low under over e = record {
      within = omega arith;
      passed = λ k h. by_order k low (λ l. before_apart (id k) x (under k l)) (λ l. refuted (λ q. elsewhere k h l q));
      hit = λ l. absurd (omega arith);
    }
      where
        elsewhere : (k : ℕ) → k < n → low ≤ k → same_id x (id k) ≡ true → ⊥
        elsewhere k h l q =
            by_order low k (λ m. clash (over low (omega arith) (omega arith)) (rw (same_id→≡ x (id k) q) (in_order_pair low k m h)))
            (λ m. let at : k ≡ low = omega arith in clash e (joined (lt-ltb low n (omega arith)) (rw at at q)))

-- ## Bisection

-- In order, the slots below `low` stand before x, and those from `low + left` on do not.
pub record Bisected (n : ℕ) (id : ℕ → FullNodeId) (x : FullNodeId) (low left : ℕ) : Type 0 where
  pub within : low + left ≤ n
  pub under : ascend n id ≡ true → (k : ℕ) → k < low → before (id k) x ≡ true
  pub over : ascend n id ≡ true → (k : ℕ) → low + left ≤ k → k < n → before (id k) x ≡ false

module _ {n : ℕ} {id : ℕ → FullNodeId} {x : FullNodeId} where
  pub bisect_start : Bisected n id x 0 n
  bisect_start = record { within = omega arith; under = λ up k h. absurd (omega arith); over = λ up k h l. absurd (omega arith) }

  -- the id y of the slot in the middle stands before x, or does not
  module _ {low left : ℕ} (b : Bisected n id x low left) (more : 1 < left) {y : FullNodeId} (is : y ≡ id (low + left / 2 - 1)) {r : Bool}
      (test : r ≡ before y x) where
    middle : ℕ
    middle = low + left / 2 - 1

    pub bisect_low : r ≡ true → Bisected n id x (low + left / 2) (left - left / 2)
    unfolding middle
    bisect_low e = record {
      within = omega (arith, b.within);
      under = λ up k l. before_slot id n up x middle k (omega (arith, b.within)) (rw is at (sym test ∙ e)) (omega arith);
      over = λ up k l h. b.over up k (omega arith) h;
    }

    pub bisect_high : r ≡ false → Bisected n id x low (left - left / 2)
    unfolding middle
    bisect_high e = record {
      within = omega (arith, b.within);
      under = b.under;
      over = λ up k l h. refuted (λ q. clash (rw is at (sym test ∙ e)) (before_slot id n up x k middle h q (omega arith)));
    }

  -- a slot where the id stands; m is n, in the contract
  pub slot_here : {i m : ℕ} {r : Bool} → r ≡ in_slot n id x i → n ≡ m → r ≡ true → SlotAmong m id x i
  unfolding in_slot
  slot_here {i} test e q =
      let there = both (sym test ∙ q) in
      rw (← e) (record { within = le_of_lt (ltb-true i n there.0); hit = λ _. there.1; first = λ up. stands_first id n up x i (ltb-true i n there.0) there.1 })

  -- no slot: the last one left stands before the id, or none does from it on
  nowhere : {low left : ℕ} → Bisected n id x low left → left ≤ 1 → in_slot n id x low ≡ false → in_slot n id x (low + 1) ≡ false
      → (up : ascend n id ≡ true) → First (λ i. same_id x (id i)) n n
  nowhere {low} b few here next up = go (before (id low) x) refl
    where
      go : (t : Bool) → before (id low) x ≡ t → First (λ i. same_id x (id i)) n n
      go true q =
          stands_nowhere id n up x (low + 1) (λ k l. by_order k low (λ m. b.under up k m) (λ m. let e : k ≡ low = omega arith in rw e q))
          (λ k l h. b.over up k (omega arith) h) next
      go false q =
          stands_nowhere id n up x low (b.under up)
          (λ k l h. by_order low k (λ m. b.over up k (omega arith) h) (λ m. let e : k ≡ low = omega arith in rw e q)) here

  pub slot_none : {low left m : ℕ} {r t : Bool} → Bisected n id x low left → (1 < left → ⊥) → r ≡ in_slot n id x low → r ≡ false
      → t ≡ in_slot n id x (low + 1) → t ≡ false → n ≡ m → SlotAmong m id x n
  slot_none {low} b few one q two p e = rw (← e) (record {
    within = omega arith;
    hit = λ l. absurd (omega arith);
    first = nowhere b (omega arith) (sym one ∙ q) (sym two ∙ p);
  })

-- ## The order of nodes

-- the nodes of a state ascend if and only if its ids do
pub ordered_is : (s : List ℕ) → ascending (view s).forest.nodes ≡ in_order s
unfolding view node_in ascend
ordered_is s =
    let n : ℕ = slots_of s in
    iff (λ e. all_below_each _ (n - 1) (λ i l. ascending_at n (node_in s) e i (omega arith)))
    (λ e. ascending_list_of n (node_in s) (λ i l. all_below_at (λ k. before (id_in s k) (id_in s (k + 1))) (n - 1) i e (omega arith)))

-- where the nodes ascend, a search by bisection answers the id's place
pub slot_of_place : (s : List ℕ) (x : FullNodeId) (r : ℕ) → ascending (view s).forest.nodes ≡ true
    → SlotOf s x r → r ≡ position same_id (ids_of (view s).forest.nodes) x
slot_of_place s x r up h =
    sym (first_position same_id x (slots_of s) (id_in s) r (h.first (sym (ordered_is s) ∙ up)))
    ∙ ap (λ l. position same_id l x) (sym (view_ids s))
