-- The reasons of 5 and 9 to 14 say what is so. Assumes nothing.
use mathlib.Core.Bool.{true, false, not, false≢true}
use mathlib.Core.List.Memᴰ
use mathlib.Core.List.{List, [], ◌∷◌, ◌++◌, map, Memᴰ}
use mathlib.Core.Logic.{⊎_elim}
use Rattle.std.specs.Prelude.{None, Some}
use mathlib.Core.Path.{◌≡◌, refl, ap, ◌∙◌}
use Prim.Native.Nat.{ℕ, zero, suc, ◌+◌, ◌≤◌, ◌<◌}
use native.Mathlib.Nat.{zero-add}
use native.Mathlib.Omega.{arith}
use lib.ListN.{length, length-append}
use lib.Seq.{append_snoc}
use Rattle.base.specs.Tests.{◌and◌, is_some, is_nil, keep, count, same_option, has, distinct, position}
use Rattle.base.proofs.Cases.{by_test, by_option, by_order}
use Rattle.base.proofs.Tests.{both, not_true, clash, refuted, same_option→≡}
use Rattle.base.proofs.Lists.{has_map, has_given, any_of}
use Rattle.ids.specs.Ids.{ROOT, same_tree, same_node, same_id}
use Rattle.ids.proofs.Ids.{same_tree→≡, same_tree_refl, same_node→≡, same_node_refl, same_id→≡}
use Rattle.ids.specs.declared.TreeId.{TreeId}
use Rattle.ids.specs.declared.NodeId.{NodeId}
use Rattle.ids.specs.declared.FullNodeId.{FullNodeId}
use Rattle.record.specs.Batch.{graft?, Listed, Batch, listed_ids, named_ids}
use Rattle.state.specs.State.{Forest}
use Rattle.update.specs.Words.{here, claim}
use Rattle.update.specs.Pass.{Event, names, places, events}
use Rattle.update.specs.Numbers.{placeless, nowhere}
use Rattle.reasons.specs.Reasons.{named_twice}
use Rattle.reasons_calls.specs.Pass.{repeated_after, namers_among, namers_of, claimer_among, second_claim, placing, pass_reason, pass_fault}
use Rattle.reasons_calls.specs.Pass.{placeless_from, nowhere_under, nowhere_fault}
use Rattle.reasons.specs.Breaks.{At, at_head, at_tail}
use Rattle.reasons_calls.specs.Holds.{times, namers, OfBatch}
use Rattle.reasons.proofs.Lists.{count_append}
use Rattle.reasons.proofs.First.{IfSome, said, says_if, says_else, says_or, says_first}
use Rattle.reasons.proofs.Places.{at_member, at_same, at_before, at_below, From, from_start, from_head, from_tail}
use Rattle.reasons_calls.proofs.Clash.{placing_none}
use Rattle.reasons_calls.proofs.Events.{names_of, names_events, placed_listed, Once, once_pass}

-- ## Places

-- what stood before stands at its position, which is an earlier one
position_before : (earlier xs : List NodeId) (x : NodeId) → has same_node earlier x ≡ true
    → At x (earlier ++ xs) (position same_node (earlier ++ xs) x) × (position same_node (earlier ++ xs) x < length earlier)
position_before [] xs x e = absurd (false≢true e)
position_before (y ∷ ys) xs x e =
    by_test (same_node x y) (λ t. rw t (at_head (same_node→≡ x y t), omega arith))
    (λ t. let z = position_before ys xs x (rw t at e) in rw t (at_tail z.0, omega (arith, z.1)))

-- what follows stands at their number
at_length : (earlier xs : List NodeId) (x : NodeId) → At x (earlier ++ x ∷ xs) (length earlier)
at_length [] xs x = at_head refl
at_length (y ∷ ys) xs x = at_tail (at_length ys xs x)

-- ## Counting

count_has : (xs : List NodeId) (x : NodeId) → has same_node xs x ≡ true → 1 ≤ count (same_node x) xs
count_has [] x e = absurd (false≢true e)
count_has (y ∷ ys) x e = by_test (same_node x y) (λ t. rw t (omega arith)) (λ t. rw t (count_has ys x (rw t at e)))

module _ (s : Forest) (b : Batch) where
  -- ## 5

  -- no node stands at two places
  abbrev Apart : List NodeId → Type 0
  Apart xs = (m : NodeId) (k l : ℕ) → At m xs k → At m xs l → k < l → ⊥

  -- nor does it with one more that does not stand there
  apart_more : (xs : List NodeId) (x : NodeId) → has same_node xs x ≡ false → Apart xs → Apart (xs ++ x ∷ [])
  apart_more xs x e apart m k l i j less =
      by_order l (length xs) (λ b. apart m k l (at_before xs (x ∷ []) i (omega arith)) (at_before xs (x ∷ []) j b) less)
      (λ b. let n : length (xs ++ x ∷ []) ≡ length xs + 1 = rw length-append in
      let last : l ≡ length xs = omega (arith, at_below j) in
      let same : m ≡ x = at_same (rw last at j) (at_length xs [] x) in
      clash e (any_of (same_node x) xs x (at_member (rw same at (at_before xs (x ∷ []) i (omega arith)))) (same_node_refl x)))

  repeated_says : (earlier xs : List NodeId) → earlier ++ xs ≡ listed_ids b.nodes → Apart earlier → IfSome (OfBatch s b) (repeated_after s b earlier xs)
  unfolding repeated_after OfBatch
  repeated_says earlier [] e apart = tt
  repeated_says earlier (x ∷ xs) e apart =
      says_else (OfBatch s b) (has same_node earlier x) _ _
      (λ t. let z = position_before earlier (x ∷ xs) x t in
      rw (← e) (
        x,
        refl,
        z.1,
        z.0,
        at_length earlier xs x,
        λ m k l i j less last. apart m k l (at_before earlier (x ∷ xs) i (omega arith))
            (at_before earlier (x ∷ xs) j last) less,
      ))
      (λ t. repeated_says (earlier ++ x ∷ []) xs (append_snoc earlier x xs ∙ e) (apart_more earlier x t apart))

  pub repeated_true : IfSome (OfBatch s b) (repeated_after s b [] (listed_ids b.nodes))
  repeated_true = repeated_says [] (listed_ids b.nodes) refl (λ m k l i j less. Memᴰ.not-nil (at_member i))

  -- ## 9

  times_kept : (cs : List NodeId) (n : NodeId) (x : FullNodeId) (ys : List FullNodeId)
      → times (count (same_node n) cs) x ys ≡ map (λ _. x) (keep (same_node n) cs) ++ ys
  times_kept [] n x ys = refl
  times_kept (c ∷ cs) n x ys =
      let h = times_kept cs n x ys in by_test (same_node n c) (λ t. rw t (ap {B = List FullNodeId} (λ zs. x ∷ zs) h)) (λ t. rw t h)

  namers_are : (ls : List Listed) (n : NodeId) → namers s b n ls ≡ namers_among s b ls n
  unfolding namers_among
  namers_are [] n = refl
  namers_are (l ∷ ls) n = rw (← namers_are ls n) (times_kept l.body.children n (here s b l.id) (namers s b n ls))

  length_times : (k : ℕ) (x : FullNodeId) (xs : List FullNodeId) → length (times k x xs) ≡ k + length xs
  length_times zero x xs = omega arith
  length_times (suc k) x xs = let h = length_times k x xs in omega arith

  length_namers : (ls : List Listed) (n : NodeId) → length (namers s b n ls) ≡ count (same_node n) (named_ids ls)
  unfolding named_ids
  length_namers [] n = refl
  length_namers (l ∷ ls) n =
      length_times (count (same_node n) l.body.children) (here s b l.id) (namers s b n ls)
      ∙ rw (length_namers ls n, count_append (same_node n) l.body.children (named_ids ls))

  named_says : (c : NodeId) → 2 ≤ count (same_node c) (named_ids b.nodes) → OfBatch s b (named_twice (here s b c) (namers_of s b c))
  unfolding OfBatch namers_of
  named_says c h = let e = namers_are b.nodes c in (c, refl, rw (← e) (omega (arith, length_namers b.nodes c)), e)

  -- ## 10 to 12

  -- a listed node that has a place
  abbrev Placed : Listed → Type 0
  Placed l = Memᴰ l b.nodes × (placeless s b l ≡ false)

  claimer_among_lem : (placed : List Listed) (t : TreeId) → IfSome (λ k. Memᴰ k placed × (claim s b k ≡ Some t)) (claimer_among s b placed t)
  unfolding claimer_among
  claimer_among_lem placed t =
      says_first (λ k. Memᴰ k placed × (claim s b k ≡ Some t)) _ placed
      (λ l i. says_if (λ k. Memᴰ k placed × (claim s b k ≡ Some t)) (same_option same_tree (claim s b l) (Some t)) l
      (λ q. (i, same_option→≡ same_tree same_tree→≡ (claim s b l) (Some t) q)))

  -- a node that is placed has another id than those placed before
  here_apart : (placed : List Listed) (k : Listed) (n : NodeId) → Memᴰ k placed → has same_node (listed_ids placed) n ≡ false
      → same_id (here s b k.id) (here s b n) ≡ false
  unfolding here listed_ids
  here_apart placed k n i e =
      refuted (λ q. let p : k.id ≡ n = ap (λ (x : FullNodeId). x.node) (same_id→≡ (here s b k.id) (here s b n) q) in
      clash e (rw (← p) (has_map same_node same_node_refl (λ l. l.id) placed k i)))

  -- the moments of the pass
  abbrev moments : List Event
  moments = events s b [] b.nodes

  -- `placed` are the nodes placed before moment n, and no two of them claim one tree
  record Until (n : ℕ) (placed : List Listed) : Type 0 where
    when : (l : Listed) → Memᴰ l placed → (i : ℕ) × (i < n) × At (places l) moments i
    those : (l : Listed) (i : ℕ) → i < n → At (places l) moments i → Memᴰ l placed
    one : (k l : Listed) (i j : ℕ) (t : TreeId) → i < n → j < n → At (places k) moments i → At (places l) moments j
        → claim s b k ≡ Some t → claim s b l ≡ Some t → i ≡ j

  until_start : Until 0 []
  until_start = record {
    when = λ l i. absurd (Memᴰ.not-nil i);
    those = λ l i less at. absurd (omega arith);
    one = λ k l i j t less. absurd (omega arith);
  }

  -- at moment n a child is named
  until_names : (n : ℕ) (placed : List Listed) (c : NodeId) → At (names c) moments n → Until n placed → Until (suc n) placed
  until_names n placed c now h = record {
    when = λ l i. let z = h.when l i in (z.0, omega (arith, z.1), z.2);
    those = λ l i less at. h.those l i (earlier l i less at) at;
    one = λ k l i j t p q x y. h.one k l i j t (earlier k i p x) (earlier l j q y) x y;
  }
    where
      earlier : (l : Listed) (i : ℕ) → i < suc n → At (places l) moments i → i < n
      earlier l i less at =
          by_order i n (λ e. e)
          (λ e. let last : i ≡ n = omega arith in
          let same : places l ≡ names c = at_same (rw last at at) now in
          let z : ◌≡◌ {A = ℕ} 0 1 = cc in absurd (omega arith))

  -- a node is placed whose tree none placed before claims
  until_places : (n : ℕ) (placed : List Listed) (l : Listed) → At (places l) moments n → placing s b placed l ≡ None → Until n placed
      → Until (suc n) (l ∷ placed)
  until_places n placed l now free h = record {
    when = λ k i. ⊎_elim (λ q. (n, omega arith, rw q now)) (λ j. let z = h.when k j in (z.0, omega (arith, z.1), z.2)) (Memᴰ.cases_cons i);
    those = λ k i less at. by_order i n (λ e. Memᴰ.tail (h.those k i e at)) (λ e. Memᴰ.head (this k i less e at));
    one = λ k m i j t p q x y c d.
        by_order i n
        (λ e. by_order j n (λ f. h.one k m i j t e f x y c d) (λ f. absurd (other k m i j t e x c (this m j q f y) d)))
        (λ e. by_order j n (λ f. absurd (other m k j i t f y d (this k i p e x) c)) (λ f. omega arith));
  }
    where
      this : (k : Listed) (i : ℕ) → i < suc n → n ≤ i → At (places k) moments i → k ≡ l
      this k i less e at =
          let last : i ≡ n = omega arith in
          let same : places k ≡ places l = at_same (rw last at at) now in
          cc

      -- k was placed before
      other : (k m : Listed) (i j : ℕ) (t : TreeId) → i < n → At (places k) moments i → claim s b k ≡ Some t → m ≡ l → claim s b m ≡ Some t → ⊥
      other k m i j t less at c same d =
          clash (placing_none s b placed l free t (rw same at d)) (has_given same_tree same_tree_refl (claim s b) placed k t (h.those k i less at) c)

  placing_says : (n : ℕ) (placed : List Listed) (l : Listed) → At (places l) moments n → Until n placed
      → ((k : Listed) → Memᴰ k placed → Placed k) → Placed l
      → has same_node (listed_ids placed) l.id ≡ false → IfSome (OfBatch s b) (placing s b placed l)
  unfolding placing second_claim OfBatch
  placing_says n placed l now until before this new =
      says_else (OfBatch s b) (is_some (graft? l.body) and not (is_nil l.body.children)) _ _
      (λ t. let z = both t in (l, this.0, refl, (this.1, z.0, not_true z.1)))
      (λ _. says_else (OfBatch s b) (same_option same_tree (claim s b l) (Some ROOT)) _ _
      (λ t. (l, this.0, refl, (this.1, same_option→≡ same_tree same_tree→≡ (claim s b l) (Some ROOT) t)))
      (λ _. by_option (claim s b l) (λ q. rw (q, second_claim) tt)
      (λ t q. by_option (claimer_among s b placed t) (λ r. rw (q, second_claim, r) tt)
      (λ k r. let z = said (λ k. Memᴰ k placed × (claim s b k ≡ Some t)) (claimer_among s b placed t) (claimer_among_lem placed t) k r in
      let w = until.when k z.0 in
      rw (q, second_claim, r) (
        here_apart placed k l.id z.0 new,
        w.0,
        n,
        w.1,
        (k, w.2, refl, z.1),
        (l, now, refl, q),
        λ m y less c. until.one c.0 k m w.0 t less w.1 c.1 w.2 c.3 z.1,
      )))))

  pass_says : (n : ℕ) (seen : List NodeId) (placed : List Listed) (es : List Event) → From n es moments → Until n placed
      → ((c : NodeId) → count (same_node c) seen + count (same_node c) (names_of es) ≡ count (same_node c) (named_ids b.nodes))
      → ((l : Listed) → Memᴰ l placed → Placed l) → ((l : Listed) → Memᴰ (places l) es → Placed l) → Once s b seen (listed_ids placed) es
      → IfSome (OfBatch s b) (pass_reason s b seen placed es)
  unfolding pass_reason listed_ids
  pass_says n seen placed [] from until counted before after once = tt
  pass_says n seen placed (names c ∷ es) from until counted before after once =
      says_else (OfBatch s b) (has same_node seen c) _ _
      (λ t. named_says c (omega (arith, count_has seen c t, counted c, count_has (c ∷ names_of es) c (rw (same_node_refl c)))))
      (λ t. pass_says (suc n) (c ∷ seen) placed es (from_tail from) (until_names n placed c (from_head from) until)
      (λ d. let h = counted d in by_test (same_node d c) (λ q. let k = rw q at h in rw q (omega arith)) (λ q. rw q (rw q at h))) before
      (λ l i. after l (Memᴰ.tail i)) (once t))
  pass_says n seen placed (places l ∷ es) from until counted before after once =
      let this = after l (Memᴰ.head refl) in
      says_or (OfBatch s b) (placing s b placed l) (pass_reason s b seen (l ∷ placed) es) (placing_says n placed l (from_head from) until before this once.0)
      (λ free. pass_says (suc n) seen (l ∷ placed) es (from_tail from) (until_places n placed l (from_head from) free until) counted
      (λ k i. ⊎_elim (λ p. rw p this) (λ j. before k j) (Memᴰ.cases_cons i)) (λ k i. after k (Memᴰ.tail i)) once.1)

  -- rows 9 to 12, where no node is listed twice
  pub pass_true : distinct same_node (listed_ids b.nodes) ≡ true → IfSome (OfBatch s b) (pass_fault s b)
  unfolding pass_fault listed_ids
  pass_true d =
      pass_says 0 [] [] moments (from_start moments) until_start (λ c. rw zero-add (ap (count (same_node c)) (names_events s b [] b.nodes)))
      (λ l i. absurd (Memᴰ.not-nil i)) (placed_listed s b) (once_pass s b d)

  -- ## 13 and 14

  placeless_says : (i : ℕ) (ls : List Listed) → From i ls b.nodes → IfSome (OfBatch s b) (placeless_from s b i ls)
  unfolding placeless_from OfBatch
  placeless_says i [] h = tt
  placeless_says i (l ∷ ls) h =
      says_else (OfBatch s b) (placeless s b l) _ _ (λ t. (l, from_head h, refl, t)) (λ t. placeless_says (suc i) ls (from_tail h))

  pub placeless_true : IfSome (OfBatch s b) (placeless_from s b 0 b.nodes)
  placeless_true = placeless_says 0 b.nodes (from_start b.nodes)

  pub nowhere_true : IfSome (OfBatch s b) (nowhere_fault s b)
  unfolding nowhere_fault nowhere_under OfBatch
  nowhere_true =
      says_first (OfBatch s b) (nowhere_under s b) b.nodes
      (λ l i. says_first (OfBatch s b) _ l.body.children (λ c j. says_if (OfBatch s b) (nowhere s b c) _ (λ t. (l, i, refl, (c, j, refl, t)))))
