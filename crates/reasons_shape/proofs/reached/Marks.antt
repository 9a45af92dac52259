-- Marks of slots, stored one by one, and what they say of the nodes reached after one step more. Assumes nothing.
use mathlib.Core.Bool.{Bool, true, false, not, ◌||◌}
use mathlib.Core.List.{List, [], ◌∷◌}
use mathlib.Core.Path.{◌≡◌, refl, sym, ap, ◌∙◌}
use Prim.Native.Nat.{ℕ, zero, suc, ◌+◌, ◌-◌, ◌≤◌, ◌<◌}
use native.Mathlib.Omega.{arith}
use lib.Dec.{eqb}
use lib.ListN.{length, get_or, set, replicate, length-set, length-replicate, get_or-replicate}
use lib.Seq.{get_or-set_same, get_or-set_other}
use borrow.Author.Tests.{eq-eqb, ne_eqb, eqb-true}
use Rattle.std.specs.Prelude.{if◌then◌else◌, Option, None, Some}
use Rattle.base.specs.Tests.{◌and◌, any, has}
use Rattle.base.specs.Bytes.{all_below}
use Rattle.base.proofs.Cases.{by_test, by_last}
use Rattle.base.proofs.Tests.{joined, and_false, has_keep, clash, or_right}
use Rattle.base.proofs.Bytes.{length_list_of, all_below_fails}
use Rattle.base.proofs.Indexed.{all_below_cong, any_indexed}
use Rattle.base.proofs.Lists.{has_list_of}
use Rattle.ids.specs.Ids.{ROOT, same_id}
use Rattle.ids.proofs.Ids.{same_id→≡, same_id_refl}
use Rattle.ids.specs.declared.FullNodeId.{FullNodeId}
use Rattle.reasons.specs.Shape.{ids_below, wider, widened, reached}
use Rattle.state.specs.State.{Forest, NodeState, ids_of, subtree_of}
use Rattle.state.specs.declared.SubtreeState.{SubtreeState}
use Rattle.state.specs.Down.{root_of}
use Rattle.state_array.specs.View.{id_in, node_in, slots_of, view}
use Rattle.state_array.proofs.View.{view_ids}
use Rattle.reasons_shape.specs.Reached.{reached_in, Marks, Marked, below_at, leads_to, none_leads, next_mark, root_mark}

-- ## Storing

-- of n marks the first i are stored
pub record Storing (n : ℕ) (mark : ℕ → ℕ) (marks : List ℕ) (i : ℕ) : Type 0 where
  pub room : n ≤ 320
  pub long : length marks ≡ 320
  pub each : (k : ℕ) → k < i → get_or marks k 0 ≡ mark k

pub storing_start : {n : ℕ} {mark : ℕ → ℕ} → n ≤ 320 → Storing n mark (replicate 320 0) 0
storing_start h = record { room = h; long = length-replicate {A = ℕ} 320 0; each = λ k l. absurd (omega arith) }

module _ {n : ℕ} {mark : ℕ → ℕ} {marks : List ℕ} {i : ℕ} (g : Storing n mark marks i) where
  pub storing_more : {v : ℕ} → i < n → v ≡ mark i → Storing n mark (set marks i v) (i + 1)
  storing_more {v} h e = record {
    room = g.room;
    long = length-set marks i v ∙ g.long;
    each = λ k l. by_last k i l (λ q. rw q (get_or-set_same marks i v 0 (omega (arith, g.long, g.room)) ∙ e))
        (λ b. get_or-set_other marks i k v 0 (λ q. omega arith) ∙ g.each k b);
  }

  pub storing_end : {m : ℕ} → n ≡ m → n ≤ i → Marks m mark marks
  storing_end e h = record { long = g.long; each = λ k l. g.each k (omega arith) }

-- ## The mark of a slot, for each way out of the code

module _ (s : List ℕ) (i : ℕ) {x : FullNodeId} (own : x ≡ id_in s i) {r : Bool} where
  pub root_mark_lem : (root : FullNodeId) → r ≡ same_id x root → r ≡ true → 2 ≡ root_mark s root i
  unfolding root_mark
  root_mark_lem root test h = rw (← own, sym test ∙ h)

  pub other_mark : (root : FullNodeId) → r ≡ same_id x root → r ≡ false → 0 ≡ root_mark s root i
  unfolding root_mark
  other_mark root test h = rw (← own, sym test ∙ h)

  module _ (marks : List ℕ) (e : get_or marks i 0 ≡ 0) (test : r ≡ none_leads s marks x) where
    pub mark_none : r ≡ true → 0 ≡ next_mark s marks i
    unfolding next_mark
    mark_none h = rw (← own, eq-eqb (get_or marks i 0) 0 e, sym test ∙ h)

    pub mark_new : r ≡ false → 2 ≡ next_mark s marks i
    unfolding next_mark
    mark_new h = rw (← own, eq-eqb (get_or marks i 0) 0 e, sym test ∙ h)

pub mark_old : (s marks : List ℕ) (i : ℕ) → (get_or marks i 0 ≡ 0 → ⊥) → 1 ≡ next_mark s marks i
unfolding next_mark
mark_old s marks i e = rw (ne_eqb (get_or marks i 0) 0 e)

module _ (s marks : List ℕ) (x : FullNodeId) (p : ℕ) where
  pub leads_not : (get_or marks p 0 ≡ 2 → ⊥) → false ≡ leads_to s marks x p
  unfolding leads_to ◌and◌
  leads_not e = rw (ne_eqb (get_or marks p 0) 2 e)

  pub leads_if : get_or marks p 0 ≡ 2 → {r : Bool} → r ≡ below_at s x p → r ≡ leads_to s marks x p
  unfolding leads_to ◌and◌
  leads_if e test = test ∙ rw (eq-eqb (get_or marks p 0) 2 e)

-- ## One step further

-- What the marks say of the nodes xs. A slot with the mark 1 has been gone down from: the slots below it have marks.
pub record Spread (s : List ℕ) (xs : List FullNodeId) (marks : List ℕ) : Type 0 where
  pub long : length marks ≡ 320
  pub small : (i : ℕ) → i < slots_of s → get_or marks i 0 ≤ 2
  pub says : (i : ℕ) → i < slots_of s → not (eqb (get_or marks i 0) 0) ≡ has same_id xs (id_in s i)
  pub settled : (p i : ℕ) → p < slots_of s → i < slots_of s → get_or marks p 0 ≡ 1 → below_at s (id_in s i) p ≡ true → has same_id xs (id_in s i) ≡ true

-- the root alone
pub spread_root : {s : List ℕ} {root : FullNodeId} {marks : List ℕ} → Marks (slots_of s) (root_mark s root) marks → Spread s (root ∷ []) marks
unfolding root_mark
spread_root {s} {root} {marks} m = record {
  long = m.long;
  small = λ i l. rw (m.each i l) (by_test (same_id (id_in s i) root) (λ t. rw t (omega arith)) (λ t. rw t (omega arith)));
  says = λ i l. rw (m.each i l) (by_test (same_id (id_in s i) root) (λ t. rw t) (λ t. rw t));
  settled = λ p i l b e h. absurd (never p (sym (m.each p l) ∙ e));
}
  where
    never : (p : ℕ) → ◌≡◌ {A = ℕ} (if same_id (id_in s p) root then 2 else 0) 1 → ⊥
    never p = by_test (same_id (id_in s p) root) (λ t. rw t (λ e. omega arith)) (λ t. rw t (λ e. omega arith))

module _ {s : List ℕ} {xs : List FullNodeId} {marks : List ℕ} (g : Spread s xs marks) where
  -- the forest that the state shows
  abbrev f : Forest
  f = (view s).forest

  -- a node of xs above x
  abbrev over : FullNodeId → NodeState → Bool
  over x n = has same_id xs n.id and has same_id (ids_below f n) x

  -- a present node is among those one step further where it is among xs, or below one that is
  wider_has : (i : ℕ) → i < slots_of s → has same_id (wider f xs) (id_in s i) ≡ (has same_id xs (id_in s i) || any (over (id_in s i)) f.nodes)
  unfolding wider ◌and◌
  wider_has i l =
      has_keep same_id same_id→≡ (λ x. has same_id xs x || any (over x) f.nodes) (ids_of f.nodes) (id_in s i)
      ∙ rw (view_ids s, has_list_of same_id same_id_refl (slots_of s) (id_in s) i l)

  -- by index
  over_is : (x : FullNodeId) → any (over x) f.nodes ≡ not (all_below (slots_of s) (λ p. not (has same_id xs (id_in s p) and below_at s x p)))
  unfolding view node_in below_at
  over_is x = any_indexed (over x) (slots_of s) (node_in s)

  -- of a slot without a mark, the nodes above it that are among xs have the mark 2
  leads_is : (i p : ℕ) → i < slots_of s → get_or marks i 0 ≡ 0 → p < slots_of s
      → (has same_id xs (id_in s p) and below_at s (id_in s i) p) ≡ leads_to s marks (id_in s i) p
  unfolding leads_to
  leads_is i p l e b =
      by_test (below_at s (id_in s i) p) (λ t. rw (t, ← g.says p b) (ap (λ z. z and true) (two (get_or marks p 0) refl t)))
      (λ t. rw t (and_false (has same_id xs (id_in s p)) ∙ sym (and_false (eqb (get_or marks p 0) 2))))
    where
      bare : has same_id xs (id_in s i) ≡ false
      bare = sym (g.says i l) ∙ ap not (eq-eqb _ 0 e)

      two : (m : ℕ) → get_or marks p 0 ≡ m → below_at s (id_in s i) p ≡ true → not (eqb m 0) ≡ eqb m 2
      two zero q t = refl
      two (suc zero) q t = absurd (clash bare (g.settled p i b l q t))
      two (suc (suc zero)) q t = refl
      two (suc (suc (suc m))) q t = absurd (omega (arith, g.small p b))

  -- the mark of the next step says whether a node is among those one step further
  next_says : (i : ℕ) → i < slots_of s → not (eqb (next_mark s marks i) 0) ≡ has same_id (wider f xs) (id_in s i)
  unfolding next_mark none_leads
  next_says i l =
      by_test (eqb (get_or marks i 0) 0)
      (λ t. rw (
        t,
        wider_has i l,
        ← g.says i l,
        t,
        over_is (id_in s i),
        all_below_cong (slots_of s) _ _ (λ p b. ap not (leads_is i p l (eqb-true _ 0 t) b)),
      ) (by_test (all_below (slots_of s) (λ p. not (leads_to s marks (id_in s i) p))) (λ n. rw n) (λ n. rw n)))
      (λ t. rw (t, wider_has i l, ← g.says i l, t))

  -- it is at most 2, and 1 only where there was a mark
  next_small : (i : ℕ) → next_mark s marks i ≤ 2
  unfolding next_mark
  next_small i =
      by_test (eqb (get_or marks i 0) 0) (λ t. rw t (by_test (none_leads s marks (id_in s i)) (λ n. rw n (omega arith)) (λ n. rw n (omega arith))))
      (λ t. rw t (omega arith))

  next_one : (i : ℕ) → next_mark s marks i ≡ 1 → eqb (get_or marks i 0) 0 ≡ false
  unfolding next_mark
  next_one i e =
      by_test (eqb (get_or marks i 0) 0)
      (λ t. by_test (none_leads s marks (id_in s i)) (λ n. absurd (omega (arith, rw (t, n) at e))) (λ n. absurd (omega (arith, rw (t, n) at e)))) (λ t. t)

  pub spread_more : {next : List ℕ} → Marks (slots_of s) (next_mark s marks) next → Spread s (wider (view s).forest xs) next
  spread_more m = record {
    long = m.long;
    small = λ i l. rw (m.each i l) (next_small i);
    says = λ i l. rw (m.each i l) (next_says i l);
    settled = λ p i l b e h.
        let among : has same_id xs (id_in s p) ≡ true = sym (g.says p l) ∙ ap not (next_one p (sym (m.each p l) ∙ e)) in
        rw (wider_has i b, over_is (id_in s i), all_below_fails (λ p. not (has same_id xs (id_in s p) and below_at s (id_in s i) p)) (slots_of s) p l (ap not (joined among h)))
        (or_right (has same_id xs (id_in s i)) refl);
  }

-- ## All steps

-- after k steps of n
pub record Reaching (s : List ℕ) (n k : ℕ) (marks : List ℕ) : Type 0 where
  pub slots : n ≡ slots_of s
  pub rest : (xs : List FullNodeId) × Spread s xs marks × (widened (n - k) (view s).forest xs ≡ reached_in s)

-- without ROOT none is reached
module _ (s : List ℕ) {o : Option SubtreeState} (ends : o ≡ subtree_of (view s).forest ROOT) where
  pub reached_none : o ≡ None → Marked s (reached_in s) (replicate 320 0)
  unfolding reached root_of
  reached_none q = rw (sym ends ∙ q, reached, root_of) (record {
    long = length-replicate {A = ℕ} 320 0;
    says = λ i l. ap (λ z. not (eqb z 0)) (get_or-replicate {A = ℕ} 320 i 0 0 (omega arith));
  })

  pub reaching_start : {e : SubtreeState} → o ≡ Some e → {n : ℕ} → n ≡ slots_of s → {marks : List ℕ} → Marks (slots_of s) (root_mark s e.root) marks
      → Reaching s n 0 marks
  unfolding reached root_of view
  reaching_start {e} q {n} slots m = let whole : n - 0 ≡ n = omega arith in record {
    slots = slots;
    rest = (e.root ∷ [], spread_root m, rw (whole, slots, sym ends ∙ q, reached, root_of, length_list_of (slots_of s) (node_in s)));
  }

module _ {s : List ℕ} {n k : ℕ} {marks : List ℕ} (g : Reaching s n k marks) where
  pub reaching_more : k < n → {next : List ℕ} → Marks (slots_of s) (next_mark s marks) next → Reaching s n (k + 1) next
  unfolding widened
  reaching_more h m =
      let left : n - k ≡ suc (n - (k + 1)) = omega arith in
      record { slots = g.slots; rest = (wider (view s).forest g.rest.0, spread_more g.rest.1 m, rw left at g.rest.2) }

  pub reaching_end : n ≤ k → Marked s (reached_in s) marks
  unfolding widened
  reaching_end h =
      let none_left : n - k ≡ 0 = omega arith in
      record { long = g.rest.1.long; says = λ i l. g.rest.1.says i l ∙ ap (λ ys. has same_id ys (id_in s i)) (rw none_left at g.rest.2) }
