-- The room of the effective focus suffices: no tree is entered twice on the way through the grafts.
-- Assumes nothing.
use mathlib.Core.Bool.{true, false, not, true≢false}
use mathlib.Core.List.{List, [], ◌∷◌, map}
use Rattle.std.specs.Prelude.{None, Some}
use Rattle.std.proofs.lemmas.Option.{none-some, same_Some}
use mathlib.Core.Logic.{◌⊎◌, inl, inr, ⊎_elim}
use mathlib.Core.Path.{◌≡◌, refl, sym, ap, ◌∙◌, subst}
use Prim.Native.Nat.{ℕ, zero, suc, ◌+◌, ◌<◌}
use native.Mathlib.Omega.{arith}
use native.Mathlib.Nat.{suc-add}
use lib.Dec.{eqb}
use lib.ListN.{length, get_or}
use borrow.Author.Tests.{eqb-true, eq-eqb}
use Rattle.base.specs.Tests.{◌and◌, is_none, keep, has}
use Rattle.base.specs.Bytes.{list_of}
use Rattle.base.proofs.Cases.{by_test, by_option}
use Rattle.base.proofs.Tests.{and_false, and_right, has_keep}
use Rattle.base.proofs.Lists.{some_from, keep_less, has_list_of}
use Rattle.base.proofs.Bytes.{length_list_of}
use Rattle.ids.specs.Ids.{ROOT, same_tree}
use Rattle.ids.proofs.Ids.{same_tree→≡}
use Rattle.ids.specs.declared.TreeId.{TreeId}
use Rattle.ids.specs.declared.FullNodeId.{FullNodeId}
use Rattle.state.specs.State.{TreeEntry, Forest, graft_at, holder, subtree_state, subtree_from, subtree_of}
use Rattle.state.specs.declared.SubtreeState.{SubtreeState}
use Rattle.state.specs.Focus.{through_grafts, effective_focus}
use Rattle.state.specs.Sound.{grafts_differ}
use Rattle.state.proofs.Grafts.{holder_spared, graft_spared, graft_one}

-- ## Places in the table

-- the ids of a table of trees
abbrev tree_ids : List TreeEntry → List TreeId
tree_ids es = map (λ e. e.id) es

-- the tree t stands at place i of a table
abbrev StandsAt : List TreeEntry → TreeId → ℕ → Type 0
StandsAt es t i = (i < length es) × (get_or (tree_ids es) i ROOT ≡ t)

-- a tree that exists stands at the place that its number says
subtree_place : (k : ℕ) (es : List TreeEntry) (t : TreeId) (u : SubtreeState) → subtree_from k es t ≡ Some u
    → (i : ℕ) × (u.focus.tree.0 ≡ k + i) × StandsAt es t i
unfolding subtree_from subtree_state
subtree_place k [] t u e = absurd (none-some u e)
subtree_place k (r ∷ es) t u e =
    by_test (same_tree t r.id)
    (λ q. let z = some_from r.subtree (λ v. Some (subtree_state k v)) u (rw q at e) in
    let p : k ≡ u.focus.tree.0 = ap (λ (v : SubtreeState). v.focus.tree.0) (same_Some (subtree_state k z.0) u z.2) in
    (0, omega arith, (omega arith, sym (same_tree→≡ t r.id q))))
    (λ q. let z = subtree_place (suc k) es t u (rw q at e) in (suc z.0, omega (arith, z.1), (omega (arith, z.2.0), z.2.1)))

-- trees of one number are one
subtree_one : (s : Forest) (t w : TreeId) (u v : SubtreeState) → subtree_of s t ≡ Some u → subtree_of s w ≡ Some v
    → u.focus.tree.0 ≡ v.focus.tree.0 → t ≡ w
unfolding subtree_of
subtree_one s t w u v p q e =
    let y = subtree_place 0 s.trees t u p in
    let z = subtree_place 0 s.trees w v q in
    let i : y.0 ≡ z.0 = omega (arith, y.1, z.1) in
    sym y.2.1 ∙ ap (λ (k : ℕ). get_or (tree_ids s.trees) k ROOT) i ∙ z.2.1

-- the number of a tree that exists is a place in the table
subtree_below : (s : Forest) (t : TreeId) (u : SubtreeState) → subtree_of s t ≡ Some u → u.focus.tree.0 < length s.trees
unfolding subtree_of
subtree_below s t u p = let z = subtree_place 0 s.trees t u p in omega (arith, z.1, z.2.0)

-- ## Numbers left

-- the numbers of a list other than q
abbrev without : ℕ → List ℕ → List ℕ
without q left = keep (λ k. not (eqb q k)) left

-- what is left without q: what was left, other than q
has_without : (q : ℕ) (left : List ℕ) (k : ℕ) → has eqb (without q left) k ≡ (has eqb left k and not (eqb q k))
has_without q left k = has_keep eqb eqb-true (λ k. not (eqb q k)) left k

-- what was not left is not left now
without_out : (q : ℕ) (left : List ℕ) (k : ℕ) → has eqb left k ≡ false → has eqb (without q left) k ≡ false
unfolding ◌and◌
without_out q left k e = rw (has_without q left k, e)

-- nor is q
without_self : (q : ℕ) (left : List ℕ) → has eqb (without q left) q ≡ false
without_self q left = rw (has_without q left q, eq-eqb q q refl) (and_false (has eqb left q))

-- and what is not left now was not left before, or is q
without_cases : (q : ℕ) (left : List ℕ) (k : ℕ) → has eqb (without q left) k ≡ false → (has eqb left k ≡ false) ⊎ (k ≡ q)
without_cases q left k e =
    by_test (eqb q k) (λ t. inr (sym (eqb-true q k t))) (λ t. inl (sym (and_right (has eqb left k)) ∙ rw t at (sym (has_without q left k) ∙ e)))

-- ## Entering a tree

-- two rooms answer the same where they do so in the tree that is entered next
through_next : (s : Forest) (m n : ℕ) (x : FullNodeId)
    → ((t : TreeId) (u : SubtreeState) → graft_at s.nodes x ≡ Some t → subtree_of s t ≡ Some u → through_grafts m s u.focus ≡ through_grafts n s u.focus)
    → through_grafts (suc m) s x ≡ through_grafts (suc n) s x
unfolding through_grafts
through_next s m n x h =
    by_option (graft_at s.nodes x) (λ q. rw (q, through_grafts))
    (λ t q. by_option (subtree_of s t) (λ r. rw (q, through_grafts, r)) (λ u r. rw (q, through_grafts, r) (h t u q r)))

-- y grafts the tree of number k, which exists
record Enters (s : Forest) (y : FullNodeId) (k : ℕ) : Type 0 where
  tree : TreeId
  grafts : graft_at s.nodes y ≡ Some tree
  subtree : SubtreeState
  exists : subtree_of s tree ≡ Some subtree
  numbered : subtree.focus.tree.0 ≡ k

-- `left` are the numbers of the trees not entered, x is the last focus: a node that grafts an entered tree stands in a tree entered before that of x.
abbrev Follows : Forest → List ℕ → FullNodeId → Type 0
Follows s left x = (y : FullNodeId) (k : ℕ) → Enters s y k → has eqb left k ≡ false → (has eqb left y.tree.0 ≡ false) × (y.tree.0 ≡ x.tree.0 → ⊥)

module _ (s : Forest) (differ : grafts_differ s.nodes ≡ true) where
  -- a tree is entered from one node
  enters_one : (y z : FullNodeId) (k : ℕ) → Enters s y k → Enters s z k → y ≡ z
  enters_one y z k d e =
      let one : d.tree ≡ e.tree = subtree_one s d.tree e.tree d.subtree e.subtree d.exists e.exists (d.numbered ∙ sym e.numbered) in
      graft_one s.nodes differ y z e.tree (d.grafts ∙ ap Some one) e.grafts

  -- the tree of z, entered from x, is left no longer
  follows : (left : List ℕ) (x z : FullNodeId) → has eqb left x.tree.0 ≡ false → Follows s left x → Enters s x z.tree.0 → has eqb left z.tree.0 ≡ true
      → Follows s (without z.tree.0 left) z
  follows left x z out inv d l y k e f =
      let gone : has eqb left y.tree.0 ≡ false =
      ⊎_elim (λ n. (inv y k e n).0) (λ p. rw (enters_one y x z.tree.0 (subst (Enters s y) p e) d) out) (without_cases z.tree.0 left k f) in
      (without_out z.tree.0 left y.tree.0 gone, λ p. true≢false (sym l ∙ ap (has eqb left) (sym p) ∙ gone))

  -- What holds of a room and a node where it holds of the room less one and the focus of the tree that the node grafts, if there is one.
  module _ (P : ℕ → FullNodeId → Type 0)
      (step : (room : ℕ) (x : FullNodeId)
      → ((t : TreeId) (u : SubtreeState) → graft_at s.nodes x ≡ Some t → subtree_of s t ≡ Some u → P room u.focus) → P (suc room) x) where
    -- holds where there is more room than numbers left
    enough : (room : ℕ) (left : List ℕ) (x : FullNodeId) → length left < room → has eqb left x.tree.0 ≡ false → Follows s left x → P room x
    enough zero left x short out inv = absurd (omega arith)
    enough (suc room) left x short out inv =
        step room x
        (λ t u g r. let q = u.focus.tree.0 in
        let d : Enters s x q = record { tree = t; grafts = g; subtree = u; exists = r; numbered = refl } in
        by_test (has eqb left q)
        (λ l. enough room (without q left) u.focus (omega (arith, keep_less (eqb q) left l)) (without_self q left) (follows left x u.focus out inv d l))
        (λ l. absurd ((inv x q d l).1 refl)))

    -- so it holds of the room of the effective focus, where ROOT is not grafted: no tree is entered twice
    pub room_by : holder s.nodes ROOT ≡ None → (u : SubtreeState) → subtree_of s ROOT ≡ Some u → P (suc (length s.trees)) u.focus
    room_by free u is =
        enough (suc count) (without first all_numbers) u.focus (omega (arith, keep_less (eqb first) all_numbers (among first (subtree_below s ROOT u is)), length_list_of count (λ i. i)))
        (without_self first all_numbers) start
      where
        count : ℕ
        count = length s.trees

        first : ℕ
        first = u.focus.tree.0

        all_numbers : List ℕ
        all_numbers = list_of count (λ i. i)

        among : (k : ℕ) → k < count → has eqb all_numbers k ≡ true
        among k l = has_list_of eqb (λ n. eq-eqb n n refl) count (λ i. i) k l

        start : Follows s (without first all_numbers) u.focus
        start y k e f =
            absurd (⊎_elim (λ n. true≢false (sym (among k (rw e.numbered at (subtree_below s e.tree e.subtree e.exists))) ∙ n))
            (λ p. graft_spared s.nodes y ROOT (sym (holder_spared s.nodes ROOT) ∙ ap is_none free)
            (e.grafts ∙ ap Some (subtree_one s e.tree ROOT e.subtree u e.exists is (e.numbered ∙ p))))
            (without_cases first all_numbers k f))

-- where no tree is grafted twice and ROOT is not grafted, more room answers the same
pub room_enough : (s : Forest) → grafts_differ s.nodes ≡ true → holder s.nodes ROOT ≡ None → (u : SubtreeState) → subtree_of s ROOT ≡ Some u → (more : ℕ)
    → through_grafts (suc (length s.trees) + more) s u.focus ≡ effective_focus s
unfolding effective_focus
room_enough s differ free u is more =
    rw (is, effective_focus)
    (room_by s differ (λ room x. through_grafts (room + more) s x ≡ through_grafts room s x)
    (λ room x h. rw suc-add (through_next s (room + more) room x h)) free u is)
