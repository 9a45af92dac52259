-- Rules asked one after another: a rule that is broken answers for all, and one that is kept leaves it to the others. Assumes nothing.
use mathlib.Core.Bool.{Bool, true, false, not}
use mathlib.Core.List.{List, [], ◌∷◌}
use mathlib.Core.Path.{◌≡◌, refl, sym, ap, ◌∙◌}
use Prim.Native.Nat.{ℕ}
use native.Mathlib.Omega.{arith}
use lib.Dec.{leb}
use lib.ListN.{length}
use Rattle.std.specs.Prelude.{if◌then◌else◌, Option, None, Some}
use Rattle.base.specs.Tests.{first_given}
use Rattle.base.proofs.Cases.{by_option}
use Rattle.ids.specs.declared.FullNodeId.{FullNodeId}
use Rattle.reasons.specs.Reasons.{Broken, tooManyNodes, tooManyTrees, too_many_children, absent_below, met_twice, never_met, wrong_link, graft_with_children}
use Rattle.reasons.specs.Reasons.{grafted_twice, root_not_first, tree_twice, tree_unrooted, out_of_order, broken_field, no_focus}
use Rattle.reasons.specs.Shape.{spot, at, reached, crowded, absence, is_met_twice, unmet, wrong_link_from, broken_links, graft_twice_from, tree_twice_from}
use Rattle.reasons.specs.Shape.{unrooted_from, broken_trees, disorder_from, broken_shape, broken_state}
use Rattle.record.specs.Batch.{fields_ok}
use Rattle.state.specs.State.{Forest}
use Rattle.state.specs.Sound.{graft_is_bare, root_first, focus_present}
use Rattle.reasons_why.specs.Why.{why_broken}
use Rattle.reasons_why.specs.declared.Why.{Why}
use Rattle.reasons_shape.specs.Rules.{rule_why, broken_ways}

-- a rule that is broken has a number, and 0 is none
pub kept : (k : ℕ) (o : Option Broken) → (why_broken k o).rule ≡ 0 → o ≡ None
unfolding why_broken
kept k None e = refl
kept k (Some tooManyNodes) e = absurd (omega arith)
kept k (Some tooManyTrees) e = absurd (omega arith)
kept k (Some (too_many_children x)) e = absurd (omega arith)
kept k (Some (absent_below p x)) e = absurd (omega arith)
kept k (Some (met_twice x)) e = absurd (omega arith)
kept k (Some (never_met x d)) e = absurd (omega arith)
kept k (Some (wrong_link x a b)) e = absurd (omega arith)
kept k (Some (graft_with_children x)) e = absurd (omega arith)
kept k (Some (grafted_twice g)) e = absurd (omega arith)
kept k (Some root_not_first) e = absurd (omega arith)
kept k (Some (tree_twice n t)) e = absurd (omega arith)
kept k (Some (tree_unrooted n t)) e = absurd (omega arith)
kept k (Some (out_of_order x)) e = absurd (omega arith)
kept k (Some (broken_field x)) e = absurd (omega arith)
kept k (Some no_focus) e = absurd (omega arith)

-- the first answer of some
unfoldable pub first_of : List (Option Broken) → Option Broken
first_of os = first_given (λ o. o) os

module _ (k : ℕ) (o : Option Broken) (os : List (Option Broken)) {w : Why} (says : w ≡ why_broken k o) where
  -- the first rule is broken
  pub rule_here : (w.rule ≡ 0 → ⊥) → w ≡ why_broken k (first_of (o ∷ os))
  unfolding why_broken first_of
  rule_here h = by_option o (λ q. absurd (h (ap (λ (z : Why). z.rule) (says ∙ ap (why_broken k) q)))) (λ b q. says ∙ rw (q, first_given))

  -- it is kept
  pub rule_next : w.rule ≡ 0 → {z : Why} → z ≡ why_broken k (first_of os) → z ≡ why_broken k (first_of (o ∷ os))
  unfolding first_of
  rule_next h e = e ∙ rw (kept k o (ap (λ (z : Why). z.rule) (sym says) ∙ h), first_given)

-- the last rule answers for itself
pub rule_last : (k : ℕ) (o : Option Broken) {w : Why} → w ≡ why_broken k o → w ≡ why_broken k (first_of (o ∷ []))
unfolding first_of
rule_last k o says = by_option o (λ q. says ∙ rw (q, first_given)) (λ b q. says ∙ rw (q, first_given))

-- ## The rules in order

-- the last may be one of several
last_of : (a b o : Option Broken)
    → first_of (a ∷ b ∷ o ∷ []) ≡ (elim a as (λ _. Option Broken) [ None ↦ elim b as (λ _. Option Broken) [ None ↦ o | Some y ↦ Some y ] | Some y ↦ Some y ])
unfolding first_of
last_of None None None = refl
last_of None None (Some y) = refl
last_of None (Some y) o = refl
last_of (Some y) b o = refl

module _ (s : Forest) (k : ℕ) {w : Why} where
  pub links_in_order : w ≡ why_broken k (first_of (at too_many_children (spot crowded s.nodes) ∷ absence s ∷ broken_ways s ∷ []))
      → w ≡ why_broken k (broken_links s (reached s))
  unfolding broken_links broken_ways
  links_in_order e = e ∙ ap (why_broken k) (last_of (at too_many_children (spot crowded s.nodes)) (absence s) (broken_ways s))

  pub ways_in_order : w ≡ why_broken k (first_of
      (at met_twice (spot (is_met_twice s (reached s)) s.nodes)
      ∷ unmet s (reached s)
      ∷ wrong_link_from 0 s (reached s) s.nodes
      ∷ at graft_with_children (spot (λ n. not (graft_is_bare n)) s.nodes)
      ∷ [])) → w ≡ why_broken k (broken_ways s)
  unfolding first_of broken_ways
  ways_in_order e = e

  pub trees_in_order : w ≡ why_broken k (first_of
      (elim (graft_twice_from 0 s.nodes) [ None ↦ None | Some g ↦ Some (grafted_twice g) ]
      ∷ (if root_first s.trees then None else Some root_not_first)
      ∷ tree_twice_from 0 [] s.trees
      ∷ unrooted_from s.nodes 0 s.trees
      ∷ [])) → w ≡ why_broken k (broken_trees s)
  unfolding first_of broken_trees
  trees_in_order e = e

  pub shape_in_order : w ≡ why_broken k (first_of (broken_links s (reached s) ∷ broken_trees s ∷ disorder_from 0 s.nodes ∷ [])) → w ≡ why_broken k (broken_shape s)
  unfolding first_of broken_shape
  shape_in_order e = e

  pub state_in_order : w ≡ why_broken k (first_of
      ((if leb (length s.nodes) 256 then None else Some tooManyNodes)
      ∷ (if leb (length s.trees) 32 then None else Some tooManyTrees)
      ∷ broken_shape s
      ∷ at broken_field (spot (λ n. not (fields_ok n.body)) s.nodes)
      ∷ (if focus_present s then None else Some no_focus)
      ∷ [])) → w ≡ why_broken k (broken_state s)
  unfolding first_of broken_state
  state_in_order e = e

pub ruleset chain = (rule_here, rule_next, rule_last)

-- a rule that is one test
module _ (k : ℕ) (b : Broken) {t r : Bool} (test : r ≡ t) {w : Why} where
  pub if_kept : r ≡ true → w ≡ rule_why k 0 → w ≡ why_broken k (if t then None else Some b)
  unfolding why_broken
  if_kept h e = e ∙ rw (sym test ∙ h)

  pub if_broken : r ≡ false → w ≡ why_broken k (Some b) → w ≡ why_broken k (if t then None else Some b)
  if_broken h e = e ∙ rw (sym test ∙ h)

-- an id that is found, as the reason holds it
pub found_of_lem : {r : Option FullNodeId} {o : Option FullNodeId} → r ≡ o → r ≡ o
found_of_lem {r = None} e = e
found_of_lem {r = Some x} e = e
