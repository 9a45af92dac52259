-- The law that ties the kept walk to its list. Assumes nothing.
use mathlib.Core.List.{List, [], ◌∷◌, ◌++◌, map}
use Rattle.std.specs.Prelude.{Option, None, Some, slice_get}
use mathlib.Core.Path.{◌≡◌, refl, ap, ◌∙◌}
use Prim.Native.Nat.{ℕ, zero, suc, ◌+◌}
use native.Mathlib.Nat.{suc-add}
use native.Mathlib.Omega.{arith}
use lib.ListN.{length, drop, replicate}
use Rattle.ids.specs.declared.FullNodeId.{FullNodeId}
use Rattle.state.specs.State.{Forest, State}
use Rattle.questions.specs.declared.Walk.{Walk}
use Rattle.questions.specs.Answers.{after}
use Rattle.questions.proofs.Places.{at_none, at_some}
use Rattle.questions.specs.Filters.{Seen, seen}
use Rattle.questions.specs.Kept.{walk_list, walk_number, moved, stepped, next_of, answers}

-- the list and the number do not look at the count
list_moved : (s : Seen) (w : Walk) → walk_list s (moved w) ≡ walk_list s w
unfolding walk_list
list_moved s w = refl

number_moved : (s : Forest) (w : Walk) → walk_number s (moved w) ≡ walk_number s w
unfolding walk_number
number_moved s w = refl

module _ (s : State) where
  -- what a walk goes over in the state, and the number of a call
  abbrev list : Walk → List FullNodeId
  list w = walk_list (seen s) w

  abbrev number : Walk → ℕ
  number w = walk_number s.forest w

  -- a call that is answered 0
  next_is : (w : Walk) (o : Option FullNodeId) → number w ≡ 0 → slice_get (list w) w.count ≡ o → next_of s w ≡ stepped 0 w o
  unfolding next_of after
  next_is w o e q = rw (e, q) refl

  -- at the end, for good
  ends : (w : Walk) (k : ℕ) → number w ≡ 0 → drop w.count (list w) ≡ [] → answers k s w ≡ replicate k None
  unfolding answers stepped
  ends w zero e q = refl
  ends w (suc k) e q = rw (next_is w None e (at_none (list w) w.count q)) (ap (λ (l : List (Option FullNodeId)). None ∷ l) (ends w k e q))

  from : (xs : List FullNodeId) (w : Walk) (k : ℕ) → number w ≡ 0 → drop w.count (list w) ≡ xs
      → answers (length xs + k) s w ≡ map Some xs ++ replicate k None
  unfolding answers stepped
  from [] w k e q = let none_left : 0 + k ≡ k = omega arith in rw none_left (ends w k e q)
  from (x ∷ xs) w k e q =
      let at = at_some (list w) w.count x xs q in
      let rest = from xs (moved w) k (number_moved s.forest w ∙ e) (ap (drop (suc w.count)) (list_moved (seen s) w) ∙ at.1) in
      rw (suc-add, next_is w (Some x) e at.0) (ap (λ (l : List (Option FullNodeId)). Some x ∷ l) rest)

  -- From count 0 the answers one after another are the list, and then the end for good.
  pub walk_answers : (w : Walk) (k : ℕ) → number w ≡ 0 → w.count ≡ 0
      → answers (length (list w) + k) s w ≡ map Some (list w) ++ replicate k None
  walk_answers w k e z = from (list w) w k e (ap (λ (c : ℕ). drop c (list w)) z)
