-- Looking for an id one step below a node, place by place: a law for each way on and out. Assumes nothing.
use Rattle.std.specs.Prelude.{Option, None, Some}
use mathlib.Core.Bool.{Bool, true, false}
use mathlib.Core.List.{List, []}
use mathlib.Core.Path.{◌≡◌, refl, sym, ap, ◌∙◌}
use Prim.Native.Nat.{ℕ, ◌+◌, ◌≤◌, ◌<◌}
use native.Mathlib.Omega.{arith}
use lib.ListN.{drop}
use Rattle.base.specs.Tests.{any}
use Rattle.base.specs.Bytes.{bit}
use Rattle.base.proofs.Cases.{by_test}
use Rattle.base.proofs.Lists.{any_map}
use Rattle.ids.specs.Ids.{same_id}
use Rattle.ids.specs.declared.FullNodeId.{FullNodeId}
use Rattle.reasons.specs.Shape.{ids_below}
use Rattle.state.specs.Down.{met_under}
use Rattle.state_array.specs.View.{id_in, shape_in, slots_of}
use Rattle.state_rules.specs.Parts.{below_in, KidSays}
use Rattle.state_rules.proofs.Kids.{kid_past, kid_end}
use Rattle.reasons_shape.specs.Reached.{Few, below_at}

-- a node has at most 256 places below it
pub below_end : (s : List ℕ) (p : ℕ) → Few s → p < slots_of s → drop 256 (below_in s p) ≡ []
unfolding KidSays
below_end s p few l =
    by_test (bit 8 (shape_in s p).flags) (λ t. kid_past s p 256 refl refl t (omega arith)) (λ t. kid_end s p 256 refl refl t (few p l))

-- the places before j have been looked at
pub record Looking (s : List ℕ) (x : FullNodeId) (p j : ℕ) : Type 0 where
  pub rest : any (λ m. same_id x m.id) (drop j (below_in s p)) ≡ below_at s x p

pub looking_start : {s : List ℕ} {x : FullNodeId} {p : ℕ} → Looking s x p 0
unfolding below_at ids_below
looking_start {s} {x} {p} = record { rest = sym (any_map (same_id x) (λ m. m.id) (below_in s p)) }

module _ {s : List ℕ} {x : FullNodeId} {p j : ℕ} (g : Looking s x p j) where
  -- past the last place
  pub looking_end : Few s → p < slots_of s → 256 ≤ j → j ≤ 256 → false ≡ below_at s x p
  looking_end few l h b = let e : j ≡ 256 = omega arith in rw (e, below_end s p few l) at g.rest

  -- what is met at the next place
  module _ {k : Option FullNodeId} (says : KidSays (below_in s p) j (id_in s p) k) where
    pub looking_none : k ≡ None → false ≡ below_at s x p
    unfolding KidSays
    looking_none q = sym (ap (any (λ m. same_id x m.id)) (rw q at says)) ∙ g.rest

    module _ {y : FullNodeId} (q : k ≡ Some y) {r : Bool} (test : r ≡ same_id x y) where
      pub looking_hit : r ≡ true → true ≡ below_at s x p
      unfolding KidSays met_under
      looking_hit t = let same : same_id x y ≡ true = sym test ∙ t in rw (rw q at says, same) at g.rest

      pub looking_more : r ≡ false → Looking s x p (j + 1)
      unfolding KidSays met_under
      looking_more t = let same : same_id x y ≡ false = sym test ∙ t in record { rest = rw (rw q at says, same) at g.rest }
