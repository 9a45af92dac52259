-- Laws of the reason of the pass: what each event meets, and that its number is the pass's. Assumes nothing.
use mathlib.Core.Bool.{Bool, true, false, not}
use mathlib.Core.List.{List, ◌∷◌}
use Rattle.std.specs.Prelude.{None, Some}
use mathlib.Core.Path.{◌≡◌}
use Rattle.base.specs.Tests.{◌and◌, is_some, is_nil, has, same_option, first_given}
use Rattle.ids.specs.Ids.{ROOT, same_tree, same_node}
use Rattle.ids.specs.declared.TreeId.{TreeId}
use Rattle.ids.specs.declared.NodeId.{NodeId}
use Rattle.record.specs.Batch.{graft?, NodeData, Listed, Batch}
use Rattle.state.specs.State.{Forest}
use Rattle.update.specs.Words.{here, claim}
use Rattle.update.specs.Pass.{Event, names, places}
use Rattle.reasons.specs.Reasons.{Reason, named_twice, graftOverChildren, graftOfRoot, claimed_twice}
use Rattle.reasons_calls.specs.Pass.{namers_of, claimer_among, second_claim, placing, pass_reason}

-- a graft node with children
abbrev pub crowded : NodeData → Bool
crowded d = is_some (graft? d) and not (is_nil d.children)

module _ (s : Forest) (b : Batch) where
  -- ## The node that claims a tree

  -- the one placed last
  pub claimer_last : (placed : List Listed) (l : Listed) (t : TreeId) → same_option same_tree (claim s b l) (Some t) ≡ true
      → claimer_among s b (l ∷ placed) t ≡ Some l
  unfolding claimer_among
  claimer_last placed l t e = rw (e, first_given)

  -- an earlier one
  pub claimer_before : (placed : List Listed) (l : Listed) (t : TreeId) → same_option same_tree (claim s b l) (Some t) ≡ false
      → claimer_among s b (l ∷ placed) t ≡ claimer_among s b placed t
  unfolding claimer_among
  claimer_before placed l t e = rw (e, first_given)

  -- ## A child that is named

  module _ (seen : List NodeId) (placed : List Listed) (es : List Event) where
    -- before
    pub names_twice : (c : NodeId) → has same_node seen c ≡ true → pass_reason s b seen placed (names c ∷ es) ≡ Some (named_twice (here s b c) (namers_of s b c))
    unfolding pass_reason
    names_twice c e = rw e

    -- for the first time
    pub names_once : (c : NodeId) → has same_node seen c ≡ false → pass_reason s b seen placed (names c ∷ es) ≡ pass_reason s b (c ∷ seen) placed es
    unfolding pass_reason
    names_once c e = rw e

    -- ## A node that is placed

    -- a row holds, and the pass ends
    pub places_stops : (l : Listed) (r : Reason) → placing s b placed l ≡ Some r → pass_reason s b seen placed (places l ∷ es) ≡ Some r
    unfolding pass_reason
    places_stops l r e = rw (e, pass_reason)

    -- none does, and it goes on
    pub places_goes : (l : Listed) → placing s b placed l ≡ None → pass_reason s b seen placed (places l ∷ es) ≡ pass_reason s b seen (l ∷ placed) es
    unfolding pass_reason
    places_goes l e = rw (e, pass_reason)

  module _ (placed : List Listed) (l : Listed) where
    -- row 10
    pub placing_crowded : crowded l.body ≡ true → placing s b placed l ≡ Some (graftOverChildren (here s b l.id))
    unfolding placing
    placing_crowded e = rw e

    module _ (few : crowded l.body ≡ false) where
      -- no claim
      pub placing_claimless : claim s b l ≡ None → placing s b placed l ≡ None
      unfolding placing second_claim
      placing_claimless e = rw (few, e, second_claim)

      module _ {t : TreeId} (e : claim s b l ≡ Some t) where
        -- row 11
        pub placing_root : same_tree t ROOT ≡ true → placing s b placed l ≡ Some (graftOfRoot (here s b l.id))
        unfolding placing
        placing_root q = rw (few, e, q)

        module _ (other : same_tree t ROOT ≡ false) where
          -- row 12
          pub placing_claimed : (k : Listed) → claimer_among s b placed t ≡ Some k
              → placing s b placed l ≡ Some (claimed_twice t (here s b k.id) (here s b l.id))
          unfolding placing second_claim
          placing_claimed k q = rw (few, e, second_claim, other, q, second_claim)

          -- the first claim
          pub placing_claim : claimer_among s b placed t ≡ None → placing s b placed l ≡ None
          unfolding placing second_claim
          placing_claim q = rw (few, e, second_claim, other, q, second_claim)
