-- What the parts answer: a broken rule as plain fields, and the rules for links that are asked together. Assumes nothing.
use Rattle.std.specs.Prelude.{not, List, [], ◌∷◌, ◌++◌, ◌≡◌, ℕ, Option, None}
use Rattle.base.specs.Tests.{keep, first_given}
use Rattle.ids.specs.Ids.{ROOT}
use Rattle.ids.specs.declared.FullNodeId.{FullNodeId}
use Rattle.reasons.specs.Reasons.{Dropped, Broken, met_twice, graft_with_children}
use Rattle.reasons.specs.Shape.{spot, at, smallest, ids_below, reached, is_met_twice, unmet, wrong_link_from}
use Rattle.reasons_why.specs.Why.{why, dropped_node, dropped_by}
use Rattle.reasons_why.specs.declared.Why.{Why}
use Rattle.state.specs.State.{Forest, present}
use Rattle.state.specs.Sound.{graft_is_bare}
use Rattle.state_array.specs.View.{node_in, tree_in, view}
use Rattle.reasons_shape.specs.declared.links.Climb.{Climb}

-- the absent ids below the node in slot p
abbrev pub absent_under : List ℕ → ℕ → List FullNodeId
absent_under s p = keep (λ x. not (present (view s).forest.nodes x)) (ids_below (view s).forest (node_in s p))

-- `least` is the smallest of some ids, and r that of them and of ys
abbrev pub LeastWith : Option FullNodeId → List FullNodeId → Option FullNodeId → Type 0
LeastWith least ys r = (xs : List FullNodeId) → least ≡ smallest xs → r ≡ smallest (xs ++ ys)

-- a rule alone, for number k; rule 0 where none is broken
abbrev pub rule_why : ℕ → ℕ → Why
rule_why k rule = why k rule 0 0 ROOT None None None

-- a rule, a slot and up to three nodes
abbrev pub node_why : ℕ → ℕ → ℕ → Option FullNodeId → Option FullNodeId → Option FullNodeId → Why
node_why k rule i x by also =
    record { number = k; rule = rule; place = i; other = 0; tree = ROOT; node = x; by = by; also = also }

-- a rule and the tree with number n
unfoldable pub tree_why : List ℕ → ℕ → ℕ → ℕ → Why
tree_why s k rule n = why k rule n 0 (tree_in s n).id None None None

-- a node that lost its place, and by whom, as plain fields
pub record ClimbSays (d : Option Dropped) (r : Climb) : Type 0 where
  pub node : r.node ≡ dropped_node d
  pub by : r.by ≡ dropped_by d

-- the rules for links after the first two, in order
unfoldable pub broken_ways : Forest → Option Broken
broken_ways s =
    first_given (λ o. o)
    (at met_twice (spot (is_met_twice s (reached s)) s.nodes)
    ∷ unmet s (reached s)
    ∷ wrong_link_from 0 s (reached s) s.nodes
    ∷ at graft_with_children (spot (λ n. not (graft_is_bare n)) s.nodes)
    ∷ [])
