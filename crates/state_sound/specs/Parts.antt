-- What the parts of the decider answer, over the words of a state. Assumes nothing.
use Rattle.std.specs.Prelude.{Bool, List, [], ◌∷◌, ◌≡◌, ℕ, ◌-◌, ◌<◌, ltb, None}
use Rattle.base.specs.Tests.{◌and◌, all}
use Rattle.base.specs.Search.{First}
use Rattle.ids.specs.declared.FullNodeId.{FullNodeId}
use Rattle.state.specs.State.{Forest}
use Rattle.state.specs.Down.{Met, met_under}
use Rattle.state.specs.Sound.{recorded, graft_is_bare, grafts_differ, root_first, one_id_each, all_grafted}
use Rattle.state_array.specs.View.{id_in, tree_in, slots_of, view}
use Rattle.state_lookup.specs.Lookup.{stands_at}
use Rattle.state_sound.specs.Counted.{counted}
use Rattle.state_rules.specs.Parts.{below_in}

-- the rules that do not go down
unfoldable pub sound_grafts : Forest → Bool
sound_grafts s =
    all graft_is_bare s.nodes and grafts_differ s.nodes and root_first s.trees and one_id_each s.trees and all_grafted s.nodes 0 s.trees

-- The node met at place j below slot p stands in slot r and records so; r is the number of slots where it does not.
pub record MetAt (s : List ℕ) (p j : ℕ) (x : FullNodeId) (r : ℕ) : Type 0 where
  pub first : r < slots_of s → First (stands_at s x) (slots_of s) r
  pub says : recorded (view s).forest.nodes (met_under (id_in s p) j x) ≡ ltb r (slots_of s)

-- going down from slot r meets the other nodes, each by its own link
unfoldable pub counted_below : List ℕ → ℕ → Bool
counted_below s r = counted (slots_of s - 1) (view s).forest (below_in s r)

-- the root that the first row of the table names, as it is met
abbrev pub start_in : List ℕ → Met
start_in s = record { id = record { tree = record { 0 = 0 }; node = (tree_in s 0).root }; link = None }

-- going down from it meets the nodes, each by its own link
unfoldable pub counted_all : List ℕ → Bool
counted_all s = counted (slots_of s) (view s).forest (start_in s ∷ [])
