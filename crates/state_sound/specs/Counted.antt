-- The way down as one pass goes it: each node met is recorded so, and as many are met as there is room for. Assumes nothing.
use Rattle.std.specs.Prelude.{Bool, true, false, List, [], ◌∷◌, ◌++◌, ℕ, zero, suc}
use Rattle.base.specs.Tests.{◌and◌}
use Rattle.state.specs.State.{Forest}
use Rattle.state.specs.Down.{Met, below_id}
use Rattle.state.specs.Sound.{recorded}

-- going down from a list meets exactly `room` nodes, each recorded with the link under which it is met
unfoldable pub counted : ℕ → Forest → List Met → Bool
counted zero s [] = true
counted zero s (m ∷ ms) = false
counted (suc room) s [] = false
counted (suc room) s (m ∷ ms) = recorded s.nodes m and counted room s (below_id s m.id ++ ms)
