-- The way of a walk, which the walking engine's contracts cite. Assumes nothing.
use mathlib.Core.List.{List, ◌∷◌, flat_map}
use Rattle.std.specs.Prelude.{ℕ, ◌+◌, ◌-◌, take}
use Rattle.ids.specs.declared.FullNodeId.{FullNodeId}
use Rattle.state.specs.State.{Forest}
use Rattle.questions.specs.declared.Side.{Side}
use Rattle.questions.specs.declared.Side.TheVariants.{Following, Preceding}
use Rattle.questions.specs.Links.{siblings, ancestors}

-- what is ahead of a node on one side: its siblings, then those of its nearest `level` ancestors
unfoldable pub ahead : Side → Forest → ℕ → FullNodeId → List FullNodeId
ahead side s level x = flat_map (siblings side s) (x ∷ take level (ancestors s x))

-- how many stand beside place i of a list of n
abbrev pub count_beside : Side → ℕ → ℕ → ℕ
count_beside Following i n = n - i - 1
count_beside Preceding i n = i

-- the place of the k-th of those beside place i of a list
abbrev pub place_beside : Side → ℕ → ℕ → ℕ
place_beside Following i k = i + 1 + k
place_beside Preceding i k = i - 1 - k
