-- What a walk meets from where it stands. Assumes nothing.
use Rattle.std.specs.Prelude.{List, [], ◌∷◌, ℕ, suc, ltb, if◌then◌else◌, None, Some}
use Rattle.ids.specs.declared.FullNodeId.{FullNodeId}
use Rattle.state_array.specs.Layout.{SLOTS}
use Rattle.state_array.specs.View.{view}
use Rattle.questions.specs.declared.Side.{Side}
use Rattle.questions.specs.Ahead.{ahead}
use Rattle.question_calls.specs.Slots.{slot_id}
use Rattle.question_calls.specs.declared.steps.Place.{Place}

-- the node that it stands at, and what is ahead of it; nothing at the end
unfoldable pub met_from : Side → List ℕ → Place → List FullNodeId
met_from side s p = elim (slot_id s p.slot) [ None ↦ [] | Some x ↦ x ∷ ahead side (view s).forest p.level x ]

-- one level more, as far as there can be any
unfoldable pub one_more : ℕ → ℕ
one_more level = if ltb level SLOTS then suc level else level
