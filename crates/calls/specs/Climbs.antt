-- What the climb to the node that lost its place answers, over the words of a state and of a batch, and the batch's scope. Assumes nothing.
use Rattle.std.specs.Prelude.{Bool, List, ℕ, ltb, length, if◌then◌else◌, Option, None, option_map}
use Rattle.reasons.specs.Reasons.{Dropped}
use Rattle.reasons_calls.specs.Outcome.{dropped_within}
use Rattle.record_reader.specs.Reader.{listed_at}
use Rattle.state_array.specs.View.{slots_of}
use Rattle.update.specs.Numbers.{updated_and_removed}
use Rattle.calls.specs.declared.notes.Scope.{Scope}
use Rattle.calls.specs.Setting.{asked, forest}
use Rattle.calls.specs.Codes.{id_at}
use Rattle.calls.specs.declared.why_outcome.climb.Lost.{Lost}

-- a node that lost its place, as a plain struct
unfoldable pub lost_of : Option Dropped → Option Lost
lost_of d = option_map (λ (x : Dropped). record { node = x.node; by = x.by }) d

module _ (state bytes : List ℕ) (c : Scope) where
  -- listed node i is updated and removed
  abbrev pub removed_at : ℕ → Bool
  removed_at i = updated_and_removed (forest state) (asked bytes c) (listed_at (asked bytes c) i)

  -- climbing from slot i
  abbrev pub dropped_from : ℕ → Option Dropped
  dropped_from i = dropped_within (forest state) (asked bytes c) (length (forest state).nodes) (id_at (forest state) i)

  -- where the climb ends: the node in slot r, if that is the one that lost its place; none past the last slot
  unfoldable pub dropped_at : ℕ → Option Dropped
  dropped_at r = if ltb r (slots_of state) then dropped_within (forest state) (asked bytes c) 1 (id_at (forest state) r) else None
