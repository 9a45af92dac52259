-- What the searches for a tree that two nodes graft answer. Assumes nothing.
use Rattle.std.specs.Prelude.{List, ℕ, ◌+◌, get_or, drop, Option, None, Some, option_map}
use Rattle.ids.specs.declared.FullNodeId.{FullNodeId}
use Rattle.record.specs.Batch.{graft?}
use Rattle.reasons.specs.Reasons.{Regraft}
use Rattle.state.specs.State.{NodeState, holder}
use Rattle.state_array.specs.Stored.{no_state}
use Rattle.calls.specs.declared.why_outcome.grafts.Regraft as declared

-- the tree that was found, and its two nodes
unfoldable pub regraft_of : Option declared.Regraft → Option Regraft
regraft_of r = option_map (λ (g : declared.Regraft). record { tree = g.tree; node = record { slot = g.slot; id = g.node }; other = g.other }) r

-- the first node after slot i that grafts what the node in slot i grafts
unfoldable pub regrafter : List NodeState → ℕ → Option FullNodeId
regrafter ns i = elim (graft? (get_or ns i no_state).body) [ None ↦ None | Some t ↦ holder (drop (i + 1) ns) t ]
