-- The table of trees after a batch. Assumes nothing.
use Rattle.std.specs.Prelude.{Bool, List, ℕ, ◌+◌, eqb, ltb, get_or, if◌then◌else◌, option_map}
use Rattle.base.specs.Tests.{◌and◌}
use Rattle.ids.specs.declared.TreeIndex.{TreeIndex}
use Rattle.ids.specs.declared.FullNodeId.{FullNodeId}
use Rattle.record.specs.Batch.{Batch}
use Rattle.state.specs.State.{TreeEntry}
use Rattle.state_array.specs.View.{trees_of, slots_of}
use Rattle.state_array.specs.Stored.{no_tree}
use Rattle.update.specs.Outcome.{outcome}
use Rattle.calls.specs.declared.notes.Scope.{Scope}
use Rattle.calls.specs.Layout.{FATES}
use Rattle.calls.specs.Setting.{asked, forest}
use Rattle.calls.specs.Codes.{slot_at}

-- the trees after the batch, and tree k of them
abbrev pub trees_after : List ℕ → List ℕ → Scope → List TreeEntry
trees_after state bytes c = (outcome (forest state) (asked bytes c)).trees

abbrev pub tree_after : List ℕ → List ℕ → Scope → ℕ → TreeEntry
tree_after state bytes c k = get_or (trees_after state bytes c) k no_tree

-- the batch's tree: the root that the scope names, if any, and the batch's focus
unfoldable pub own_entry : Batch → Scope → TreeEntry
own_entry b c = record { id = b.tree; subtree = option_map (λ x. record { root = x; focus = b.focus }) c.root }

-- how many trees have numbers after a batch of a tree: a new one takes the next
unfoldable pub trees_counted : List ℕ → TreeIndex → ℕ
trees_counted state k = if ltb k.0 (trees_of state) then trees_of state else trees_of state + 1

-- whether the notes mark the node with an id as one that goes
unfoldable pub marked_gone : List ℕ → List ℕ → FullNodeId → Bool
marked_gone state notes x = ltb (slot_at (forest state) x) (slots_of state) and eqb (get_or notes (FATES + slot_at (forest state) x) 0) 1
