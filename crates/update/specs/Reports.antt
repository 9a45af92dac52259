-- Module 5, reports: the four change lists, the extra ids, the lent slice. Document 01, "Change lists".
-- Assumes nothing.
use Rattle.std.specs.Prelude.{Bool, true, false, not, ◌||◌, List, [], ◌∷◌, ◌++◌, ℕ, length, drop, if◌then◌else◌, Option, None, Some}
use Rattle.base.specs.Tests.{◌and◌, is_some, all, keep, same_option, has}
use Rattle.ids.specs.Ids.{same_id, before, id_words}
use Rattle.ids.specs.declared.FullNodeId.{FullNodeId}
use Rattle.record.specs.Batch.{same_data, Batch}
use Rattle.state.specs.State.{same_link, NodeState, ids_of, Forest, State, find, present, parent_at}
use Rattle.state.specs.Focus.{state_focus}
use Rattle.update.specs.Outcome.{pane_root, outcome}

-- ## The four lists

-- the four lists of ids
pub record Changes : Type 0 where
  pub added : List FullNodeId
  pub updated : List FullNodeId
  pub removed : List FullNodeId
  pub relinked : List FullNodeId

-- four empty lists
unfoldable pub no_changes : Changes
no_changes = record { added = []; updated = []; removed = []; relinked = [] }

-- sorted by tree number, then node number, no id twice
unfoldable pub sorted : List FullNodeId → Bool
sorted [] = true
sorted (x ∷ xs) = all (before x) xs and sorted xs

-- Each list takes the ids in the order of the nodes, so it is sorted (proofs/Reports, `lists_sorted`).
module _ (s s' : Forest) where
  -- present after and not before
  unfoldable pub added : List FullNodeId
  added = keep (λ x. not (present s.nodes x)) (ids_of s'.nodes)

  -- present before and not after
  unfoldable pub removed : List FullNodeId
  removed = keep (λ x. not (present s'.nodes x)) (ids_of s.nodes)

  -- Present before and after, with other data, or with another parent or place (to no parent does not count);
  -- and what is marked, even if nothing changed.
  unfoldable pub is_updated : (FullNodeId → Bool) → NodeState → Bool
  is_updated marked n =
      elim (find n.id s'.nodes) [
        | None ↦ false
        | Some m ↦
            not (same_data n.body m.body)
            || (is_some m.parent_and_index and not (same_option same_link n.parent_and_index m.parent_and_index))
            || marked n.id
      ]

  -- the list of these
  unfoldable pub updated : (FullNodeId → Bool) → List FullNodeId
  updated marked = ids_of (keep (is_updated marked) s.nodes)

  -- present before and after, with another parent; to or from no parent counts
  unfoldable pub is_relinked : FullNodeId → Bool
  is_relinked x = present s'.nodes x and not (same_option same_id (parent_at s.nodes x) (parent_at s'.nodes x))

  -- the list of these
  unfoldable pub relinked : List FullNodeId
  relinked = keep is_relinked (ids_of s.nodes)

  -- the four lists from the two forests
  unfoldable pub changes_with : (FullNodeId → Bool) → Changes
  changes_with marked = record { added = added; updated = updated marked; removed = removed; relinked = relinked }

-- the changes that a batch makes: the root that tree data gives a pane is marked
unfoldable pub changes_of : Forest → Batch → Changes
changes_of s b = changes_with s (outcome s b) (pane_root s b)

-- each length is the number of ids in its list
pub record Lengths : Type 0 where
  pub added : ℕ
  pub updated : ℕ
  pub removed : ℕ
  pub relinked : ℕ

-- of four lists
unfoldable pub lengths_of : Changes → Lengths
lengths_of c =
    record { added = length c.added; updated = length c.updated; removed = length c.removed; relinked = length c.relinked }

-- ## The lent slice

-- the four lists, one after another
unfoldable pub change_words : Changes → List ℕ
change_words c = id_words (c.added ++ c.updated ++ c.removed ++ c.relinked)

-- the slice afterwards: elements beyond the lists keep what they held
unfoldable pub slice_after : List ℕ → Changes → List ℕ
slice_after slice c = change_words c ++ drop (length (change_words c)) slice

-- ## The extra `node_updated` ids of `process_changes`, if the focus moved

-- an id, unless it stands in a list
unfoldable pub unless_in : List FullNodeId → Option FullNodeId → Option FullNodeId
unless_in xs None = None
unless_in xs (Some x) = if has same_id xs x then None else Some x

-- the answers of `TreeState::focus` differ
unfoldable pub focus_moved : State → State → Bool
focus_moved s s' = not (same_option same_id (state_focus s) (state_focus s'))

-- the node that lost the focus, unless updated or removed
unfoldable pub extra_before : State → State → Changes → Option FullNodeId
extra_before s s' c = if focus_moved s s' then unless_in (c.updated ++ c.removed) (state_focus s) else None

-- the node that got it, unless added or updated
unfoldable pub extra_after : State → State → Changes → Option FullNodeId
extra_after s s' c = if focus_moved s s' then unless_in (c.added ++ c.updated) (state_focus s') else None
