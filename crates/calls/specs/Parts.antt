-- What the helpers answer: rows 6 to 8 by themselves, the root that a batch leaves. Assumes nothing.
use Rattle.std.specs.Prelude.{Bool, false, not, ◌≡◌, ℕ, ◌<◌, leb, length, Option, None, Some, option_map}
use Rattle.base.specs.Tests.{◌and◌, is_none}
use Rattle.base.specs.Search.{First}
use Rattle.ids.specs.Ids.{ROOT, same_tree, same_node}
use Rattle.ids.specs.declared.NodeId.{NodeId}
use Rattle.record.specs.Batch.{Batch}
use Rattle.record_reader.specs.Reader.{listed_at}
use Rattle.state.specs.State.{Forest, holder, subtree_of}
use Rattle.update.specs.Words.{known, here, with_tree_data, root_after}
use Rattle.calls.specs.declared.rows.Again.{Again}

-- the first k listed nodes differ
abbrev pub Apart : Batch → ℕ → Type 0
Apart b k = (j : ℕ) → j < k → (h : ℕ) → h < j → same_node (listed_at b h).id (listed_at b j).id ≡ false

-- the first listed node that was listed before stands at `second`, and before at `first`
pub record AgainAt (b : Batch) (r : Again) : Type 0 where
  pub within : r.second < length b.nodes
  pub apart : Apart b r.second
  pub earlier : r.first < r.second
  pub again : First (λ h. same_node (listed_at b h).id (listed_at b r.second).id) r.second r.first

-- row 5: such a node, or none, and then all of them differ
unfoldable pub ListedAgain : Batch → Option Again → Type 0
ListedAgain b None = Apart b (length b.nodes)
ListedAgain b (Some r) = AgainAt b r

module _ (s : Forest) (b : Batch) where
  -- row 6: tree data for a tree other than ROOT that no node grafts
  unfoldable pub ungrafted : Bool
  ungrafted = with_tree_data s b and not (same_tree b.tree ROOT) and is_none (holder s.nodes b.tree)

  -- row 7: no tree data for a tree other than ROOT that does not exist
  unfoldable pub missing : Bool
  missing = not (with_tree_data s b) and not (same_tree b.tree ROOT) and is_none (subtree_of s b.tree)

  -- row 8: a tree without a number, where none is left
  unfoldable pub full : Bool
  full = not (known s b) and leb 32 (length s.trees)

  -- the root as the batch leaves it
  abbrev pub RootAfter : Option NodeId → Type 0
  RootAfter r = option_map (here s b) r ≡ root_after s b
