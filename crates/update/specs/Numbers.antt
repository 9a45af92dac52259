-- The table of numbers that judge a batch on a sound state, 5 to 20: document 01, "Numbers a call can return", in its order,
-- save that 9 to 12 come as the pass meets them and the clash in 12 with a graft already held comes after 14. Assumes nothing.
use Rattle.std.specs.Prelude.{Bool, true, false, not, List, [], ◌∷◌, ◌++◌, ℕ, ltb, leb, length, Option, None, Some}
use Rattle.base.specs.Tests.{◌and◌, is_none, any, distinct}
use Rattle.base.specs.Tables.{Row, row, found, first}
use Rattle.ids.specs.Ids.{ROOT, same_tree, same_node}
use Rattle.ids.specs.declared.NodeId.{NodeId}
use Rattle.ids.specs.declared.FullNodeId.{FullNodeId}
use Rattle.record.specs.Batch.{same_data, Listed, Batch, listed_ids, named_ids}
use Rattle.state.specs.State.{NodeState, Forest, find, present, holder, subtree_of}
use Rattle.state.specs.Down.{root_of}
use Rattle.state.specs.Focus.{effective_focus}
use Rattle.state.specs.Sound.{grafts_differ, sound_shape}
use Rattle.update.specs.Words.{known, here, old, listed, named, with_tree_data}
use Rattle.update.specs.Pass.{placed_at_turn, pass}
use Rattle.update.specs.Gone.{gone}
use Rattle.update.specs.Outcome.{outcome}

-- absent, or none at all
unfoldable pub absent : List NodeState → Option FullNodeId → Bool
absent ns None = true
absent ns (Some x) = not (present ns x)

module _ (s : Forest) (b : Batch) where
  -- 13: a listed node left without a place
  unfoldable pub placeless : Listed → Bool
  placeless l = not (placed_at_turn s b l.id) and not (named s b (here s b l.id))

  -- 14: a named child neither present nor listed
  unfoldable pub nowhere : NodeId → Bool
  nowhere c = not (old s b (here s b c)) and not (listed s b (here s b c))

  -- 18: a listed node that is updated, its data being other, and removed.
  -- (A removed node was present, so it is never added; it is not named, so its link does not change; and a removed pane root is not updated.)
  unfoldable pub updated_and_removed : Listed → Bool
  updated_and_removed l =
      gone s b (here s b l.id)
      and elim (find (here s b l.id) s.nodes) [ None ↦ false | Some n ↦ not (same_data n.body l.body) ]

  -- 5 to 8
  unfoldable pub rows_before_pass : List Row
  rows_before_pass =
      row 5 (not (distinct same_node (listed_ids b.nodes)))
      ∷ row 6 (with_tree_data s b and not (same_tree b.tree ROOT) and is_none (holder s.nodes b.tree))
      ∷ row 7 (not (with_tree_data s b) and not (same_tree b.tree ROOT) and is_none (subtree_of s b.tree))
      ∷ row 8 (not (known s b) and leb 32 (length s.trees))
      ∷ []

  -- s' is the outcome
  unfoldable pub rows_after_pass : Forest → List Row
  rows_after_pass s' =
      row 13 (any placeless b.nodes)
      ∷ row 14 (any nowhere (named_ids b.nodes))
      ∷ row 12 (not (grafts_differ s'.nodes))
      ∷ row 15 (is_none (effective_focus s'))
      ∷ row 16 (absent s'.nodes (root_of s'))
      ∷ row 17 (absent s'.nodes (effective_focus s'))
      ∷ row 18 (any updated_and_removed b.nodes)
      ∷ row 19 (not (sound_shape s'))
      ∷ row 20 (ltb 256 (length s'.nodes))
      ∷ []

  -- the first number of 5 to 20 that refuses the batch, 0 if none does
  unfoldable pub batch_number : ℕ
  batch_number = first (rows_before_pass ++ found (pass s b) ∷ rows_after_pass (outcome s b))
