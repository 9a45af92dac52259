-- What the search for a node that is listed again answers, with its reason. Assumes nothing.
use Rattle.std.specs.Prelude.{List, [], ◌≡◌, ℕ}
use Rattle.ids.specs.declared.TreeIndex.{TreeIndex}
use Rattle.record.specs.Batch.{Batch, listed_ids}
use Rattle.record.specs.Parse.{batch_of}
use Rattle.reasons_calls.specs.Pass.{repeated_after}
use Rattle.reasons_why.specs.declared.Why.{Why}
use Rattle.reasons_why.specs.Why.{why_for}
use Rattle.state.specs.State.{Forest}
use Rattle.update.specs.Words.{tree_number}

-- row 5 of every batch with the record's nodes whose tree has this number
pub record AgainIs (bytes : List ℕ) (tree : TreeIndex) (r : Why) : Type 0 where
  pub says : (s : Forest) (b : Batch) → b.nodes ≡ (batch_of bytes).nodes → tree ≡ tree_number s b → r ≡ why_for (repeated_after s b [] (listed_ids b.nodes))
