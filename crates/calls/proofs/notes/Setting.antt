-- Laws of the setting: the batch that a record says. Assumes nothing.
use mathlib.Core.List.{List}
use mathlib.Core.Path.{◌≡◌}
use Prim.Native.Nat.{ℕ}
use Rattle.record.specs.Batch.{Batch}
use Rattle.record.specs.Parse.{batch_of}
use Rattle.record.proofs.Parse.{parse_well, BatchFacts, batch_facts}
use Rattle.record_reader.specs.Reader.{listed_at}
use Rattle.calls.specs.Setting.{Batched}

module _ (bytes : List ℕ) (b : Batch) (h : Batched bytes b) where
  -- the nodes that b lists are the record's
  pub batched_at : (i : ℕ) → listed_at (batch_of bytes) i ≡ listed_at b i
  unfolding listed_at
  batched_at i = rw h.nodes

  -- its limits, and the rules of every node's fields
  pub batched_facts : BatchFacts b
  unfolding batch_of
  batched_facts =
      let f = batch_facts bytes (batch_of bytes) (parse_well bytes h.formed) in
      record {
        nodes_limit = rw h.nodes f.nodes_limit;
        named_limit = rw h.nodes f.named_limit;
        fields = rw h.nodes f.fields;
      }
