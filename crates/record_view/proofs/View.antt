-- A law of where a node's children end. Assumes nothing.
use mathlib.Core.Bool.{Bool, true, false}
use mathlib.Core.List.{List}
use mathlib.Core.Path.{◌≡◌}
use Prim.Native.Nat.{ℕ, ◌+◌, ◌<◌}
use native.Mathlib.Omega.{arith}
use lib.Dec.{ltb}
use lib.ListN.{length, get_or}
use Rattle.std.specs.Prelude.{if◌then◌else◌}
use Rattle.base.specs.Bytes.{le}
use Rattle.base.proofs.Bytes.{le_one, le_add}
use Rattle.record.specs.Layout.{node_count, record_at}
use Rattle.record.specs.Parse.{batch_of}
use Rattle.record_reader.specs.Reader.{listed_at, field_at}
use Rattle.record_reader.proofs.Reader.{children_count}

module _ (s : List ℕ) (byte : (k : ℕ) → get_or s k 0 < 256) where
  -- a number of two bytes is below 65536
  le_two : (at : ℕ) → le 2 s at < 65536
  le_two at = rw (le_add s at 1 1, le_one s at, le_one s (at + 1)) (omega (arith, byte at, byte (at + 1)))

  -- so is a number of two bytes within a node record
  field_small : (i offset : ℕ) → field_at 2 s i offset < 65536
  unfolding field_at
  field_small i offset = go (ltb i (node_count s))
    where
      go : (t : Bool) → (if t then le 2 s (record_at i + offset) else 0) < 65536
      go true = le_two (record_at i + offset)
      go false = omega arith

  -- so where a node's children end is no large number
  pub end_small : (i : ℕ) {a n : ℕ} → a ≡ field_at 2 s i 32 → n ≡ length (listed_at (batch_of s) i).body.children → a + n < 131072
  end_small i e f = omega (arith, field_small i 32, children_count s i, field_small i 34)
