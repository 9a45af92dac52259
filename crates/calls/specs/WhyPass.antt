-- The node that a child entry belongs to, 12's reason by the words of the notes, and a reason that has a number and nodes alone. Assumes nothing.
use Rattle.std.specs.Prelude.{List, ℕ, ◌+◌, ltb, length, get_or, if◌then◌else◌, Option, None, Some}
use Rattle.ids.specs.Ids.{ROOT}
use Rattle.ids.specs.declared.FullNodeId.{FullNodeId}
use Rattle.record.specs.Batch.{Batch}
use Rattle.record.specs.Parse.{batch_of}
use Rattle.record_reader.specs.Reader.{listed_at}
use Rattle.state.specs.State.{Forest}
use Rattle.update.specs.Words.{here}
use Rattle.reasons.specs.Reasons.{Reason, claimed_twice}
use Rattle.reasons_why.specs.declared.Why.{Why}
use Rattle.calls.specs.declared.notes.Scope.{Scope}
use Rattle.calls.specs.Layout.{LISTED}
use Rattle.calls.specs.Noted.{id_noted}
use Rattle.calls.specs.Causes.{entries, no_entry}

-- the node whose entry j is, none past the last
unfoldable pub namer_at : Forest → Batch → ℕ → Option FullNodeId
namer_at s b j = if ltb j (length (entries b.nodes)) then Some (here s b (get_or (entries b.nodes) j no_entry).by) else None

-- the tree that listed node i claims was claimed by listed node m before
abbrev pub claimed_noted : List ℕ → Scope → List ℕ → ℕ → ℕ → Reason
claimed_noted bytes c notes i m = claimed_twice (listed_at (batch_of bytes) i).body.graft (id_noted c notes (LISTED + m)) (id_noted c notes (LISTED + i))

-- a number and nodes alone
unfoldable pub plain_nodes : ℕ → FullNodeId → Option FullNodeId → Option FullNodeId → Why
plain_nodes number x by also = record {
  number = number;
  rule = 0;
  place = 0;
  other = 0;
  tree = ROOT;
  node = Some x;
  by = by;
  also = also;
}
