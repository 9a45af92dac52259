-- What the accessors answer, for any bytes and any index: the fields of the batch that the bytes say, and zeros past its nodes and child entries.
-- Assumes nothing.
use Rattle.std.specs.Prelude.{ℕ, ◌+◌, List, [], ltb, Float, length, get_or, if◌then◌else◌, Option, None, Some}
use Rattle.std.specs.Float.Ieee.{of_bits}
use Rattle.std.specs.Float.{binary64}
use Rattle.base.specs.Tests.{is_some}
use Rattle.base.specs.Bytes.{le, list_of}
use Rattle.ids.specs.Ids.{ROOT}
use Rattle.ids.specs.declared.NodeId.{NodeId}
use Rattle.record.specs.Batch.{Listed, Batch}
use Rattle.record.specs.Layout.{node_count, entry_count, record_at, entry_at}
use Rattle.record.specs.Parse.{batch_of}
use Rattle.record_reader.specs.declared.BatchHeader.{BatchHeader}
use Rattle.record_reader.specs.declared.NodeRecord.{NodeRecord}

-- ## Nodes

abbrev pub zero : Float
zero = of_bits binary64 0

abbrev pub no_node : NodeId
no_node = record { 0 = 0 }

-- what stands past the last node: all zeros
abbrev pub no_listed : Listed
no_listed =
    record {
      id = no_node;
      body = record {
        active_descendant = no_node;
        graft = ROOT;
        children = [];
        label = [];
        role = 0;
        flags = 0;
        bounds = record { x0 = zero; y0 = zero; x1 = zero; y1 = zero };
        transform = record { a = zero; b = zero; c = zero; d = zero; e = zero; f = zero };
      };
    }

-- the node listed at position i
unfoldable pub listed_at : Batch → ℕ → Listed
listed_at b i = get_or b.nodes i no_listed

-- the number of w bytes at an offset within node record i, 0 past the last node
unfoldable pub field_at : ℕ → List ℕ → ℕ → ℕ → ℕ
field_at w s i offset = if ltb i (node_count s) then le w s (record_at i + offset) else 0

-- ## Child entries

-- all child entries in order: on a record, the children that its nodes name
unfoldable pub entries_of : List ℕ → List NodeId
entries_of s = list_of (entry_count s) (λ j. record { 0 = le 8 s (entry_at s j) })

-- ## The structs

-- the tree root, 0 without tree data
abbrev pub root_or_zero : Option NodeId → NodeId
root_or_zero None = no_node
root_or_zero (Some r) = r

abbrev pub header_of : Batch → BatchHeader
header_of b =
    record { nodes = length b.nodes; has_tree_data = is_some b.root; tree = b.tree; root = root_or_zero b.root; focus = b.focus }

abbrev pub node_record_of : List ℕ → ℕ → NodeRecord
node_record_of s i =
    let l = listed_at (batch_of s) i in
    record {
      id = l.id;
      active_descendant = l.body.active_descendant;
      graft = l.body.graft;
      first_child = field_at 2 s i 32;
      child_count = length l.body.children;
      role = l.body.role;
      flags = l.body.flags;
      bounds = l.body.bounds;
      transform = l.body.transform;
    }
