-- What a view of a batch shows, for any bytes (document 01, "The batch record"); a node record is record_reader/Reader `node_record_of`.
-- Assumes nothing.
use Rattle.std.specs.Prelude.{ℕ, ◌+◌, List, get_or}
use Rattle.ids.specs.declared.NodeId.{NodeId}
use Rattle.record_reader.specs.declared.BatchHeader.{BatchHeader}
use Rattle.record.specs.Parse.{batch_of}
use Rattle.record_reader.specs.Reader.{no_node, entries_of, header_of, node_record_of}

abbrev pub header_in : List ℕ → BatchHeader
header_in s = header_of (batch_of s)

-- child entry j, 0 past the last
abbrev pub entry_in : List ℕ → ℕ → NodeId
entry_in s j = get_or (entries_of s) j no_node

-- where the children of node i end among the child entries
abbrev pub children_end : List ℕ → ℕ → ℕ
children_end s i = (node_record_of s i).first_child + (node_record_of s i).child_count
