-- What the state in memory stands for: any list of words is an abstract state, which may be unsound.
-- A node count past the last slot shows all slots, more nodes than a sound state has. A tree count past the table shows one tree more than it has,
-- more than a sound state has. A tree number is cut at 2^32 - 1, past the 32 trees of a sound state: so no cut number is a sound state's id.
-- A child entry that there is no room for is shown as the node's own number, and a node that is its own child is never met exactly once:
-- so no sound state has a child range that leaves the entries. A label longer than its room is shown with that length. A float is its bit
-- pattern's: a NaN's pattern is shown as NaN, which is not finite.
-- Assumes nothing.
use Rattle.std.specs.Prelude.{not, List, ℕ, ◌+◌, ◌*◌, ◌/◌, ◌%◌, ◌^◌, min, eqb, ltb, Float, if◌then◌else◌, Option, None, Some}
use Rattle.std.specs.Float.Ieee.{of_bits}
use Rattle.std.specs.Float.{binary64}
use Rattle.base.specs.Bytes.{bit, list_of}
use Rattle.ids.specs.declared.TreeId.{TreeId}
use Rattle.ids.specs.declared.NodeId.{NodeId}
use Rattle.ids.specs.declared.TreeIndex.{TreeIndex}
use Rattle.ids.specs.declared.FullNodeId.{FullNodeId}
use Rattle.geometry.specs.declared.Rect.{Rect}
use Rattle.geometry.specs.declared.Affine.{Affine}
use Rattle.record.specs.Batch.{NodeData}
use Rattle.state_array.specs.declared.LinkRow.{LinkRow}
use Rattle.state_array.specs.declared.ShapeRow.{ShapeRow}
use Rattle.state_array.specs.declared.TreeRow.{TreeRow}
use Rattle.state.specs.State.{ParentAndIndex, NodeState, TreeEntry, Forest, State}
use Rattle.state_array.specs.Layout.{SLOTS, TREES, count_of, tree_count_of, host_of, entry, word, child, TREE_HIGH, TREE_LOW, TREE_ROOT, TREE_FOCUS, TREE_EXISTS, TREE, NODE, PARENT_TREE, PARENT_NODE, INDEX, LINKED, GRAFT_HIGH, GRAFT_LOW, FLAGS, FIRST_CHILD, CHILD_COUNT, ACTIVE, ROLE, LABEL_LENGTH, LABEL, FLOATS}

-- ## What a slot holds

-- a tree number: a word, cut
abbrev pub tree_number : ℕ → TreeIndex
tree_number w = record { 0 = min w 4294967295 }

-- the id in slot i
unfoldable pub id_in : List ℕ → ℕ → FullNodeId
id_in s i = record { tree = tree_number (word s TREE i); node = record { 0 = word s NODE i } }

-- the parent and the place
unfoldable pub link_in : List ℕ → ℕ → LinkRow
link_in s i = record {
  parent = record { tree = tree_number (word s PARENT_TREE i); node = record { 0 = word s PARENT_NODE i } };
  index = word s INDEX i;
  linked = word s LINKED i;
}

-- the graft, the flags and the part of the child entries
unfoldable pub shape_in : List ℕ → ℕ → ShapeRow
shape_in s i = record {
  graft = record { high = word s GRAFT_HIGH i; low = word s GRAFT_LOW i };
  flags = word s FLAGS i;
  first_child = word s FIRST_CHILD i;
  child_count = word s CHILD_COUNT i;
}

-- the tree that the node grafts
unfoldable pub graft_in : List ℕ → ℕ → Option TreeId
graft_in s i = if bit 8 (shape_in s i).flags then Some (shape_in s i).graft else None

-- byte j of the label: four little-endian words, and 0 past them
unfoldable pub label_byte : List ℕ → ℕ → ℕ → ℕ
label_byte s i j = if ltb j 32 then word s (LABEL + j / 8) i / 2 ^ (8 * (j % 8)) % 256 else 0

-- number k of the ten of slot i
abbrev pub float_in : List ℕ → ℕ → ℕ → Float
float_in s i k = of_bits binary64 (word s (FLOATS + k) i)

unfoldable pub bounds_in : List ℕ → ℕ → Rect
bounds_in s i = record { x0 = float_in s i 0; y0 = float_in s i 1; x1 = float_in s i 2; y1 = float_in s i 3 }

unfoldable pub transform_in : List ℕ → ℕ → Affine
transform_in s i =
    record { a = float_in s i 4; b = float_in s i 5; c = float_in s i 6; d = float_in s i 7; e = float_in s i 8; f = float_in s i 9 }

-- the row of tree k
unfoldable pub tree_in : List ℕ → ℕ → TreeRow
tree_in s k = record {
  id = record { high = entry s TREE_HIGH k; low = entry s TREE_LOW k };
  root = record { 0 = entry s TREE_ROOT k };
  focus = record { 0 = entry s TREE_FOCUS k };
  exists = entry s TREE_EXISTS k;
}

-- ## What a row stands for

unfoldable pub link_of : LinkRow → Option ParentAndIndex
link_of r = if eqb r.linked 0 then None else Some (record { parent = r.parent; index = r.index })

-- the child entries that a row names; `own` is the node's number
unfoldable pub children_in : List ℕ → NodeId → ShapeRow → List NodeId
children_in s own r = list_of r.child_count (λ j. record { 0 = child s own.0 (r.first_child + j) })

unfoldable pub label_in : List ℕ → ℕ → List ℕ
label_in s i = list_of (word s LABEL_LENGTH i) (label_byte s i)

unfoldable pub body_in : List ℕ → ℕ → NodeData
body_in s i = record {
  active_descendant = record { 0 = word s ACTIVE i };
  graft = (shape_in s i).graft;
  children = children_in s (id_in s i).node (shape_in s i);
  label = label_in s i;
  role = word s ROLE i;
  flags = (shape_in s i).flags;
  bounds = bounds_in s i;
  transform = transform_in s i;
}

unfoldable pub node_in : List ℕ → ℕ → NodeState
node_in s i = record { id = id_in s i; parent_and_index = link_of (link_in s i); body = body_in s i }

unfoldable pub entry_in : List ℕ → ℕ → TreeEntry
entry_in s k =
    record {
      id = (tree_in s k).id;
      subtree = if eqb (tree_in s k).exists 0 then None else Some (record { root = (tree_in s k).root; focus = (tree_in s k).focus });
    }

-- ## The state

-- the slots that hold nodes
abbrev pub slots_of : List ℕ → ℕ
slots_of s = min (count_of s) SLOTS

-- the tree numbers that are taken, one more than the table has where there are too many
abbrev pub trees_of : List ℕ → ℕ
trees_of s = min (tree_count_of s) (TREES + 1)

abbrev pub nodes_of : List ℕ → List NodeState
nodes_of s = list_of (slots_of s) (node_in s)

abbrev pub forest_of : List ℕ → Forest
forest_of s = record { nodes = nodes_of s; trees = list_of (trees_of s) (entry_in s) }

unfoldable pub view : List ℕ → State
view s = record { forest = forest_of s; host_focused = not (eqb (host_of s) 0) }
