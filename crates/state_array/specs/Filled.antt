-- What the writers leave of all nodes, all children and all trees of a state: whole columns of the array. Assumes nothing.
use Rattle.std.specs.Prelude.{List, [], ◌∷◌, ◌++◌, ℕ, ◌+◌, ◌-◌, length, get_or}
use Rattle.base.specs.Bytes.{list_of}
use Rattle.base.specs.Regions.{fill, Region, region, fills}
use Rattle.ids.specs.declared.NodeId.{NodeId}
use Rattle.state.specs.State.{NodeState, TreeEntry, State}
use Rattle.state_array.specs.Layout.{HEAD_FIELDS, TREE_FIELDS, NODE_FIELDS, TREE, FIRST_CHILD, CHILD_COUNT, entry_place, place, child_place}
use Rattle.state_array.specs.Stored.{no_node, no_tree, node_word, tree_word, entries_of, head_word}

-- ## Fields

-- the fields from f on that stand before g
abbrev pub fields_to : ℕ → ℕ → List ℕ
fields_to f g = list_of (g - f) (λ k. f + k)

-- columns of the nodes
abbrev pub node_regions : List NodeState → List ℕ → List Region
node_regions ns [] = []
node_regions ns (f ∷ fs) = region (place f 0) (node_word ns f) ∷ node_regions ns fs

-- columns of the trees
abbrev pub tree_regions : List TreeEntry → List ℕ → List Region
tree_regions ts [] = []
tree_regions ts (j ∷ js) = region (entry_place j 0) (λ k. tree_word (get_or ts k no_tree) j) ∷ tree_regions ts js

-- ## Nodes: every field but the first child

abbrev pub OWN_FIELDS : List ℕ
OWN_FIELDS = fields_to TREE FIRST_CHILD ++ fields_to CHILD_COUNT NODE_FIELDS

-- their columns
abbrev pub nodes_regions : List NodeState → List Region
nodes_regions ns = node_regions ns OWN_FIELDS

-- all nodes in their places
abbrev pub nodes_written : List NodeState → List ℕ → List ℕ
nodes_written ns s = fills (nodes_regions ns) (length ns) s

-- ## Children

-- the number of child j
abbrev pub kid_word : List NodeId → ℕ → ℕ
kid_word kids j = (get_or kids j no_node).0

-- children in the entries from `first` on
abbrev pub run_written : List NodeId → ℕ → List ℕ → List ℕ
run_written kids first s = fill (child_place first) (length kids) (kid_word kids) s

-- where the children of each node start, and all children, run after run
abbrev pub children_written : List NodeState → List ℕ → List ℕ
children_written ns s = run_written (entries_of ns) 0 (fill (place FIRST_CHILD 0) (length ns) (node_word ns FIRST_CHILD) s)

-- ## Trees and the head

-- every column of theirs
abbrev pub trees_regions : List TreeEntry → List Region
trees_regions ts = tree_regions ts (fields_to 0 TREE_FIELDS)

-- all trees in their places
abbrev pub trees_written : List TreeEntry → List ℕ → List ℕ
trees_written ts s = fills (trees_regions ts) (length ts) s

-- the counts and the host flag in theirs
abbrev pub head_written : State → List ℕ → List ℕ
head_written a s = fill 0 HEAD_FIELDS (head_word a) s

-- the whole state
abbrev pub filled : State → List ℕ → List ℕ
filled a s = head_written a (trees_written a.forest.trees (children_written a.forest.nodes (nodes_written a.forest.nodes s)))
