-- The one image of an abstract state in memory: counts, the table of trees, the nodes field by field, the child entries run after run.
-- Places that are not used are 0, flags are 0 or 1, and nothing stands there but what the state says. Assumes nothing.
use Rattle.std.specs.Prelude.{true, List, [], ◌∷◌, ◌++◌, map, ◌≡◌, ℕ, ◌+◌, ◌*◌, ◌≤◌, ◌<◌, ltb, Float, length, get_or, if◌then◌else◌, Option, None, Some}
use Rattle.std.specs.Float.Ieee.{fits, of_bits, to_bits}
use Rattle.std.specs.Float.{binary64}
use Rattle.base.specs.Tests.{all}
use Rattle.base.specs.Bytes.{le, list_of, sum_of}
use Rattle.base.specs.Regions.{Part, part, image}
use Rattle.ids.specs.Ids.{ROOT}
use Rattle.ids.specs.declared.NodeId.{NodeId}
use Rattle.ids.specs.declared.FullNodeId.{FullNodeId}
use Rattle.record.specs.Batch.{NodeData, fields_ok}
use Rattle.state.specs.State.{ParentAndIndex, NodeState, TreeEntry, State}
use Rattle.state_array.specs.Layout.{HEAD, HEAD_FIELDS, TREES, TREE_FIELDS, SLOTS, NODE_FIELDS, ENTRIES, word, GRAFT_HIGH, GRAFT_LOW, FLAGS, CHILD_COUNT, ACTIVE, ROLE, LABEL_LENGTH, FLOATS}
use Rattle.state_array.specs.View.{label_in}
use Rattle.state_array.specs.declared.LinkRow.{LinkRow}
use Rattle.state_array.specs.declared.TreeRow.{TreeRow}
use Rattle.state_array.specs.declared.Body.{Body}

-- ## What stands past the last node and the last tree

abbrev pub zero : Float
zero = of_bits binary64 0

abbrev pub no_node : NodeId
no_node = record { 0 = 0 }

abbrev pub no_data : NodeData
no_data = record {
  active_descendant = no_node;
  graft = ROOT;
  children = [];
  label = [];
  role = 0;
  flags = 0;
  bounds = record { x0 = zero; y0 = zero; x1 = zero; y1 = zero };
  transform = record { a = zero; b = zero; c = zero; d = zero; e = zero; f = zero };
}

abbrev pub no_state : NodeState
no_state = record { id = record { tree = record { 0 = 0 }; node = no_node }; parent_and_index = None; body = no_data }

abbrev pub no_tree : TreeEntry
no_tree = record { id = ROOT; subtree = None }

-- ## A node

-- the words of a link: without one, all 0
unfoldable pub link_row : Option ParentAndIndex → LinkRow
link_row None = record { parent = record { tree = record { 0 = 0 }; node = no_node }; index = 0; linked = 0 }
link_row (Some l) = record { parent = l.parent; index = l.index; linked = 1 }

-- word k of a label: eight bytes, little-endian, 0 past its end
abbrev pub label_word : List ℕ → ℕ → ℕ
label_word label k = le 8 label (8 * k)

-- the ten floats of a node: its bounds, then its transform
unfoldable pub floats_of : NodeData → List Float
floats_of d =
    d.bounds.x0 ∷ d.bounds.y0 ∷ d.bounds.x1 ∷ d.bounds.y1
    ∷ d.transform.a ∷ d.transform.b ∷ d.transform.c ∷ d.transform.d ∷ d.transform.e ∷ d.transform.f ∷ []

-- a node's data, its children aside, as it stands in memory
unfoldable pub body_of : NodeData → Body
body_of d = record {
  graft = d.graft;
  flags = d.flags;
  child_count = length d.children;
  active_descendant = d.active_descendant;
  role = d.role;
  label_length = length d.label;
  label = list_of 4 (label_word d.label);
  floats = map (to_bits binary64) (floats_of d);
}

-- the ten floats of slot i of any words: the words that stand there
unfoldable pub float_words : List ℕ → ℕ → List ℕ
float_words s i = list_of 10 (λ k. word s (FLOATS + k) i)

-- the data of slot i of any words as it stands there, its children aside and without what stands past the label's end
unfoldable pub body_words : List ℕ → ℕ → Body
body_words s i = record {
  graft = record { high = word s GRAFT_HIGH i; low = word s GRAFT_LOW i };
  flags = word s FLAGS i;
  child_count = word s CHILD_COUNT i;
  active_descendant = record { 0 = word s ACTIVE i };
  role = word s ROLE i;
  label_length = word s LABEL_LENGTH i;
  label = list_of 4 (label_word (label_in s i));
  floats = float_words s i;
}

-- how many children the nodes before node i have
abbrev pub children_before : List NodeState → ℕ → ℕ
children_before ns i = sum_of i (λ j. length (get_or ns j no_state).body.children)

-- ## The words of a row, in the order of the fields

-- an id
abbrev pub id_pair : FullNodeId → List ℕ
id_pair x = x.tree.0 ∷ x.node.0 ∷ []

-- a link
abbrev pub link_words : LinkRow → List ℕ
link_words l = l.parent.tree.0 ∷ l.parent.node.0 ∷ l.index ∷ l.linked ∷ []

-- data: what stands before the first child
abbrev pub graft_words : Body → List ℕ
graft_words d = d.graft.high ∷ d.graft.low ∷ d.flags ∷ []

-- what stands after it up to the label
abbrev pub count_words : Body → List ℕ
count_words d = d.child_count ∷ d.active_descendant.0 ∷ d.role ∷ d.label_length ∷ []

-- all that stands after it
abbrev pub data_words : Body → List ℕ
data_words d = count_words d ++ (d.label ++ d.floats)

-- a tree
abbrev pub tree_words : TreeRow → List ℕ
tree_words t = t.id.high ∷ t.id.low ∷ t.root.0 ∷ t.focus.0 ∷ t.exists ∷ []

-- the head: how many nodes, how many trees, the host flag
abbrev pub head_words : ℕ → ℕ → ℕ → List ℕ
head_words nodes trees host = nodes ∷ trees ∷ host ∷ []

-- ## Nodes, trees and children

-- a node's; its children start at entry `first`
unfoldable pub row_of : ℕ → NodeState → List ℕ
row_of first n =
    let d = body_of n.body in
    id_pair n.id ++ (link_words (link_row n.parent_and_index) ++ (graft_words d ++ (first ∷ data_words d)))

-- field f of node i
unfoldable pub node_word : List NodeState → ℕ → ℕ → ℕ
node_word ns f i = get_or (row_of (children_before ns i) (get_or ns i no_state)) f 0

-- a tree's row: root and focus are 0 while it does not exist
unfoldable pub tree_row : TreeEntry → TreeRow
tree_row e =
    elim e.subtree [
      | None ↦ record { id = e.id; root = no_node; focus = no_node; exists = 0 }
      | Some u ↦ record { id = e.id; root = u.root; focus = u.focus; exists = 1 }
    ]

-- field j of a tree
unfoldable pub tree_word : TreeEntry → ℕ → ℕ
tree_word e j = get_or (tree_words (tree_row e)) j 0

-- the children of all nodes, run after run
unfoldable pub entries_of : List NodeState → List NodeId
entries_of [] = []
entries_of (n ∷ ns) = n.body.children ++ entries_of ns

-- ## The image

-- word k of the head
unfoldable pub head_word : State → ℕ → ℕ
head_word a k = get_or (head_words (length a.forest.nodes) (length a.forest.trees) (if a.host_focused then 1 else 0)) k 0

-- the regions in their order: the head, the fields of the trees, the fields of the nodes, the child entries
abbrev pub parts : State → List Part
parts a =
    part HEAD HEAD_FIELDS (head_word a)
    ∷ (list_of TREE_FIELDS (λ j. part TREES (length a.forest.trees) (λ k. tree_word (get_or a.forest.trees k no_tree) j))
    ++ (list_of NODE_FIELDS (λ f. part SLOTS (length a.forest.nodes) (node_word a.forest.nodes f))
    ++ part ENTRIES (length (entries_of a.forest.nodes)) (λ j. (get_or (entries_of a.forest.nodes) j no_node).0) ∷ []))

-- the image of a state
unfoldable pub stored : State → List ℕ
stored a = image (parts a)

-- ## Which states fit

-- a label's bytes are bytes, and the floats are those of 64 bits
pub record DataFits (d : NodeData) : Type 0 where
  pub fields : fields_ok d ≡ true
  pub bytes : all (λ x. ltb x 256) d.label ≡ true
  pub floats : all (fits binary64) (floats_of d) ≡ true

-- tree numbers are of 32 bits
pub record NodeFits (n : NodeState) : Type 0 where
  pub body : DataFits n.body
  pub tree : n.id.tree.0 < 4294967296
  pub parent : (l : ParentAndIndex) → n.parent_and_index ≡ Some l → l.parent.tree.0 < 4294967296

pub record Fits (a : State) : Type 0 where
  pub nodes : length a.forest.nodes ≤ SLOTS
  pub trees : length a.forest.trees ≤ TREES
  pub entries : length (entries_of a.forest.nodes) ≤ ENTRIES
  pub each : (i : ℕ) → i < length a.forest.nodes → NodeFits (get_or a.forest.nodes i no_state)
