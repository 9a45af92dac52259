-- Nodes and small states written short, for the worked cases of modules 6 to 8. Built on record/ExampleNodes, where all nodes have role 4.
-- Assumes nothing.
use Rattle.std.specs.Prelude.{false, List, [], ◌∷◌, ℕ, ◌+◌, pos, Float}
use Rattle.std.specs.Float.Ieee.{neg, of_int}
use Rattle.std.specs.Float.{binary64}
use Rattle.ids.specs.Ids.{ROOT}
use Rattle.ids.specs.declared.NodeId.{NodeId}
use Rattle.geometry.specs.declared.Rect.{Rect}
use Rattle.geometry.specs.declared.Affine.{Affine}
use Rattle.geometry_box.specs.Boxes.{nought, one}
use Rattle.geometry_box.specs.declared.BoundingBox.{BoundingBox}
use Rattle.geometry_box.specs.declared.BoundingBox.TheVariants.{Box}
use Rattle.record.specs.Batch.{NodeData}
use Rattle.record.specs.ExampleNodes.{node, parent, leaf}
use Rattle.state.specs.State.{NodeState, State}
use Rattle.state.specs.ExampleStates.{id, root, under, tree, state}

-- ## Numbers, bounds and transforms

-- n and -n in f64; `negative 0` is -0
abbrev pub whole : ℕ → Float
whole n = of_int binary64 (pos n)

abbrev pub negative : ℕ → Float
negative n = neg (whole n)

-- bounds from (x0, y0) to (x1, y1)
abbrev pub rect : Float → Float → Float → Float → Rect
rect x0 y0 x1 y1 = record { x0 = x0; y0 = y0; x1 = x1; y1 = y1 }

-- a box between whole numbers
abbrev pub whole_box : ℕ → ℕ → ℕ → ℕ → BoundingBox
whole_box x0 y0 x1 y1 = Box (whole x0) (whole y0) (whole x1) (whole y1)

-- x goes to a·x + c·y + e, y to b·x + d·y + f
abbrev pub sends : Float → Float → Float → Float → Float → Float → Affine
sends a b c d e f = record { a = a; b = b; c = c; d = d; e = e; f = f }

-- a shift by (e, f), and a scale by k
abbrev pub shift : Float → Float → Affine
shift e f = sends one nought nought one e f

abbrev pub scale : Float → Affine
scale k = sends k nought nought k nought nought

-- by 90 degrees: (x, y) goes to (-y, x)
abbrev pub quarter : Affine
quarter = sends nought one (neg one) nought nought nought

-- ## Nodes

-- d with this role, the flags of this weight besides, which were clear, and these fields
abbrev pub altered : NodeData → ℕ → ℕ → NodeId → Rect → Affine → NodeData
altered d role weight active bounds transform = record {
  active_descendant = active;
  graft = d.graft;
  children = d.children;
  label = d.label;
  role = role;
  flags = d.flags + weight;
  bounds = bounds;
  transform = transform;
}

-- with another role
abbrev pub of_role : ℕ → NodeData → NodeData
of_role r d = altered d r 0 d.active_descendant d.bounds d.transform

-- a GenericContainer and a TextRun, with these children
abbrev pub container : List ℕ → NodeData
container cs = of_role 0 (parent cs)

abbrev pub text_run : List ℕ → NodeData
text_run cs = of_role 1 (parent cs)

-- with a flag besides
abbrev pub flagged : ℕ → NodeData → NodeData
flagged weight d = altered d d.role weight d.active_descendant d.bounds d.transform

-- hidden; clipping its children
abbrev pub hides : NodeData → NodeData
hides d = flagged 1 d

abbrev pub clips : NodeData → NodeData
clips d = flagged 2 d

-- with an active descendant
abbrev pub activates : ℕ → NodeData → NodeData
activates n d = altered d d.role 4 (node n) d.bounds d.transform

-- with bounds
abbrev pub bounded : Rect → NodeData → NodeData
bounded r d = altered d d.role 16 d.active_descendant r d.transform

-- with a transform
abbrev pub moved : Affine → NodeData → NodeData
moved t d = altered d d.role 32 d.active_descendant d.bounds t

-- bounds between whole numbers
abbrev pub spans : ℕ → ℕ → ℕ → ℕ → NodeData → NodeData
spans x0 y0 x1 y1 d = bounded (rect (whole x0) (whole y0) (whole x1) (whole y1)) d

-- bounds of 10 by 10 at (0, 0), and apart from these at (20, 0)
abbrev pub inside : NodeData → NodeData
inside d = spans 0 0 10 10 d

abbrev pub outside : NodeData → NodeData
outside d = spans 20 0 30 10 d

-- a node that clips these children, with the bounds `inside`
abbrev pub window : List ℕ → NodeData
window cs = clips (inside (parent cs))

-- ## States

-- ROOT's node n, child i of ROOT's node p
abbrev pub below : ℕ → ℕ → ℕ → NodeData → NodeState
below p i n d = under (id 0 p) i (id 0 n) d

-- ROOT alone, with root 1 and this focus, host focused
abbrev pub alone : ℕ → List NodeState → State
alone f ns = state ns (tree ROOT 1 f ∷ [])

-- the same without host focus
abbrev pub unfocused : State → State
unfocused s = record { forest = s.forest; host_focused = false }

-- Document 01's case 15: 1 has a button, an empty GenericContainer, a hidden node with a child, and a button; the focus is 1
abbrev pub buttons : State
buttons =
    alone 1
    (root 0 1 (parent (2 ∷ 3 ∷ 4 ∷ 5 ∷ []))
    ∷ below 1 0 2 leaf
    ∷ below 1 1 3 (container [])
    ∷ below 1 2 4 (hides (parent (6 ∷ [])))
    ∷ below 1 3 5 leaf
    ∷ below 4 0 6 leaf
    ∷ [])

-- 2 is clipped away by 1, and has [3, 5]; 3 is a GenericContainer and has [4]
abbrev pub clipped_away : State
clipped_away =
    alone 1
    (root 0 1 (window (2 ∷ []))
    ∷ below 1 0 2 (outside (parent (3 ∷ 5 ∷ [])))
    ∷ below 2 0 3 (container (4 ∷ []))
    ∷ below 3 0 4 leaf
    ∷ below 2 1 5 leaf
    ∷ [])
