-- The questions of modules 6 to 8 about a node, and worked cases: a sound state, and what its nodes answer.
-- Assumes nothing.
use Rattle.std.specs.Prelude.{Bool, true, List, [], ◌∷◌, ◌≡◌, Option, None, Some}
use Rattle.ids.specs.declared.FullNodeId.{FullNodeId}
use Rattle.geometry.specs.declared.Affine.{Affine}
use Rattle.geometry_box.specs.declared.BoundingBox.{BoundingBox}
use Rattle.state.specs.State.{State, parent_at}
use Rattle.state.specs.Sound.{sound}
use Rattle.questions.specs.declared.Side.{Side}
use Rattle.questions.specs.declared.Filter.{Filter}
use Rattle.questions.specs.declared.FilterResult.{FilterResult}
use Rattle.questions.specs.Links.{child_ids, siblings, is_hidden}
use Rattle.questions.specs.Boxes.{transform, bounding_box}
use Rattle.questions.specs.Walks.{filtered_parent, filtered_children, filtered_siblings, first_filtered_child, last_filtered_child, deepest_first_filtered_child, deepest_last_filtered_child}
use Rattle.questions.specs.Filters.{seen, filter_of}

-- ## Questions and answers

pub data Question : Type 0 where
  -- module 6: the parent, the children, the siblings on one side
  Parent : Question
  Children : Question
  Siblings : Side → Question
  -- the inherited hidden flag, the transform, the bounding box
  IsHidden : Question
  Transform : Question
  BoxOf : Question
  -- module 7: what a filter says of the node
  Filtered : Filter → Question
  -- module 8, under a filter: the filtered parent, children, and siblings on one side
  FilteredParent : Filter → Question
  FilteredChildren : Filter → Question
  FilteredSiblings : Filter → Side → Question
  -- the first and the last filtered child, and the deepest
  FirstFilteredChild : Filter → Question
  LastFilteredChild : Filter → Question
  DeepestFirstFilteredChild : Filter → Question
  DeepestLastFilteredChild : Filter → Question

-- a node or none, nodes in order, a flag, a transform, a box or none, what a filter says
pub data Said : Type 0 where
  one : Option FullNodeId → Said
  many : List FullNodeId → Said
  flag : Bool → Said
  affine : Affine → Said
  box : BoundingBox → Said
  result : FilterResult → Said

-- what the definitions answer
unfoldable pub answer : State → FullNodeId → Question → Said
answer s x Parent = one (parent_at s.forest.nodes x)
answer s x Children = many (child_ids s.forest x)
answer s x (Siblings side) = many (siblings side s.forest x)
answer s x IsHidden = flag (is_hidden s.forest x)
answer s x Transform = affine (transform s.forest x)
answer s x BoxOf = box (bounding_box s.forest x)
answer s x (Filtered f) = result (filter_of f (seen s) x)
answer s x (FilteredParent f) = one (filtered_parent (filter_of f (seen s)) s.forest x)
answer s x (FilteredChildren f) = many (filtered_children (filter_of f (seen s)) s.forest x)
answer s x (FilteredSiblings f side) = many (filtered_siblings (filter_of f (seen s)) side s.forest x)
answer s x (FirstFilteredChild f) = one (first_filtered_child (filter_of f (seen s)) s.forest x)
answer s x (LastFilteredChild f) = one (last_filtered_child (filter_of f (seen s)) s.forest x)
answer s x (DeepestFirstFilteredChild f) = one (deepest_first_filtered_child (filter_of f (seen s)) s.forest x)
answer s x (DeepestLastFilteredChild f) = one (deepest_last_filtered_child (filter_of f (seen s)) s.forest x)

-- a node, or none
abbrev pub is : FullNodeId → Said
is x = one (Some x)

abbrev pub nothing : Said
nothing = one None

-- ## Cases

-- what a node is asked, and what it says
pub record Case : Type 0 where
  pub node : FullNodeId
  pub asked : Question
  pub says : Said

infix 70 ◌asked◌says◌
abbrev pub ◌asked◌says◌ : FullNodeId → Question → Said → Case
x asked q says a = record { node = x; asked = q; says = a }

-- a state, and cases about its nodes
pub record Worked : Type 0 where
  pub state : State
  pub cases : List Case

-- every answer is the one that its case says
abbrev pub Answered : State → List Case → Type 0
Answered s [] = Unit {0}
Answered s (c ∷ cs) = (answer s c.node c.asked ≡ c.says) × Answered s cs

-- the state is sound, and every answer about it is right
abbrev pub Right : Worked → Type 0
Right w = (sound w.state.forest ≡ true) × Answered w.state w.cases

abbrev pub AllRight : List Worked → Type 0
AllRight [] = Unit {0}
AllRight (w ∷ ws) = Right w × AllRight ws
