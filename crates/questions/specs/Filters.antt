-- Module 7, the three filters, in the order of src/filters.rs: document 01, "Filter and walks". Assumes nothing.
use Rattle.std.specs.Prelude.{Bool, true, false, not, ◌||◌, ℕ, eqb, if◌then◌else◌, Option, None, Some}
use mathlib.Core.List.{List, [], ◌∷◌}
use Rattle.base.specs.Tests.{◌and◌, is_some, same_option, head_of}
use Rattle.ids.specs.Ids.{same_id}
use Rattle.ids.specs.declared.FullNodeId.{FullNodeId}
use Rattle.geometry_box.specs.Boxes.{apart, meet}
use Rattle.record.specs.Batch.{active_descendant?, clips_children}
use Rattle.state.specs.State.{NodeState, Forest, State, find, present, graft_at}
use Rattle.state.specs.Focus.{effective_focus}
use Rattle.state.specs.Down.{root_of}
use Rattle.questions.specs.declared.Side.{Side}
use Rattle.questions.specs.declared.Side.TheVariants.{Following, Preceding}
use Rattle.questions.specs.declared.FilterResult.{FilterResult}
use Rattle.questions.specs.declared.FilterResult.TheVariants.{Include, ExcludeNode, ExcludeSubtree}
use Rattle.questions.specs.declared.Filter.{Filter}
use Rattle.questions.specs.declared.Filter.TheVariants.{Common, WithRootException, WithoutParentChecks}
use Rattle.questions.specs.Links.{ancestors, is_hidden}
use Rattle.questions.specs.Boxes.{bounding_box}
use Rattle.questions.specs.Walks.{filtered_parent, filtered_siblings}

-- ## What a filter asks of a node

-- the active descendant, looked up in the same tree, if present
unfoldable pub active_descendant_at : List NodeState → FullNodeId → Option FullNodeId
active_descendant_at ns x =
    elim (find x ns) [
      | None ↦ None
      | Some n ↦ elim (active_descendant? n.body) [
        | None ↦ None
        | Some a ↦ let y : FullNodeId = record { tree = x.tree; node = a } in if present ns y then Some y else None
      ]
    ]

-- The node that is focused for the filter (`NodeRef::is_focused`): the effective focus, or its active descendant where it has one;
-- none without host focus, and none where the effective focus is its own active descendant (case 16).
unfoldable pub focused_node : State → Option FullNodeId
focused_node s =
    if s.host_focused
    then elim (effective_focus s.forest) [
      | None ↦ None
      | Some e ↦ elim (active_descendant_at s.forest.nodes e) [ None ↦ Some e | Some a ↦ if same_id a e then None else Some a ]
    ]
    else None

-- What a filter sees: a forest, and the focused node, if there is one.
pub record Seen : Type 0 where
  pub forest : Forest
  pub focused : Option FullNodeId

-- so of a whole state
abbrev pub seen : State → Seen
seen s = record { forest = s.forest; focused = focused_node s }

unfoldable pub is_focused : Seen → FullNodeId → Bool
is_focused s x = same_option same_id s.focused (Some x)

-- the roles that a filter tells apart
abbrev pub GENERIC_CONTAINER : ℕ
GENERIC_CONTAINER = 0

abbrev pub TEXT_RUN : ℕ
TEXT_RUN = 1

-- a graft, a GenericContainer or a TextRun: its children stand in its place
unfoldable pub is_transparent : Forest → FullNodeId → Bool
is_transparent s x =
    elim (find x s.nodes) [
      | None ↦ false
      | Some n ↦ is_some (graft_at s.nodes x) || (eqb n.body.role GENERIC_CONTAINER || eqb n.body.role TEXT_RUN)
    ]

-- whether it clips its children
unfoldable pub clips_at : Forest → FullNodeId → Bool
clips_at s x = elim (find x s.nodes) [ None ↦ false | Some n ↦ clips_children n.body ]

-- ## `common_filter_base`, `common_filter_without_parent_checks`

-- the first that holds: focused, hidden, transparent
unfoldable pub common_filter_base : Seen → FullNodeId → Option FilterResult
common_filter_base s x =
    if is_focused s x then Some Include
    else if is_hidden s.forest x then Some ExcludeSubtree
    else if is_transparent s.forest x then Some ExcludeNode
    else None

unfoldable pub without_parent_checks : Seen → FullNodeId → FilterResult
without_parent_checks s x = elim (common_filter_base s x) [ None ↦ Include | Some r ↦ r ]

-- ## `common_filter`

-- whether the nearest filtered sibling of x on one side lies inside the box of p
unfoldable pub neighbour_inside : Side → Seen → FullNodeId → FullNodeId → Bool
neighbour_inside side s p x =
    elim (head_of (filtered_siblings (without_parent_checks s) side s.forest x)) [
      | None ↦ false
      | Some y ↦ meet (bounding_box s.forest y) (bounding_box s.forest p)
    ]

-- x lies outside the box of p, which clips its children, and no neighbour of x lies inside it
unfoldable pub clipped_by : Seen → FullNodeId → FullNodeId → Bool
clipped_by s p x =
    clips_at s.forest p
    and apart (bounding_box s.forest x) (bounding_box s.forest p)
    and not (neighbour_inside Following s p x || neighbour_inside Preceding s p x)

-- so with its filtered parent
unfoldable pub is_clipped : Seen → FullNodeId → Bool
is_clipped s x = elim (filtered_parent (without_parent_checks s) s.forest x) [ None ↦ false | Some p ↦ clipped_by s p x ]

unfoldable pub is_exclude_subtree : FilterResult → Bool
is_exclude_subtree Include = false
is_exclude_subtree ExcludeNode = false
is_exclude_subtree ExcludeSubtree = true

-- of a node that is neither focused, hidden nor transparent: dropped with its parent, or clipped away, or included
unfoldable pub ordinary : Seen → FullNodeId → Bool → FilterResult
ordinary s x parent_dropped = if parent_dropped then ExcludeSubtree else if is_clipped s x then ExcludeSubtree else Include

-- `common_filter` asks the same question of the parent, each time one step nearer the root; `up` are the ancestors of x
unfoldable pub common_filter_from : Seen → FullNodeId → List FullNodeId → FilterResult
common_filter_from s x [] = elim (common_filter_base s x) [ None ↦ ordinary s x false | Some r ↦ r ]
common_filter_from s x (p ∷ up) =
    elim (common_filter_base s x) [ None ↦ ordinary s x (is_exclude_subtree (common_filter_from s p up)) | Some r ↦ r ]

unfoldable pub common_filter : Seen → FullNodeId → FilterResult
common_filter s x = common_filter_from s x (ancestors s.forest x)

-- ## `common_filter_with_root_exception`

-- ROOT's root is included, whatever it is
unfoldable pub with_root_exception : Seen → FullNodeId → FilterResult
with_root_exception s x = if same_option same_id (root_of s.forest) (Some x) then Include else common_filter s x

-- ## The three

unfoldable pub filter_of : Filter → Seen → FullNodeId → FilterResult
filter_of Common s x = common_filter s x
filter_of WithRootException s x = with_root_exception s x
filter_of WithoutParentChecks s x = without_parent_checks s x
