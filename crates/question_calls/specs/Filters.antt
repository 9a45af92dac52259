-- What is known of a node that is not hidden, what the clip test asks beside it, and what is told of a node by those above it. Assumes nothing.
use Rattle.std.specs.Prelude.{Bool, true, false, ◌||◌, ◌≡◌, ℕ, ◌≤◌, ◌<◌, if◌then◌else◌, None, Some}
use mathlib.Core.List.{List}
use Rattle.base.specs.Tests.{◌and◌, same_option, head_of}
use Rattle.ids.specs.Ids.{same_id}
use Rattle.ids.specs.declared.FullNodeId.{FullNodeId}
use Rattle.geometry_box.specs.declared.BoundingBox.{BoundingBox}
use Rattle.geometry_box.specs.Boxes.{meet}
use Rattle.state.specs.State.{Forest, parent_at}
use Rattle.state.specs.Down.{root_of}
use Rattle.state_array.specs.View.{id_in, slots_of, view}
use Rattle.questions.specs.declared.Side.{Side}
use Rattle.questions.specs.declared.Filter.{Filter}
use Rattle.questions.specs.declared.Filter.TheVariants.{Common, WithRootException, WithoutParentChecks}
use Rattle.questions.specs.declared.FilterResult.{FilterResult}
use Rattle.questions.specs.declared.FilterResult.TheVariants.{Include, ExcludeNode, ExcludeSubtree}
use Rattle.questions.specs.Links.{is_hidden}
use Rattle.questions.specs.Boxes.{bounding_box}
use Rattle.questions.specs.Filters.{Seen, is_exclude_subtree, common_filter, filter_of}
use Rattle.question_calls.specs.Slots.{Sound, slot_id}
use Rattle.question_calls.specs.Plain.{seen_at, is_include, shown_ahead, first_included, up_from}
use Rattle.question_calls.specs.declared.filters.Known.{Known}
use Rattle.question_calls.specs.declared.filters.Nearest.{Nearest}

-- slot i of a sound state holds a node that is not hidden
pub record Unhidden (s : List ℕ) (i : ℕ) : Type 0 where
  pub is_sound : Sound s
  pub within : i < slots_of s
  pub shown : is_hidden (view s).forest (id_in s i) ≡ false

-- whether the nearest node that is listed ahead of x, `level` levels up, lies inside a box
unfoldable pub nearest_inside : Seen → Side → ℕ → FullNodeId → BoundingBox → Bool
nearest_inside v side level x outer =
    elim (head_of (shown_ahead v side level x)) [ None ↦ false | Some y ↦ meet (bounding_box v.forest y) outer ]

-- ## By what is known of the parent

-- whether `common_filter` drops the parent
unfoldable pub parent_dropped : Seen → FullNodeId → Bool
parent_dropped v x = elim (parent_at v.forest.nodes x) [ None ↦ false | Some p ↦ is_exclude_subtree (common_filter v p) ]

-- what is known of a node is so; here and below `focused` is the slot of the focused node
abbrev pub Knows : List ℕ → ℕ → Known → Type 0
Knows s focused k = k.slot < slots_of s → k.dropped ≡ is_exclude_subtree (common_filter (seen_at s focused) (id_in s k.slot))

-- a filter includes the node in a slot, if there is one
abbrev pub Included : Filter → List ℕ → ℕ → ℕ → Type 0
Included filter s focused i = i < slots_of s → filter_of filter (seen_at s focused) (id_in s i) ≡ Include

-- what is told of the node in slot i is so: whether it is hidden, whether its parent is dropped
pub record Told (s : List ℕ) (focused i : ℕ) (hidden dropped : Bool) : Type 0 where
  pub is_sound : Sound s
  pub within : i < slots_of s
  pub hidden_is : hidden ≡ is_hidden (view s).forest (id_in s i)
  pub dropped_is : dropped ≡ parent_dropped (seen_at s focused) (id_in s i)

-- the filter that asks no parent, and the one that excepts ROOT's root
unfoldable pub is_plain : Filter → Bool
is_plain Common = false
is_plain WithRootException = false
is_plain WithoutParentChecks = true

unfoldable pub has_root_exception : Filter → Bool
has_root_exception Common = false
has_root_exception WithRootException = true
has_root_exception WithoutParentChecks = false

-- the two that ask parents
unfoldable pub excepted_filter : Bool → Filter
excepted_filter excepted = if excepted then WithRootException else Common

-- whether a node that `common_filter` says this of is included, ROOT's root being excepted or not
unfoldable pub is_kept : Forest → Bool → FilterResult → FullNodeId → Bool
is_kept f excepted result x = is_include result || (excepted and same_option same_id (root_of f) (Some x))

-- the node's children stand in its place
unfoldable pub is_exclude_node : FilterResult → Bool
is_exclude_node Include = false
is_exclude_node ExcludeNode = true
is_exclude_node ExcludeSubtree = false

-- what the node in slot i and its ancestors tell: the nearest included one, whether the node is hidden, whether it is dropped
pub record Near (s : List ℕ) (focused : ℕ) (excepted : Bool) (i : ℕ) (r : Nearest) : Type 0 where
  pub included_is : slot_id s r.included ≡ first_included (filter_of (excepted_filter excepted) (seen_at s focused)) (up_from s i)
  pub nothing : slots_of s ≤ i → (r.hidden ≡ false) × (r.dropped ≡ false)
  pub hidden_is : i < slots_of s → r.hidden ≡ is_hidden (view s).forest (id_in s i)
  pub dropped_is : i < slots_of s → r.dropped ≡ is_exclude_subtree (common_filter (seen_at s focused) (id_in s i))
