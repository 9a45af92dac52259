-- The answers of the questions as plain numbers and structs, for C: what is missing is 0. Assumes nothing.
use Rattle.std.specs.Prelude.{Bool, true, false, not, [], ◌∷◌, ℕ, ◌+◌, Float, if◌then◌else◌, Option, None, Some, Result, Ok, Err, unwrap_or, is_some}
use Rattle.std.specs.Result.{result_unwrap_or}
use Rattle.std.specs.Float.Ieee.{of_bits}
use Rattle.std.specs.Float.{binary64}
use Rattle.base.specs.Tables.{row, first}
use Rattle.ids.specs.Ids.{ROOT}
use Rattle.ids.specs.declared.FullNodeId.{FullNodeId}
use Rattle.state.specs.State.{Forest}
use Rattle.state.specs.declared.SubtreeState.{SubtreeState}
use Rattle.state.specs.Sound.{sound}
use Rattle.questions.specs.declared.Filter.{Filter}
use Rattle.questions.specs.declared.Side.{Side}
use Rattle.questions.specs.Kept.{side_of, filter_choice}
use Rattle.questions.specs.declared.FilterResult.{FilterResult}
use Rattle.node_answers.specs.Filter.{result_number}
use Rattle.replies.specs.Replies.{plain_id}
use Rattle.geometry_box.specs.declared.BoundingBox.{BoundingBox}
use Rattle.geometry_box.specs.declared.BoundingBox.TheVariants as box
use Rattle.node_answers.specs.declared.Counts.{Counts}
use Rattle.node_answers.specs.declared.Refusal.{Refusal}
use Rattle.node_answers.specs.Answers.{refusal_number, number_of}
use Rattle.node_answers.specs.declared.NodeReading.{NodeReading}
use Rattle.cartgravel_plain.specs.declared.FoundId.{FoundId}
use Rattle.cartgravel_plain.specs.declared.Listed.{Listed}
use Rattle.cartgravel_plain.specs.declared.PlainResult.{PlainResult}
use Rattle.cartgravel_plain.specs.declared.Flag.{Flag}
use Rattle.cartgravel_plain.specs.declared.PlainTransform.{PlainTransform}
use Rattle.cartgravel_plain.specs.declared.PlainBox.{PlainBox}
use Rattle.cartgravel_plain.specs.declared.PlainTreeId.{PlainTreeId}
use Rattle.cartgravel_plain.specs.declared.PlainIndex.{PlainIndex}
use Rattle.cartgravel_plain.specs.declared.PlainEnds.{PlainEnds}
use Rattle.cartgravel_plain.specs.declared.PlainCounts.{PlainCounts}
use Rattle.cartgravel_plain.specs.declared.PlainNode.{PlainNode}
use Rattle.geometry.specs.declared.Affine.{Affine}
use Rattle.ids.specs.declared.TreeIndex.{TreeIndex}
use Rattle.geometry.specs.declared.Rect.{Rect}
use Rattle.ids.specs.declared.TreeId.{TreeId}

abbrev pub nought : Float
nought = of_bits binary64 0

abbrev pub no_rect : Rect
no_rect = record { x0 = nought; y0 = nought; x1 = nought; y1 = nought }

abbrev pub no_transform : Affine
no_transform = record { a = nought; b = nought; c = nought; d = nought; e = nought; f = nought }

-- ## Nodes and lists

abbrev pub plain_found : Result (Option FullNodeId) Refusal → FoundId
plain_found a = record { id = plain_id (result_unwrap_or a None); number = number_of a }

abbrev pub plain_list : Result ℕ Refusal → Listed
plain_list a = record { length = result_unwrap_or a 0; number = number_of a }

-- ## Flags, transforms and boxes

abbrev pub plain_flag : Result Bool Refusal → Flag
plain_flag a = record { value = if result_unwrap_or a false then 1 else 0; number = number_of a }

abbrev pub plain_transform : Result Affine Refusal → PlainTransform
plain_transform a = record { transform = result_unwrap_or a no_transform; number = number_of a }

abbrev pub box_is : ℕ → BoundingBox → PlainBox
box_is k (box.Box p q r s) = record { rect = record { x0 = p; y0 = q; x1 = r; y1 = s }; kind = 1; number = k }
box_is k box.None = record { rect = no_rect; kind = 0; number = k }

abbrev pub plain_box : Result BoundingBox Refusal → PlainBox
plain_box a = box_is (number_of a) (result_unwrap_or a box.None)

-- ## Filters and sides by their numbers

-- a filter's number: 1, 2 or 3 (0 says that a walk has none)
abbrev pub as_filter : Option (Option Filter) → Option Filter
as_filter None = None
as_filter (Some None) = None
as_filter (Some (Some f)) = Some f

unfoldable pub filter_numbered : ℕ → Option Filter
filter_numbered k = as_filter (filter_choice k)

unfoldable pub side_numbered : ℕ → Option Side
side_numbered k = side_of k

-- a number that is none of ours: 1 where the state is not sound, else 2
unfoldable pub unknown_number : Forest → ℕ
unknown_number s = first (row 1 (not (sound s)) ∷ row 2 true ∷ [])

-- what a filter says, 0 after any number but 0
abbrev pub plain_result : Result FilterResult Refusal → PlainResult
plain_result (Ok r) = record { result = result_number r; number = 0 }
plain_result (Err r) = record { result = 0; number = refusal_number r }

-- ## Trees and counts

abbrev pub tree_id_of : ℕ → Option TreeId → PlainTreeId
tree_id_of k None = record { id = ROOT; present = 0; number = k }
tree_id_of k (Some t) = record { id = t; present = 1; number = k }

abbrev pub plain_tree_id : Result (Option TreeId) Refusal → PlainTreeId
plain_tree_id a = tree_id_of (number_of a) (result_unwrap_or a None)

abbrev pub index_of : ℕ → Option TreeIndex → PlainIndex
index_of k None = record { index = 0; present = 0; number = k }
index_of k (Some i) = record { index = i.0; present = 1; number = k }

abbrev pub plain_index : Result (Option TreeIndex) Refusal → PlainIndex
plain_index a = index_of (number_of a) (result_unwrap_or a None)

abbrev pub ends_are : ℕ → Option SubtreeState → PlainEnds
ends_are k None = record { root = plain_id None; focus = plain_id None; number = k }
ends_are k (Some e) = record { root = plain_id (Some e.root); focus = plain_id (Some e.focus); number = k }

abbrev pub plain_ends : Result (Option SubtreeState) Refusal → PlainEnds
plain_ends a = ends_are (number_of a) (result_unwrap_or a None)

abbrev pub plain_counts : Result Counts Refusal → PlainCounts
plain_counts a =
    let counted = result_unwrap_or a (record { nodes = 0; trees = 0; host_focused = false }) in
    record { nodes = counted.nodes; trees = counted.trees; host_focused = if counted.host_focused then 1 else 0; number = number_of a }

-- ## A node

-- a flag's weight where it is set
abbrev pub weighed : ℕ → Bool → ℕ
weighed weight set = if set then weight else 0

-- what is told of no node
abbrev pub no_reading : NodeReading
no_reading = record {
  role = 0;
  hidden = false;
  clips_children = false;
  label_length = 0;
  child_count = 0;
  bounds = None;
  transform = None;
  active_descendant = None;
  graft = None;
}

-- the record's flags: 1 hidden, 2 clips children, 4 active descendant, 8 graft, 16 bounds, 32 transform
abbrev pub plain_node : Result NodeReading Refusal → PlainNode
plain_node a =
    let r = result_unwrap_or a no_reading in
    record {
      bounds = unwrap_or r.bounds no_rect;
      transform = unwrap_or r.transform no_transform;
      graft = unwrap_or r.graft ROOT;
      active_descendant = (unwrap_or r.active_descendant (record { 0 = 0 })).0;
      label_length = r.label_length;
      child_count = r.child_count;
      role = r.role;
      flags =
          weighed 1 r.hidden + weighed 2 r.clips_children + weighed 4 (is_some r.active_descendant) + weighed 8 (is_some r.graft)
          + weighed 16 (is_some r.bounds) + weighed 32 (is_some r.transform);
      number = number_of a;
    }
