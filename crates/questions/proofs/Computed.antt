-- `unfolding computed` unfolds every definition that a worked case computes with.
-- Assumes nothing.
use mathlib.Core.List.{flat_map}
use lib.Ieee.{neg, add, sub, mul, lt, eq, of_bits, to_bits, of_int}
use Rattle.base.specs.Tests.{◌and◌}
use Rattle.base.specs.Floats.{zero_bytes}
use Rattle.ids.specs.Ids.{same_tree, same_index, same_node, same_id, before}
use Rattle.geometry.specs.Geometry.{rect_test, affine_test}
use Rattle.geometry_box.specs.Boxes.{linear, shifted, image, identity, product, chain, least, greatest, with_plus_zero, least_of, greatest_of}
use Rattle.geometry_box.specs.Boxes.{box_of_points, way_of_linear, way_of_shifted, way_of_image, way_of_product, way_of_corners, way, box_under, cut_at_zero}
use Rattle.geometry_box.specs.Boxes.{overlap, is_empty, apart, meet}
use Rattle.record.specs.Batch.{active_descendant?, graft?, bounds?, transform?, fields_ok}
use Rattle.state.specs.State.{same_link, find, present, graft_at, link_at, parent_at, holder, subtree_state, subtree_from, subtree_of}
use Rattle.state.specs.Down.{met_under, children_met, below, below_id, down, root_of, way_down}
use Rattle.state.specs.Focus.{through_grafts, effective_focus}
use Rattle.state.specs.Sound.{met_once, recorded, graft_is_bare, sound_links, grafts_differ, grafted, all_grafted, root_first, one_id_each, sound_trees, ascending, way_ends, sound_shape, focus_present, sound}
use Rattle.questions.specs.Links.{child_ids, beside, siblings, ancestors_within, ancestors, hidden_at, is_hidden}
use Rattle.questions.specs.Boxes.{direct_transform, transforms_above, transform, raw_bounds, bounding_box}
use Rattle.questions.specs.Walks.{turned, leading, shown_within, shown, filtered_children, first_filtered_child, last_filtered_child, deepest_within}
use Rattle.questions.specs.Walks.{deepest_first_filtered_child, deepest_last_filtered_child, filtered_parent, climbed, has_filtered_siblings}
use Rattle.questions.specs.Walks.{filtered_siblings}
use Rattle.questions.specs.Filters.{active_descendant_at, focused_node, is_focused, is_transparent, clips_at, common_filter_base, without_parent_checks}
use Rattle.questions.specs.Filters.{neighbour_inside, clipped_by, is_clipped, is_exclude_subtree, ordinary, common_filter_from, common_filter}
use Rattle.questions.specs.Filters.{with_root_exception, filter_of}
use Rattle.questions.specs.ExampleQuestions.{answer}

unfoldable pub computed : Unit {0}
unfolding flat_map neg add sub mul lt eq of_bits to_bits of_int ◌and◌ zero_bytes same_tree same_index same_node same_id before rect_test affine_test linear
    shifted image identity product chain least greatest with_plus_zero least_of greatest_of box_of_points way_of_linear way_of_shifted way_of_image way_of_product
    way_of_corners way box_under cut_at_zero overlap is_empty apart meet active_descendant? graft? bounds? transform? fields_ok same_link find present graft_at
    link_at parent_at holder subtree_state subtree_from subtree_of met_under children_met below below_id down root_of way_down through_grafts effective_focus
    met_once recorded graft_is_bare sound_links grafts_differ grafted all_grafted root_first one_id_each sound_trees ascending way_ends sound_shape focus_present
    sound child_ids beside siblings ancestors_within ancestors hidden_at is_hidden direct_transform transforms_above transform raw_bounds bounding_box turned
    leading shown_within shown filtered_children first_filtered_child last_filtered_child deepest_within deepest_first_filtered_child deepest_last_filtered_child
    filtered_parent climbed has_filtered_siblings filtered_siblings active_descendant_at focused_node is_focused is_transparent clips_at common_filter_base
    without_parent_checks neighbour_inside clipped_by is_clipped is_exclude_subtree ordinary common_filter_from common_filter with_root_exception filter_of answer
computed = tt

-- one fact, and the others
infixr 30 ◌also◌
pub ◌also◌ : {A B : Type 0} → A → B → A × B
x also xs = (x, xs)
