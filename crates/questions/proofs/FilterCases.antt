-- The one claim over the cases of the filters: each state is sound, and each answer is the one that its case says. antt computes each.
-- Assumes nothing.
use mathlib.Core.Path.{refl}
use Rattle.questions.specs.ExampleQuestions.{Right, AllRight}
use Rattle.questions.specs.FilterCases.{buttons_filtered, own_active_descendant, hidden_focus, host_focus_lost, focus_in_hidden, hidden_root}
use Rattle.questions.specs.FilterCases.{text_run_with_child, roots_of_panes, active_descendant, absent_active_descendant, active_descendant_in_pane}
use Rattle.questions.specs.FilterCases.{active_descendant_is_graft, below_clipped, no_boxes, neighbours, nested_neighbour, neighbour_above}
use Rattle.questions.specs.FilterCases.{clipped_through_container, clipped_pane, no_width, not_aNumber, focus_outside, filter_cases}
use Rattle.questions.proofs.Computed.{computed, ◌also◌}

buttons_filtered_right : Right buttons_filtered
unfolding computed buttons_filtered
buttons_filtered_right = (refl, (refl, (refl, (refl, (refl, (refl, tt))))))

own_active_descendant_right : Right own_active_descendant
unfolding computed own_active_descendant
own_active_descendant_right = (refl, (refl, (refl, tt)))

hidden_focus_right : Right hidden_focus
unfolding computed hidden_focus
hidden_focus_right = (refl, (refl, (refl, (refl, (refl, tt)))))

host_focus_lost_right : Right host_focus_lost
unfolding computed host_focus_lost hidden_focus
host_focus_lost_right = (refl, (refl, (refl, tt)))

focus_in_hidden_right : Right focus_in_hidden
unfolding computed focus_in_hidden
focus_in_hidden_right = (refl, (refl, (refl, (refl, tt))))

hidden_root_right : Right hidden_root
unfolding computed hidden_root
hidden_root_right = (refl, (refl, (refl, (refl, (refl, (refl, tt))))))

text_run_with_child_right : Right text_run_with_child
unfolding computed text_run_with_child
text_run_with_child_right = (refl, (refl, (refl, tt)))

roots_of_panes_right : Right roots_of_panes
unfolding computed roots_of_panes
roots_of_panes_right = (refl, (refl, (refl, (refl, (refl, (refl, (refl, tt)))))))

active_descendant_right : Right active_descendant
unfolding computed active_descendant
active_descendant_right = (refl, (refl, (refl, tt)))

absent_active_descendant_right : Right absent_active_descendant
unfolding computed absent_active_descendant
absent_active_descendant_right = (refl, (refl, tt))

active_descendant_in_pane_right : Right active_descendant_in_pane
unfolding computed active_descendant_in_pane
active_descendant_in_pane_right = (refl, (refl, (refl, tt)))

active_descendant_is_graft_right : Right active_descendant_is_graft
unfolding computed active_descendant_is_graft
active_descendant_is_graft_right = (refl, (refl, tt))

below_clipped_right : Right below_clipped
unfolding computed below_clipped
below_clipped_right = (refl, (refl, (refl, (refl, (refl, (refl, tt))))))

no_boxes_right : Right no_boxes
unfolding computed no_boxes
no_boxes_right = (refl, (refl, (refl, tt)))

neighbours_right : Right neighbours
unfolding computed neighbours
neighbours_right = (refl, (refl, (refl, (refl, (refl, (refl, tt))))))

nested_neighbour_right : Right nested_neighbour
unfolding computed nested_neighbour
nested_neighbour_right = (refl, (refl, (refl, (refl, tt))))

neighbour_above_right : Right neighbour_above
unfolding computed neighbour_above
neighbour_above_right = (refl, (refl, tt))

clipped_through_container_right : Right clipped_through_container
unfolding computed clipped_through_container
clipped_through_container_right = (refl, (refl, (refl, tt)))

clipped_pane_right : Right clipped_pane
unfolding computed clipped_pane
clipped_pane_right = (refl, (refl, tt))

no_width_right : Right no_width
unfolding computed no_width
no_width_right = (refl, (refl, (refl, tt)))

not_a_number_right : Right not_aNumber
unfolding computed not_aNumber
not_a_number_right = (refl, (refl, tt))

focus_outside_right : Right focus_outside
unfolding computed focus_outside
focus_outside_right = (refl, (refl, (refl, tt)))

pub filter_cases_lem : AllRight filter_cases
filter_cases_lem =
    buttons_filtered_right also own_active_descendant_right also hidden_focus_right also host_focus_lost_right also focus_in_hidden_right
    also hidden_root_right also text_run_with_child_right also roots_of_panes_right also active_descendant_right also absent_active_descendant_right
    also active_descendant_in_pane_right also active_descendant_is_graft_right also below_clipped_right also no_boxes_right also neighbours_right
    also nested_neighbour_right also neighbour_above_right also clipped_through_container_right also clipped_pane_right also no_width_right
    also not_a_number_right also focus_outside_right also tt
