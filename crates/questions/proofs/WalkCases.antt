-- The one claim over the cases of walks: each state is sound, and each answer is the one that its case says. antt computes each.
-- Assumes nothing.
use mathlib.Core.Path.{refl}
use Rattle.questions.specs.ExampleQuestions.{Right, AllRight}
use Rattle.questions.specs.WalkCases.{both_buttons, three_deep, climbing_two_levels, no_included_ancestor, no_filtered_child, dropped_subtree}
use Rattle.questions.specs.WalkCases.{included_parent, panes_in_panes, deepest, walks_below_clipped, walk_cases}
use Rattle.questions.proofs.Computed.{computed, ◌also◌}

both_buttons_right : Right both_buttons
unfolding computed both_buttons
both_buttons_right = (refl, (refl, (refl, (refl, (refl, (refl, (refl, (refl, tt))))))))

three_deep_right : Right three_deep
unfolding computed three_deep
three_deep_right = (refl, (refl, (refl, (refl, (refl, (refl, (refl, (refl, tt))))))))

climbing_two_levels_right : Right climbing_two_levels
unfolding computed climbing_two_levels
climbing_two_levels_right = (refl, (refl, (refl, (refl, (refl, tt)))))

no_included_ancestor_right : Right no_included_ancestor
unfolding computed no_included_ancestor
no_included_ancestor_right = (refl, (refl, (refl, (refl, (refl, (refl, (refl, tt)))))))

no_filtered_child_right : Right no_filtered_child
unfolding computed no_filtered_child
no_filtered_child_right = (refl, (refl, (refl, (refl, (refl, (refl, tt))))))

dropped_subtree_right : Right dropped_subtree
unfolding computed dropped_subtree
dropped_subtree_right = (refl, (refl, (refl, (refl, (refl, (refl, (refl, (refl, (refl, tt)))))))))

included_parent_right : Right included_parent
unfolding computed included_parent
included_parent_right = (refl, (refl, (refl, (refl, (refl, (refl, (refl, (refl, tt))))))))

panes_in_panes_right : Right panes_in_panes
unfolding computed panes_in_panes
panes_in_panes_right = (refl, (refl, (refl, (refl, (refl, (refl, (refl, (refl, tt))))))))

deepest_right : Right deepest
unfolding computed deepest
deepest_right = (refl, (refl, (refl, (refl, (refl, (refl, (refl, (refl, tt))))))))

walks_below_clipped_right : Right walks_below_clipped
unfolding computed walks_below_clipped
walks_below_clipped_right = (refl, (refl, (refl, (refl, (refl, (refl, (refl, (refl, (refl, tt)))))))))

pub walk_cases_lem : AllRight walk_cases
walk_cases_lem =
    both_buttons_right also three_deep_right also climbing_two_levels_right also no_included_ancestor_right also no_filtered_child_right
    also dropped_subtree_right also included_parent_right also panes_in_panes_right also deepest_right also walks_below_clipped_right also tt
