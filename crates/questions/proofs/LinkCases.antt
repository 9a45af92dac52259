-- The one claim over the cases of links and boxes: each state is sound, and each answer is the one that its case says. antt computes each.
-- Assumes nothing.
use mathlib.Core.Path.{refl}
use Rattle.questions.specs.ExampleQuestions.{Right, AllRight}
use Rattle.questions.specs.LinkCases.{links, hidden_above, two_levels, through_graft, turned_root, plain_boxes, overflowing, minus_zero, link_cases}
use Rattle.questions.proofs.Computed.{computed}

links_right : Right links
unfolding computed links
links_right = (refl, (refl, (refl, (refl, (refl, (refl, (refl, (refl, (refl, (refl, (refl, (refl, (refl, (refl, (refl, tt)))))))))))))))

hidden_above_right : Right hidden_above
unfolding computed hidden_above
hidden_above_right = (refl, (refl, (refl, (refl, (refl, (refl, tt))))))

two_levels_right : Right two_levels
unfolding computed two_levels
two_levels_right = (refl, (refl, (refl, (refl, (refl, (refl, tt))))))

through_graft_right : Right through_graft
unfolding computed through_graft
through_graft_right = (refl, (refl, (refl, tt)))

turned_root_right : Right turned_root
unfolding computed turned_root
turned_root_right = (refl, (refl, tt))

plain_boxes_right : Right plain_boxes
unfolding computed plain_boxes
plain_boxes_right = (refl, (refl, (refl, (refl, (refl, tt)))))

overflowing_right : Right overflowing
unfolding computed overflowing
overflowing_right = (refl, (refl, (refl, (refl, tt))))

minus_zero_right : Right minus_zero
unfolding computed minus_zero
minus_zero_right = (refl, (refl, (refl, (refl, (refl, tt)))))

pub link_cases_lem : AllRight link_cases
link_cases_lem = (links_right, (hidden_above_right, (two_levels_right, (through_graft_right, (turned_root_right, (plain_boxes_right, (overflowing_right, (minus_zero_right, tt))))))))
