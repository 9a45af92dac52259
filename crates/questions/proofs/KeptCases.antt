-- The one claim over the cases of the kept walk. antt computes each. Assumes nothing.
use mathlib.Core.Path.{refl}
use Rattle.base.specs.Tables.{first}
use Rattle.questions.specs.Answers.{after}
use Rattle.questions.specs.Kept.{side_of, filter_choice, sibling_list, walk_list, walk_number, stepped, next_of}
use Rattle.questions.specs.WalkCases.{three_deep}
use Rattle.questions.specs.KeptCases.{later, nothing_there, kept_cases, KeptRight}
use Rattle.questions.proofs.Computed.{computed}

pub kept_cases_lem : KeptRight kept_cases
unfolding computed three_deep later nothing_there kept_cases first after side_of filter_choice sibling_list walk_list walk_number stepped next_of
kept_cases_lem = (refl, (refl, (refl, (refl, (refl, (refl, (refl, (refl, (refl, (refl, (refl, (refl, (refl, tt)))))))))))))
