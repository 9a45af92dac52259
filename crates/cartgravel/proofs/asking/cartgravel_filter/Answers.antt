-- `cartgravel::asking::cartgravel_filter` meets its contract: by the number, as the question does, or 1 or 2 alone. Assumes nothing.
use mathlib.Core.Path.{refl}
use Rattle.cartgravel.specs.Questions.{filter_reply}
use Rattle.cartgravel.proofs.asking.cartgravel_filter.Goals as goal

pub returns-in-Some : goal.returns-in-Some
unfolding filter_reply
returns-in-Some c = rw (← c.filter_of.ensures, c.in-Some.is, c.filter_result.ensures, c.filter.ensures) refl

pub returns-in-None : goal.returns-in-None
unfolding filter_reply
returns-in-None c = rw (← c.filter_of.ensures, c.in-None.is, c.filter_result-in-None.ensures, c.unknown.ensures) refl
