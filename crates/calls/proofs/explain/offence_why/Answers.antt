-- `explain::offence_why` meets its contract. Assumes nothing.
use mathlib.Core.Path.{refl}
use Rattle.calls.specs.Explained.{offence_why}
use Rattle.calls.proofs.explain.offence_why.Goals as goal

pub returns : goal.returns
unfolding offence_why
returns c = refl
