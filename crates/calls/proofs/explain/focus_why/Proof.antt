-- `explain::focus_why` meets its contract. Assumes nothing.
use borrow.Author.Rules.{rules}
use Rattle.calls.proofs.explain.focus_why.Statement.{statement}
use Rattle.calls.proofs.explain.focus_why.Tie as tie
use Rattle.calls.proofs.explain.Parts.{focus_led, focus_plain}

pub focus_why_spec : {M : Type 1} → statement M
focus_why_spec = tie.close (tie.spec (λ c κs. search rules) (λ c κs. search rules) (λ c. search focus_led) (λ c. search focus_plain))
