-- `reports::write_changed` meets its contract: the nodes passed have their words. Assumes nothing.
use Rattle.calls.specs.Layout.{CHANGED}
use Rattle.calls.specs.Says.{changed_word}
use Rattle.base.proofs.Loops.{Filling}
use Rattle.calls.proofs.reports.write_changed.Given as goal

abbrev pub invariant-loop-r : goal.invariant-loop-r
invariant-loop-r l = Filling CHANGED l.n l.n (changed_word l.state l.batch l.scope) l.initial.notes l.r l.notes
