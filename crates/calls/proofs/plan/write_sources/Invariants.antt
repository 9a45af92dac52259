-- `plan::write_sources` meets its contract: the sources of the first `r` nodes stand in their column. Assumes nothing.
use Rattle.calls.specs.Layout.{SOURCES}
use Rattle.calls.specs.Says.{source_word}
use Rattle.base.proofs.Loops.{Filling}
use Rattle.calls.proofs.plan.write_sources.Given as goal

abbrev pub invariant-loop-r : goal.invariant-loop-r
invariant-loop-r l = Filling SOURCES 320 l.count (source_word l.state l.batch l.scope) l.initial.notes l.r l.notes
