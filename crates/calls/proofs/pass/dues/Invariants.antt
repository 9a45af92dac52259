-- `pass::dues` meets its contract: the places passed are filled. Assumes nothing.
use lib.ListN.{replicate}
use Rattle.base.proofs.Loops.{Filling}
use Rattle.calls.specs.Setting.{asked, forest}
use Rattle.calls.specs.Steps.{due_of}
use Rattle.calls.proofs.pass.dues.Given as goal

abbrev pub invariant-loop-i : goal.invariant-loop-i
invariant-loop-i l = Filling 0 64 l.i-end (due_of (forest l.state) (asked l.batch l.scope)) (replicate 64 0) l.i l.out
