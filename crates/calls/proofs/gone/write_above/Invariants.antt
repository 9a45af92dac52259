-- `gone::write_above` meets its contract. Assumes nothing.
use Rattle.state_array.specs.View.{link_of, link_in}
use Rattle.calls.specs.Layout.{ABOVE}
use Rattle.calls.specs.Says.{slot_above}
use Rattle.base.proofs.Loops.{Filling}
use Rattle.calls.proofs.gone.write_above.Given as goal

abbrev pub invariant-loop-i : goal.invariant-loop-i
invariant-loop-i l = Filling ABOVE l.i-end l.i-end (λ j. slot_above l.state (link_of (link_in l.state j))) l.initial.notes l.i l.notes
