-- `state_lookup::find_in` meets its contract: no slot passed has the id. Assumes nothing.
use Rattle.base.proofs.Scan.{Missed}
use Rattle.state_lookup.specs.Lookup.{stands_at}
use Rattle.state_lookup.proofs.find_in.Given as goal

abbrev pub invariant-loop-i : goal.invariant-loop-i
invariant-loop-i l = Missed (stands_at l.state l.id) l.n l.i
