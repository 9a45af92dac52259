-- `update_focus::write_way` meets its contract: the first j words are stored. Assumes nothing.
use lib.ListN.{get_or}
use Rattle.base.proofs.Loops.{Filling}
use Rattle.ids.specs.Ids.{id_words}
use Rattle.reasons_calls.specs.Outcome.{focus_way}
use Rattle.state_array.specs.View.{view}
use Rattle.update_focus.proofs.write_way.Given as goal

abbrev pub invariant-loop-j : goal.invariant-loop-j
invariant-loop-j l = Filling 0 66 66 (λ k. get_or (id_words (focus_way (view l.next).forest)) k 0) l.initial.way l.j l.way
