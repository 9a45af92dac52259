-- `state_lookup::stands` meets its contract: two tests. Assumes nothing.
use mathlib.Core.Path.{ap, ◌∙◌}
use borrow.Author.Tests.{lt-ltb, le-ltb}
use Rattle.base.specs.Tests.{◌and◌}
use Rattle.ids.specs.Ids.{same_id}
use Rattle.ids.proofs.Ids.{id_test}
use Rattle.state_lookup.specs.Lookup.{in_slot}
use Rattle.state_lookup.proofs.stands.Goals as goal

pub returns-then-n-i : goal.returns-then-n-i
unfolding in_slot ◌and◌
returns-then-n-i c = rw (le-ltb c.args.i c.args.n c.if-n-i.true)

pub returns : goal.returns
unfolding in_slot ◌and◌
returns c = let a = c.args in rw (lt-ltb a.i a.n c.if-n-i.false) (c.eq.ensures ∙ id_test _ _ ∙ ap (same_id a.id) c.id_at.ensures)
