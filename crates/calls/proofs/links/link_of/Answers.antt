-- `links::link_of` meets its contract: a code is a slot, or 320 and the place of a listed node. Assumes nothing.
use borrow.Author.Tests.{lt-ltb, le-ltb}
use Rattle.state_array.specs.Layout.{SLOTS}
use Rattle.calls.specs.Codes.{code_id, code_link}
use Rattle.update_focus.proofs.Numbers.{forest_length}
use Rattle.calls.specs.Links.{link_word}
use native.Mathlib.Omega.{arith}
use Rattle.calls.proofs.links.link_of.Goals as goal

pub link_of_old-requires : goal.link_of_old-requires
link_of_old-requires c =
    record { told = c.requires.told; i_bound = omega (arith, (c.requires.coded.stays c.if-code-lt-SLOTS.true).0, forest_length c.args.state.now) }

pub returns-then-code-lt-SLOTS : goal.returns-then-code-lt-SLOTS
unfolding link_word code_id code_link
returns-then-code-lt-SLOTS c = rw (lt-ltb c.args.code SLOTS c.if-code-lt-SLOTS.true) c.link_of_old.ensures

pub link_of_new-requires : goal.link_of_new-requires
unfolding code_id
link_of_new-requires c =
    let new = c.requires.coded.new c.if-code-lt-SLOTS.false in
    record {
      told = c.requires.told;
      new_listed = record { listed = new.0; new = rw (le-ltb c.args.code SLOTS c.if-code-lt-SLOTS.false) at new.1 };
    }

pub returns : goal.returns
unfolding link_word code_id code_link
returns c = rw (le-ltb c.args.code SLOTS c.if-code-lt-SLOTS.false) c.link_of_new.ensures
