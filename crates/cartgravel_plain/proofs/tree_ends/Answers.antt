-- `cartgravel_plain::tree_ends` meets its contract: by the variant. Assumes nothing.
use mathlib.Core.Path.{refl}
use Rattle.cartgravel_plain.proofs.tree_ends.Goals as goal

pub returns-in-Some : goal.returns-in-Some
returns-in-Some c =
    rw (c.number_of-number.ensures, ← c.unwrap_or.ensures, c.in-Some.is, c.plain_id.ensures, c.plain_id-in-Some.ensures) refl

pub returns-in-None : goal.returns-in-None
returns-in-None c =
    rw (c.number_of-number.ensures, ← c.unwrap_or.ensures, c.in-None.is, c.plain_id-in-None.ensures, c.plain_id-in-None-2.ensures) refl
