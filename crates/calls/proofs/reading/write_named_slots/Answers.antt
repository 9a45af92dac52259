-- `reading::write_named_slots` meets its contract. Assumes nothing.
use mathlib.Core.Path.{refl}
use Rattle.calls.proofs.notes.Told.{few_named, told_filled}
use Rattle.calls.proofs.reading.Reading.{named_slot_is}
use native.Mathlib.Omega.{arith}
use Rattle.calls.proofs.reading.write_named_slots.Goals as goal

pub find_each-requires : goal.find_each-requires
find_each-requires c = record { state_value = c.requires.given.kept.ascending; slot_room = omega (arith, few_named) }

pub returns : goal.returns
returns c =
    let told = c.requires in
    told_filled _ _ _ _ _ 4 _ _ told (omega (arith, few_named)) c.find_each.ensures refl (named_slot_is _ _ _ told.given _ (told.written 1 (omega arith)))
