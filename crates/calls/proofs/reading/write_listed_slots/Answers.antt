-- `reading::write_listed_slots` meets its contract. Assumes nothing.
use mathlib.Core.Path.{refl}
use Rattle.calls.proofs.notes.Told.{few_listed, told_filled}
use Rattle.calls.proofs.reading.Reading.{listed_slot_is}
use native.Mathlib.Omega.{arith}
use Rattle.calls.proofs.reading.write_listed_slots.Goals as goal

pub find_each-requires : goal.find_each-requires
find_each-requires c = record { state_value = c.requires.given.kept.ascending; slot_room = omega (arith, few_listed) }

pub returns : goal.returns
returns c =
    let told = c.requires in
    told_filled _ _ _ _ _ 3 _ _ told (omega (arith, few_listed)) c.find_each.ensures refl (listed_slot_is _ _ _ told.given _ (told.written 0 (omega arith)))
