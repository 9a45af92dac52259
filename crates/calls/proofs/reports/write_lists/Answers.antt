-- `reports::write_lists` meets its contract: the lists one after another, if there is room. Assumes nothing.
use mathlib.Core.Path.{◌≡◌, refl}
use mathlib.Core.List.{List}
use Prim.Native.Nat.{ℕ, ◌+◌, ◌*◌, ◌≤◌}
use lib.ListN.{length}
use native.Mathlib.Omega.{arith}
use Rattle.calls.specs.Layout.{FATES, CHANGED}
use Rattle.state_array.specs.View.{slots_of}
use Rattle.calls.specs.Slice.{Counted, picked, changes_noted}
use Rattle.calls.proofs.reports.Slice.{picked_count, lists_short, lists_slice_after}
use Rattle.calls.proofs.reports.write_lists.Goals as goal

fits : {p q r s a b d e n : ℕ} → p ≡ a → q ≡ b → r ≡ d → s ≡ e → 2 * (p + q + r + s) ≤ n → 2 * (a + b + d + e) ≤ n
fits i j k l t = rw (← i, ← j, ← k, ← l) t

-- there is room for all that is picked, where there is for the counts
room : (state notes next : List ℕ) {p q r s m n e : ℕ} → Counted 1 notes CHANGED m p → Counted 2 notes CHANGED m q → Counted 1 notes FATES n r
    → Counted 4 notes CHANGED m s → m ≡ slots_of next → n ≡ slots_of state → 2 * (p + q + r + s) ≤ e
    → 2 * (length (picked 1 notes CHANGED next) + length (picked 2 notes CHANGED next) + length (picked 1 notes FATES state) + length (picked 4 notes CHANGED next))
    ≤ e
room state notes next i j k l m n =
    fits (picked_count 1 notes CHANGED next _ _ i m) (picked_count 2 notes CHANGED next _ _ j m) (picked_count 1 notes FATES state _ _ k n)
    (picked_count 4 notes CHANGED next _ _ l m)

pub returns-then-changes-words : goal.returns-then-changes-words
returns-then-changes-words c =
    let a = c.args in
    let m = c.slots-m.ensures in
    let n = c.slots-n.ensures in
    lists_short (changes_noted a.state.now a.notes.now a.next.now) a.changes.now
    (picked_count 1 a.notes.now CHANGED a.next.now _ _ c.count_of-added.ensures m)
    (picked_count 2 a.notes.now CHANGED a.next.now _ _ c.count_of-updated.ensures m)
    (picked_count 1 a.notes.now FATES a.state.now _ _ c.count_of-removed.ensures n)
    (picked_count 4 a.notes.now CHANGED a.next.now _ _ c.count_of-relinked.ensures m)
    refl c.if-changes-words.true

pub write_list-from_updated-requires : goal.write_list-from_updated-requires
write_list-from_updated-requires c =
    let a = c.args in
    omega (
      arith,
      room a.state.now a.notes.now a.next.now c.count_of-added.ensures c.count_of-updated.ensures c.count_of-removed.ensures c.count_of-relinked.ensures
          c.slots-m.ensures c.slots-n.ensures c.if-changes-words.false,
    )

pub write_list-from_removed-requires : goal.write_list-from_removed-requires
write_list-from_removed-requires c =
    let a = c.args in
    omega (
      arith,
      room a.state.now a.notes.now a.next.now c.count_of-added.ensures c.count_of-updated.ensures c.count_of-removed.ensures c.count_of-relinked.ensures
          c.slots-m.ensures c.slots-n.ensures c.if-changes-words.false,
      c.write_list-from_updated.ensures,
    )

pub write_list-from_relinked-requires : goal.write_list-from_relinked-requires
write_list-from_relinked-requires c =
    let a = c.args in
    omega (
      arith,
      room a.state.now a.notes.now a.next.now c.count_of-added.ensures c.count_of-updated.ensures c.count_of-removed.ensures c.count_of-relinked.ensures
          c.slots-m.ensures c.slots-n.ensures c.if-changes-words.false,
      c.write_list-from_updated.ensures,
      c.write_list-from_removed.ensures,
    )

pub write_list-end-requires : goal.write_list-end-requires
write_list-end-requires c =
    let a = c.args in
    omega (
      arith,
      room a.state.now a.notes.now a.next.now c.count_of-added.ensures c.count_of-updated.ensures c.count_of-removed.ensures c.count_of-relinked.ensures
          c.slots-m.ensures c.slots-n.ensures c.if-changes-words.false,
      c.write_list-from_updated.ensures,
      c.write_list-from_removed.ensures,
      c.write_list-from_relinked.ensures,
    )

pub returns : goal.returns
returns c =
    let a = c.args in
    let m = c.slots-m.ensures in
    let n = c.slots-n.ensures in
    lists_slice_after (changes_noted a.state.now a.notes.now a.next.now) a.changes.now _
    (picked_count 1 a.notes.now CHANGED a.next.now _ _ c.count_of-added.ensures m)
    (picked_count 2 a.notes.now CHANGED a.next.now _ _ c.count_of-updated.ensures m)
    (picked_count 1 a.notes.now FATES a.state.now _ _ c.count_of-removed.ensures n)
    (picked_count 4 a.notes.now CHANGED a.next.now _ _ c.count_of-relinked.ensures m)
    refl c.if-changes-words.false
    _ _ _ _ _ _ _ _ c.write_list-from_updated.ensures c.write_list-from_removed.ensures c.write_list-from_relinked.ensures c.write_list-end.ensures
