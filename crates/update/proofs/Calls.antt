-- Laws of the calls: what the bytes decide, the lent slice, tree numbers, the blank state. Assumes nothing.
use Rattle.update.proofs.Sound.{first_row, first_found}
use mathlib.Core.Bool.{false}
use mathlib.Core.List.{List, [], ◌∷◌, ◌++◌, map}
use Rattle.std.specs.Prelude.{Option, None, Some}
use mathlib.Core.Path.{◌≡◌, refl, ap}
use Prim.Native.Nat.{ℕ, zero, suc}
use lib.ListN.{length}
use borrow.Author.Tests.{ltb-false}
use Rattle.base.specs.Tests.{◌and◌}
use Rattle.ids.specs.declared.TreeId.{TreeId}
use Rattle.record.specs.Batch.{Batch}
use Rattle.record.specs.Parse.{parse}
use Rattle.state.specs.State.{TreeEntry, Forest, State, blank, subtree_from, subtree_of}
use Rattle.state.specs.Down.{root_of, way_down}
use Rattle.state.specs.Sound.{sound_links, grafts_differ, root_first, sound_trees, sound_shape, sound}
use Rattle.update.specs.Outcome.{entry_after, entries_after, new_entry, outcome}
use Rattle.update.specs.Reports.{changes_of, change_words}
use Rattle.update.specs.Calls.{Answer, refused, accepted, judged, batch_rows, update_number, update_batch, update}
use Rattle.update.proofs.Reports.{length_slice_after}

-- ## What the bytes decide

-- the answer to a batch, from what its bytes parse to
abbrev pub update_of : State → List ℕ → Option Batch → Answer
update_of s slice o =
    elim o [
      | None ↦ refused (update_number s None slice) s slice
      | Some b ↦ update_batch s b slice
    ]

pub update_is : (s : State) (bytes slice : List ℕ) (o : Option Batch) → parse bytes ≡ o → update s bytes slice ≡ update_of s slice o
unfolding update
update_is s bytes slice o e = ap (update_of s slice) e

-- ## The lent slice keeps its length, whatever the call

pub update_keeps_length : (s : State) (bytes slice : List ℕ) → length (update s bytes slice).slice ≡ length slice
unfolding update update_batch update_number batch_rows judged refused accepted
update_keeps_length s bytes slice = go (parse bytes)
  where
    after : Batch → State
    after b = record { forest = outcome s.forest b; host_focused = s.host_focused }

    on : (b : Batch) (n : ℕ) → update_number s (Some b) slice ≡ n
        → length (judged n s slice (accepted s (after b) (changes_of s.forest b) slice)).slice ≡ length slice
    on b zero e =
        let z = simp (first_row, first_found) at e in
        length_slice_after slice (changes_of s.forest b) (ltb-false (length slice) (length (change_words (changes_of s.forest b))) z.1.1.1.0)
    on b (suc n) e = refl

    go : (o : Option Batch) → length (update_of s slice o).slice ≡ length slice
    go None = refl
    go (Some b) = on b (update_number s (Some b) slice) refl

-- ## Tree numbers are kept for good: a batch at most takes the next one

ids_kept : (s : Forest) (b : Batch) (k : ℕ) (es new : List TreeEntry)
    → map (λ e. e.id) (entries_after s b k es ++ new) ≡ map (λ e. e.id) es ++ map (λ e. e.id) new
unfolding entries_after entry_after
ids_kept s b k [] new = refl
ids_kept s b k (e ∷ es) new = ap {B = List TreeId} (λ ts. e.id ∷ ts) (ids_kept s b (suc k) es new)

pub numbers_kept : (s : Forest) (b : Batch)
    → map (λ e. e.id) (outcome s b).trees ≡ map (λ e. e.id) s.trees ++ map (λ e. e.id) (new_entry s b)
unfolding outcome
numbers_kept s b = ids_kept s b 0 s.trees (new_entry s b)

-- ## The blank state, which a refused start hands back, is not sound

pub blank_unsound : sound blank.forest ≡ false
unfolding sound sound_shape sound_links sound_trees blank root_first way_down root_of subtree_of subtree_from grafts_differ ◌and◌
blank_unsound = refl
