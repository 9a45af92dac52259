-- The record's rules for the fields of a slot, word by word. Assumes nothing.
use mathlib.Core.Bool.{true, false, ◌||◌}
use mathlib.Core.List.{List}
use mathlib.Core.Path.{◌≡◌, ◌∙◌}
use Prim.Native.Nat.{ℕ, ◌^◌, ◌<◌}
use lib.Dec.{eqb, leb, ltb}
use lib.Ieee.{of_bits, binary64}
use borrow.Author.Tests.{eq-eqb, ne_eqb}
use Rattle.base.specs.Tests.{◌and◌, all}
use Rattle.base.specs.Bytes.{bit, all_below}
use Rattle.base.specs.Floats.{zero_bytes}
use Rattle.base.proofs.Bytes.{length_list_of}
use Rattle.base.proofs.Indexed.{all_indexed}
use Rattle.base.proofs.Floats.{bits_zero}
use Rattle.ids.specs.Ids.{same_tree}
use Rattle.geometry.specs.Geometry.{rect_test, affine_test}
use Rattle.record.specs.Batch.{fields_ok}
use Rattle.state_array.specs.Layout.{word, LABEL_LENGTH, ROLE, FLAGS, ACTIVE, GRAFT_HIGH, GRAFT_LOW}
use Rattle.state_array.specs.View.{shape_in, label_byte, label_in, bounds_in, transform_in, body_in, node_in, slots_of, view}
use Rattle.state_fields.specs.Fields.{zero_from, finite_from}

-- a slot's fields obey the rules where its words do
pub fields_read : (s : List ℕ) (i : ℕ)
    → fields_ok (body_in s i)
    ≡ (leb (word s LABEL_LENGTH i) 32
    and ltb (word s ROLE i) 256
    and ltb (word s FLAGS i) 64
    and (bit 4 (word s FLAGS i) || eqb (word s ACTIVE i) 0)
    and (bit 8 (word s FLAGS i) || (eqb (word s GRAFT_HIGH i) 0 and eqb (word s GRAFT_LOW i) 0))
    and (bit 16 (word s FLAGS i) || zero_from s i 0 4)
    and (bit 32 (word s FLAGS i) || zero_from s i 4 6)
    and finite_from s i 0 4
    and finite_from s i 4 6)
unfolding fields_ok body_in shape_in label_in bounds_in transform_in same_tree rect_test affine_test all_below ◌and◌
fields_read s i = rw (length_list_of (word s LABEL_LENGTH i) (label_byte s i))

-- a state's nodes do where its slots do
pub fields_indexed : (s : List ℕ) → all (λ n. fields_ok n.body) (view s).forest.nodes ≡ all_below (slots_of s) (λ i. fields_ok (body_in s i))
unfolding view node_in
fields_indexed s = all_indexed (λ n. fields_ok n.body) (slots_of s) (node_in s)

-- a word w that was read, and its float's bytes
module _ (w v : ℕ) (fits : w < 2 ^ 64) (e : w ≡ v) where
  pub word_zero : w ≡ 0 → zero_bytes (of_bits binary64 v) ≡ true
  word_zero z = rw (← e) (bits_zero w fits ∙ eq-eqb w 0 z)

  pub word_nonzero : (w ≡ 0 → ⊥) → zero_bytes (of_bits binary64 v) ≡ false
  word_nonzero z = rw (← e) (bits_zero w fits ∙ ne_eqb w 0 z)
