-- Worked examples of the record's rules, which antt computes: for each rule a record that breaks it, and records that break two.
-- Assumes nothing.
use mathlib.Core.List.{List, [], ◌∷◌, ◌++◌, map}
use Rattle.std.specs.Prelude.{Option, None, Some}
use mathlib.Core.Path.{◌≡◌, refl}
use Prim.Native.Nat.{ℕ, ◌+◌}
use lib.ListN.{replicate, set}
use lib.Ieee.{of_bits, to_bits}
use Rattle.base.specs.Tests.{◌and◌}
use Rattle.base.specs.Bytes.{little_endian, le, bytes_of, all_below, zeros, list_of, sum_of}
use Rattle.base.specs.Floats.{zero_bytes}
use Rattle.ids.specs.Ids.{same_tree}
use Rattle.geometry.specs.Geometry.{rect_test, affine_test}
use Rattle.record.specs.Batch.{NodeData, active_descendant?, graft?, bounds?, transform?, named_ids}
use Rattle.record.specs.Parse.{children_before, labels_before}
use Rattle.record.specs.Encode.{record_bytes, records_bytes, entry_bytes, labels, header_bytes, encode}
use Rattle.record.specs.ExampleNodes.{leaf, boxed, lists, batch}
use Rattle.record_rules.specs.declared.Offence.{Offence}
use Rattle.record_rules.specs.Rules.{rule, header_rules, record_rules, record_offence, total_rules, record_fault}

-- `unfolding computed` unfolds every definition
computed : Unit {0}
unfolding ◌and◌ little_endian le bytes_of all_below zeros list_of sum_of zero_bytes same_tree rect_test affine_test active_descendant? graft? bounds? transform? named_ids children_before labels_before record_bytes records_bytes entry_bytes labels header_bytes encode of_bits to_bits rule header_rules record_rules record_offence total_rules record_fault
computed = tt

abbrev breaks : ℕ → ℕ → Option Offence
breaks k at = Some (record { rule = k; offset = at })

abbrev faults : List (List ℕ) → List (Option Offence)
faults = map record_fault

-- ## The header

-- the empty batch, with one byte changed
abbrev header : ℕ → ℕ → List ℕ
header at byte = set (encode (batch 2 [])) at byte

header_faults :
    faults
    (header 0 0
    ∷ replicate 63 0
    -- 65 nodes, 257 child entries, 2,049 label bytes; too many nodes and entries
    ∷ header 0 65
    ∷ set (header 2 1) 3 1
    ∷ set (header 4 1) 5 8
    ∷ set (header 0 65) 3 2
    ∷ header 6 2
    ∷ header 8 65
    -- an offset, and a count that does not fit it
    ∷ header 12 65
    ∷ header 0 1
    ∷ header 16 65
    ∷ header 20 65
    ∷ (header 0 0 ++ 0 ∷ [])
    ∷ header 40 1
    ∷ header 63 1
    ∷ [])
    ≡ None
    ∷ breaks 1 63
    ∷ breaks 2 0
    ∷ breaks 3 2
    ∷ breaks 4 4
    ∷ breaks 2 0
    ∷ breaks 5 6
    ∷ breaks 6 8
    ∷ breaks 7 12
    ∷ breaks 7 12
    ∷ breaks 8 16
    ∷ breaks 9 20
    ∷ breaks 10 20
    ∷ breaks 12 40
    ∷ breaks 13 56
    ∷ []
unfolding computed
header_faults = refl

-- ## A node record

-- one node, with one byte of its record, which starts at 64, changed
abbrev single : NodeData → ℕ → ℕ → List ℕ
single d at byte = set (encode (batch 2 (lists 2 d ∷ []))) (64 + at) byte

record_faults :
    faults
    (single leaf 0 9
    ∷ single leaf 47 1
    ∷ single leaf 39 1
    ∷ single leaf 41 64
    ∷ single leaf 8 1
    ∷ single leaf 31 1
    ∷ single leaf 55 128
    ∷ single leaf 127 128
    ∷ single leaf 32 1
    ∷ single leaf 36 1
    -- a child, and a label byte, that are not there
    ∷ single leaf 34 1
    ∷ single leaf 38 1
    ∷ [])
    ≡ None
    ∷ breaks 14 106
    ∷ breaks 15 102
    ∷ breaks 16 105
    ∷ breaks 17 72
    ∷ breaks 18 80
    ∷ breaks 19 112
    ∷ breaks 20 144
    ∷ breaks 23 96
    ∷ breaks 24 100
    ∷ breaks 25 2
    ∷ breaks 26 4
    ∷ []
unfolding computed
record_faults = refl

-- an infinite bound, and an infinite number of a transform, under their flags
not_finite : faults (set (single (boxed 0) 55 127) (64 + 54) 240 ∷ set (set (single leaf 41 32) (64 + 87) 127) (64 + 86) 240 ∷ []) ≡ breaks 21 112 ∷ breaks 22 144 ∷ []
unfolding computed
not_finite = refl

-- ## Two rules

-- two nodes, with two bytes changed: of the second node, of the first and the second, of the header and a node
abbrev double : ℕ → ℕ → ℕ → ℕ → List ℕ
double a x b y = set (set (encode (batch 2 (lists 2 leaf ∷ lists 3 leaf ∷ []))) a x) b y

first_of_two : faults (double 192 9 (192 + 42) 1 ∷ double (192 + 42) 1 (64 + 36) 1 ∷ double (64 + 42) 1 63 1 ∷ []) ≡ breaks 14 234 ∷ breaks 24 100 ∷ breaks 13 56 ∷ []
unfolding computed
first_of_two = refl
