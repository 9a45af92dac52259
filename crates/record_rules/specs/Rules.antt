-- Number 2: the first rule of the batch record that bytes break, in the order of document 01, "The batch record". Assumes nothing.
use Rattle.std.specs.Prelude.{Bool, ◌||◌, List, [], ◌∷◌, ℕ, ◌+◌, eqb, ltb, leb, length, if◌then◌else◌, Option, None, Some}
use Rattle.base.specs.Tests.{first_given}
use Rattle.base.specs.Bytes.{zeros, list_of}
use Rattle.ids.specs.Ids.{ROOT, same_tree}
use Rattle.geometry.specs.Geometry.{finite_rect, finite_affine, zero_rect, zero_affine}
use Rattle.record.specs.Batch.{NodeData, has_active_descendant, has_graft, has_bounds, has_transform}
use Rattle.record.specs.Layout.{node_count, entry_count, label_bytes, header_flags, has_tree_data, nodes_offset, entries_offset, labels_offset, total_length, tree_root, record_at, entries_at, labels_at, end_at, first_child, label_start, label_length}
use Rattle.record.specs.Parse.{data_of, children_before, labels_before}
use Rattle.record_rules.specs.declared.Offence.{Offence}

-- a rule by its number, the offset of the bytes that it is about, and whether they keep it
unfoldable pub rule : ℕ → ℕ → Bool → Option Offence
rule k at kept = if kept then None else Some (record { rule = k; offset = at })

-- the first of some rules that is broken
abbrev pub first_broken : List (Option Offence) → Option Offence
first_broken = first_given (λ o. o)

-- 1: there is a header. 2 to 13: its rules
unfoldable pub header_rules : List ℕ → List (Option Offence)
header_rules s =
    rule 1 (length s) (leb 64 (length s))
    -- 2 to 4: the counts of nodes, child entries and label bytes. 5: no unused flag bit
    ∷ rule 2 0 (leb (node_count s) 64)
    ∷ rule 3 2 (leb (entry_count s) 256)
    ∷ rule 4 4 (leb (label_bytes s) 2048)
    ∷ rule 5 6 (ltb (header_flags s) 2)
    -- 6 to 9: the three parts in order without gaps, and where they end
    ∷ rule 6 8 (eqb (nodes_offset s) (record_at 0))
    ∷ rule 7 12 (eqb (entries_offset s) (entries_at s))
    ∷ rule 8 16 (eqb (labels_offset s) (labels_at s))
    ∷ rule 9 20 (eqb (total_length s) (end_at s))
    -- 10, 11: the total is the slice's length, at most 12,352
    ∷ rule 10 20 (eqb (length s) (total_length s))
    ∷ rule 11 20 (leb (length s) 12352)
    -- 12: a tree root only with tree data. 13: 8 zero bytes
    ∷ rule 12 40 (has_tree_data s || eqb (tree_root s) 0)
    ∷ rule 13 56 (zeros 8 s 56)
    ∷ []

-- The rules of the node record that starts at `at`, with its data; so many children and label bytes have the nodes before it.
unfoldable pub record_rules : List ℕ → ℕ → NodeData → ℕ → ℕ → List (Option Offence)
record_rules s at d children labels =
    -- 14: six zero bytes. 15: the label's length. 16: no unused flag bit
    rule 14 (at + 42) (zeros 6 s (at + 42))
    ∷ rule 15 (at + 38) (leb (label_length s at) 32)
    ∷ rule 16 (at + 41) (ltb d.flags 64)
    -- 17 to 20: a field whose flag is clear is all zero bytes
    ∷ rule 17 (at + 8) (has_active_descendant d || eqb d.active_descendant.0 0)
    ∷ rule 18 (at + 16) (has_graft d || same_tree d.graft ROOT)
    ∷ rule 19 (at + 48) (has_bounds d || zero_rect d.bounds)
    ∷ rule 20 (at + 80) (has_transform d || zero_affine d.transform)
    -- 21, 22: every f64 is finite
    ∷ rule 21 (at + 48) (finite_rect d.bounds)
    ∷ rule 22 (at + 80) (finite_affine d.transform)
    -- 23, 24: its children and its label follow those of the nodes before it
    ∷ rule 23 (at + 32) (eqb (first_child s at) children)
    ∷ rule 24 (at + 36) (eqb (label_start s at) labels)
    ∷ []

-- the first rule that node record i breaks
unfoldable pub record_offence : List ℕ → ℕ → Option Offence
record_offence s i =
    first_broken (record_rules s (record_at i) (data_of s (record_at i)) (children_before s i) (labels_before s i))

-- 25, 26: the nodes use up the child entries and the label bytes
unfoldable pub total_rules : List ℕ → List (Option Offence)
total_rules s =
    rule 25 2 (eqb (children_before s (node_count s)) (entry_count s))
    ∷ rule 26 4 (eqb (labels_before s (node_count s)) (label_bytes s))
    ∷ []

-- the header's, then each node record's, then the totals'
unfoldable pub record_fault : List ℕ → Option Offence
record_fault s =
    elim (first_broken (header_rules s)) [
      | Some o ↦ Some o
      | None ↦ elim (first_given (record_offence s) (list_of (node_count s) (λ i. i))) [
        | Some o ↦ Some o
        | None ↦ first_broken (total_rules s)
      ]
    ]
