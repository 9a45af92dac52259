-- A node's data as its words, read from a record or from a slot, and the comparison of two by value: document 01, "equal by value".
-- Assumes nothing.
use Rattle.std.specs.Prelude.{Bool, List, ℕ, ◌+◌, ◌*◌, ◌-◌, eqb, ltb, Float, length, get_or, if◌then◌else◌}
use Rattle.std.specs.Float.Ieee.{of_bits}
use Rattle.std.specs.Float.{binary64}
use Rattle.base.specs.Tests.{◌and◌}
use Rattle.base.specs.Bytes.{all_below, list_of}
use Rattle.ids.specs.Ids.{same_tree, same_node}
use Rattle.geometry.specs.Geometry.{same_rect, same_affine}
use Rattle.geometry.specs.declared.Rect.{Rect}
use Rattle.geometry.specs.declared.Affine.{Affine}
use Rattle.record.specs.Parse.{batch_of}
use Rattle.record_reader.specs.Reader.{listed_at, field_at}
use Rattle.state_array.specs.Layout.{SLOTS}
use Rattle.state_array.specs.Stored.{label_word, body_words}
use Rattle.state_array.specs.declared.Body.{Body}

-- ## A node's data

-- the ten bit patterns of listed node i of any bytes
unfoldable pub patterns_in : List ℕ → ℕ → List ℕ
patterns_in bytes i = list_of 10 (λ k. field_at 8 bytes i (48 + 8 * k))

-- the data of listed node i of any bytes: what the batch says, and its floats as the patterns that stand there
unfoldable pub listed_body : List ℕ → ℕ → Body
listed_body bytes i =
    let d = (listed_at (batch_of bytes) i).body in
    record {
      graft = d.graft;
      flags = d.flags;
      child_count = length d.children;
      active_descendant = d.active_descendant;
      role = d.role;
      label_length = length d.label;
      label = list_of 4 (label_word d.label);
      floats = patterns_in bytes i;
    }

-- the data that a code names: below 320 a slot's, from 320 on a listed node's
unfoldable pub code_body : List ℕ → List ℕ → ℕ → Body
code_body state bytes code = if ltb code SLOTS then body_words state code else listed_body bytes (code - SLOTS)

-- ## By value

-- number k of ten bit patterns
abbrev pub float_of : List ℕ → ℕ → Float
float_of w k = of_bits binary64 (get_or w k 0)

-- the bounds and the transform of ten bit patterns
unfoldable pub bounds_of : List ℕ → Rect
bounds_of w = record { x0 = float_of w 0; y0 = float_of w 1; x1 = float_of w 2; y1 = float_of w 3 }

unfoldable pub transform_of : List ℕ → Affine
transform_of w = record { a = float_of w 4; b = float_of w 5; c = float_of w 6; d = float_of w 7; e = float_of w 8; f = float_of w 9 }

-- the count words of a from `from` on are those of b from `to` on; past the end of either stands `past`
unfoldable pub same_run : List ℕ → ℕ → List ℕ → ℕ → ℕ → ℕ → Bool
same_run a from b to past count = all_below count (λ k. eqb (get_or a (from + k) past) (get_or b (to + k) past))

-- two nodes have the same data by value, their children's lists aside
unfoldable pub same_body : Body → Body → Bool
same_body a b =
    eqb a.child_count b.child_count
    and eqb a.flags b.flags
    and same_tree a.graft b.graft
    and (same_node a.active_descendant b.active_descendant
    and (eqb a.label_length b.label_length and same_run a.label 0 b.label 0 0 4)
    and eqb a.role b.role
    and same_rect (bounds_of a.floats) (bounds_of b.floats)
    and same_affine (transform_of a.floats) (transform_of b.floats)
    )
