-- Module 6 by worked cases: parents, children, siblings, the inherited hidden flag, transforms and boxes. Derived by hand from document 01,
-- "Modules", "The update" (a graft's only child) and "Boxes". Assumes nothing.
use Rattle.std.specs.Prelude.{true, false, List, [], ◌∷◌, ◌*◌, ◌^◌}
use Rattle.std.specs.Float.{inf}
use Rattle.ids.specs.Ids.{ROOT}
use Rattle.geometry_box.specs.Boxes.{nought}
use Rattle.geometry_box.specs.declared.BoundingBox.TheVariants.{Box, None}
use Rattle.record.specs.ExampleNodes.{T, U, parent, leaf, grafts}
use Rattle.state.specs.ExampleStates.{id, root, under, tree, state}
use Rattle.questions.specs.declared.Side.TheVariants.{Following, Preceding}
use Rattle.questions.specs.ExampleTrees.{whole, negative, rect, whole_box, sends, shift, scale, quarter, hides, bounded, spans, moved, below, alone}
use Rattle.questions.specs.ExampleQuestions.{Parent, Children, Siblings, IsHidden, Transform, BoxOf, many, flag, affine, box, is, nothing, ◌asked◌says◌, Worked}

-- ## Links

-- ROOT's 1 has [2, 3, 4]; 3 grafts T, whose root 1 has [2, 3]; 4 grafts U, which does not exist
unfoldable pub links : Worked
links = record {
  state =
      state
      (root 0 1 (parent (2 ∷ 3 ∷ 4 ∷ []))
      ∷ below 1 0 2 leaf
      ∷ below 1 1 3 (grafts T)
      ∷ below 1 2 4 (grafts U)
      ∷ under (id 0 3) 0 (id 1 1) (parent (2 ∷ 3 ∷ []))
      ∷ under (id 1 1) 0 (id 1 2) leaf
      ∷ under (id 1 1) 1 (id 1 3) leaf
      ∷ [])
      (tree ROOT 1 2 ∷ tree T 1 1 ∷ []);
  cases =
      -- a pane's root has its graft node for a parent
      id 1 1 asked Parent says is (id 0 3)
      -- a node of a pane has a parent of its own tree
      ∷ id 1 3 asked Parent says is (id 1 1)
      -- the root has none
      ∷ id 0 1 asked Parent says nothing
      -- of a plain node its children, in order
      ∷ id 0 1 asked Children says many (id 0 2 ∷ id 0 3 ∷ id 0 4 ∷ [])
      -- they are of its own tree
      ∷ id 1 1 asked Children says many (id 1 2 ∷ id 1 3 ∷ [])
      -- a graft's only child is its tree's root
      ∷ id 0 3 asked Children says many (id 1 1 ∷ [])
      -- if that tree exists
      ∷ id 0 4 asked Children says many []
      -- the siblings after 2, in order
      ∷ id 0 2 asked Siblings Following says many (id 0 3 ∷ id 0 4 ∷ [])
      -- those before 4, nearest first
      ∷ id 0 4 asked Siblings Preceding says many (id 0 3 ∷ id 0 2 ∷ [])
      -- 3 stands between them
      ∷ id 0 3 asked Siblings Following says many (id 0 4 ∷ [])
      ∷ id 0 3 asked Siblings Preceding says many (id 0 2 ∷ [])
      -- a pane's root is an only child, and the root is no child
      ∷ id 1 1 asked Siblings Following says many []
      ∷ id 1 1 asked Siblings Preceding says many []
      ∷ id 0 1 asked Siblings Following says many []
      ∷ [];
}

-- 1 has [2, 3]; 2 is hidden and has [4]; 4 grafts T, whose root 1 has [2]
unfoldable pub hidden_above : Worked
hidden_above = record {
  state =
      state
      (root 0 1 (parent (2 ∷ 3 ∷ []))
      ∷ below 1 0 2 (hides (parent (4 ∷ [])))
      ∷ below 1 1 3 leaf
      ∷ below 2 0 4 (grafts T)
      ∷ under (id 0 4) 0 (id 1 1) (parent (2 ∷ []))
      ∷ under (id 1 1) 0 (id 1 2) leaf
      ∷ [])
      (tree ROOT 1 3 ∷ tree T 1 1 ∷ []);
  cases =
      -- its own flag
      id 0 2 asked IsHidden says flag true
      -- inherited from the parent
      ∷ id 0 4 asked IsHidden says flag true
      -- the parents go on through the graft: (1, 2), (1, 1), (0, 4), (0, 2)
      ∷ id 1 2 asked IsHidden says flag true
      -- not from a sibling
      ∷ id 0 3 asked IsHidden says flag false
      -- not from a child
      ∷ id 0 1 asked IsHidden says flag false
      ∷ [];
}

-- ## Transforms

-- 1 trebles, 2 shifts by (3, 5), 3 turns by 90 degrees
unfoldable pub two_levels : Worked
two_levels = record {
  state =
      alone 1
      (root 0 1 (moved (scale (whole 3)) (parent (2 ∷ [])))
      ∷ below 1 0 2 (moved (shift (whole 3) (whole 5)) (parent (3 ∷ [])))
      ∷ below 2 0 3 (moved quarter (spans 0 0 2 1 leaf))
      ∷ []);
  cases =
      -- the root's own
      id 0 1 asked Transform says affine (scale (whole 3))
      -- the parent's on the left: x goes to x + 3, then to 3x + 9; the other way round it would be 3x + 3
      ∷ id 0 2 asked Transform says affine (sends (whole 3) (whole 0) (whole 0) (whole 3) (whole 9) (whole 15))
      -- (x, y) goes to (-y, x), then to (3 - y, x + 5), then to (9 - 3y, 3x + 15)
      ∷ id 0 3 asked Transform says affine (sends (whole 0) (whole 3) (negative 3) (whole 0) (whole 9) (whole 15))
      -- so (0, 0), (0, 1), (2, 0), (2, 1) go to (9, 15), (6, 15), (9, 21), (6, 21)
      ∷ id 0 3 asked BoxOf says box (whole_box 6 15 9 21)
      -- no bounds: no box
      ∷ id 0 2 asked BoxOf says box None
      ∷ [];
}

-- 1 shifts by (1, 2); 2 doubles and grafts T, whose root shifts by (10, 20)
unfoldable pub through_graft : Worked
through_graft = record {
  state =
      state
      (root 0 1 (moved (shift (whole 1) (whole 2)) (parent (2 ∷ [])))
      ∷ below 1 0 2 (moved (scale (whole 2)) (grafts T))
      ∷ under (id 0 2) 0 (id 1 1) (moved (shift (whole 10) (whole 20)) (spans 0 0 1 1 leaf))
      ∷ [])
      (tree ROOT 1 1 ∷ tree T 1 1 ∷ []);
  cases =
      -- the parents go on through the graft: x goes to x + 10, to 2x + 20, to 2x + 21
      id 1 1 asked Transform says affine (sends (whole 2) (whole 0) (whole 0) (whole 2) (whole 21) (whole 42))
      -- 0 and 1 go to 21 and 23, and to 42 and 44
      ∷ id 1 1 asked BoxOf says box (whole_box 21 42 23 44)
      ∷ [];
}

-- ## Boxes

-- 1 turns by 90 degrees; nothing else does
unfoldable pub turned_root : Worked
turned_root = record {
  state = alone 1 (root 0 1 (moved quarter (spans 0 0 2 1 leaf)) ∷ []);
  cases =
      -- (0, 0), (0, 1), (2, 0), (2, 1) go to (0, 0), (-1, 0), (0, 2), (-1, 2)
      id 0 1 asked BoxOf says box (Box (negative 1) (whole 0) (whole 0) (whole 2))
      ∷ [];
}

-- no transform anywhere; 2 has bounds of no width, 3 has none, 4 has bounds from the greater corner to the lesser
unfoldable pub plain_boxes : Worked
plain_boxes = record {
  state =
      alone 1
      (root 0 1 (parent (2 ∷ 3 ∷ 4 ∷ []))
      ∷ below 1 0 2 (spans 3 0 3 2 leaf)
      ∷ below 1 1 3 leaf
      ∷ below 1 2 4 (spans 5 2 3 0 leaf)
      ∷ []);
  cases =
      -- a box of no width is a box
      id 0 2 asked BoxOf says box (whole_box 3 0 3 2)
      -- no bounds: no box
      ∷ id 0 3 asked BoxOf says box None
      -- the least and greatest of the four corners
      ∷ id 0 4 asked BoxOf says box (whole_box 3 0 5 2)
      -- where no node has a transform, it is the identity
      ∷ id 0 2 asked Transform says affine (scale (whole 1))
      ∷ [];
}

-- 1, 2 and 3 scale by 3 · 2 ^ 400 each
unfoldable pub overflowing : Worked
overflowing = record {
  state =
      alone 1
      (root 0 1 (moved (scale (whole (3 * 2 ^ 400))) (parent (2 ∷ [])))
      ∷ below 1 0 2 (moved (scale (whole (3 * 2 ^ 400))) (spans 0 0 1 1 (parent (3 ∷ []))))
      ∷ below 2 0 3 (moved (scale (whole (3 * 2 ^ 400))) (spans 0 0 1 1 leaf))
      ∷ []);
  cases =
      -- 9 · 2 ^ 800 is an f64
      id 0 2 asked BoxOf says box (whole_box 0 0 (9 * 2 ^ 800) (9 * 2 ^ 800))
      -- 27 · 2 ^ 1200 is past the greatest: a number on the way is not finite
      ∷ id 0 3 asked BoxOf says box None
      -- the transform itself is what the products give
      ∷ id 0 3 asked Transform says affine (scale (inf false))
      ∷ [];
}

-- 1, 2 and 4 shift by (-0, -0); 3, the parent of 4, has no transform
unfoldable pub minus_zero : Worked
minus_zero = record {
  state =
      alone 1
      (root 0 1 (moved (shift (negative 0) (negative 0)) (bounded (rect (negative 0) (negative 0) (negative 0) (negative 0)) (parent (2 ∷ 3 ∷ []))))
      ∷ below 1 0 2 (moved (shift (negative 0) (negative 0)) (bounded (rect (negative 0) (negative 0) (whole 1) (negative 0)) leaf))
      ∷ below 1 1 3 (parent (4 ∷ []))
      ∷ below 3 0 4 (moved (shift (negative 0) (negative 0)) leaf)
      ∷ []);
  cases =
      -- 1·-0 + 0·-0 + -0 is -0; a zero in the box is handed out as +0
      id 0 1 asked BoxOf says box (Box nought nought nought nought)
      ∷ id 0 2 asked BoxOf says box (Box nought nought (whole 1) nought)
      -- in a transform it stays: 1·-0 + 0·-0 + -0 is -0
      ∷ id 0 2 asked Transform says affine (shift (negative 0) (negative 0))
      -- the identity of 3 is multiplied too: 1·-0 + 0·-0 + 0 is +0, and so it stays
      ∷ id 0 4 asked Transform says affine (shift nought nought)
      ∷ [];
}

abbrev pub link_cases : List Worked
link_cases = links ∷ hidden_above ∷ two_levels ∷ through_graft ∷ turned_root ∷ plain_boxes ∷ overflowing ∷ minus_zero ∷ []
