-- Module 7 by worked cases: document 01's cases 15 and 16, and others derived by hand from "Filter and walks", module 7 and src/filters.rs.
-- Assumes nothing.
use Rattle.std.specs.Prelude.{List, [], ◌∷◌, Float}
use Rattle.std.specs.Float.Ieee.{neg, of_bits}
use Rattle.std.specs.Float.{binary64}
use Rattle.ids.specs.Ids.{ROOT}
use Rattle.record.specs.ExampleNodes.{T, parent, leaf, grafts}
use Rattle.state.specs.ExampleStates.{id, root, under, tree, state}
use Rattle.questions.specs.declared.FilterResult.TheVariants.{Include, ExcludeNode, ExcludeSubtree}
use Rattle.questions.specs.declared.Filter.TheVariants.{Common, WithRootException, WithoutParentChecks}
use Rattle.questions.specs.ExampleTrees.{whole, rect, shift, container, text_run, hides, clips, activates, bounded, spans, moved, inside, outside, window, below, alone, unfocused, buttons, clipped_away}
use Rattle.questions.specs.ExampleQuestions.{Filtered, result, ◌asked◌says◌, Worked}

-- ## Focused, hidden, transparent

-- 15. a button, an empty GenericContainer, a hidden node with a child, a button
unfoldable pub buttons_filtered : Worked
buttons_filtered = record {
  state = buttons;
  cases =
      -- the buttons are included
      id 0 2 asked Filtered Common says result Include
      ∷ id 0 5 asked Filtered Common says result Include
      -- a GenericContainer is ExcludeNode, with or without children
      ∷ id 0 3 asked Filtered Common says result ExcludeNode
      -- a hidden node is dropped, and its child with it
      ∷ id 0 4 asked Filtered Common says result ExcludeSubtree
      ∷ id 0 6 asked Filtered Common says result ExcludeSubtree
      ∷ [];
}

-- 16. the focused node 2 is its own active descendant, and hidden
unfoldable pub own_active_descendant : Worked
own_active_descendant = record {
  state = alone 2 (root 0 1 (parent (2 ∷ [])) ∷ below 1 0 2 (hides (activates 2 leaf)) ∷ []);
  cases =
      -- not focused for the filter, so that it is hidden
      id 0 2 asked Filtered Common says result ExcludeSubtree
      ∷ id 0 2 asked Filtered WithoutParentChecks says result ExcludeSubtree
      ∷ [];
}

-- 2 is hidden, has the focus and has [3]
unfoldable pub hidden_focus : Worked
hidden_focus = record {
  state = alone 2 (root 0 1 (parent (2 ∷ [])) ∷ below 1 0 2 (hides (parent (3 ∷ []))) ∷ below 2 0 3 leaf ∷ []);
  cases =
      -- focused comes before hidden, in all three filters
      id 0 2 asked Filtered Common says result Include
      ∷ id 0 2 asked Filtered WithRootException says result Include
      ∷ id 0 2 asked Filtered WithoutParentChecks says result Include
      -- its child is hidden, and not focused
      ∷ id 0 3 asked Filtered Common says result ExcludeSubtree
      ∷ [];
}

-- the same without host focus
unfoldable pub host_focus_lost : Worked
host_focus_lost = record {
  state = unfocused hidden_focus.state;
  cases =
      -- without host focus no node is focused, so that 2 is hidden
      id 0 2 asked Filtered Common says result ExcludeSubtree
      ∷ id 0 2 asked Filtered WithoutParentChecks says result ExcludeSubtree
      ∷ [];
}

-- 2 is hidden and has [3, 4]; 3 has the focus
unfoldable pub focus_in_hidden : Worked
focus_in_hidden = record {
  state =
      alone 3
      (root 0 1 (parent (2 ∷ []))
      ∷ below 1 0 2 (hides (parent (3 ∷ 4 ∷ [])))
      ∷ below 2 0 3 leaf
      ∷ below 2 1 4 leaf
      ∷ []);
  cases =
      -- focused, though hidden by its parent; the parent's answer is not asked
      id 0 3 asked Filtered Common says result Include
      -- the parent, and the child beside, are dropped
      ∷ id 0 2 asked Filtered Common says result ExcludeSubtree
      ∷ id 0 4 asked Filtered Common says result ExcludeSubtree
      ∷ [];
}

-- the root is hidden and has [2, 3]; 2 has the focus
unfoldable pub hidden_root : Worked
hidden_root = record {
  state = alone 2 (root 0 1 (hides (parent (2 ∷ 3 ∷ []))) ∷ below 1 0 2 leaf ∷ below 1 1 3 leaf ∷ []);
  cases =
      -- ROOT's root is included under the root exception alone
      id 0 1 asked Filtered Common says result ExcludeSubtree
      ∷ id 0 1 asked Filtered WithoutParentChecks says result ExcludeSubtree
      ∷ id 0 1 asked Filtered WithRootException says result Include
      -- the focused child is included; the other inherits hidden, also under the root exception
      ∷ id 0 2 asked Filtered Common says result Include
      ∷ id 0 3 asked Filtered WithRootException says result ExcludeSubtree
      ∷ [];
}

-- 2 is a TextRun and has [3]
unfoldable pub text_run_with_child : Worked
text_run_with_child = record {
  state = alone 1 (root 0 1 (parent (2 ∷ [])) ∷ below 1 0 2 (text_run (3 ∷ [])) ∷ below 2 0 3 leaf ∷ []);
  cases =
      -- a TextRun is ExcludeNode; its child is not dropped
      id 0 2 asked Filtered Common says result ExcludeNode
      ∷ id 0 3 asked Filtered Common says result Include
      ∷ [];
}

-- ROOT's root 1 is a GenericContainer and has [2]; 2 grafts T, whose root 1 is a GenericContainer and has [2], which has the focus
unfoldable pub roots_of_panes : Worked
roots_of_panes = record {
  state =
      state
      (root 0 1 (container (2 ∷ []))
      ∷ below 1 0 2 (grafts T)
      ∷ under (id 0 2) 0 (id 1 1) (container (2 ∷ []))
      ∷ under (id 1 1) 0 (id 1 2) leaf
      ∷ [])
      (tree ROOT 1 2 ∷ tree T 1 2 ∷ []);
  cases =
      -- the root exception is for ROOT's root
      id 0 1 asked Filtered WithRootException says result Include
      ∷ id 0 1 asked Filtered Common says result ExcludeNode
      -- and not for a pane's
      ∷ id 1 1 asked Filtered WithRootException says result ExcludeNode
      -- a graft is ExcludeNode, though its role is ordinary
      ∷ id 0 2 asked Filtered Common says result ExcludeNode
      ∷ id 0 2 asked Filtered WithoutParentChecks says result ExcludeNode
      -- ROOT's focus is the graft, and so T's focus is focused
      ∷ id 1 2 asked Filtered Common says result Include
      ∷ [];
}

-- 2 and 3 are GenericContainers; 2 has the focus and the active descendant 3
unfoldable pub active_descendant : Worked
active_descendant = record {
  state =
      alone 2
      (root 0 1 (parent (2 ∷ 3 ∷ [])) ∷ below 1 0 2 (activates 3 (container [])) ∷ below 1 1 3 (container []) ∷ []);
  cases =
      -- the active descendant is focused
      id 0 3 asked Filtered Common says result Include
      -- and the node that has it is not
      ∷ id 0 2 asked Filtered Common says result ExcludeNode
      ∷ [];
}

-- 2 is a GenericContainer with the focus, and its active descendant 9 is absent
unfoldable pub absent_active_descendant : Worked
absent_active_descendant = record {
  state = alone 2 (root 0 1 (parent (2 ∷ [])) ∷ below 1 0 2 (activates 9 (container [])) ∷ []);
  cases =
      -- the active descendant counts if present: 2 is focused
      id 0 2 asked Filtered Common says result Include
      ∷ [];
}

-- 2 grafts T; T's root 1 has the focus and the active descendant 2, a GenericContainer
unfoldable pub active_descendant_in_pane : Worked
active_descendant_in_pane = record {
  state =
      state
      (root 0 1 (parent (2 ∷ []))
      ∷ below 1 0 2 (grafts T)
      ∷ under (id 0 2) 0 (id 1 1) (activates 2 (parent (2 ∷ [])))
      ∷ under (id 1 1) 0 (id 1 2) (container [])
      ∷ [])
      (tree ROOT 1 2 ∷ tree T 1 1 ∷ []);
  cases =
      -- looked up in the same tree
      id 1 2 asked Filtered Common says result Include
      ∷ id 0 2 asked Filtered Common says result ExcludeNode
      ∷ [];
}

-- 2 has the focus; its active descendant 3 grafts T, which does not exist
unfoldable pub active_descendant_is_graft : Worked
active_descendant_is_graft = record {
  state = alone 2 (root 0 1 (parent (2 ∷ 3 ∷ [])) ∷ below 1 0 2 (activates 3 leaf) ∷ below 1 1 3 (grafts T) ∷ []);
  cases =
      -- focused comes before graft
      id 0 3 asked Filtered Common says result Include
      ∷ [];
}

-- ## Clipped away

-- 2 is clipped away by 1, and has [3, 5]; 3 is a GenericContainer and has [4]
unfoldable pub below_clipped : Worked
below_clipped = record {
  state = clipped_away;
  cases =
      -- 2 lies outside the box of 1, which clips, and has no neighbours
      id 0 2 asked Filtered Common says result ExcludeSubtree
      -- no box is asked without parent checks
      ∷ id 0 2 asked Filtered WithoutParentChecks says result Include
      -- its child is dropped with it: 2 does not clip, but answers ExcludeSubtree
      ∷ id 0 5 asked Filtered Common says result ExcludeSubtree
      -- a GenericContainer is ExcludeNode before its parent is asked
      ∷ id 0 3 asked Filtered Common says result ExcludeNode
      -- so that the parent of 4 is not ExcludeSubtree, and its filtered parent 2 does not clip
      ∷ id 0 4 asked Filtered Common says result Include
      ∷ [];
}

-- 1 clips and has [2, 3]; 2 clips, has no bounds and has [4], far outside; 3 has no bounds
unfoldable pub no_boxes : Worked
no_boxes = record {
  state =
      alone 1
      (root 0 1 (window (2 ∷ 3 ∷ []))
      ∷ below 1 0 2 (clips (parent (4 ∷ [])))
      ∷ below 1 1 3 leaf
      ∷ below 2 0 4 (outside leaf)
      ∷ []);
  cases =
      -- a clipping parent without a box clips nothing away
      id 0 4 asked Filtered Common says result Include
      -- a node without a box is not clipped away
      ∷ id 0 3 asked Filtered Common says result Include
      ∷ [];
}

-- 1 clips and has [2, 3, 4, 5, 6]; 4 alone lies inside
unfoldable pub neighbours : Worked
neighbours = record {
  state =
      alone 1
      (root 0 1 (window (2 ∷ 3 ∷ 4 ∷ 5 ∷ 6 ∷ []))
      ∷ below 1 0 2 (outside leaf)
      ∷ below 1 1 3 (outside leaf)
      ∷ below 1 2 4 (inside leaf)
      ∷ below 1 3 5 (outside leaf)
      ∷ below 1 4 6 (outside leaf)
      ∷ []);
  cases =
      -- inside
      id 0 4 asked Filtered Common says result Include
      -- the nearest after 3, and the nearest before 5, is inside
      ∷ id 0 3 asked Filtered Common says result Include
      ∷ id 0 5 asked Filtered Common says result Include
      -- the neighbours of 2 and 6 are outside, though included
      ∷ id 0 2 asked Filtered Common says result ExcludeSubtree
      ∷ id 0 6 asked Filtered Common says result ExcludeSubtree
      ∷ [];
}

-- 1 clips and has [2, 3, 6]; 3 is a GenericContainer and has [4, 5]; 4 alone lies inside
unfoldable pub nested_neighbour : Worked
nested_neighbour = record {
  state =
      alone 1
      (root 0 1 (window (2 ∷ 3 ∷ 6 ∷ []))
      ∷ below 1 0 2 (outside leaf)
      ∷ below 1 1 3 (container (4 ∷ 5 ∷ []))
      ∷ below 3 0 4 (inside leaf)
      ∷ below 3 1 5 (outside leaf)
      ∷ below 1 2 6 (outside leaf)
      ∷ []);
  cases =
      -- the filtered sibling after 2 is 4, which stands in the place of 3
      id 0 2 asked Filtered Common says result Include
      -- before 5 it is 4
      ∷ id 0 5 asked Filtered Common says result Include
      -- before 6 it is 5, which is outside
      ∷ id 0 6 asked Filtered Common says result ExcludeSubtree
      ∷ [];
}

-- 1 clips and has [2, 3]; 2 lies inside; 3 is a GenericContainer and has [4], outside
unfoldable pub neighbour_above : Worked
neighbour_above = record {
  state =
      alone 1
      (root 0 1 (window (2 ∷ 3 ∷ [])) ∷ below 1 0 2 (inside leaf) ∷ below 1 1 3 (container (4 ∷ [])) ∷ below 3 0 4 (outside leaf) ∷ []);
  cases =
      -- climbing, since 3 is ExcludeNode, the filtered sibling before 4 is 2
      id 0 4 asked Filtered Common says result Include
      ∷ [];
}

-- 1 clips and has [2, 3]; 2 is a GenericContainer and has [4]; 3 has no bounds and has [5]; 4 and 5 lie outside
unfoldable pub clipped_through_container : Worked
clipped_through_container = record {
  state =
      alone 1
      (root 0 1 (window (2 ∷ 3 ∷ []))
      ∷ below 1 0 2 (container (4 ∷ []))
      ∷ below 1 1 3 (parent (5 ∷ []))
      ∷ below 2 0 4 (outside leaf)
      ∷ below 3 0 5 (outside leaf)
      ∷ []);
  cases =
      -- the filtered parent of 4 is 1, past 2; its neighbour 3 has no box, and so is not inside
      id 0 4 asked Filtered Common says result ExcludeSubtree
      -- the filtered parent of 5 is 3, which does not clip
      ∷ id 0 5 asked Filtered Common says result Include
      ∷ [];
}

-- 1 clips and has [2]; 2 grafts T and shifts by (20, 0); T's root 1 has the bounds of 1
unfoldable pub clipped_pane : Worked
clipped_pane = record {
  state =
      state
      (root 0 1 (window (2 ∷ []))
      ∷ below 1 0 2 (moved (shift (whole 20) (whole 0)) (grafts T))
      ∷ under (id 0 2) 0 (id 1 1) (inside leaf)
      ∷ [])
      (tree ROOT 1 1 ∷ tree T 1 1 ∷ []);
  cases =
      -- the filtered parent is past the graft, and the graft's shift puts the pane outside
      id 1 1 asked Filtered Common says result ExcludeSubtree
      ∷ [];
}

-- 1 clips and has [2, 3]; 2 has no width; 3 has an edge in common with 1
unfoldable pub no_width : Worked
no_width = record {
  state =
      alone 1
      (root 0 1 (window (2 ∷ 3 ∷ [])) ∷ below 1 0 2 (spans 5 0 5 10 leaf) ∷ below 1 1 3 (spans 10 0 20 10 leaf) ∷ []);
  cases =
      -- the intersection is 0 wide and 10 high, and so empty: for 2, for 3 and for the neighbour of each
      id 0 2 asked Filtered Common says result ExcludeSubtree
      ∷ id 0 3 asked Filtered Common says result ExcludeSubtree
      ∷ [];
}

-- the greatest f64
abbrev pub huge : Float
huge = of_bits binary64 0x7fefffffffffffff

-- 1 clips and has [2]; both reach from the least f64 to the greatest, and 2 has no height
unfoldable pub not_aNumber : Worked
not_aNumber = record {
  state =
      alone 1
      (root 0 1 (clips (bounded (rect (neg huge) (whole 0) huge (whole 1)) (parent (2 ∷ []))))
      ∷ below 1 0 2 (bounded (rect (neg huge) (whole 0) huge (whole 0)) leaf)
      ∷ []);
  cases =
      -- an infinite width times a height of 0 is not a number, and not empty
      id 0 2 asked Filtered Common says result Include
      ∷ [];
}

-- 1 clips and has [2, 3], both outside; 2 has the focus
unfoldable pub focus_outside : Worked
focus_outside = record {
  state = alone 2 (root 0 1 (window (2 ∷ 3 ∷ [])) ∷ below 1 0 2 (outside leaf) ∷ below 1 1 3 (outside leaf) ∷ []);
  cases =
      -- focused comes before any clipping
      id 0 2 asked Filtered Common says result Include
      -- a focused neighbour outside does not help
      ∷ id 0 3 asked Filtered Common says result ExcludeSubtree
      ∷ [];
}

abbrev pub filter_cases : List Worked
filter_cases =
    buttons_filtered
    ∷ own_active_descendant
    ∷ hidden_focus
    ∷ host_focus_lost
    ∷ focus_in_hidden
    ∷ hidden_root
    ∷ text_run_with_child
    ∷ roots_of_panes
    ∷ active_descendant
    ∷ absent_active_descendant
    ∷ active_descendant_in_pane
    ∷ active_descendant_is_graft
    ∷ below_clipped
    ∷ no_boxes
    ∷ neighbours
    ∷ nested_neighbour
    ∷ neighbour_above
    ∷ clipped_through_container
    ∷ clipped_pane
    ∷ no_width
    ∷ not_aNumber
    ∷ focus_outside
    ∷ []
