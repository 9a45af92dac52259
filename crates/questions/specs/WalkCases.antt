-- Module 8, and module 6's filtered parent and deepest filtered child, by worked cases: document 01's case 15, and others derived by hand from
-- "Filter and walks". Assumes nothing.
use Rattle.std.specs.Prelude.{List, [], ◌∷◌}
use Rattle.ids.specs.Ids.{ROOT}
use Rattle.record.specs.ExampleNodes.{T, U, parent, leaf, grafts}
use Rattle.state.specs.ExampleStates.{id, root, under, tree, state}
use Rattle.questions.specs.declared.Side.TheVariants.{Following, Preceding}
use Rattle.questions.specs.declared.Filter.TheVariants.{Common, WithRootException, WithoutParentChecks}
use Rattle.questions.specs.ExampleTrees.{container, hides, below, alone, buttons, clipped_away}
use Rattle.questions.specs.ExampleQuestions.{FilteredParent, FilteredChildren, FilteredSiblings, FirstFilteredChild, LastFilteredChild, DeepestFirstFilteredChild, DeepestLastFilteredChild, many, is, nothing, ◌asked◌says◌, Worked}

-- 15. a button, an empty GenericContainer, a hidden node with a child, a button
unfoldable pub both_buttons : Worked
both_buttons = record {
  state = buttons;
  cases =
      -- both buttons are filtered children: 3 is replaced by nothing, 4 is dropped
      id 0 1 asked FilteredChildren Common says many (id 0 2 ∷ id 0 5 ∷ [])
      ∷ id 0 1 asked FirstFilteredChild Common says is (id 0 2)
      ∷ id 0 1 asked LastFilteredChild Common says is (id 0 5)
      -- each is the only filtered sibling of the other
      ∷ id 0 2 asked FilteredSiblings Common Following says many (id 0 5 ∷ [])
      ∷ id 0 5 asked FilteredSiblings Common Preceding says many (id 0 2 ∷ [])
      -- what is dropped may ask as well
      ∷ id 0 4 asked FilteredSiblings Common Following says many (id 0 5 ∷ [])
      ∷ id 0 4 asked FilteredChildren Common says many []
      ∷ [];
}

-- 1 has [2, 3, 4]; 3 has [5], 5 has [6], 6 has [7, 8], and these three are GenericContainers
unfoldable pub three_deep : Worked
three_deep = record {
  state =
      alone 1
      (root 0 1 (parent (2 ∷ 3 ∷ 4 ∷ []))
      ∷ below 1 0 2 leaf
      ∷ below 1 1 3 (container (5 ∷ []))
      ∷ below 1 2 4 leaf
      ∷ below 3 0 5 (container (6 ∷ []))
      ∷ below 5 0 6 (container (7 ∷ 8 ∷ []))
      ∷ below 6 0 7 leaf
      ∷ below 6 1 8 leaf
      ∷ []);
  cases =
      -- 7 and 8 stand in the place of 3
      id 0 1 asked FilteredChildren Common says many (id 0 2 ∷ id 0 7 ∷ id 0 8 ∷ id 0 4 ∷ [])
      ∷ id 0 2 asked FilteredSiblings Common Following says many (id 0 7 ∷ id 0 8 ∷ id 0 4 ∷ [])
      -- on the preceding side nearest first, inside 3 too
      ∷ id 0 4 asked FilteredSiblings Common Preceding says many (id 0 8 ∷ id 0 7 ∷ id 0 2 ∷ [])
      -- from inside, climbing through 6, 5 and 3
      ∷ id 0 7 asked FilteredSiblings Common Following says many (id 0 8 ∷ id 0 4 ∷ [])
      ∷ id 0 8 asked FilteredSiblings Common Preceding says many (id 0 7 ∷ id 0 2 ∷ [])
      ∷ id 0 7 asked FilteredParent Common says is (id 0 1)
      -- a container's own filtered children
      ∷ id 0 3 asked FilteredChildren Common says many (id 0 7 ∷ id 0 8 ∷ [])
      ∷ [];
}

-- 1 has [2, 3]; 2 has [4, 5], 4 has [6], and these two are GenericContainers
unfoldable pub climbing_two_levels : Worked
climbing_two_levels = record {
  state =
      alone 1
      (root 0 1 (parent (2 ∷ 3 ∷ []))
      ∷ below 1 0 2 (container (4 ∷ 5 ∷ []))
      ∷ below 1 1 3 leaf
      ∷ below 2 0 4 (container (6 ∷ []))
      ∷ below 2 1 5 leaf
      ∷ below 4 0 6 leaf
      ∷ []);
  cases =
      -- those of 6, of 4 and of 2, in this order
      id 0 6 asked FilteredSiblings Common Following says many (id 0 5 ∷ id 0 3 ∷ [])
      ∷ id 0 6 asked FilteredSiblings Common Preceding says many []
      ∷ id 0 3 asked FilteredSiblings Common Preceding says many (id 0 5 ∷ id 0 6 ∷ [])
      ∷ id 0 5 asked FilteredSiblings Common Preceding says many (id 0 6 ∷ [])
      ∷ [];
}

-- the root is a GenericContainer and has [2, 3]; 2 has the focus
unfoldable pub no_included_ancestor : Worked
no_included_ancestor = record {
  state = alone 2 (root 0 1 (container (2 ∷ 3 ∷ [])) ∷ below 1 0 2 leaf ∷ below 1 1 3 leaf ∷ []);
  cases =
      -- no ancestor is included: no filtered siblings
      id 0 2 asked FilteredParent Common says nothing
      ∷ id 0 2 asked FilteredSiblings Common Following says many []
      ∷ id 0 3 asked FilteredSiblings Common Preceding says many []
      -- filtered children ask nothing of the node itself
      ∷ id 0 1 asked FilteredChildren Common says many (id 0 2 ∷ id 0 3 ∷ [])
      -- under the root exception ROOT's root is included
      ∷ id 0 2 asked FilteredParent WithRootException says is (id 0 1)
      ∷ id 0 2 asked FilteredSiblings WithRootException Following says many (id 0 3 ∷ [])
      ∷ [];
}

-- 1 has [2]; 2 is hidden and has [3, 4]; 4 has the focus
unfoldable pub no_filtered_child : Worked
no_filtered_child = record {
  state =
      alone 4
      (root 0 1 (parent (2 ∷ [])) ∷ below 1 0 2 (hides (parent (3 ∷ 4 ∷ []))) ∷ below 2 0 3 leaf ∷ below 2 1 4 leaf ∷ []);
  cases =
      -- the filtered parent is past 2, which is ExcludeSubtree
      id 0 3 asked FilteredParent Common says is (id 0 1)
      -- it has no filtered child: 4 is included, but inside 2
      ∷ id 0 1 asked FilteredChildren Common says many []
      ∷ id 0 1 asked FirstFilteredChild Common says nothing
      ∷ id 0 1 asked DeepestLastFilteredChild Common says nothing
      -- and so 3 has no filtered siblings
      ∷ id 0 3 asked FilteredSiblings Common Following says many []
      ∷ [];
}

-- 1 has [2, 5]; 2 is hidden and has [3, 4]; 4 has the focus
unfoldable pub dropped_subtree : Worked
dropped_subtree = record {
  state =
      alone 4
      (root 0 1 (parent (2 ∷ 5 ∷ []))
      ∷ below 1 0 2 (hides (parent (3 ∷ 4 ∷ [])))
      ∷ below 2 0 3 leaf
      ∷ below 2 1 4 leaf
      ∷ below 1 1 5 leaf
      ∷ []);
  cases =
      -- 2 is not entered, though 4 is included
      id 0 1 asked FilteredChildren Common says many (id 0 5 ∷ [])
      ∷ id 0 5 asked FilteredSiblings Common Preceding says many []
      ∷ id 0 1 asked DeepestFirstFilteredChild Common says is (id 0 5)
      -- 1 is included and has a filtered child, and so 3 has 4; 2 is not climbed through
      ∷ id 0 3 asked FilteredSiblings Common Following says many (id 0 4 ∷ [])
      ∷ id 0 4 asked FilteredSiblings Common Following says many []
      -- the filtered parent is past 2
      ∷ id 0 4 asked FilteredParent Common says is (id 0 1)
      -- asked of 2 itself
      ∷ id 0 2 asked FilteredChildren Common says many (id 0 4 ∷ [])
      ∷ id 0 2 asked FilteredSiblings Common Following says many (id 0 5 ∷ [])
      ∷ [];
}

-- 1 has [2, 3]; 2 has [4, 5]
unfoldable pub included_parent : Worked
included_parent = record {
  state =
      alone 1
      (root 0 1 (parent (2 ∷ 3 ∷ []))
      ∷ below 1 0 2 (parent (4 ∷ 5 ∷ []))
      ∷ below 1 1 3 leaf
      ∷ below 2 0 4 leaf
      ∷ below 2 1 5 leaf
      ∷ []);
  cases =
      -- 2 is included: it is not climbed through, and not entered
      id 0 4 asked FilteredSiblings Common Following says many (id 0 5 ∷ [])
      ∷ id 0 5 asked FilteredSiblings Common Following says many []
      ∷ id 0 3 asked FilteredSiblings Common Preceding says many (id 0 2 ∷ [])
      ∷ id 0 1 asked FilteredChildren Common says many (id 0 2 ∷ id 0 3 ∷ [])
      ∷ id 0 5 asked FilteredParent Common says is (id 0 2)
      -- the root has no parent and no siblings
      ∷ id 0 1 asked FilteredParent WithRootException says nothing
      ∷ id 0 1 asked FilteredSiblings WithRootException Following says many []
      ∷ [];
}

-- 1 has [2, 3]; 2 grafts T, whose root 1 is a GenericContainer and has [2, 3]; T's 2 grafts U, whose root is 1
unfoldable pub panes_in_panes : Worked
panes_in_panes = record {
  state =
      state
      (root 0 1 (parent (2 ∷ 3 ∷ []))
      ∷ below 1 0 2 (grafts T)
      ∷ below 1 1 3 leaf
      ∷ under (id 0 2) 0 (id 1 1) (container (2 ∷ 3 ∷ []))
      ∷ under (id 1 1) 0 (id 1 2) (grafts U)
      ∷ under (id 1 1) 1 (id 1 3) leaf
      ∷ under (id 1 2) 0 (id 2 1) leaf
      ∷ [])
      (tree ROOT 1 1 ∷ tree T 1 1 ∷ tree U 1 1 ∷ []);
  cases =
      -- grafts and GenericContainers are replaced by what is below them, in any tree
      id 0 1 asked FilteredChildren Common says many (id 2 1 ∷ id 1 3 ∷ id 0 3 ∷ [])
      -- climbing out of U, and out of T
      ∷ id 2 1 asked FilteredSiblings Common Following says many (id 1 3 ∷ id 0 3 ∷ [])
      ∷ id 1 3 asked FilteredSiblings Common Preceding says many (id 2 1 ∷ [])
      ∷ id 0 3 asked FilteredSiblings Common Preceding says many (id 1 3 ∷ id 2 1 ∷ [])
      ∷ id 2 1 asked FilteredParent Common says is (id 0 1)
      -- a pane's root is no exception
      ∷ id 2 1 asked FilteredParent WithRootException says is (id 0 1)
      ∷ id 0 1 asked DeepestFirstFilteredChild Common says is (id 2 1)
      ∷ [];
}

-- 1 has [2, 3]; 2 is a GenericContainer and has [4]; 4 has [5, 6]; 3 has [7, 8]; 8 is hidden
unfoldable pub deepest : Worked
deepest = record {
  state =
      alone 1
      (root 0 1 (parent (2 ∷ 3 ∷ []))
      ∷ below 1 0 2 (container (4 ∷ []))
      ∷ below 1 1 3 (parent (7 ∷ 8 ∷ []))
      ∷ below 2 0 4 (parent (5 ∷ 6 ∷ []))
      ∷ below 4 0 5 leaf
      ∷ below 4 1 6 leaf
      ∷ below 3 0 7 leaf
      ∷ below 3 1 8 (hides leaf)
      ∷ []);
  cases =
      -- the first and the last of [4, 3]
      id 0 1 asked FirstFilteredChild Common says is (id 0 4)
      ∷ id 0 1 asked LastFilteredChild Common says is (id 0 3)
      -- 4, then 5
      ∷ id 0 1 asked DeepestFirstFilteredChild Common says is (id 0 5)
      -- 3, then 7, since 8 is dropped
      ∷ id 0 1 asked DeepestLastFilteredChild Common says is (id 0 7)
      -- a GenericContainer asks as any node does
      ∷ id 0 2 asked DeepestLastFilteredChild Common says is (id 0 6)
      -- no filtered child
      ∷ id 0 5 asked DeepestFirstFilteredChild Common says nothing
      ∷ id 0 5 asked LastFilteredChild Common says nothing
      ∷ [];
}

-- 2 is clipped away by 1, and has [3, 5]; 3 is a GenericContainer and has [4]
unfoldable pub walks_below_clipped : Worked
walks_below_clipped = record {
  state = clipped_away;
  cases =
      -- 2 is dropped under one filter, and included under the other
      id 0 1 asked FilteredChildren Common says many []
      ∷ id 0 1 asked FilteredChildren WithoutParentChecks says many (id 0 2 ∷ [])
      -- the filtered parent of 4 is past 2 where 2 is dropped
      ∷ id 0 4 asked FilteredParent Common says is (id 0 1)
      ∷ id 0 4 asked FilteredParent WithoutParentChecks says is (id 0 2)
      -- 3 is replaced by 4, which is included; 5 is dropped with its parent
      ∷ id 0 2 asked FilteredChildren Common says many (id 0 4 ∷ [])
      ∷ id 0 2 asked FilteredChildren WithoutParentChecks says many (id 0 4 ∷ id 0 5 ∷ [])
      -- 1 has no filtered child, and so 5 has no filtered siblings
      ∷ id 0 5 asked FilteredSiblings Common Preceding says many []
      ∷ id 0 5 asked FilteredSiblings WithoutParentChecks Preceding says many (id 0 4 ∷ [])
      ∷ [];
}

abbrev pub walk_cases : List Worked
walk_cases =
    both_buttons
    ∷ three_deep
    ∷ climbing_two_levels
    ∷ no_included_ancestor
    ∷ no_filtered_child
    ∷ dropped_subtree
    ∷ included_parent
    ∷ panes_in_panes
    ∷ deepest
    ∷ walks_below_clipped
    ∷ []
