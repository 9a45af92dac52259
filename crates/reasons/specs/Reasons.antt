-- Why a call answers its number: for each row of document 01's table what makes it hold, as data. Assumes nothing.
use Rattle.std.specs.Prelude.{List, [], ◌∷◌, ℕ, Option, None, Some}
use Rattle.base.specs.Tests.{first_given}
use Rattle.ids.specs.declared.TreeId.{TreeId}
use Rattle.ids.specs.declared.FullNodeId.{FullNodeId}
use Rattle.record_rules.specs.declared.Offence.{Offence}

-- ## Where

-- a node of a state: its slot and its id
pub record Spot : Type 0 where
  pub slot : ℕ
  pub id : FullNodeId

-- a node that lost its place, and the node because of which, if there is one: that dropped it (18); that it records as its parent (19)
pub record Dropped : Type 0 where
  pub node : FullNodeId
  pub by : Option FullNodeId

-- a tree, a node that grafts it, and a later one that does so too
pub record Regraft : Type 0 where
  pub tree : TreeId
  pub node : Spot
  pub other : FullNodeId

-- ## A rule of a sound state that is broken

pub data Broken : Type 0 where
  -- more than 256 nodes; more than 32 tree numbers
  tooManyNodes tooManyTrees : Broken
  -- the node has more than 256 children
  too_many_children : Spot → Broken
  -- below the node stands another, a child or the root of the tree that it grafts, that is absent
  absent_below : Spot → FullNodeId → Broken
  -- going down from the root, the node is met more than once
  met_twice : Spot → Broken
  -- it is never met; with it the topmost such node above it, or itself
  never_met : Spot → Option Dropped → Broken
  -- the node records the first parent, if any, and is met under the second, if any; or the parents agree and the places differ
  wrong_link : Spot → Option FullNodeId → Option FullNodeId → Broken
  -- the graft has children
  graft_with_children : Spot → Broken
  -- two nodes graft one tree
  grafted_twice : Regraft → Broken
  -- ROOT does not exist or does not have number 0
  root_not_first : Broken
  -- the tree id of this number has an earlier one
  tree_twice : ℕ → TreeId → Broken
  -- the tree of this number exists, and its root is absent or no node grafts it
  tree_unrooted : ℕ → TreeId → Broken
  -- the ids do not ascend after this one
  out_of_order : Spot → Broken
  -- a field of the node breaks the record's rules
  broken_field : Spot → Broken
  -- the effective focus is absent
  no_focus : Broken

-- ## A reason

pub data Reason : Type 0 where
  -- 0
  accepted : Reason
  -- 1: the first rule broken
  unsound_state : Option Broken → Reason
  -- 2: the first rule broken
  broken_record : Offence → Reason
  -- 3; 4: the tree that the start is for
  no_tree_data : Reason
  not_root : TreeId → Reason
  -- 5: the node, its first place among the listed nodes and its second
  listed_twice : FullNodeId → ℕ → ℕ → Reason
  -- 6, 7, 8: the batch's tree
  notGrafted notExisting noNumberLeft : TreeId → Reason
  -- 9: the child, and the nodes that name it, in the order in which they do
  named_twice : FullNodeId → List FullNodeId → Reason
  -- 10, 11: the node
  graftOverChildren graftOfRoot : FullNodeId → Reason
  -- 12: the tree, the node that claimed it first, the node that claims it then
  claimed_twice : TreeId → FullNodeId → FullNodeId → Reason
  -- 12: the tree, a node that held it and keeps it, the node that claims it
  claimed_from_holder : TreeId → FullNodeId → FullNodeId → Reason
  -- 13: the node, and its place among the listed nodes
  without_place : FullNodeId → ℕ → Reason
  -- 14: the node that names, and the child
  child_nowhere : FullNodeId → FullNodeId → Reason
  -- 15: the tree that the last node on the way grafts, and the way through the grafts from ROOT's focus on
  focus_into_nothing : Option TreeId → List FullNodeId → Reason
  -- 16: ROOT's root
  root_absent : Option FullNodeId → Reason
  -- 17: the way through the grafts from ROOT's focus on; the last node on it is the effective focus
  focus_absent : List FullNodeId → Reason
  -- 18: the node, and the node above it, or itself, whose place is gone
  updated_and_gone : FullNodeId → Option Dropped → Reason
  -- 19: the first rule broken
  unsound_outcome : Option Broken → Reason
  -- 20: how many nodes
  too_many : ℕ → Reason
  -- 21: how many elements the lists take, and how many are lent
  slice_too_short : ℕ → ℕ → Reason

-- the number that a reason is of
unfoldable pub number_of : Reason → ℕ
number_of accepted = 0
number_of (unsound_state broken) = 1
number_of (broken_record offence) = 2
number_of no_tree_data = 3
number_of (not_root t) = 4
number_of (listed_twice x i j) = 5
number_of (notGrafted t) = 6
number_of (notExisting t) = 7
number_of (noNumberLeft t) = 8
number_of (named_twice c by) = 9
number_of (graftOverChildren x) = 10
number_of (graftOfRoot x) = 11
number_of (claimed_twice t x y) = 12
number_of (claimed_from_holder t x y) = 12
number_of (without_place x i) = 13
number_of (child_nowhere x c) = 14
number_of (focus_into_nothing t way) = 15
number_of (root_absent r) = 16
number_of (focus_absent way) = 17
number_of (updated_and_gone x d) = 18
number_of (unsound_outcome broken) = 19
number_of (too_many n) = 20
number_of (slice_too_short n room) = 21

-- the first reason of some
abbrev pub first_reason : List (Option Reason) → Option Reason
first_reason = first_given (λ o. o)

-- the last of some ids, where a way through the grafts ends
unfoldable pub last_of : List FullNodeId → Option FullNodeId
last_of [] = None
last_of (x ∷ xs) = elim (last_of xs) [ None ↦ Some x | Some y ↦ Some y ]
