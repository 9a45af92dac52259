-- A reason as plain fields: which field holds what for each number, and for each broken rule of a sound state. Assumes nothing.
use Rattle.std.specs.Prelude.{List, [], ◌∷◌, ◌++◌, ℕ, length, take, replicate, Option, None, Some}
use Rattle.ids.specs.Ids.{ROOT, id_words}
use Rattle.ids.specs.declared.TreeId.{TreeId}
use Rattle.ids.specs.declared.FullNodeId.{FullNodeId}
use Rattle.reasons.specs.Reasons.{Dropped, Broken, tooManyNodes, tooManyTrees, too_many_children, absent_below, met_twice, never_met, wrong_link}
use Rattle.reasons.specs.Reasons.{graft_with_children, grafted_twice, root_not_first, tree_twice, tree_unrooted, out_of_order, broken_field, no_focus, Reason}
use Rattle.reasons.specs.Reasons.{accepted, unsound_state, broken_record, no_tree_data, not_root, listed_twice, notGrafted, notExisting, noNumberLeft}
use Rattle.reasons.specs.Reasons.{named_twice, graftOverChildren, graftOfRoot, claimed_twice, claimed_from_holder, without_place, child_nowhere}
use Rattle.reasons.specs.Reasons.{focus_into_nothing, root_absent, focus_absent, updated_and_gone, unsound_outcome, too_many, slice_too_short, last_of}
use Rattle.reasons_why.specs.declared.Why.{Why}

-- ## Fields

-- the node that lost its place, and by whom
unfoldable pub dropped_node : Option Dropped → Option FullNodeId
dropped_node None = None
dropped_node (Some d) = Some d.node

unfoldable pub dropped_by : Option Dropped → Option FullNodeId
dropped_by None = None
dropped_by (Some d) = d.by

-- the first of some ids, and the second
unfoldable pub first_id : List FullNodeId → Option FullNodeId
first_id [] = None
first_id (x ∷ xs) = Some x

unfoldable pub second_id : List FullNodeId → Option FullNodeId
second_id [] = None
second_id (x ∷ xs) = first_id xs

-- a tree id, ROOT where there is none
unfoldable pub or_root : Option TreeId → TreeId
or_root None = ROOT
or_root (Some t) = t

-- a number and a rule, places, a tree, and three nodes
abbrev pub why : ℕ → ℕ → ℕ → ℕ → TreeId → Option FullNodeId → Option FullNodeId → Option FullNodeId → Why
why number rule place other tree x by also = record {
  number = number;
  rule = rule;
  place = place;
  other = other;
  tree = tree;
  node = x;
  by = by;
  also = also;
}

-- a number, and nodes alone
abbrev pub nodes : ℕ → Option FullNodeId → Option FullNodeId → Option FullNodeId → Why
nodes number x by also = why number 0 0 0 ROOT x by also

-- a number and a tree
abbrev pub of_tree : ℕ → TreeId → Why
of_tree number t = why number 0 0 0 t None None None

-- ## A broken rule of a sound state, for number k

unfoldable pub why_broken : ℕ → Option Broken → Why
why_broken k None = why k 0 0 0 ROOT None None None
why_broken k (Some tooManyNodes) = why k 1 0 0 ROOT None None None
why_broken k (Some tooManyTrees) = why k 2 0 0 ROOT None None None
why_broken k (Some (too_many_children x)) = why k 3 x.slot 0 ROOT (Some x.id) None None
why_broken k (Some (absent_below p x)) = why k 4 p.slot 0 ROOT (Some x) (Some p.id) None
why_broken k (Some (met_twice x)) = why k 5 x.slot 0 ROOT (Some x.id) None None
why_broken k (Some (never_met x d)) = why k 6 x.slot 0 ROOT (Some x.id) (dropped_by d) (dropped_node d)
why_broken k (Some (wrong_link x was met)) = why k 7 x.slot 0 ROOT (Some x.id) was met
why_broken k (Some (graft_with_children x)) = why k 8 x.slot 0 ROOT (Some x.id) None None
why_broken k (Some (grafted_twice g)) = why k 9 g.node.slot 0 g.tree (Some g.node.id) None (Some g.other)
why_broken k (Some root_not_first) = why k 10 0 0 ROOT None None None
why_broken k (Some (tree_twice n t)) = why k 11 n 0 t None None None
why_broken k (Some (tree_unrooted n t)) = why k 12 n 0 t None None None
why_broken k (Some (out_of_order x)) = why k 13 x.slot 0 ROOT (Some x.id) None None
why_broken k (Some (broken_field x)) = why k 14 x.slot 0 ROOT (Some x.id) None None
why_broken k (Some no_focus) = why k 15 0 0 ROOT None None None

-- ## Any reason

unfoldable pub why_of : Reason → Why
why_of accepted = nodes 0 None None None
why_of (unsound_state broken) = why_broken 1 broken
why_of (broken_record o) = why 2 o.rule o.offset 0 ROOT None None None
why_of no_tree_data = nodes 3 None None None
why_of (not_root t) = of_tree 4 t
why_of (listed_twice x i j) = why 5 0 j i ROOT (Some x) None None
why_of (notGrafted t) = of_tree 6 t
why_of (notExisting t) = of_tree 7 t
why_of (noNumberLeft t) = of_tree 8 t
why_of (named_twice c by) = nodes 9 (Some c) (second_id by) (first_id by)
why_of (graftOverChildren x) = nodes 10 (Some x) None None
why_of (graftOfRoot x) = nodes 11 (Some x) None None
why_of (claimed_twice t x y) = why 12 1 0 0 t (Some y) None (Some x)
why_of (claimed_from_holder t x y) = why 12 2 0 0 t (Some y) None (Some x)
why_of (without_place x i) = why 13 0 i 0 ROOT (Some x) None None
why_of (child_nowhere p c) = nodes 14 (Some c) (Some p) None
why_of (focus_into_nothing t way) = why 15 0 (length way) 0 (or_root t) (last_of way) None None
why_of (root_absent r) = nodes 16 r None None
why_of (focus_absent way) = why 17 0 (length way) 0 ROOT (last_of way) None None
why_of (updated_and_gone x d) = nodes 18 (Some x) (dropped_by d) (dropped_node d)
why_of (unsound_outcome broken) = why_broken 19 broken
why_of (too_many n) = why 20 0 n 0 ROOT None None None
why_of (slice_too_short n room) = why 21 0 n room ROOT None None None

-- a reason, or none
unfoldable pub why_for : Option Reason → Why
why_for None = why_of accepted
why_for (Some r) = why_of r

-- ## The way that led to the focus

-- of 15 and 17 alone
unfoldable pub way_of : Reason → List FullNodeId
way_of accepted = []
way_of (unsound_state broken) = []
way_of (broken_record o) = []
way_of no_tree_data = []
way_of (not_root t) = []
way_of (listed_twice x i j) = []
way_of (notGrafted t) = []
way_of (notExisting t) = []
way_of (noNumberLeft t) = []
way_of (named_twice c by) = []
way_of (graftOverChildren x) = []
way_of (graftOfRoot x) = []
way_of (claimed_twice t x y) = []
way_of (claimed_from_holder t x y) = []
way_of (without_place x i) = []
way_of (child_nowhere p c) = []
way_of (focus_into_nothing t way) = way
way_of (root_absent r) = []
way_of (focus_absent way) = way
way_of (updated_and_gone x d) = []
way_of (unsound_outcome broken) = []
way_of (too_many n) = []
way_of (slice_too_short n room) = []

-- as 66 words: two for an id, zeros after them; a way has at most 33 nodes
unfoldable pub way_words : List FullNodeId → List ℕ
way_words way = take 66 (id_words way ++ replicate 66 0)
