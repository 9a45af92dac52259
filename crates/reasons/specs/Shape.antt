-- Numbers 1 and 19: the first rule of a sound state that a forest breaks. The rules for links come in the order of request #101, the others in
-- document 01's. Assumes nothing.
use Rattle.std.specs.Prelude.{Bool, not, ◌||◌, List, [], ◌∷◌, ◌++◌, map, ℕ, zero, suc, ltb, leb, length, if◌then◌else◌, Option, None, Some}
use Rattle.base.specs.Tests.{◌and◌, is_nil, any, all, keep, same_option, has, first_given}
use Rattle.ids.specs.Ids.{same_tree, same_id, before}
use Rattle.ids.specs.declared.TreeId.{TreeId}
use Rattle.ids.specs.declared.FullNodeId.{FullNodeId}
use Rattle.record.specs.Batch.{graft?, fields_ok}
use Rattle.state.specs.State.{ParentAndIndex, same_link, NodeState, TreeEntry, Forest, ids_of, present, parent_of, parent_at, holder}
use Rattle.state.specs.Down.{below, root_of}
use Rattle.state.specs.Sound.{graft_is_bare, grafted, root_first, focus_present}
use Rattle.reasons.specs.Reasons.{Spot, Dropped, Regraft, Broken, tooManyNodes, tooManyTrees, too_many_children, absent_below, met_twice, never_met}
use Rattle.reasons.specs.Reasons.{wrong_link, graft_with_children, grafted_twice, root_not_first, tree_twice, tree_unrooted, out_of_order, broken_field}
use Rattle.reasons.specs.Reasons.{no_focus}

-- ## Looking through the nodes

-- the first node that passes a test, from slot k on
unfoldable pub spot_from : ℕ → (NodeState → Bool) → List NodeState → Option Spot
spot_from k p [] = None
spot_from k p (n ∷ ns) = if p n then Some (record { slot = k; id = n.id }) else spot_from (suc k) p ns

-- of all
abbrev pub spot : (NodeState → Bool) → List NodeState → Option Spot
spot p ns = spot_from 0 p ns

-- what is said of a spot, if there is one
abbrev pub at : (Spot → Broken) → Option Spot → Option Broken
at f o = elim o [ None ↦ None | Some x ↦ Some (f x) ]

-- the smallest of some ids, by tree number, then node number
unfoldable pub smallest : List FullNodeId → Option FullNodeId
smallest [] = None
smallest (x ∷ xs) = elim (smallest xs) [ None ↦ Some x | Some y ↦ if before y x then Some y else Some x ]

-- ## Going down once from each node

-- the ids met one step below a node
unfoldable pub ids_below : Forest → NodeState → List FullNodeId
ids_below s n = map (λ m. m.id) (below s n)

-- one step further: the present nodes that are among xs, or stand below one that is
unfoldable pub wider : Forest → List FullNodeId → List FullNodeId
wider s xs =
    keep (λ x. has same_id xs x || any (λ n. has same_id xs n.id and has same_id (ids_below s n) x) s.nodes) (ids_of s.nodes)

-- so many steps
unfoldable pub widened : ℕ → Forest → List FullNodeId → List FullNodeId
widened zero s xs = xs
widened (suc k) s xs = widened k s (wider s xs)

-- the nodes that are reached from ROOT's root: no way down to a node is longer than there are nodes
unfoldable pub reached : Forest → List FullNodeId
reached s = elim (root_of s) [ None ↦ [] | Some r ↦ widened (length s.nodes) s (r ∷ []) ]

-- the links under which x is met below one node
unfoldable pub links_below : Forest → FullNodeId → NodeState → List (Option ParentAndIndex)
links_below s x n = map (λ m. m.link) (keep (λ m. same_id x m.id) (below s n))

-- below some nodes, of which those in xs are reached
unfoldable pub links_from : Forest → List FullNodeId → FullNodeId → List NodeState → List (Option ParentAndIndex)
links_from s xs x [] = []
links_from s xs x (n ∷ ns) = (if has same_id xs n.id then links_below s x n else []) ++ links_from s xs x ns

-- The links under which x is met, going down once from each node reached; the root is met under none. xs are the nodes reached.
unfoldable pub met_links : Forest → List FullNodeId → FullNodeId → List (Option ParentAndIndex)
met_links s xs x = (if same_option same_id (root_of s) (Some x) then None ∷ [] else []) ++ links_from s xs x s.nodes

-- ## The rules for links, in the order of request #101

-- more children than a state can have nodes
unfoldable pub crowded : NodeState → Bool
crowded n = ltb 256 (length n.body.children)

-- the ids below nodes that are absent
unfoldable pub absent_ids : Forest → List NodeState → List FullNodeId
absent_ids s [] = []
absent_ids s (n ∷ ns) = keep (λ x. not (present s.nodes x)) (ids_below s n) ++ absent_ids s ns

-- the smallest of them, and the first node above it
unfoldable pub absence : Forest → Option Broken
absence s =
    elim (smallest (absent_ids s s.nodes)) [
      | None ↦ None
      | Some x ↦ at (λ p. absent_below p x) (spot (λ n. has same_id (ids_below s n) x) s.nodes)
    ]

-- met more than once; never
unfoldable pub is_met_twice : Forest → List FullNodeId → NodeState → Bool
is_met_twice s xs n = leb 2 (length (met_links s xs n.id))

unfoldable pub is_never_met : Forest → List FullNodeId → NodeState → Bool
is_never_met s xs n = is_nil (met_links s xs n.id)

-- Climbing by the recorded parents, at most `room` steps, from a node that is never met: the topmost such node, whose recorded parent is met or
-- absent. None where they go round in a circle.
unfoldable pub topmost_within : ℕ → Forest → List FullNodeId → FullNodeId → Option Dropped
topmost_within zero s xs x = None
topmost_within (suc room) s xs x =
    elim (parent_at s.nodes x) [
      | None ↦ Some (record { node = x; by = None })
      | Some p ↦
          let above = topmost_within room s xs p in
          if present s.nodes p and is_nil (met_links s xs p) then above else Some (record { node = x; by = Some p })
    ]

-- the first node that is never met
unfoldable pub unmet : Forest → List FullNodeId → Option Broken
unmet s xs = at (λ x. never_met x (topmost_within (length s.nodes) s xs x.id)) (spot (is_never_met s xs) s.nodes)

-- the first link under which the node is met, none for the root and where it is not met
unfoldable pub met_link : Forest → List FullNodeId → NodeState → Option ParentAndIndex
met_link s xs n = elim (met_links s xs n.id) [ [] ↦ None | l ∷ ls ↦ l ]

-- a link that disagrees with the way down
unfoldable pub disagrees : Forest → List FullNodeId → NodeState → Bool
disagrees s xs n = not (same_option same_link n.parent_and_index (met_link s xs n))

-- the first node with such a link
unfoldable pub wrong_link_from : ℕ → Forest → List FullNodeId → List NodeState → Option Broken
wrong_link_from k s xs [] = None
wrong_link_from k s xs (n ∷ ns) =
    if disagrees s xs n
    then Some (wrong_link (record { slot = k; id = n.id }) (parent_of n.parent_and_index) (parent_of (met_link s xs n)))
    else wrong_link_from (suc k) s xs ns

-- the rules in order; xs are the nodes reached
unfoldable pub broken_links : Forest → List FullNodeId → Option Broken
broken_links s xs =
    first_given (λ o. o)
    (at too_many_children (spot crowded s.nodes)
    ∷ absence s
    ∷ at met_twice (spot (is_met_twice s xs) s.nodes)
    ∷ unmet s xs
    ∷ wrong_link_from 0 s xs s.nodes
    ∷ at graft_with_children (spot (λ n. not (graft_is_bare n)) s.nodes)
    ∷ [])

-- ## The rules for trees

-- the first node, from slot k on, whose tree a later one grafts too
unfoldable pub graft_twice_from : ℕ → List NodeState → Option Regraft
graft_twice_from k [] = None
graft_twice_from k (n ∷ ns) =
    let rest = graft_twice_from (suc k) ns in
    elim (graft? n.body) [
      | None ↦ rest
      | Some t ↦ elim (holder ns t) [ None ↦ rest | Some y ↦ Some (record { tree = t; node = record { slot = k; id = n.id }; other = y }) ]
    ]

-- the first number, from k on, whose tree id has an earlier one; `ids` are the tree ids before
unfoldable pub tree_twice_from : ℕ → List TreeId → List TreeEntry → Option Broken
tree_twice_from k ids [] = None
tree_twice_from k ids (e ∷ es) = if has same_tree ids e.id then Some (tree_twice k e.id) else tree_twice_from (suc k) (e.id ∷ ids) es

-- the first tree, from number k on, that exists and has no root or no graft
unfoldable pub unrooted_from : List NodeState → ℕ → List TreeEntry → Option Broken
unrooted_from ns k [] = None
unrooted_from ns k (e ∷ es) = if grafted ns k e then unrooted_from ns (suc k) es else Some (tree_unrooted k e.id)

-- the rules in order
unfoldable pub broken_trees : Forest → Option Broken
broken_trees s =
    first_given (λ o. o)
    (elim (graft_twice_from 0 s.nodes) [ None ↦ None | Some g ↦ Some (grafted_twice g) ]
    ∷ (if root_first s.trees then None else Some root_not_first)
    ∷ tree_twice_from 0 [] s.trees
    ∷ unrooted_from s.nodes 0 s.trees
    ∷ [])

-- ## The whole

-- the first node after which the ids do not ascend
unfoldable pub disorder_from : ℕ → List NodeState → Option Broken
disorder_from k [] = None
disorder_from k (n ∷ ns) =
    if all (λ m. before n.id m.id) ns then disorder_from (suc k) ns else Some (out_of_order (record { slot = k; id = n.id }))

-- the first rule for links and trees that a forest breaks
unfoldable pub broken_shape : Forest → Option Broken
broken_shape s = first_given (λ o. o) (broken_links s (reached s) ∷ broken_trees s ∷ disorder_from 0 s.nodes ∷ [])

-- the first rule of a sound state that it breaks
unfoldable pub broken_state : Forest → Option Broken
broken_state s =
    first_given (λ o. o)
    ((if leb (length s.nodes) 256 then None else Some tooManyNodes)
    ∷ (if leb (length s.trees) 32 then None else Some tooManyTrees)
    ∷ broken_shape s
    ∷ at broken_field (spot (λ n. not (fields_ok n.body)) s.nodes)
    ∷ (if focus_present s then None else Some no_focus)
    ∷ [])
