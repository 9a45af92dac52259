-- Numbers 1 and 19: what each rule of a sound state says where it is broken, and which one is the first. What Shape finds is so: proofs/Order.
-- Two that are so agree: proofs/Only. Assumes nothing.
use Rattle.std.specs.Prelude.{true, false, ◌≡◌, ℕ, zero, suc, ◌≤◌, ◌<◌, length, Option, None, Some}
use mathlib.Core.List.{List, [], ◌∷◌, Memᴰ}
use Rattle.base.specs.Tests.{same_option}
use Rattle.ids.specs.Ids.{before}
use Rattle.ids.specs.declared.TreeId.{TreeId}
use Rattle.ids.specs.declared.FullNodeId.{FullNodeId}
use Rattle.record.specs.Batch.{graft?, fields_ok}
use Rattle.state.specs.State.{same_link, ParentAndIndex, NodeState, TreeEntry, Forest, present, parent_of, link_at, parent_at}
use Rattle.state.specs.Sound.{graft_is_bare, grafted, root_first, focus_present}
use Rattle.reasons.specs.Reasons.{Spot, Dropped, Broken, tooManyNodes, tooManyTrees, too_many_children, absent_below, met_twice, never_met}
use Rattle.reasons.specs.Reasons.{wrong_link, graft_with_children, grafted_twice, root_not_first, tree_twice, tree_unrooted, out_of_order}
use Rattle.reasons.specs.Reasons.{broken_field, no_focus}
use Rattle.reasons.specs.Shape.{ids_below, reached, met_links}

-- ## Where

-- x stands at a place of a list, counted from 0
pub data At {A : Type 0} (x : A) : List A → ℕ → Type 0 where
  at_head : {y : A} {ys : List A} → x ≡ y → At x (y ∷ ys) zero
  at_tail : {y : A} {ys : List A} {i : ℕ} → At x ys i → At x (y ∷ ys) (suc i)

-- the node in this slot, which has this id, is so
abbrev pub NodeAt : Forest → Spot → (NodeState → Type 0) → Type 0
NodeAt s p P = (n : NodeState) × At n s.nodes p.slot × (n.id ≡ p.id) × P n

-- another node, in a later slot, is so
abbrev pub LaterNode : Forest → ℕ → (NodeState → Type 0) → Type 0
LaterNode s k P = (j : ℕ) × (k < j) × (m : NodeState) × At m s.nodes j × P m

-- the tree of this number has this id, and is so
abbrev pub TreeAt : Forest → ℕ → TreeId → (TreeEntry → Type 0) → Type 0
TreeAt s k t P = (e : TreeEntry) × At e s.trees k × (e.id ≡ t) × P e

-- ## Climbing

-- From x up to y in so many steps by the recorded parents; each node that is left, with the link that it records, is so.
pub data Up (ns : List NodeState) (P : FullNodeId → ParentAndIndex → Type 0) : ℕ → FullNodeId → FullNodeId → Type 0 where
  there : {x : FullNodeId} → Up ns P 0 x x
  step : {k : ℕ} {x y : FullNodeId} (l : ParentAndIndex) → link_at ns x ≡ Some l → P x l → Up ns P k l.parent y → Up ns P (suc k) x y

-- the node is present and is never met going down from the root
abbrev pub Unmet : Forest → FullNodeId → Type 0
Unmet s x = (present s.nodes x ≡ true) × (met_links s (reached s) x ≡ [])

-- from x up to y in so many steps, each to a recorded parent that is never met
abbrev pub UnmetUp : Forest → ℕ → FullNodeId → FullNodeId → Type 0
UnmetUp s k x y = Up s.nodes (λ z l. Unmet s l.parent) k x y

-- the topmost node never met above x, or x itself: it records this parent, if any, which is met or absent
pub record Topmost (s : Forest) (x : FullNodeId) (d : Dropped) : Type 0 where
  pub steps : ℕ
  pub above : UnmetUp s steps x d.node
  pub records : parent_at s.nodes d.node ≡ d.by
  pub last : (p : FullNodeId) → d.by ≡ Some p → Unmet s p → ⊥

-- no node above x is topmost: the way up leads to a node, and from it in one step or more back to it
pub record Circle (s : Forest) (x : FullNodeId) : Type 0 where
  pub node : FullNodeId
  pub steps : ℕ
  pub more : ℕ
  pub above : UnmetUp s steps x node
  pub back : UnmetUp s (suc more) node node

abbrev pub Climbs : Forest → FullNodeId → Option Dropped → Type 0
Climbs s x None = Circle s x
Climbs s x (Some d) = Topmost s x d

-- ## The rules

unfoldable pub Breaks : Forest → Broken → Type 0
-- more than 256 nodes; more than 32 tree numbers
Breaks s tooManyNodes = 256 < length s.nodes
Breaks s tooManyTrees = 32 < length s.trees
-- the node has more than 256 children
Breaks s (too_many_children p) = NodeAt s p (λ n. 256 < length n.body.children)
-- x stands below the node and is absent; no smaller id below a node is
Breaks s (absent_below p x) =
    NodeAt s p (λ n. Memᴰ x (ids_below s n) × (present s.nodes x ≡ false))
    × ((n : NodeState) (y : FullNodeId) → Memᴰ n s.nodes → Memᴰ y (ids_below s n) → present s.nodes y ≡ false → before y x ≡ false)
-- going down from the root, the node is met more than once
Breaks s (met_twice p) = NodeAt s p (λ n. 2 ≤ length (met_links s (reached s) n.id))
-- it is never met; with it the topmost such node above it, none where the recorded parents go round in a circle
Breaks s (never_met p d) = NodeAt s p (λ n. met_links s (reached s) n.id ≡ []) × Climbs s p.id d
-- the node is met once, and records another link than the one under which it is met, which have these parents
Breaks s (wrong_link p recorded met) =
    NodeAt s p
    (λ n. (parent_of n.parent_and_index ≡ recorded)
    × (l : Option ParentAndIndex) × (met_links s (reached s) n.id ≡ l ∷ [])
    × (parent_of l ≡ met)
    × (same_option same_link n.parent_and_index l ≡ false))
-- the graft has children
Breaks s (graft_with_children p) = NodeAt s p (λ n. graft_is_bare n ≡ false)
-- the node grafts the tree, and so does a later one
Breaks s (grafted_twice g) =
    NodeAt s g.node
    (λ n. (graft? n.body ≡ Some g.tree) × LaterNode s g.node.slot (λ m. (m.id ≡ g.other) × (graft? m.body ≡ Some g.tree)))
-- ROOT does not exist or does not have number 0
Breaks s root_not_first = root_first s.trees ≡ false
-- the tree id of number k has an earlier number
Breaks s (tree_twice k t) = TreeAt s k t (λ _. (j : ℕ) × (j < k) × TreeAt s j t (λ _. Unit {0}))
-- the tree exists, and its root is absent or no node grafts it
Breaks s (tree_unrooted k t) = TreeAt s k t (λ e. grafted s.nodes k e ≡ false)
-- the node does not come before a later one
Breaks s (out_of_order p) = NodeAt s p (λ n. LaterNode s p.slot (λ m. before n.id m.id ≡ false))
-- a field of the node breaks the record's rules
Breaks s (broken_field p) = NodeAt s p (λ n. fields_ok n.body ≡ false)
-- the effective focus is absent
Breaks s no_focus = focus_present s ≡ false

-- ## The first rule

-- the order in which the rules are asked: the limits, then from 2 on links, from 8 on trees, 12 the nodes' order, then fields and focus
unfoldable pub rank : Broken → ℕ
rank tooManyNodes = 0
rank tooManyTrees = 1
rank (too_many_children p) = 2
rank (absent_below p x) = 3
rank (met_twice p) = 4
rank (never_met p d) = 5
rank (wrong_link p recorded met) = 6
rank (graft_with_children p) = 7
rank (grafted_twice g) = 8
rank root_not_first = 9
rank (tree_twice k t) = 10
rank (tree_unrooted k t) = 11
rank (out_of_order p) = 12
rank (broken_field p) = 13
rank no_focus = 14

-- where a rule is broken: the node's slot, or the tree's number; 0 for a rule about the whole
unfoldable pub place : Broken → ℕ
place tooManyNodes = 0
place tooManyTrees = 0
place (too_many_children p) = p.slot
place (absent_below p x) = p.slot
place (met_twice p) = p.slot
place (never_met p d) = p.slot
place (wrong_link p recorded met) = p.slot
place (graft_with_children p) = p.slot
place (grafted_twice g) = g.node.slot
place root_not_first = 0
place (tree_twice k t) = k
place (tree_unrooted k t) = k
place (out_of_order p) = p.slot
place (broken_field p) = p.slot
place no_focus = 0

-- of the rules of ranks lo to hi - 1 this is the first that is broken, and it is broken at no earlier place
pub record FirstRule (s : Forest) (lo hi : ℕ) (b : Broken) : Type 0 where
  pub breaks : Breaks s b
  pub asked : (lo ≤ rank b) × (rank b < hi)
  pub first : (c : Broken) → Breaks s c → lo ≤ rank c → rank b ≤ rank c
  pub lowest : (c : Broken) → Breaks s c → rank c ≡ rank b → place b ≤ place c

-- number 1: of all rules
abbrev pub FirstOfState : Forest → Broken → Type 0
FirstOfState s b = FirstRule s 0 15 b

-- number 19: of those for links, trees and the order of the nodes
abbrev pub FirstOfShape : Forest → Broken → Type 0
FirstOfShape s b = FirstRule s 2 13 b
