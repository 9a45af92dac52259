-- When a state is sound: document 01, "A state is **sound** when". Number 1 asks it of the state handed in, number 19 asks `sound_shape` of an outcome.
-- Assumes nothing.
use Rattle.std.specs.Prelude.{Bool, true, false, ◌||◌, List, [], ◌∷◌, map, ℕ, suc, eqb, leb, length, None, Some}
use Rattle.base.specs.Tests.{◌and◌, is_some, is_none, is_nil, all, count, same_option, distinct, given}
use Rattle.ids.specs.Ids.{ROOT, same_tree, same_id, before}
use Rattle.record.specs.Batch.{graft?, fields_ok}
use Rattle.state.specs.State.{same_link, NodeState, TreeEntry, Forest, find, present, holder}
use Rattle.state.specs.Down.{Met, way_down}
use Rattle.state.specs.Focus.{effective_focus}

-- ## Document 01's rules for links

-- going down from the root, a node is met exactly once
unfoldable pub met_once : List Met → NodeState → Bool
met_once ms n = eqb (count (λ m. same_id n.id m.id) ms) 1

-- what is met is present, and records the parent and the place under which it is met; the root, met under none, records none
unfoldable pub recorded : List NodeState → Met → Bool
recorded ns m = elim (find m.id ns) [ None ↦ false | Some n ↦ same_option same_link n.parent_and_index m.link ]

-- a graft's only child is its tree's root: it has no children of its own
unfoldable pub graft_is_bare : NodeState → Bool
graft_is_bare n = is_none (graft? n.body) || is_nil n.body.children

-- the three rules together
unfoldable pub sound_links : Forest → Bool
sound_links s = all (met_once (way_down s)) s.nodes and all (recorded s.nodes) (way_down s) and all graft_is_bare s.nodes

-- ## Document 01's rules for trees

-- graft holders and graft nodes match one to one: no tree is grafted twice
unfoldable pub grafts_differ : List NodeState → Bool
grafts_differ ns = distinct same_tree (given (λ n. graft? n.body) ns)

-- an existing tree's root is present, and every existing tree but ROOT is grafted; k is the tree's number
unfoldable pub grafted : List NodeState → ℕ → TreeEntry → Bool
grafted ns k e =
    elim e.subtree [
      | None ↦ true
      | Some u ↦
          present ns (record { tree = record { 0 = k }; node = u.root })
          and (eqb k 0 || is_some (holder ns e.id))
    ]

-- so of every tree of the table; k is the first number
unfoldable pub all_grafted : List NodeState → ℕ → List TreeEntry → Bool
all_grafted ns k [] = true
all_grafted ns k (e ∷ es) = grafted ns k e and all_grafted ns (suc k) es

-- ROOT exists and has number 0
unfoldable pub root_first : List TreeEntry → Bool
root_first [] = false
root_first (e ∷ es) = same_tree e.id ROOT and is_some e.subtree

-- taken numbers run from 0 without gap (they are the places in the table), one tree id each
unfoldable pub one_id_each : List TreeEntry → Bool
one_id_each es = distinct same_tree (map (λ e. e.id) es)

-- the rules for trees together
unfoldable pub sound_trees : Forest → Bool
sound_trees s = grafts_differ s.nodes and root_first s.trees and one_id_each s.trees and all_grafted s.nodes 0 s.trees

-- ## What this form of a state adds

-- the nodes stand by id, no id twice
unfoldable pub ascending : List NodeState → Bool
ascending [] = true
ascending (n ∷ ns) = all (λ m. before n.id m.id) ns and ascending ns

-- ## What follows from the rules above (proofs/Ends, `way_ends_lem`), and is said so that it can be read off

-- the way down ends by itself, and not for want of room
unfoldable pub way_ends : Forest → Bool
way_ends s = leb (length (way_down s)) (length s.nodes)

-- ## The whole

-- the links and the trees are sound
unfoldable pub sound_shape : Forest → Bool
sound_shape s = sound_links s and sound_trees s and ascending s.nodes and way_ends s

-- the effective focus is present; it is no graft, for the way through the grafts goes on from a graft that is present
unfoldable pub focus_present : Forest → Bool
focus_present s = elim (effective_focus s) [ None ↦ false | Some x ↦ present s.nodes x ]

-- "A state is sound when"
unfoldable pub sound : Forest → Bool
sound s =
    sound_shape s
    -- at most 256 nodes and 32 tree numbers
    and leb (length s.nodes) 256
    and leb (length s.trees) 32
    -- every node's fields obey the record's rules
    and all (λ n. fields_ok n.body) s.nodes
    and focus_present s
