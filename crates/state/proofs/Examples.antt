-- Worked examples of soundness, going down and focus, which antt computes: sound states, and states that break one rule each.
-- Assumes nothing.
use mathlib.Core.Bool.{true, false}
use mathlib.Core.List.{List, [], ◌∷◌, map}
use Rattle.std.specs.Prelude.{None, Some}
use mathlib.Core.Path.{◌≡◌, refl}
use Prim.Native.Nat.{ℕ}
use lib.ListN.{replicate}
use lib.Ieee.{of_bits, to_bits, eq}
use Rattle.base.specs.Tests.{◌and◌}
use Rattle.base.specs.Bytes.{list_of}
use Rattle.base.specs.Floats.{zero_bytes}
use Rattle.ids.specs.Ids.{ROOT, same_tree, same_index, same_node, same_id, before}
use Rattle.geometry.specs.Geometry.{rect_test, affine_test}
use Rattle.record.specs.Batch.{NodeData, active_descendant?, graft?, fields_ok}
use Rattle.record.specs.ExampleNodes.{T, U, same_four, data_with, parent, leaf, labelled, grafts, graft_over, active, boxed}
use Rattle.state.specs.State.{same_link, NodeState, ids_of, TreeEntry, Forest, State, find, present, graft_at, link_at, parent_at, holder, subtree_state, subtree_from, subtree_of}
use Rattle.state.specs.Down.{met_under, children_met, below, below_id, down, root_of, way_down, climb}
use Rattle.state.specs.Focus.{through_grafts, effective_focus, or_active_descendant, state_focus}
use Rattle.state.specs.Sound.{met_once, recorded, graft_is_bare, sound_links, grafts_differ, grafted, all_grafted, root_first, one_id_each, sound_trees}
use Rattle.state.specs.Sound.{ascending, way_ends, sound_shape, focus_present, sound}
use Rattle.state.specs.ExampleStates.{id, root, under, tree, no_tree, state}

-- `unfolding computed` unfolds every definition
computed : Unit {0}
unfolding ◌and◌ list_of zero_bytes same_tree same_index same_node same_id before rect_test affine_test active_descendant? graft? fields_ok same_link ids_of find
    present graft_at link_at parent_at holder subtree_state subtree_from subtree_of met_under children_met below below_id down root_of way_down climb
    through_grafts effective_focus or_active_descendant state_focus met_once recorded graft_is_bare sound_links grafts_differ grafted all_grafted root_first
    one_id_each sound_trees ascending way_ends sound_shape focus_present sound of_bits to_bits eq
computed = tt

-- ## Sound states

-- ROOT's 1 has [2, 3]; 3 grafts T, whose root is 1; focus 2
abbrev one : NodeState
one = root 0 1 (parent (2 ∷ 3 ∷ []))

abbrev two : NodeState
two = under (id 0 1) 0 (id 0 2) leaf

abbrev three : NodeState
three = under (id 0 1) 1 (id 0 3) (grafts T)

abbrev pane : NodeState
pane = under (id 0 3) 0 (id 1 1) leaf

abbrev forest : List NodeState → List TreeEntry → Forest
forest ns ts = (state ns ts).forest

abbrev whole : Forest
whole = forest (one ∷ two ∷ three ∷ pane ∷ []) (tree ROOT 1 2 ∷ tree T 1 1 ∷ [])

-- the way down, climbing, and who holds T
ways :
    (map (λ m. m.id) (way_down whole) ≡ id 0 1 ∷ id 0 2 ∷ id 0 3 ∷ id 1 1 ∷ [])
    × (climb 2 whole.nodes (id 1 1) ≡ id 0 1)
    × (climb 1 whole.nodes (id 1 1) ≡ id 0 3)
    × (holder whole.nodes T ≡ Some (id 0 3))
    × (holder whole.nodes U ≡ None)
    × (parent_at whole.nodes (id 0 2) ≡ Some (id 0 1))
unfolding computed
ways = (refl, refl, refl, refl, refl, refl)

-- also with a graft whose tree does not exist, and with a pane whose focus is absent and not on the way
sound_states :
    map sound
    (whole
    ∷ forest (one ∷ two ∷ three ∷ []) (tree ROOT 1 2 ∷ no_tree T ∷ [])
    ∷ forest (one ∷ two ∷ three ∷ []) (tree ROOT 1 2 ∷ [])
    ∷ forest (one ∷ two ∷ three ∷ pane ∷ []) (tree ROOT 1 2 ∷ tree T 1 9 ∷ [])
    ∷ [])
    ≡ replicate 4 true
unfolding computed
sound_states = refl

-- ## States that break a rule of links

broken_links :
    map sound
    -- a node met twice; a node never met; a named child that is absent; a node that names itself
    (forest (root 0 1 (parent (2 ∷ 2 ∷ [])) ∷ two ∷ []) (tree ROOT 1 2 ∷ [])
    ∷ forest (root 0 1 (parent (2 ∷ [])) ∷ two ∷ under (id 0 1) 1 (id 0 3) leaf ∷ []) (tree ROOT 1 2 ∷ [])
    ∷ forest (one ∷ two ∷ []) (tree ROOT 1 2 ∷ [])
    ∷ forest (root 0 1 (parent (2 ∷ [])) ∷ under (id 0 1) 0 (id 0 2) (parent (2 ∷ [])) ∷ []) (tree ROOT 1 2 ∷ [])
    -- a stale place; another parent recorded; none recorded; a root with a parent
    ∷ forest (root 0 1 (parent (2 ∷ [])) ∷ under (id 0 1) 1 (id 0 2) leaf ∷ []) (tree ROOT 1 2 ∷ [])
    ∷ forest (root 0 1 (parent (2 ∷ [])) ∷ under (id 0 3) 0 (id 0 2) leaf ∷ []) (tree ROOT 1 2 ∷ [])
    ∷ forest (root 0 1 (parent (2 ∷ [])) ∷ root 0 2 leaf ∷ []) (tree ROOT 1 2 ∷ [])
    ∷ forest (under (id 0 2) 0 (id 0 1) (parent (2 ∷ [])) ∷ two ∷ []) (tree ROOT 1 2 ∷ [])
    -- a graft with a child of its own
    ∷ forest (root 0 1 (parent (2 ∷ [])) ∷ under (id 0 1) 0 (id 0 2) (graft_over T (3 ∷ [])) ∷ []) (tree ROOT 1 1 ∷ [])
    -- nodes out of order
    ∷ forest (two ∷ root 0 1 (parent (2 ∷ [])) ∷ []) (tree ROOT 1 2 ∷ [])
    ∷ [])
    ≡ replicate 10 false
unfolding computed
broken_links = refl

-- ## States that break another rule

broken_trees :
    map sound
    -- two grafts of one tree that does not exist; an existing tree without a graft; one whose root is absent
    (forest (one ∷ under (id 0 1) 0 (id 0 2) (grafts T) ∷ three ∷ []) (tree ROOT 1 1 ∷ [])
    ∷ forest (root 0 1 leaf ∷ []) (tree ROOT 1 1 ∷ tree T 1 1 ∷ [])
    ∷ forest (one ∷ two ∷ three ∷ []) (tree ROOT 1 2 ∷ tree T 1 1 ∷ [])
    -- no tree; ROOT not first; ROOT does not exist; one tree id with two numbers
    ∷ forest [] []
    ∷ forest (root 0 1 leaf ∷ []) (tree T 1 1 ∷ [])
    ∷ forest [] (no_tree ROOT ∷ [])
    ∷ forest (root 0 1 leaf ∷ []) (tree ROOT 1 1 ∷ no_tree T ∷ no_tree T ∷ [])
    -- a focus that is absent; one on a graft whose tree does not exist
    ∷ forest (root 0 1 leaf ∷ []) (tree ROOT 1 2 ∷ [])
    ∷ forest (one ∷ two ∷ three ∷ []) (tree ROOT 1 3 ∷ [])
    -- a label of 33 bytes; an unused flag bit; an active descendant without its flag; an infinite bound
    ∷ forest (root 0 1 (labelled (replicate 33 97)) ∷ []) (tree ROOT 1 1 ∷ [])
    ∷ forest (root 0 1 (data_with [] [] 64 0 ROOT (same_four 0)) ∷ []) (tree ROOT 1 1 ∷ [])
    ∷ forest (root 0 1 (data_with [] [] 0 1 ROOT (same_four 0)) ∷ []) (tree ROOT 1 1 ∷ [])
    ∷ forest (root 0 1 (boxed 0x7ff0000000000000) ∷ []) (tree ROOT 1 1 ∷ [])
    ∷ [])
    ≡ replicate 13 false
unfolding computed
broken_trees = refl

-- at most 32 tree numbers
abbrev numbered : ℕ → Forest
numbered n = forest (root 0 1 leaf ∷ []) (tree ROOT 1 1 ∷ list_of n (λ i. no_tree (record { high = 1; low = i })))

many_trees : map (λ n. sound (numbered n)) (31 ∷ 32 ∷ []) ≡ true ∷ false ∷ []
unfolding computed
many_trees = refl

-- ## Focus

-- ROOT's focus on the graft goes to T's focus; the active descendant is in the same tree, if present; none without host focus
abbrev focusing : NodeData → ℕ → State
focusing d f = state (one ∷ two ∷ three ∷ under (id 0 3) 0 (id 1 1) d ∷ []) (tree ROOT 1 f ∷ tree T 1 1 ∷ [])

focuses :
    (state_focus (focusing leaf 2) ≡ Some (id 0 2))
    × (state_focus (focusing leaf 3) ≡ Some (id 1 1))
    × (effective_focus (focusing (active 1) 3).forest ≡ Some (id 1 1))
    × (state_focus (state (root 0 1 (parent (2 ∷ [])) ∷ under (id 0 1) 0 (id 0 2) (active 1) ∷ []) (tree ROOT 1 2 ∷ [])) ≡ Some (id 0 1))
    × (state_focus (focusing (active 2) 3) ≡ Some (id 1 1))
    × (state_focus (record { forest = whole; host_focused = false }) ≡ None)
    × (effective_focus (forest (one ∷ two ∷ three ∷ []) (tree ROOT 1 3 ∷ [])) ≡ None)
unfolding computed
focuses = (refl, refl, refl, refl, refl, refl, refl)
