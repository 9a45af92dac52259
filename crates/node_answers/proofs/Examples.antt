-- Worked examples of the answers, which antt computes: whole answers, by hand from the definitions' words. Assumes nothing.
use Rattle.std.specs.Prelude.{None, Some, Ok, Err}
use mathlib.Core.Bool.{true, false}
use mathlib.Core.List.{List, [], ◌∷◌}
use mathlib.Core.Path.{◌≡◌, refl}
use Prim.Native.Nat.{ℕ}
use lib.Ieee.{of_bits, to_bits, eq}
use Rattle.base.specs.Tests.{◌and◌}
use Rattle.base.specs.Tables.{first}
use Rattle.base.specs.Floats.{zero_bytes}
use Rattle.ids.specs.Ids.{ROOT, same_tree, same_index, same_node, same_id, before, id_words}
use Rattle.ids.specs.declared.TreeIndex.{TreeIndex}
use Rattle.geometry.specs.Geometry.{rect_test, affine_test}
use Rattle.record.specs.Batch.{NodeData, active_descendant?, graft?, bounds?, transform?, fields_ok}
use Rattle.record.specs.ExampleNodes.{T, U, node, same_four, data_with, parent, labelled, grafts}
use Rattle.state.specs.State.{same_link, State, Forest, ids_of, find, present, graft_at, link_at, parent_at, holder, subtree_state, subtree_from, subtree_of}
use Rattle.state.specs.Down.{met_under, children_met, below, below_id, down, root_of, way_down}
use Rattle.state.specs.Focus.{through_grafts, effective_focus, or_active_descendant, state_focus}
use Rattle.state.specs.Sound.{met_once, recorded, graft_is_bare, sound_links, grafts_differ, grafted, all_grafted, root_first, one_id_each, sound_trees, ascending, way_ends, sound_shape, focus_present, sound}
use Rattle.state.specs.ExampleStates.{id, root, under, tree, no_tree, state}
use Rattle.questions.specs.Answers.{ask_number, state_number, list_number, after, written}
use Rattle.questions.specs.Links.{child_ids}
use Rattle.node_answers.specs.declared.Refusal.TheVariants.{NotSound, TooShort, NotPresent}
use Rattle.node_answers.specs.Answers.{refusal, answer, number_for}
use Rattle.node_answers.specs.Reading.{reading_of, reading, label_at}
use Rattle.node_answers.specs.Links.{parent_answer}
use Rattle.node_answers.specs.TreeState.{focus_answer, root_answer, tree_id_at, tree_index_at, tree_ends, tree_id_answer, tree_index_answer, tree_ends_answer, counts_answer}

-- `unfolding computed` unfolds every definition
computed : Unit {0}
unfolding ◌and◌ first zero_bytes same_tree same_index same_node same_id before rect_test affine_test active_descendant? graft? bounds? transform? fields_ok
    same_link ids_of find present graft_at link_at parent_at holder subtree_state subtree_from subtree_of met_under children_met below below_id down root_of
    way_down through_grafts effective_focus or_active_descendant state_focus met_once recorded graft_is_bare sound_links grafts_differ grafted all_grafted
    root_first one_id_each sound_trees ascending way_ends sound_shape focus_present sound of_bits to_bits eq ask_number state_number list_number after id_words
    written child_ids answer refusal reading_of reading label_at parent_answer focus_answer root_answer tree_id_at tree_index_at tree_ends tree_id_answer tree_index_answer tree_ends_answer counts_answer
computed = tt

-- hidden, with the label "Pay", bounds of four times 1 and the active descendant 3
abbrev pay : NodeData
pay = data_with [] (80 ∷ 97 ∷ 121 ∷ []) 21 3 ROOT (same_four 0x3ff0000000000000)

-- ROOT's 1 has [2, 3]; 2 is `pay` and has the focus; 3 grafts T, whose root 1 has the label "a"; U has a number and does not exist
abbrev whole : State
whole =
    state
    (root 0 1 (parent (2 ∷ 3 ∷ [])) ∷ under (id 0 1) 0 (id 0 2) pay ∷ under (id 0 1) 1 (id 0 3) (grafts T) ∷ under (id 0 3) 0 (id 1 1) (labelled (97 ∷ [])) ∷ [])
    (tree ROOT 1 2 ∷ tree T 1 1 ∷ no_tree U ∷ [])

abbrev forest : Forest
forest = whole.forest

-- the same without the graft: not sound
abbrev broken : State
broken = state (root 0 1 (parent (2 ∷ [])) ∷ under (id 0 1) 0 (id 0 2) pay ∷ []) (tree ROOT 1 2 ∷ tree T 1 1 ∷ [])

-- ## Reading a node

read_pay : reading forest (id 0 2)
    ≡ Ok (record {
      role = 4;
      hidden = true;
      clips_children = false;
      label_length = 3;
      child_count = 0;
      bounds = Some (same_four 0x3ff0000000000000);
      transform = None;
      active_descendant = Some (node 3);
      graft = None;
    })
unfolding computed
read_pay = refl

-- a graft's one child is its tree's root
read_graft : reading forest (id 0 3)
    ≡ Ok (record {
      role = 4;
      hidden = false;
      clips_children = false;
      label_length = 0;
      child_count = 1;
      bounds = None;
      transform = None;
      active_descendant = None;
      graft = Some T;
    })
unfolding computed
read_graft = refl

-- a node that is not there; a state that is not sound, whether or not the node is there
read_nothing : (reading forest (id 0 9) ≡ Err NotPresent) × (reading broken.forest (id 0 2) ≡ Err NotSound) × (reading broken.forest (id 0 9) ≡ Err NotSound)
unfolding computed
read_nothing = (refl, refl, refl)

-- ## A label, children and a parent

-- in a slice that is longer, just long enough, too short; of a node that is not there, in a slice too short
abbrev numbers : List ℕ
numbers =
    number_for forest (id 0 2) (label_at forest (id 0 2)) 5
    ∷ number_for forest (id 0 2) (label_at forest (id 0 2)) 3
    ∷ number_for forest (id 0 2) (label_at forest (id 0 2)) 2
    ∷ number_for forest (id 0 9) (80 ∷ []) 0
    ∷ []

labels :
    (numbers ≡ 0 ∷ 0 ∷ 21 ∷ 22 ∷ [])
    × (label_at forest (id 0 2) ≡ 80 ∷ 97 ∷ 121 ∷ [])
    × (written (label_at forest (id 0 2)) (1 ∷ 2 ∷ 3 ∷ 4 ∷ 5 ∷ []) ≡ 80 ∷ 97 ∷ 121 ∷ 4 ∷ 5 ∷ [])
    × (answer {A = ℕ} 0 3 ≡ Ok 3)
    × (answer {A = ℕ} 21 3 ≡ Err TooShort)
unfolding computed
labels = (refl, refl, refl, refl, refl)

family :
    (id_words (child_ids forest (id 0 1)) ≡ 0 ∷ 2 ∷ 0 ∷ 3 ∷ [])
    × (id_words (child_ids forest (id 0 3)) ≡ 1 ∷ 1 ∷ [])
    × (parent_answer forest (id 1 1) ≡ Ok (Some (id 0 3)))
    × (parent_answer forest (id 0 1) ≡ Ok None)
    × (parent_answer forest (id 1 9) ≡ Err NotPresent)
unfolding computed
family = (refl, refl, refl, refl, refl)

-- ## The state as a whole

-- the focus goes to the active descendant
ends_and_counts :
    (focus_answer whole ≡ Ok (Some (id 0 3)))
    × (root_answer forest ≡ Ok (Some (id 0 1)))
    × (focus_answer broken ≡ Err NotSound)
    × (counts_answer whole ≡ Ok (record { nodes = 4; trees = 3; host_focused = true }))
    × (counts_answer broken ≡ Err NotSound)
unfolding computed
ends_and_counts = (refl, refl, refl, refl, refl)

-- tree number k
abbrev nth : ℕ → TreeIndex
nth k = record { 0 = k }

-- a number that is taken and one that is not; a tree that exists, one that does not, one without a number
tree_questions :
    (tree_id_answer forest (nth 2) ≡ Ok (Some U))
    × (tree_id_answer forest (nth 3) ≡ Ok None)
    × (tree_index_answer forest T ≡ Ok (Some (nth 1)))
    × (tree_index_answer forest (record { high = 1; low = 1 }) ≡ Ok None)
    × (tree_ends_answer forest (nth 1) ≡ Ok (Some (record { root = id 1 1; focus = id 1 1 })))
    × (tree_ends_answer forest (nth 2) ≡ Ok None)
    × (tree_ends_answer forest (nth 3) ≡ Ok None)
unfolding computed
tree_questions = (refl, refl, refl, refl, refl, refl, refl)
