-- The one claim over the cases: every call gives the answer that its case says, whole. antt computes each.
-- Assumes nothing.
use mathlib.Core.List.{List, [], ◌∷◌, ◌++◌, map}
use mathlib.Core.Path.{◌≡◌, refl, ap}
use lib.Ieee.{of_bits, to_bits, eq}
use Rattle.base.specs.Tests.{◌and◌}
use Rattle.base.specs.Tables.{first}
use Rattle.base.specs.Bytes.{little_endian, le, bytes_of, all_below, zeros, list_of, sum_of}
use Rattle.base.specs.Floats.{zero_bytes, same_value}
use Rattle.ids.specs.Ids.{same_tree, same_index, same_node, same_id, before, id_words}
use Rattle.geometry.specs.Geometry.{rect_test, affine_test, same_rect, same_affine}
use Rattle.record.specs.Batch.{active_descendant?, graft?, bounds?, transform?, fields_ok, same_data, listed_ids, named_ids}
use Rattle.record.specs.Parse.{batch_of, header_ok, children_before, labels_before, record_ok, well_formed, parse}
use Rattle.record.specs.Encode.{record_bytes, records_bytes, entry_bytes, labels, header_bytes, encode}
use Rattle.state.specs.State.{same_link, ids_of, blank, find, present, graft_at, link_at, parent_at, holder, subtree_state, subtree_from, subtree_of}
use Rattle.state.specs.Down.{met_under, children_met, below, below_id, down, root_of, way_down, climb}
use Rattle.state.specs.Focus.{through_grafts, effective_focus, or_active_descendant, state_focus}
use Rattle.state.specs.Sound.{met_once, recorded, graft_is_bare, sound_links, grafts_differ, grafted, all_grafted, root_first, one_id_each, sound_trees, ascending, way_ends, sound_shape, focus_present, sound}
use Rattle.update.specs.Words.{listing, known, tree_number, here, mine, old, listed, turn, naming, named, with_tree_data, root_after, is_root, claim, claimer, claimed_from, lets_go}
use Rattle.update.specs.Pass.{placed_at_turn, namings, events, fault, pass}
use Rattle.update.specs.Gone.{goes_if, fares, replaced, fate_here, fate_elsewhere, fate, gone_within, gone}
use Rattle.update.specs.Outcome.{renewed, write, write_all, under_graft, written, pane_root, cut_lasts, link_is_cut, link_here, link_elsewhere}
use Rattle.update.specs.Outcome.{link_after, relink, subtree_here, subtree_elsewhere, entry_after, entries_after, new_entry, outcome}
use Rattle.update.specs.Reports.{no_changes, added, removed, is_updated, updated, is_relinked, relinked, changes_with, changes_of, lengths_of}
use Rattle.update.specs.Reports.{change_words, slice_after, unless_in, focus_moved, extra_before, extra_after}
use Rattle.update.specs.Numbers.{absent, placeless, nowhere, updated_and_removed, rows_before_pass, rows_after_pass, batch_number}
use Rattle.update.specs.Calls.{Answer, refused, accepted, judged, batch_rows, update_number, update_batch, update, seed, without_tree_data}
use Rattle.update.specs.Calls.{start_number, started, start_batch, start, with_host_focus, host_focus}
use Rattle.update.specs.ExampleCalls.{Case}
use Rattle.update.specs.Cases.{start_accepted, child_twice, child_dropped, focus_dropped, child_nowhere, node_alone, changed_then_dropped}
use Rattle.update.specs.Cases.{dropped_then_changed, graft_with_child, graft_made, pane_started, pane_without_tree_data, graft_twice, focus_on_empty_graft}
use Rattle.update.specs.Cases.{graft_moved, child_of_itself, cases, case_numbers}
use Rattle.update.specs.Traps.{new_root_under_old_parent, new_root_of_pane, new_root_dropped, unchanged_then_dropped, dropped_then_unchanged, new_root_below}
use Rattle.update.specs.Traps.{new_root_named_then_listed, new_root_listed_then_named, roots_in_circle, children_swapped, named_by_two, pane_root_keeps_link}
use Rattle.update.specs.Traps.{pane_root_marked, sign_of_zero, traps}
use Rattle.update.specs.GraftCases.{graft_goes_and_claimed, graft_kept_and_claimed, root_graft_never_placed, graft_with_child_twice, second_graft_placed_first}
use Rattle.update.specs.GraftCases.{root_graft_placed_first, child_nowhere_and_graft_held, graft_held, graft_released_by_gone, graft_let_go, graft_unchanged}
use Rattle.update.specs.GraftCases.{tree_let_go, other_tree_given, tree_grafted_again, tree_given_again, nested_tree_moved, graft_cases}
use Rattle.update.specs.FocusCases.{focus_moves_on, active_descendant_is_graft, host_leaves, focus_cases}
use Rattle.update.specs.RowCases.{tree_without_graft, listed_twice, slice_too_short, state_unsound, host_of_unsound, record_broken, start_broken, start_without_tree_data, start_of_pane, row_cases}

abbrev pub Right : Case → Type 0
Right c = c.got ≡ c.says

abbrev pub AllRight : List Case → Type 0
AllRight [] = Unit {0}
AllRight (c ∷ cs) = Right c × AllRight cs

-- `unfolding computed` unfolds every definition
computed : Unit {0}
unfolding of_bits to_bits eq ◌and◌ first little_endian le bytes_of all_below zeros list_of sum_of zero_bytes same_value same_tree same_index same_node same_id
    before rect_test affine_test same_rect same_affine active_descendant? graft? bounds? transform? fields_ok same_data listed_ids named_ids header_ok
    children_before labels_before record_ok well_formed batch_of parse record_bytes records_bytes entry_bytes labels header_bytes encode same_link find present
    graft_at link_at parent_at holder subtree_state subtree_from subtree_of met_under children_met below below_id down root_of way_down climb through_grafts
    effective_focus or_active_descendant state_focus met_once recorded graft_is_bare sound_links grafts_differ grafted all_grafted root_first one_id_each
    sound_trees ascending way_ends sound_shape focus_present sound listing known tree_number here mine old listed turn naming named with_tree_data root_after
    is_root claim claimer claimed_from lets_go placed_at_turn namings events fault pass goes_if fares replaced fate_here fate_elsewhere fate gone_within gone
    renewed write write_all under_graft written pane_root cut_lasts link_is_cut link_here link_elsewhere link_after relink subtree_here subtree_elsewhere
    entry_after entries_after new_entry outcome no_changes ids_of added removed is_updated updated is_relinked relinked changes_with changes_of lengths_of
    id_words change_words slice_after unless_in focus_moved extra_before extra_after absent placeless nowhere updated_and_removed rows_before_pass rows_after_pass
    batch_number refused accepted judged batch_rows update_number update_batch update blank seed without_tree_data start_number started start_batch start
    with_host_focus host_focus
computed = tt

start_accepted_lem : Right start_accepted
unfolding computed start_accepted
start_accepted_lem = refl

child_twice_lem : Right child_twice
unfolding computed child_twice
child_twice_lem = refl

child_dropped_lem : Right child_dropped
unfolding computed child_dropped
child_dropped_lem = refl

focus_dropped_lem : Right focus_dropped
unfolding computed focus_dropped
focus_dropped_lem = refl

child_nowhere_lem : Right child_nowhere
unfolding computed child_nowhere
child_nowhere_lem = refl

node_alone_lem : Right node_alone
unfolding computed node_alone
node_alone_lem = refl

changed_then_dropped_lem : Right changed_then_dropped
unfolding computed changed_then_dropped
changed_then_dropped_lem = refl

dropped_then_changed_lem : Right dropped_then_changed
unfolding computed dropped_then_changed
dropped_then_changed_lem = refl

graft_with_child_lem : Right graft_with_child
unfolding computed graft_with_child
graft_with_child_lem = refl

graft_made_lem : Right graft_made
unfolding computed graft_made
graft_made_lem = refl

pane_started_lem : Right pane_started
unfolding computed pane_started
pane_started_lem = refl

pane_without_tree_data_lem : Right pane_without_tree_data
unfolding computed pane_without_tree_data
pane_without_tree_data_lem = refl

graft_twice_lem : Right graft_twice
unfolding computed graft_twice
graft_twice_lem = refl

focus_on_empty_graft_lem : Right focus_on_empty_graft
unfolding computed focus_on_empty_graft
focus_on_empty_graft_lem = refl

graft_moved_lem : Right graft_moved
unfolding computed graft_moved
graft_moved_lem = refl

child_of_itself_lem : Right child_of_itself
unfolding computed child_of_itself
child_of_itself_lem = refl

new_root_under_old_parent_lem : Right new_root_under_old_parent
unfolding computed new_root_under_old_parent
new_root_under_old_parent_lem = refl

new_root_of_pane_lem : Right new_root_of_pane
unfolding computed new_root_of_pane
new_root_of_pane_lem = refl

new_root_dropped_lem : Right new_root_dropped
unfolding computed new_root_dropped
new_root_dropped_lem = refl

unchanged_then_dropped_lem : Right unchanged_then_dropped
unfolding computed unchanged_then_dropped
unchanged_then_dropped_lem = refl

dropped_then_unchanged_lem : Right dropped_then_unchanged
unfolding computed dropped_then_unchanged
dropped_then_unchanged_lem = refl

new_root_below_lem : Right new_root_below
unfolding computed new_root_below
new_root_below_lem = refl

new_root_named_then_listed_lem : Right new_root_named_then_listed
unfolding computed new_root_named_then_listed
new_root_named_then_listed_lem = refl

new_root_listed_then_named_lem : Right new_root_listed_then_named
unfolding computed new_root_listed_then_named
new_root_listed_then_named_lem = refl

roots_in_circle_lem : Right roots_in_circle
unfolding computed roots_in_circle
roots_in_circle_lem = refl

children_swapped_lem : Right children_swapped
unfolding computed children_swapped
children_swapped_lem = refl

named_by_two_lem : Right named_by_two
unfolding computed named_by_two
named_by_two_lem = refl

pane_root_keeps_link_lem : Right pane_root_keeps_link
unfolding computed pane_root_keeps_link
pane_root_keeps_link_lem = refl

pane_root_marked_lem : Right pane_root_marked
unfolding computed pane_root_marked
pane_root_marked_lem = refl

sign_of_zero_lem : Right sign_of_zero
unfolding computed sign_of_zero
sign_of_zero_lem = refl

graft_goes_and_claimed_lem : Right graft_goes_and_claimed
unfolding computed graft_goes_and_claimed
graft_goes_and_claimed_lem = refl

graft_kept_and_claimed_lem : Right graft_kept_and_claimed
unfolding computed graft_kept_and_claimed
graft_kept_and_claimed_lem = refl

root_graft_never_placed_lem : Right root_graft_never_placed
unfolding computed root_graft_never_placed
root_graft_never_placed_lem = refl

graft_with_child_twice_lem : Right graft_with_child_twice
unfolding computed graft_with_child_twice
graft_with_child_twice_lem = refl

second_graft_placed_first_lem : Right second_graft_placed_first
unfolding computed second_graft_placed_first
second_graft_placed_first_lem = refl

root_graft_placed_first_lem : Right root_graft_placed_first
unfolding computed root_graft_placed_first
root_graft_placed_first_lem = refl

child_nowhere_and_graft_held_lem : Right child_nowhere_and_graft_held
unfolding computed child_nowhere_and_graft_held
child_nowhere_and_graft_held_lem = refl

graft_held_lem : Right graft_held
unfolding computed graft_held
graft_held_lem = refl

graft_released_by_gone_lem : Right graft_released_by_gone
unfolding computed graft_released_by_gone
graft_released_by_gone_lem = refl

graft_let_go_lem : Right graft_let_go
unfolding computed graft_let_go
graft_let_go_lem = refl

graft_unchanged_lem : Right graft_unchanged
unfolding computed graft_unchanged
graft_unchanged_lem = refl

tree_let_go_lem : Right tree_let_go
unfolding computed tree_let_go
tree_let_go_lem = refl

other_tree_given_lem : Right other_tree_given
unfolding computed other_tree_given
other_tree_given_lem = refl

tree_grafted_again_lem : Right tree_grafted_again
unfolding computed tree_grafted_again
tree_grafted_again_lem = refl

tree_given_again_lem : Right tree_given_again
unfolding computed tree_given_again
tree_given_again_lem = refl

nested_tree_moved_lem : Right nested_tree_moved
unfolding computed nested_tree_moved
nested_tree_moved_lem = refl

focus_moves_on_lem : Right focus_moves_on
unfolding computed focus_moves_on
focus_moves_on_lem = refl

active_descendant_is_graft_lem : Right active_descendant_is_graft
unfolding computed active_descendant_is_graft
active_descendant_is_graft_lem = refl

host_leaves_lem : Right host_leaves
unfolding computed host_leaves
host_leaves_lem = refl

tree_without_graft_lem : Right tree_without_graft
unfolding computed tree_without_graft
tree_without_graft_lem = refl

listed_twice_lem : Right listed_twice
unfolding computed listed_twice
listed_twice_lem = refl

slice_too_short_lem : Right slice_too_short
unfolding computed slice_too_short
slice_too_short_lem = refl

state_unsound_lem : Right state_unsound
unfolding computed state_unsound
state_unsound_lem = refl

host_of_unsound_lem : Right host_of_unsound
unfolding computed host_of_unsound
host_of_unsound_lem = refl

record_broken_lem : Right record_broken
unfolding computed record_broken
record_broken_lem = refl

start_broken_lem : Right start_broken
unfolding computed start_broken
start_broken_lem = refl

start_without_tree_data_lem : Right start_without_tree_data
unfolding computed start_without_tree_data
start_without_tree_data_lem = refl

start_of_pane_lem : Right start_of_pane
unfolding computed start_of_pane
start_of_pane_lem = refl

-- one fact, and the others
infixr 30 ◌also◌
◌also◌ : {A B : Type 0} → A → B → A × B
x also xs = (x, xs)

-- cases 1 to 14, and more: traps, grafts, the focus, the rows
pub the_cases : AllRight (cases ++ (traps ++ graft_cases ++ focus_cases ++ row_cases))
the_cases =
    start_accepted_lem also child_twice_lem also child_dropped_lem also focus_dropped_lem also child_nowhere_lem also node_alone_lem also changed_then_dropped_lem
    also dropped_then_changed_lem also graft_with_child_lem also graft_made_lem also pane_started_lem also pane_without_tree_data_lem also graft_twice_lem also focus_on_empty_graft_lem
    also graft_moved_lem also child_of_itself_lem also new_root_under_old_parent_lem also new_root_of_pane_lem also new_root_dropped_lem also unchanged_then_dropped_lem
    also dropped_then_unchanged_lem also new_root_below_lem also new_root_named_then_listed_lem also new_root_listed_then_named_lem also roots_in_circle_lem
    also children_swapped_lem also named_by_two_lem also pane_root_keeps_link_lem also pane_root_marked_lem also sign_of_zero_lem also graft_goes_and_claimed_lem
    also graft_kept_and_claimed_lem also root_graft_never_placed_lem also graft_with_child_twice_lem also second_graft_placed_first_lem also root_graft_placed_first_lem
    also child_nowhere_and_graft_held_lem also graft_held_lem also graft_released_by_gone_lem also graft_let_go_lem also graft_unchanged_lem also tree_let_go_lem
    also other_tree_given_lem also tree_grafted_again_lem also tree_given_again_lem also nested_tree_moved_lem also focus_moves_on_lem also active_descendant_is_graft_lem
    also host_leaves_lem also tree_without_graft_lem also listed_twice_lem also slice_too_short_lem also state_unsound_lem also host_of_unsound_lem also record_broken_lem
    also start_broken_lem also start_without_tree_data_lem also start_of_pane_lem also tt

-- the numbers of cases 1 to 14, as they are said
says_numbers : (cs : List Case) → AllRight cs → map (λ c. c.got.number) cs ≡ map (λ c. c.says.number) cs
says_numbers [] right = refl
says_numbers (c ∷ cs) right =
    let p : c.got.number ≡ c.says.number = ap (λ (a : Answer). a.number) right.0 in
    let q : map (λ c. c.got.number) cs ≡ map (λ c. c.says.number) cs = says_numbers cs right.1 in
    λ i. p i ∷ q i

first_cases : (cs ds : List Case) → AllRight (cs ++ ds) → AllRight cs
first_cases [] ds right = tt
first_cases (c ∷ cs) ds right = (right.0, first_cases cs ds right.1)

pub case_numbers_lem : case_numbers ≡ 0 ∷ 9 ∷ 0 ∷ 17 ∷ 14 ∷ 13 ∷ 18 ∷ 19 ∷ 10 ∷ 0 ∷ 0 ∷ 7 ∷ 12 ∷ 15 ∷ 0 ∷ 19 ∷ []
unfolding computed case_numbers start_accepted child_twice child_dropped focus_dropped child_nowhere node_alone changed_then_dropped dropped_then_changed
    graft_with_child graft_made pane_started pane_without_tree_data graft_twice focus_on_empty_graft graft_moved child_of_itself
case_numbers_lem = says_numbers cases (first_cases cases (traps ++ graft_cases ++ focus_cases ++ row_cases) the_cases)
