-- The one claim over the worked reasons. antt computes each. Assumes nothing.
use mathlib.Core.Path.{◌≡◌, refl}
use lib.Ieee.{of_bits, to_bits, eq}
use Rattle.base.specs.Tests.{◌and◌}
use Rattle.base.specs.Tables.{first}
use Rattle.base.specs.Bytes.{little_endian, le, bytes_of, all_below, zeros, list_of, sum_of}
use Rattle.base.specs.Floats.{zero_bytes, same_value}
use Rattle.ids.specs.Ids.{same_tree, same_index, same_node, same_id, before, id_words}
use Rattle.geometry.specs.Geometry.{rect_test, affine_test, same_rect, same_affine}
use Rattle.record.specs.Batch.{active_descendant?, graft?, bounds?, transform?, fields_ok, same_data, listed_ids, named_ids}
use Rattle.record.specs.Parse.{header_ok, children_before, labels_before, record_ok, well_formed, parse}
use Rattle.record.specs.Encode.{record_bytes, records_bytes, entry_bytes, labels, header_bytes, encode}
use Rattle.state.specs.State.{same_link, parent_of, ids_of, blank, find, present, graft_at, link_at, parent_at, holder, subtree_state, subtree_from, subtree_of}
use Rattle.state.specs.Down.{met_under, children_met, below, below_id, down, root_of, way_down, climb}
use Rattle.state.specs.Focus.{through_grafts, effective_focus, or_active_descendant, state_focus}
use Rattle.state.specs.Sound.{met_once, recorded, graft_is_bare, sound_links, grafts_differ, grafted, all_grafted, root_first, one_id_each, sound_trees}
use Rattle.state.specs.Sound.{ascending, way_ends, sound_shape, focus_present, sound}
use Rattle.update.specs.Words.{listing, known, tree_number, here, mine, old, listed, turn, naming, named, with_tree_data, root_after, is_root, claim}
use Rattle.update.specs.Words.{claimer, claimed_from, lets_go}
use Rattle.update.specs.Pass.{placed_at_turn, namings, events, fault, pass}
use Rattle.update.specs.Gone.{goes_if, fares, replaced, fate_here, fate_elsewhere, fate, gone_within, gone}
use Rattle.update.specs.Outcome.{renewed, write, write_all, under_graft, written, pane_root, cut_lasts, link_is_cut, link_here, link_elsewhere, link_after}
use Rattle.update.specs.Outcome.{relink, subtree_here, subtree_elsewhere, entry_after, entries_after, new_entry, outcome}
use Rattle.update.specs.Reports.{no_changes, added, removed, is_updated, updated, is_relinked, relinked, changes_with, changes_of, lengths_of, change_words}
use Rattle.update.specs.Reports.{slice_after, unless_in, focus_moved, extra_before, extra_after}
use Rattle.update.specs.Numbers.{absent, placeless, nowhere, updated_and_removed, rows_before_pass, rows_after_pass, batch_number}
use Rattle.update.specs.Calls.{refused, accepted, judged, batch_rows, update_number, update_batch, update, seed, without_tree_data, start_number, started}
use Rattle.update.specs.Calls.{start_batch, start, with_host_focus, host_focus}
use Rattle.record_rules.specs.Rules.{rule, header_rules, record_rules, record_offence, total_rules, record_fault}
use Rattle.reasons.specs.Shape.{spot_from, smallest, ids_below, wider, widened, reached, links_below, links_from, met_links, crowded, absent_ids, absence}
use Rattle.reasons.specs.Shape.{is_met_twice, is_never_met, topmost_within, unmet, met_link, disagrees, wrong_link_from, broken_links, graft_twice_from}
use Rattle.reasons.specs.Shape.{tree_twice_from, unrooted_from, broken_trees, disorder_from, broken_shape, broken_state}
use Rattle.reasons_calls.specs.Pass.{repeated_after, namers_among, namers_of, claimer_among, second_claim, placing, pass_reason, pass_fault}
use Rattle.reasons_calls.specs.Pass.{placeless_from, nowhere_under, nowhere_fault}
use Rattle.reasons_calls.specs.Outcome.{way_through, focus_way, last_graft, focus_reason, dropper, dropped_within, removed_reason, claims}
use Rattle.reasons_calls.specs.Outcome.{clash_reason, outcome_reason}
use Rattle.reasons.specs.Reasons.{last_of}
use Rattle.reasons_calls.specs.Explain.{reasons_before_pass, reasons_after_pass, batch_reason, slice_reason, or_accepted, why_update, why_start}
use Rattle.reasons_calls.specs.Cases.{Case, listed_again, tree_not_grafted, tree_not_there, named_again, graft_over_child, root_grafted, claimed_again}
use Rattle.reasons_calls.specs.Cases.{holder_stays, no_place, no_child, focus_on_graft, new_root_gone, gone_with_parent, root_named_in_pane}
use Rattle.reasons_calls.specs.Cases.{listed_after_parent, root_named, root_under_gone, pane_root_absent}

abbrev pub Right : Case → Type 0
Right c = c.got ≡ c.says

-- `unfolding computed` unfolds every definition
computed : Unit {0}
unfolding parent_of of_bits to_bits eq ◌and◌ first little_endian le bytes_of all_below zeros list_of sum_of zero_bytes same_value same_tree same_index same_node
    same_id before rect_test affine_test same_rect same_affine active_descendant? graft? bounds? transform? fields_ok same_data listed_ids named_ids header_ok
    children_before labels_before record_ok well_formed parse record_bytes records_bytes entry_bytes labels header_bytes encode same_link find present graft_at
    link_at parent_at holder subtree_state subtree_from subtree_of met_under children_met below below_id down root_of way_down climb through_grafts
    effective_focus or_active_descendant state_focus met_once recorded graft_is_bare sound_links grafts_differ grafted all_grafted root_first one_id_each
    sound_trees ascending way_ends sound_shape focus_present sound listing known tree_number here mine old listed turn naming named with_tree_data root_after
    is_root claim claimer claimed_from lets_go placed_at_turn namings events fault pass goes_if fares replaced fate_here fate_elsewhere fate gone_within gone
    renewed write write_all under_graft written pane_root cut_lasts link_is_cut link_here link_elsewhere link_after relink subtree_here subtree_elsewhere
    entry_after entries_after new_entry outcome no_changes ids_of added removed is_updated updated is_relinked relinked changes_with changes_of lengths_of
    id_words change_words slice_after unless_in focus_moved extra_before extra_after absent placeless nowhere updated_and_removed rows_before_pass rows_after_pass
    batch_number refused accepted judged batch_rows update_number update_batch update blank seed without_tree_data start_number started start_batch start
    with_host_focus host_focus rule header_rules record_rules record_offence total_rules record_fault spot_from smallest ids_below wider widened reached
    links_below links_from met_links crowded absent_ids absence is_met_twice is_never_met topmost_within unmet met_link disagrees wrong_link_from broken_links
    graft_twice_from tree_twice_from unrooted_from broken_trees disorder_from broken_shape broken_state repeated_after namers_among namers_of claimer_among
    second_claim placing pass_reason pass_fault placeless_from nowhere_under nowhere_fault way_through focus_way last_of last_graft focus_reason dropper
    dropped_within removed_reason claims clash_reason outcome_reason reasons_before_pass reasons_after_pass batch_reason slice_reason or_accepted why_update
    why_start
computed = tt

listed_again_lem : Right listed_again
unfolding computed listed_again
listed_again_lem = refl

tree_not_grafted_lem : Right tree_not_grafted
unfolding computed tree_not_grafted
tree_not_grafted_lem = refl

tree_not_there_lem : Right tree_not_there
unfolding computed tree_not_there
tree_not_there_lem = refl

named_again_lem : Right named_again
unfolding computed named_again
named_again_lem = refl

graft_over_child_lem : Right graft_over_child
unfolding computed graft_over_child
graft_over_child_lem = refl

root_grafted_lem : Right root_grafted
unfolding computed root_grafted
root_grafted_lem = refl

claimed_again_lem : Right claimed_again
unfolding computed claimed_again
claimed_again_lem = refl

holder_stays_lem : Right holder_stays
unfolding computed holder_stays
holder_stays_lem = refl

no_place_lem : Right no_place
unfolding computed no_place
no_place_lem = refl

no_child_lem : Right no_child
unfolding computed no_child
no_child_lem = refl

focus_on_graft_lem : Right focus_on_graft
unfolding computed focus_on_graft
focus_on_graft_lem = refl

new_root_gone_lem : Right new_root_gone
unfolding computed new_root_gone
new_root_gone_lem = refl

gone_with_parent_lem : Right gone_with_parent
unfolding computed gone_with_parent
gone_with_parent_lem = refl

root_named_in_pane_lem : Right root_named_in_pane
unfolding computed root_named_in_pane
root_named_in_pane_lem = refl

listed_after_parent_lem : Right listed_after_parent
unfolding computed listed_after_parent
listed_after_parent_lem = refl

root_named_lem : Right root_named
unfolding computed root_named
root_named_lem = refl

root_under_gone_lem : Right root_under_gone
unfolding computed root_under_gone
root_under_gone_lem = refl

pane_root_absent_lem : Right pane_root_absent
unfolding computed pane_root_absent
pane_root_absent_lem = refl
