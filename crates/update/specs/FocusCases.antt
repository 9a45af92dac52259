-- Worked cases of what is reported of the focus: extra ids, an active descendant, the host. None goes through bytes. S is the start of case 1.
-- Assumes nothing.
use Rattle.std.specs.Prelude.{false, List, [], ◌∷◌, None, Some}
use Rattle.ids.specs.Ids.{ROOT}
use Rattle.record.specs.ExampleNodes.{T, leaf, active, lists, batch}
use Rattle.state.specs.ExampleStates.{id, under, tree, state}
use Rattle.update.specs.Calls.{host_focus}
use Rattle.update.specs.ExampleCalls.{then, accepts, Case, ◌gives◌}
use Rattle.update.specs.Cases.{one, two, three, main, S, three_grafts, with_t}

-- the focus moves from 2 to 3, and neither is updated otherwise: both are extra ids
unfoldable pub focus_moves_on : Case
focus_moves_on = then S (batch 3 []) gives
    accepts
    (record {
      state = state (one ∷ two ∷ three ∷ []) (tree ROOT 1 3 ∷ []);
      added = [];
      updated = [];
      removed = [];
      relinked = [];
      focus_before = id 0 2;
      focus_after = id 0 3;
      extra_before = Some (id 0 2);
      extra_after = Some (id 0 3);
      slice = [];
    })

-- an active descendant may be a graft: the focus answers it, and the chain does not go on
unfoldable pub active_descendant_is_graft : Case
active_descendant_is_graft = then with_t (batch 2 (lists 2 (active 3) ∷ [])) gives
    accepts
    (record {
      state = state (one ∷ under (id 0 1) 0 (id 0 2) (active 3) ∷ three_grafts ∷ under (id 0 3) 0 (id 1 1) leaf ∷ []) (main ∷ tree T 1 1 ∷ []);
      added = [];
      updated = id 0 2 ∷ [];
      removed = [];
      relinked = [];
      focus_before = id 0 2;
      focus_after = id 0 3;
      extra_before = None;
      extra_after = Some (id 0 3);
      slice = 0 ∷ 2 ∷ [];
    })

-- the host loses the focus: no focus after, and the node that had it is an extra id
unfoldable pub host_leaves : Case
host_leaves = host_focus S false gives
    (record {
      number = 0;
      state = record { forest = S.forest; host_focused = false };
      changes = record { added = []; updated = []; removed = []; relinked = [] };
      lengths = record { added = 0; updated = 0; removed = 0; relinked = 0 };
      focus_before = Some (id 0 2);
      focus_after = None;
      extra_before = Some (id 0 2);
      extra_after = None;
      slice = [];
    })

abbrev pub focus_cases : List Case
focus_cases =
    focus_moves_on
    ∷ active_descendant_is_graft
    ∷ host_leaves
    ∷ []
