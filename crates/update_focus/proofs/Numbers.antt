-- Laws of rows 15 to 17 of an outcome, by the searches that the code makes. Assumes nothing.
use mathlib.Core.Bool.{Bool, true, false, not}
use mathlib.Core.List.{List}
use Rattle.std.specs.Prelude.{Option, None, Some}
use mathlib.Core.Path.{◌≡◌, sym, ap, ◌∙◌}
use Prim.Native.Nat.{ℕ, ◌≤◌, ◌<◌}
use native.Mathlib.Decide.{dec_lt}
use native.Mathlib.Omega.{arith}
use borrow.Author.Tests.{lt-ltb, le-ltb, le-leb, lt-leb}
use lib.Dec.{ltb, leb}
use lib.ListN.{length}
use Rattle.base.specs.Tables.{first}
use Rattle.base.specs.Search.{First}
use Rattle.base.proofs.Bytes.{length_list_of}
use Rattle.ids.specs.Ids.{ROOT}
use Rattle.ids.specs.declared.FullNodeId.{FullNodeId}
use Rattle.state.specs.State.{subtree_of}
use Rattle.state.specs.declared.SubtreeState.{SubtreeState}
use Rattle.state.specs.Down.{root_of}
use Rattle.state.specs.Focus.{effective_focus}
use Rattle.state_array.specs.View.{slots_of, node_in, view}
use Rattle.state_lookup.specs.Lookup.{stands_at}
use Rattle.state_lookup.proofs.Found.{present_slot}
use Rattle.update.specs.Numbers.{absent}
use Rattle.update_focus.specs.Numbers.{focus_number}

-- not below is at least
pub not_below : (a b : ℕ) → not (ltb a b) ≡ leb b a
not_below a b = go (dec_lt a b)
  where
    go : Dec (a < b) → not (ltb a b) ≡ leb b a
    go (yes h) = ap not (lt-ltb a b h) ∙ sym (lt-leb b a h)
    go (no h) = let past : b ≤ a = omega arith in ap not (le-ltb a b past) ∙ sym (le-leb b a past)

-- the nodes of the forest that the words of a state show
pub forest_length : (state : List ℕ) → length (view state).forest.nodes ≡ slots_of state
unfolding view
forest_length state = length_list_of (slots_of state) (node_in state)

-- ## Rows 15 to 17

module _ (state : List ℕ) {r : Option FullNodeId} (way : r ≡ effective_focus (view state).forest) where
  -- no focus
  pub row_unfocused : r ≡ None → 15 ≡ focus_number (view state).forest
  unfolding focus_number first
  row_unfocused q = sym (rw (← way, q))

  module _ {x : FullNodeId} (q : r ≡ Some x) {v : Bool} (rootless : v ≡ absent (view state).forest.nodes (root_of (view state).forest)) where
    -- the focus that was found
    focus_is : effective_focus (view state).forest ≡ Some x
    focus_is = sym way ∙ q

    -- ROOT's root is absent
    pub row_rootless : v ≡ true → 16 ≡ focus_number (view state).forest
    unfolding focus_number first
    row_rootless h = sym (rw (focus_is, sym rootless ∙ h))

    -- it is there, and the focus is searched for
    module _ (h : v ≡ false) {k n : ℕ} (found : First (stands_at state x) (slots_of state) k) (count : n ≡ slots_of state) where
      pub row_lost : n ≤ k → 17 ≡ focus_number (view state).forest
      unfolding focus_number first absent
      row_lost l = sym (rw (focus_is, sym rootless ∙ h, present_slot state x k found ∙ le-ltb k (slots_of state) (rw count at l)))

      pub rows_focused : k < n → 0 ≡ focus_number (view state).forest
      unfolding focus_number first absent
      rows_focused l = sym (rw (focus_is, sym rootless ∙ h, present_slot state x k found ∙ lt-ltb k (slots_of state) (rw count at l)))

module _ (state : List ℕ) (r : Option SubtreeState) (ends : r ≡ subtree_of (view state).forest ROOT) where
  -- the root that a search found
  pub root_found : root_of (view state).forest ≡ (elim r as (λ _. Option FullNodeId) [ None ↦ None | Some u ↦ Some u.root ])
  unfolding root_of
  root_found = rw ends

  -- ROOT does not exist
  pub root_unborn : r ≡ None → true ≡ absent (view state).forest.nodes (root_of (view state).forest)
  unfolding absent
  root_unborn q = sym (rw (root_found, q))

  -- its root is searched for
  pub root_searched : {e : SubtreeState} {k n : ℕ} → r ≡ Some e → First (stands_at state e.root) (slots_of state) k → n ≡ slots_of state
      → leb n k ≡ absent (view state).forest.nodes (root_of (view state).forest)
  unfolding absent
  root_searched {e} {k} q h count = sym (rw (root_found, q, count) (ap not (present_slot state e.root k h) ∙ not_below k (slots_of state)))
