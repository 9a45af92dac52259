-- Laws of trees by a search of the table, 12's second part and rows 15 to 20 of an outcome. Assumes nothing.
use mathlib.Core.Bool.{Bool, true, false, not}
use mathlib.Core.List.{List, [], ◌∷◌}
use mathlib.Core.Path.{◌≡◌, refl, sym, ap, ◌∙◌}
use Prim.Native.Nat.{ℕ, ◌≤◌, ◌<◌}
use borrow.Author.Tests.{lt-ltb, le-ltb}
use lib.Dec.{ltb, leb}
use lib.ListN.{length}
use Rattle.std.specs.Prelude.{if◌then◌else◌, Some}
use Rattle.base.specs.Tests.{is_none, ◌and◌, is_some, same_option}
use Rattle.base.specs.Tables.{Row, row, found, first}
use Rattle.base.specs.Search.{First}
use Rattle.base.proofs.Tests.{call_true}
use Rattle.base.proofs.Tables.{first_holds, first_passes, first_none}
use Rattle.ids.specs.Ids.{ROOT, same_tree}
use Rattle.state.specs.State.{Forest, NodeState, TreeEntry, holder}
use Rattle.state.specs.Down.{root_of}
use Rattle.state.specs.Focus.{effective_focus}
use Rattle.state.specs.Sound.{grafts_differ, sound_shape}
use Rattle.state_array.specs.View.{slots_of, graft_in, tree_in, body_in, node_in, entry_in, trees_of, view}
use Rattle.update.specs.Numbers.{absent}
use Rattle.calls.specs.Setting.{forest}
use Rattle.update_focus.specs.Numbers.{focus_number}
use Rattle.update_focus.proofs.Numbers.{not_below, forest_length}
use Rattle.calls.specs.Rows.{last_number}
use Rattle.calls.specs.Parts.{ungrafted, full}
use Rattle.base.specs.Bytes.{list_of}
use Rattle.base.proofs.Bytes.{length_list_of, map_list_of}
use Rattle.base.proofs.Search.{first_any, first_position}
use Rattle.base.proofs.Lists.{any_map, first_given_some}
use Rattle.record.specs.Batch.{graft?, Batch}
use Rattle.update.specs.Words.{known, tree_number, with_tree_data}
use Rattle.calls.specs.Says.{HolderIs}

module _ (state : List ℕ) (b : Batch) where
  -- ## Row 6

  module _ (r : ℕ) (search : HolderIs state b.tree r) where
    held : is_some (holder (forest state).nodes b.tree) ≡ ltb r (slots_of state)
    unfolding holder view node_in body_in graft_in graft?
    held =
        first_given_some (λ (k : NodeState). same_option same_tree (graft? k.body) (Some b.tree)) (λ (k : NodeState). k.id) (list_of (slots_of state) (node_in state))
        ∙ sym (first_any (λ (k : NodeState). same_option same_tree (graft? k.body) (Some b.tree)) (slots_of state) (node_in state) r search)

    pub ungrafted_is : is_some b.root ≡ true → (not (same_tree b.tree ROOT) and leb (slots_of state) r) ≡ ungrafted (forest state) b
    unfolding ungrafted with_tree_data ◌and◌
    ungrafted_is given = sym (rw (given, held, not_below r (slots_of state)))

  -- ## The number

  module _ (r : ℕ) (search : First (λ k. same_tree b.tree (tree_in state k).id) (trees_of state) r) where
    -- a search of the table says whether the tree has a number
    known_is : known (forest state) b ≡ ltb r (trees_of state)
    unfolding known view entry_in
    known_is =
        any_map (same_tree b.tree) (λ (e : TreeEntry). e.id) (list_of (trees_of state) (entry_in state))
        ∙ sym (first_any (λ (e : TreeEntry). same_tree b.tree e.id) (trees_of state) (entry_in state) r search)

    -- and which it has or would take
    pub number_is : record { 0 = r } ≡ tree_number (forest state) b
    unfolding tree_number view entry_in
    number_is =
        sym
        (rw (map_list_of (λ (e : TreeEntry). e.id) (trees_of state) (entry_in state))
        (ap (λ (k : ℕ). record { 0 = k }) (first_position same_tree b.tree (trees_of state) (λ i. (entry_in state i).id) r search)))

    trees_length : length (forest state).trees ≡ trees_of state
    unfolding view
    trees_length = length_list_of (trees_of state) (entry_in state)

    -- row 8
    pub full_is : (leb (trees_of state) r and leb 32 (trees_of state)) ≡ full (forest state) b
    unfolding full
    full_is = sym (rw (known_is, trees_length, not_below r (trees_of state)))

-- ## The whole

-- rows 15 to 17 as a number found elsewhere
focus_found : (a b c : Bool) (rs : List Row) → first (row 15 a ∷ row 16 b ∷ row 17 c ∷ rs) ≡ first (found (first (row 15 a ∷ row 16 b ∷ row 17 c ∷ [])) ∷ rs)
unfolding first
focus_found true b c rs = refl
focus_found false true c rs = refl
focus_found false false true rs = refl
focus_found false false false rs = refl

pub last_are : (o : Forest) (clash : Bool) → last_number o clash
    ≡ first (row 12 (not (grafts_differ o.nodes)) ∷ found (focus_number o) ∷ row 18 clash ∷ row 19 (not (sound_shape o)) ∷ row 20 (ltb 256 (length o.nodes)) ∷ [])
unfolding last_number focus_number first
last_are o clash = ap (λ (n : ℕ). if not (grafts_differ o.nodes) then 12 else n)
    (focus_found (is_none (effective_focus o)) (absent o.nodes (root_of o)) (absent o.nodes (effective_focus o))
    (row 18 clash ∷ row 19 (not (sound_shape o)) ∷ row 20 (ltb 256 (length o.nodes)) ∷ []))

-- past row 19, as the code asks them
module _ (state : List ℕ) {clash w z : Bool} {k n : ℕ} (twice : w ≡ not (grafts_differ (forest state).nodes)) (once : w ≡ false)
    (focus : k ≡ focus_number (forest state)) (focused : k ≡ 0) (clear : clash ≡ false) (shape : z ≡ sound_shape (forest state)) (good : z ≡ true)
    (count : n ≡ slots_of state) where
  past_shape : last_number (forest state) clash ≡ first (row 20 (ltb 256 n) ∷ [])
  unfolding first
  past_shape = last_are (forest state) clash ∙ rw (sym twice ∙ once, sym focus ∙ focused, clear, call_true shape good, forest_length state ∙ sym count)

  pub last_many : 256 < n → 20 ≡ last_number (forest state) clash
  last_many l = sym (past_shape ∙ first_holds 20 _ _ (lt-ltb 256 n l))

  pub last_clear : n ≤ 256 → 0 ≡ last_number (forest state) clash
  last_clear l = sym (past_shape ∙ first_passes 20 _ _ (le-ltb 256 n l) ∙ first_none)
