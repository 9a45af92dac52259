-- Laws of the children that a source names, and of their run. Assumes nothing.
use Rattle.state_array.specs.declared.ShapeRow.{ShapeRow}
use mathlib.Core.List.{List}
use mathlib.Core.Path.{◌≡◌, refl, sym, ap, ◌∙◌}
use Prim.Native.Nat.{ℕ, ◌+◌, ◌-◌, ◌≤◌, ◌<◌}
use native.Mathlib.Decide.{dec_lt}
use native.Mathlib.Omega.{arith}
use lib.ListN.{length, get_or}
use borrow.Author.Tests.{lt-ltb, le-ltb}
use Rattle.base.proofs.Bytes.{length_list_of, list_of_at}
use Rattle.base.proofs.Loops.{Filling, filling_goes}
use Rattle.ids.specs.declared.NodeId.{NodeId}
use Rattle.record.specs.Batch.{NodeData}
use Rattle.record.specs.Parse.{batch_of}
use Rattle.record_reader.specs.Reader.{listed_at}
use Rattle.state.specs.State.{NodeState}
use Rattle.state_array.specs.Layout.{ENTRIES, child_place}
use Rattle.state_array.specs.View.{id_in, shape_in, children_in, body_in, node_in}
use Rattle.state_array.specs.Stored.{no_node}
use Rattle.state_array.specs.Put.{child_put}
use Rattle.state_array.specs.Filled.{kid_word}
use Rattle.state_array.proofs.Filled.{child_stored}
use Rattle.calls.specs.declared.notes.Scope.{Scope}
use Rattle.calls.specs.Setting.{asked, forest, Batched}
use Rattle.calls.specs.Codes.{SourceOf}
use Rattle.calls.proofs.notes.Places.{forest_node}
use Rattle.update_focus.proofs.Numbers.{forest_length}
use Rattle.calls.proofs.notes.Setting.{batched_at}
use Rattle.calls.specs.Written.{source_children, slot_child}

module _ (state bytes : List ℕ) (source : ℕ) where
  -- a slot's children
  pub slot_children : source < 320 → source_children state bytes source ≡ children_in state (id_in state source).node (shape_in state source)
  unfolding source_children node_in body_in
  slot_children h = rw (lt-ltb source 320 h)

  pub slot_count : {d : ShapeRow} → source < 320 → d ≡ shape_in state source → d.child_count ≡ length (source_children state bytes source)
  unfolding children_in
  slot_count h e = rw (e, slot_children h) (sym (length_list_of (shape_in state source).child_count (slot_child state source)))

  pub slot_child_lem : {x : NodeId} {j : ℕ} → source < 320 → j < length (source_children state bytes source) → x ≡ slot_child state source j → x ≡ get_or (source_children state bytes source) j no_node
  unfolding children_in
  slot_child_lem {j = j} h l e =
      e ∙ rw (slot_children h) (sym (list_of_at (shape_in state source).child_count j (slot_child state source) no_node (rw (← slot_count h refl) at l)))

  -- a listed node's
  listed_children : 320 ≤ source → source_children state bytes source ≡ (listed_at (batch_of bytes) (source - 320)).body.children
  unfolding source_children
  listed_children h = rw (le-ltb source 320 h)

  pub listed_count : {n : ℕ} → 320 ≤ source → n ≡ length (listed_at (batch_of bytes) (source - 320)).body.children → n ≡ length (source_children state bytes source)
  listed_count h e = e ∙ sym (ap length (listed_children h))

  pub listed_child : {x : NodeId} (j : ℕ) → 320 ≤ source → x ≡ get_or (listed_at (batch_of bytes) (source - 320)).body.children j no_node → x ≡ get_or (source_children state bytes source) j no_node
  listed_child j h e = rw (listed_children h) e

  -- the children of the data that comes from it
  pub source_children_lem : (c : Scope) {body : NodeData} → Batched bytes (asked bytes c) → SourceOf (forest state) (asked bytes c) source body → source_children state bytes source ≡ body.children
  unfolding node_in body_in
  source_children_lem c {body} batched from = go (dec_lt source 320)
    where
      go : Dec (source < 320) → source_children state bytes source ≡ body.children
      go (yes h) =
          slot_children h
          ∙ ap (λ (n : NodeState). n.body.children) (sym (forest_node state source (rw (forest_length state) at (from.kept h).0)))
          ∙ ap (λ (d : NodeData). d.children) (from.kept h).1
      go (no h) =
          let past : 320 ≤ source = omega arith in
          listed_children past ∙ rw (batched_at bytes (asked bytes c) batched (source - 320)) (ap (λ (d : NodeData). d.children) (from.read past).1)

-- one child more of a run, as the writer stores it
pub run_goes : (first : ℕ) (kids : List NodeId) {count j : ℕ} {before after t : List ℕ} {x : NodeId} → Filling (child_place first) count count (kid_word kids) before j after
    → j < count → first + length kids ≤ ENTRIES → count ≡ length kids → x ≡ get_or kids j no_node → t ≡ child_put (first + j) x after
    → Filling (child_place first) count count (kid_word kids) before (j + 1) t
run_goes first kids {j = j} {after = after} g l room count x e = rw (child_stored first j kids after (omega arith) x e) (filling_goes g l refl)
