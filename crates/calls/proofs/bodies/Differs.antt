-- Laws of the column DIFFERS: a listed node and the node in its slot, and the children of both. Assumes nothing.
use mathlib.Core.Bool.{Bool, true, false, not}
use mathlib.Core.List.{List}
use mathlib.Core.Path.{◌≡◌, refl, sym, ap, ap₂, ◌∙◌}
use Prim.Native.Nat.{ℕ, ◌+◌, ◌-◌, min, ◌≤◌, ◌<◌}
use native.Mathlib.Omega.{arith}
use lib.Dec.{eqb, ltb}
use lib.ListN.{length, get_or}
use borrow.Author.Tests.{ltb-true, lt-ltb, le-ltb}
use Rattle.base.proofs.Tests.{call_true, call_false}
use Rattle.std.specs.Prelude.{if◌then◌else◌, None, Some}
use Rattle.base.specs.Tests.{◌and◌, same_list}
use Rattle.base.proofs.Bytes.{all_below_at, length_list_of}
use Rattle.base.proofs.Indexed.{all_below_cong, all_indexed}
use Rattle.base.proofs.Compared.{get_d_within}
use Rattle.ids.specs.Ids.{same_node}
use Rattle.ids.specs.declared.FullNodeId.{FullNodeId}
use Rattle.ids.specs.declared.NodeId.{NodeId}
use Rattle.record.specs.Batch.{fields_ok, same_data, named_ids}
use Rattle.record.specs.Layout.{node_count, entry_count}
use Rattle.record.proofs.Parse.{record_facts}
use Rattle.record.specs.Parse.{batch_of}
use Rattle.record_reader.specs.Reader.{no_node, listed_at, field_at, entries_of}
use Rattle.record_reader.proofs.Reader.{node_count_is, field_here, children_count, entries_are, entry_is_child}
use Rattle.state.specs.State.{NodeState, find}
use Rattle.state_array.specs.Layout.{ENTRIES, child}
use Rattle.state_array.specs.Put.{child_entries}
use Rattle.state_array.proofs.Put.{entry_lent}
use Rattle.state_array.specs.View.{id_in, shape_in, children_in, body_in, node_in, slots_of, view}
use Rattle.state_array.specs.Stored.{body_of}
use Rattle.state_array.specs.declared.Body.{Body}
use Rattle.state_array.specs.declared.ShapeRow.{ShapeRow}
use Rattle.update.specs.Words.{here}
use Rattle.calls.specs.Layout.{NAMED, LISTED_SLOTS}
use Rattle.calls.specs.declared.notes.Scope.{Scope}
use Rattle.calls.specs.Setting.{asked, forest, Given}
use Rattle.calls.specs.Codes.{node_at, flag, differs}
use Rattle.calls.specs.Says.{named_word, listed_slot, differ_word, Told, GONE}
use Rattle.calls.proofs.notes.Places.{slot_found, forest_node}
use Rattle.update_focus.proofs.Numbers.{forest_length}
use Rattle.calls.proofs.notes.Setting.{batched_at}
use Rattle.calls.proofs.notes.Told.{batched, few_named}
use Rattle.state_array.proofs.Labels.{are_bytes}
use Rattle.state_array.proofs.Bodies.{are_words}
use Rattle.update_bodies.specs.Bodies.{code_body, same_run, same_body}
use Rattle.update_bodies.proofs.Bodies.{Bodied, code_kept, code_listed}
use Rattle.update_bodies.proofs.Same.{list_run, data_by_children, children_counted, data_differs}

-- ## A node of a state

-- the fields of a kept forest's nodes obey the rules
pub slot_fields : (state bytes : List ℕ) (c : Scope) → Given state bytes c → (slot : ℕ) → slot < slots_of state → fields_ok (node_in state slot).body ≡ true
unfolding view
slot_fields state bytes c g slot h =
    all_below_at (λ j. fields_ok (node_in state j).body) (slots_of state) slot
    (sym (all_indexed (λ (n : NodeState). fields_ok n.body) (slots_of state) (node_in state)) ∙ g.kept.fields) h

-- ## A listed node

module _ {state bytes : List ℕ} {c : Scope} {notes : List ℕ} (told : Told GONE state bytes c notes) {i : ℕ} (h : i < c.listed) where
  in_batch : i < length (batch_of bytes).nodes
  in_batch = rw (← (batched state bytes c told.given).nodes) (omega (arith, told.given.scoped.listed))

  entries_count : length (entries_of bytes) ≡ entry_count bytes
  unfolding entries_of
  entries_count = length_list_of (entry_count bytes) _

  named_count : c.named ≡ entry_count bytes
  named_count =
      told.given.scoped.named ∙ ap (λ ns. length (named_ids ns)) (batched state bytes c told.given).nodes
      ∙ ap length (sym (entries_are bytes told.given.formed)) ∙ entries_count

  -- its children lie within those that are named
  pub run_within : field_at 2 bytes i 32 + length (listed_at (batch_of bytes) i).body.children ≤ c.named
  run_within =
      let within : i < node_count bytes = rw (node_count_is bytes) in_batch in
      let lies = (record_facts bytes told.given.formed i within).children_in in
      omega (arith, named_count, field_here bytes i 2 32 refl within, field_here bytes i 2 34 refl within, children_count bytes i)

  -- and stand there
  child_named : (own k : ℕ) → k < length (listed_at (batch_of bytes) i).body.children
      → get_or notes (NAMED + field_at 2 bytes i 32 + k) own ≡ (get_or (listed_at (batch_of bytes) i).body.children k no_node).0
  unfolding named_word
  child_named own k l =
      let f = field_at 2 bytes i 32 in
      let few = few_named state bytes c told.given in
      let at : NAMED + f + k ≡ NAMED + (f + k) = omega arith in
      let named : f + k < c.named = omega (arith, run_within) in
      get_d_within notes (NAMED + f + k) own 0 (omega (arith, told.long))
      ∙ ap (λ j. get_or notes j 0) at
      ∙ told.written 1 (omega arith) (f + k) named
      ∙ ap (λ ns. (get_or (named_ids ns) (f + k) no_node).0) (batched state bytes c told.given).nodes
      ∙ ap (λ (xs : List NodeId). (get_or xs (f + k) no_node).0) (sym (entries_are bytes told.given.formed))
      ∙ ap (λ (x : NodeId). x.0) (entry_is_child bytes told.given.formed i k in_batch l)

  -- a run of child entries and the run of its children
  children_same : (own : NodeId) (d : ShapeRow) → d.child_count ≡ length (listed_at (batch_of bytes) i).body.children
      → same_run (child_entries state) (min d.first_child ENTRIES) notes (NAMED + field_at 2 bytes i 32) own.0 d.child_count
      ≡ same_list same_node (children_in state own d) (listed_at (batch_of bytes) i).body.children
  unfolding same_run children_in same_node
  children_same own d e =
      let n = d.child_count in
      let kids = (listed_at (batch_of bytes) i).body.children in
      all_below_cong n (λ k. eqb (get_or (child_entries state) (min d.first_child ENTRIES + k) own.0) (get_or notes (NAMED + field_at 2 bytes i 32 + k) own.0))
      (λ k. eqb (child state own.0 (d.first_child + k)) (get_or kids k no_node).0)
      (λ k l. ap₂ eqb (entry_lent state own.0 d.first_child k) (child_named own.0 k (omega arith)))
      ∙ list_run same_node no_node n (λ j. record { 0 = child state own.0 (d.first_child + j) }) kids e

  -- ## The word

  -- it differs if it has a slot, and other data than what stands there
  differ_is : (slot : ℕ) → slot ≡ get_or notes (LISTED_SLOTS + i) 0
      → differ_word state bytes c i ≡ flag (ltb slot (slots_of state) and not (same_data (node_in state slot).body (listed_at (batch_of bytes) i).body))
  unfolding differ_word differs listed_slot ◌and◌
  differ_is slot e = ap (λ (t : Bool). flag t) (ap (λ o. elim o as (λ _. Bool) [ None ↦ false | Some k ↦ not (same_data k.body (listed_at (asked bytes c) i).body) ]) found ∙ sym (go (ltb slot (slots_of state)) refl))
    where
      found : find (here (forest state) (asked bytes c) (listed_at (asked bytes c) i).id) (forest state).nodes ≡ (if ltb slot (slots_of state) then Some (node_at (forest state) slot) else None)
      found =
          slot_found (forest state) (here (forest state) (asked bytes c) (listed_at (asked bytes c) i).id)
          ∙ ap₂ (λ r k. if ltb r k then Some (node_at (forest state) r) else None) (sym (e ∙ told.written 3 (omega arith) i h)) (forest_length state)

      go : (t : Bool) → ltb slot (slots_of state) ≡ t
          → (t and not (same_data (node_in state slot).body (listed_at (batch_of bytes) i).body))
          ≡ (elim (if t then Some (node_at (forest state) slot) else None) as (λ _. Bool) [ None ↦ false | Some k ↦ not (same_data k.body (listed_at (asked bytes c) i).body) ])
      go true q =
          ap₂ (λ d f. not (same_data d f)) (sym (ap (λ (k : NodeState). k.body) (forest_node state slot (ltb-true slot (slots_of state) q))))
          (ap (λ l. l.body) (batched_at bytes (asked bytes c) (batched state bytes c told.given) i))
      go false q = refl

  module _ {n : ℕ} (count : n ≡ slots_of state) where
    -- it has none
    pub differs_new : n ≤ get_or notes (LISTED_SLOTS + i) 0 → 0 ≡ differ_word state bytes c i
    unfolding ◌and◌
    differs_new l = sym (differ_is _ refl ∙ rw (le-ltb _ (slots_of state) (rw count at l)))

    -- it has one, and the data is compared
    module _ (l : get_or notes (LISTED_SLOTS + i) 0 < n) {v : Bool}
        (same : v ≡ same_data (node_in state (get_or notes (LISTED_SLOTS + i) 0)).body (listed_at (batch_of bytes) i).body) where
      compared : differ_word state bytes c i ≡ flag (not v)
      unfolding ◌and◌
      compared = differ_is _ refl ∙ rw (lt-ltb _ (slots_of state) (rw count at l), same)

      pub differs_same : v ≡ true → 0 ≡ differ_word state bytes c i
      differs_same e = sym (compared ∙ ap (λ (t : Bool). flag (not t)) e)

      pub differs_other : v ≡ false → 1 ≡ differ_word state bytes c i
      differs_other e = sym (compared ∙ ap (λ (t : Bool). flag (not t)) e)

  -- ## The data

  module _ {slot : ℕ} (there : slot < slots_of state) {old new : Body}
      (kept : old ≡ code_body state bytes slot) (words : are_words old.floats ≡ true) (read : new ≡ code_body state bytes (320 + i)) (byte : are_bytes bytes ≡ true) where
    old_is : Bodied (node_in state slot).body old
    old_is = code_kept state bytes slot kept words (omega arith) (slot_fields state bytes c told.given slot there)

    new_is : Bodied (listed_at (batch_of bytes) i).body new
    new_is =
        let e : 320 + i - 320 ≡ i = omega arith in
        (rw e at (code_listed state bytes (320 + i) read byte (omega arith) told.given.formed)) in_batch

    images : same_body old new ≡ same_body (body_of (node_in state slot).body) (body_of (listed_at (batch_of bytes) i).body)
    images = ap₂ same_body old_is.is new_is.is

    -- where the images are not the same, it differs
    pub other_data : {v : Bool} → v ≡ same_body old new → v ≡ false → false ≡ same_data (node_in state slot).body (listed_at (batch_of bytes) i).body
    other_data e q =
        sym (data_differs (node_in state slot).body (listed_at (batch_of bytes) i).body old_is.fits new_is.fits (sym images ∙ call_false e q))

    -- where they are, the children decide, as the code finds where they stand
    pub same_data_lem : {v w : Bool} {own : FullNodeId} {d : ShapeRow} {entries : List ℕ} {from to : ℕ} → v ≡ same_body old new → v ≡ true
        → own ≡ id_in state slot → d ≡ shape_in state slot → from ≡ min d.first_child ENTRIES → to ≡ field_at 2 bytes i 32
        → entries ≡ child_entries state → w ≡ same_run entries from notes (NAMED + to) own.node.0 d.child_count
        → w ≡ same_data (node_in state slot).body (listed_at (batch_of bytes) i).body
    unfolding node_in body_in children_in
    same_data_lem e same id shape first start lent run =
        let d = (node_in state slot).body in
        let f = (listed_at (batch_of bytes) i).body in
        let q = sym images ∙ call_true e same in
        let count = sym (length_list_of (shape_in state slot).child_count _) ∙ children_counted d f old_is.fits new_is.fits q in
        run ∙ rw (lent, first, shape, id, start) (children_same (id_in state slot).node (shape_in state slot) count)
        ∙ sym (data_by_children d f old_is.fits new_is.fits q)
