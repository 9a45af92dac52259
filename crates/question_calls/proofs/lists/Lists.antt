-- Laws of runs and buffers. Assumes nothing.
use mathlib.Core.List.{List, [], ◌∷◌}
use Rattle.std.specs.Prelude.{Some, slice_get}
use mathlib.Core.Path.{◌≡◌, refl, sym, ap, ◌∙◌, subst}
use Prim.Native.Nat.{ℕ, ◌+◌, ◌*◌, ◌≤◌, ◌<◌}
use native.Mathlib.Numerals.{add-one}
use native.Mathlib.Omega.{arith}
use lib.ListN.{length, get_or, set, take, drop, length-append, take-append-drop}
use lib.Seq.{take_all}
use borrow.Author.Tests.{leb-true}
use Rattle.ids.specs.Ids.{id_words}
use Rattle.ids.specs.declared.FullNodeId.{FullNodeId}
use Rattle.ids.proofs.Ids.{id_words_length}
use Rattle.state.specs.State.{Forest, link_at, parent_at}
use Rattle.state.proofs.Sound.{sound_parts}
use Rattle.state_array.specs.declared.LinkRow.{LinkRow}
use Rattle.state_array.specs.View.{id_in, link_in, slots_of, view}
use Rattle.questions.specs.declared.Side.{Side}
use Rattle.questions.specs.Links.{child_ids, siblings}
use Rattle.questions.specs.Ahead.{count_beside, place_beside}
use Rattle.questions.proofs.Links.{link_child}
use Rattle.questions.proofs.Ahead.{siblings_of, siblings_none}
use Rattle.questions.proofs.Few.{siblings_few, kids_few}
use Rattle.questions.proofs.Places.{beside_length, beside_at, take_more}
use Rattle.questions.proofs.Slices.{ids_none, ids_length, ids_more}
use Rattle.question_calls.specs.Slots.{Sound, slot_id}
use Rattle.question_calls.proofs.links.Slots.{slot_id_at, slot_shape, slot_present}
use Rattle.question_calls.proofs.links.Links.{link_none, link_some}
use Rattle.question_calls.specs.declared.lists.Run.{Run}
use Rattle.question_calls.specs.Lists.{InRun, in_run, RunOf, Collected}

-- ## A sound state has few nodes

pub few_nodes : (s : List ℕ) → Sound s → length (view s).forest.nodes ≤ 256
few_nodes s h = leb-true (length (view s).forest.nodes) 256 (sound_parts (view s).forest h).few_nodes

-- ## Runs of siblings

module _ (s : List ℕ) (h : Sound s) (i : ℕ) (there : i < slots_of s) (side : Side) where
  abbrev f : Forest
  f = (view s).forest

  abbrev x : FullNodeId
  x = id_in s i

  abbrev aside : List FullNodeId
  aside = siblings side f x

  aside_few : length aside ≤ 256
  aside_few = omega (arith, few_nodes s h, siblings_few side f (slot_shape s h) x (slot_present s h i there))

  module _ (l : LinkRow) (read : l ≡ link_in s i) where
    -- a node without a link
    pub run_none : (r : Run) → l.linked ≡ 0 → r.count ≡ 0 → RunOf s side aside r
    run_none r e z =
        let none-aside = siblings_none side f x (link_none s h i there l read e) in
        record {
          count_is = z ∙ sym (ap length none-aside);
          few = omega arith;
          stands = λ k m. absurd (omega arith);
          each = λ k m. absurd (omega arith);
        }

    module _ (e : l.linked ≡ 0 → ⊥) (p : ℕ) (up : slot_id s p ≡ parent_at f.nodes x) where
      at : (p < slots_of s) × (id_in s p ≡ l.parent)
      unfolding parent_at
      at = slot_id_at s p l.parent (up ∙ rw (link_some s h i there l read e, parent_at) refl)

      linked : link_at f.nodes x ≡ Some (record { parent = id_in s p; index = l.index })
      linked = rw at.1 (link_some s h i there l read e)

      -- the parent has a slot, and the node a place among its children
      pub run_parent : p < slots_of s
      run_parent = at.0

      pub run_index : l.index < length (child_ids f (id_in s p))
      run_index = (link_child f (slot_shape s h) x _ x linked).0

      pub run_linked : (r : Run) → r.parent ≡ p → r.index ≡ l.index → r.count ≡ count_beside side l.index (length (child_ids f (id_in s p)))
          → RunOf s side aside r
      run_linked r pq iq cq =
          let kids = child_ids f (id_in s p) in
          let same = siblings_of side f x _ linked in
          let all : r.count ≡ length aside = cq ∙ sym (beside_length side l.index kids run_index) ∙ sym (ap length same) in
          record {
            count_is = all;
            few = omega (arith, aside_few);
            stands = λ k m. let o = rw cq at m in record { parent = rw pq run_parent; index = rw (pq, iq) run_index; within = rw (pq, iq) o };
            each = λ k m.
                let o = rw cq at m in
                rw (pq, iq) (ap (λ (ys : List FullNodeId). slice_get ys k) same ∙ (beside_at side l.index k kids (id_in s p) run_index o).1);
          }

      -- the same by the number of the parent's children
      module _ {k : ℕ} (children : k ≡ length (child_ids f (id_in s p))) where
        pub run_within : l.index < k
        run_within = rw children run_index

        pub run_counted : {n : ℕ} → n ≡ count_beside side l.index k → RunOf s side aside (record { parent = p; index = l.index; count = n })
        run_counted e = run_linked _ refl refl (e ∙ ap (count_beside side l.index) children)

module _ (s : List ℕ) (side : Side) (r : Run) (k : ℕ) (b : InRun s side r k) where
  abbrev kids : List FullNodeId
  kids = child_ids (view s).forest (id_in s r.parent)

  -- its place is a small number
  pub run_room : Sound s → place_beside side r.index k < 256
  run_room h =
      omega (
        arith,
        (beside_at side r.index k kids (id_in s r.parent) b.index b.within).0,
        kids_few (view s).forest (slot_shape s h) (id_in s r.parent) (slot_present s h r.parent b.parent),
        few_nodes s h,
      )

  -- sibling k of a run is the child at its place
  pub run_at : (y : FullNodeId) (j : ℕ) → j ≡ place_beside side r.index k → (j < length kids → y ≡ get_or kids j (id_in s r.parent)) → y ≡ in_run s side r k
  run_at y j e is = rw (← e) (is (rw e (beside_at side r.index k kids (id_in s r.parent) b.index b.within).0))

-- ## Lists in a buffer

module _ (xs : List FullNodeId) (before : List ℕ) where
  -- the first k ids of the list are collected
  abbrev pub CollectedTo : ℕ → List ℕ → Type 0
  CollectedTo k now = Collected (take k xs) before now k

  pub collected_none : CollectedTo 0 before
  collected_none = record { count_is = refl; few = omega arith; words_are = sym (ids_none before) }

  module _ (few : length xs ≤ 256) (room : 2 * length xs ≤ length before) (k : ℕ) (now : List ℕ) (h : CollectedTo k now) where
    pub collected_length : length now ≡ length before
    collected_length =
        let within = ap length (take-append-drop k xs) in
        ap length h.words_are ∙ ids_length (id_words (take k xs)) before (omega (arith, id_words_length (take k xs), within, length-append (take k xs) (drop k xs)))

    module _ (y : FullNodeId) (q : slice_get xs k ≡ Some y) where
      -- there is room for one more
      pub collected_room : 2 * k + 2 ≤ length now
      collected_room = omega (arith, collected_length, (take_more xs k y q).1)

      pub collected_more : CollectedTo (k + 1) (set (set now (2 * k) y.tree.0) (2 * k + 1) y.node.0)
      collected_more =
          let z = take_more xs k y q in
          let more = z.0 in
          rw (add-one k, more) (record {
            count_is = sym (omega (arith, length-append (take k xs) (y ∷ []), h.count_is));
            few = omega (arith, z.1);
            words_are = ap (λ (l : List ℕ). set (set l (2 * k) y.tree.0) (2 * k + 1) y.node.0) h.words_are ∙ ids_more (take k xs) y before k h.count_is (omega (arith, z.1));
          })

    pub collected_all : length xs ≤ k → Collected xs before now k
    collected_all l = subst (λ (ys : List FullNodeId). Collected ys before now k) (take_all k xs l) h
