-- Laws of the way through the grafts: its steps, its nodes by their places, its words. Assumes nothing.
use mathlib.Core.Bool.{Bool, true, false}
use mathlib.Core.List.{List, [], ◌∷◌, ◌++◌}
use mathlib.Core.Path.{◌≡◌, refl, sym, ap, ◌∙◌}
use Prim.Native.Nat.{ℕ, zero, suc, ◌+◌, ◌*◌, ◌-◌, ◌/◌, ◌%◌, ◌≤◌, ◌<◌}
use native.Mathlib.Nat.{zero-add}
use native.Mathlib.Omega.{arith}
use lib.Dec.{eqb, ltb}
use lib.ListN.{length, get_or, set, take, drop, replicate, length-drop, length-append, length-replicate, length-take, drop_of_length-le}
use lib.Seq.{drop-nil, drop-drop, get_or-take, ext_get_or}
use borrow.Author.Tests.{eq-eqb, ne_eqb}
use Rattle.std.specs.Prelude.{if◌then◌else◌, Option, None, Some, unwrap_or}
use Rattle.base.specs.Tests.{◌and◌}
use Rattle.base.specs.Bytes.{bit}
use Rattle.base.specs.Search.{First}
use Rattle.base.proofs.Cases.{by_test, by_option, by_order}
use Rattle.base.proofs.Bytes.{length_list_of}
use Rattle.base.proofs.Loops.{Filling, filling_goes, filling_ends}
use Rattle.base.specs.Regions.{fill}
use Rattle.base.proofs.Regions.{fill_put, fill_length}
use Rattle.ids.specs.Ids.{ROOT, id_words}
use Rattle.ids.specs.declared.TreeId.{TreeId}
use Rattle.ids.specs.declared.FullNodeId.{FullNodeId}
use Rattle.record.specs.Batch.{graft?}
use Rattle.reasons_calls.specs.Outcome.{way_through, focus_way, last_graft}
use Rattle.reasons.specs.Reasons.{last_of}
use Rattle.reasons_why.specs.Why.{first_id, or_root, way_words}
use Rattle.reasons_why.proofs.Found.{found_none, found_some}
use Rattle.state.specs.State.{Forest, graft_at, subtree_of}
use Rattle.state.specs.declared.SubtreeState.{SubtreeState}
use Rattle.state.specs.Down.{root_of}
use Rattle.state_array.specs.declared.ShapeRow.{ShapeRow}
use Rattle.state_array.specs.View.{shape_in, body_in, node_in, entry_in, slots_of, trees_of, view}
use Rattle.state_lookup.specs.Lookup.{stands_at}
use Rattle.state_lookup.proofs.Found.{find_slot}
use Rattle.update_focus.proofs.Numbers.{root_found}
use Rattle.update_focus.specs.Ways.{focus_of, way_after}

-- ## Steps

-- what x grafts, by its slot and its row
module _ (s : List ℕ) (x : FullNodeId) {i n : ℕ} (search : First (stands_at s x) (slots_of s) i) (count : n ≡ slots_of s) {d : ShapeRow}
    (is : d ≡ shape_in s i) {g : Bool} (test : g ≡ bit 8 d.flags) where
  graft_by : graft_at (view s).forest.nodes x ≡ (if ltb i n and g then Some d.graft else None)
  unfolding graft_at node_in body_in graft? ◌and◌
  graft_by = rw (find_slot s x i search, graft_at, count)
      (by_test (ltb i (slots_of s)) (λ l. rw (l, ← is, ← test)) (λ l. rw l))

  pub grafts_one : ltb i n and g ≡ true → Some d.graft ≡ graft_at (view s).forest.nodes x
  grafts_one e = sym (rw (graft_by, e))

  pub grafts_none : ltb i n and g ≡ false → None ≡ graft_at (view s).forest.nodes x
  grafts_none e = sym (rw (graft_by, e))

-- the ends of a tree
module _ (f : Forest) (t : TreeId) (r : Option SubtreeState) (ends : r ≡ subtree_of f t) where
  focus_is : focus_of f t ≡ (elim r as (λ _. Option FullNodeId) [ None ↦ None | Some u ↦ Some u.focus ])
  unfolding focus_of
  focus_is = rw ends

  pub focus_none : r ≡ None → None ≡ focus_of f t
  focus_none q = sym (rw (focus_is, q))

  pub focus_some : {v : SubtreeState} → r ≡ Some v → Some v.focus ≡ focus_of f t
  focus_some q = sym (rw (focus_is, q))

module _ (s : List ℕ) (r : Option SubtreeState) (ends : r ≡ subtree_of (view s).forest ROOT) where
  pub root_none : r ≡ None → None ≡ root_of (view s).forest
  root_none q = sym (rw (root_found s r ends, q))

  pub root_some : {v : SubtreeState} → r ≡ Some v → Some v.root ≡ root_of (view s).forest
  root_some q = sym (rw (root_found s r ends, q))

-- the node after x
module _ (f : Forest) (x : FullNodeId) {g : Option TreeId} (is : g ≡ graft_at f.nodes x) where
  pub after_none : g ≡ None → None ≡ way_after f x
  unfolding way_after
  after_none e = let over : way_after f x ≡ None = rw (sym is ∙ e, way_after) in sym over

  pub after_some : {t : TreeId} → g ≡ Some t → {r : Option FullNodeId} → r ≡ focus_of f t → r ≡ way_after f x
  unfolding way_after
  after_some {t} e h = let same : focus_of f t ≡ way_after f x = rw (sym is ∙ e, way_after) in h ∙ same

module _ (f : Forest) where
  -- one step, by the node after x
  way_step : (room : ℕ) (x : FullNodeId)
      → way_through (suc room) f x ≡ x ∷ elim (way_after f x) [ None ↦ [] | Some y ↦ way_through room f y ]
  unfolding way_through way_after focus_of
  way_step room x =
      by_option (graft_at f.nodes x) (λ q. rw (q, way_through))
      (λ t q. by_option (subtree_of f t) (λ p. rw (q, way_through, p)) (λ u p. rw (q, way_through, p)))

  -- from ROOT's focus on
  way_from : focus_way f ≡ elim (focus_of f ROOT) [ None ↦ [] | Some x ↦ way_through (suc (length f.trees)) f x ]
  unfolding focus_way focus_of
  way_from = by_option (subtree_of f ROOT) (λ q. rw (q, focus_way)) (λ u q. rw (q, focus_way))

  -- no way is longer than its room
  way_short : (room : ℕ) (x : FullNodeId) → length (way_through room f x) ≤ room
  way_short zero x = unfold way_through in (omega arith)
  way_short (suc room) x =
      by_option (way_after f x) (λ q. rw (way_step room x, q) (omega arith)) (λ y q. rw (way_step room x, q) (omega (arith, way_short room y)))

  focus_way_short : length (focus_way f) ≤ length f.trees + 1
  focus_way_short =
      by_option (focus_of f ROOT) (λ q. rw (way_from, q) (omega arith)) (λ x q. rw (way_from, q) (omega (arith, way_short (suc (length f.trees)) x)))

-- ## Nodes by their places

-- past the last
no_place : (xs : List FullNodeId) (k : ℕ) → length xs ≤ k → first_id (drop k xs) ≡ None
unfolding first_id
no_place xs k h = rw (drop_of_length-le xs h)

-- the last one
last_later : (x y : FullNodeId) (xs : List FullNodeId) → last_of (x ∷ y ∷ xs) ≡ last_of (y ∷ xs)
unfolding last_of
last_later x y xs = by_option (last_of xs) (λ q. rw q) (λ z q. rw q)

last_place : (xs : List FullNodeId) → first_id (drop (length xs - 1) xs) ≡ last_of xs
unfolding first_id last_of
last_place [] = refl
last_place (x ∷ []) = refl
last_place (x ∷ y ∷ xs) =
    let less : suc (suc (length xs)) - 1 ≡ suc (suc (length xs) - 1) = omega arith in
    rw less (last_place (y ∷ xs)) ∙ sym (last_later x y xs)

-- from place i on
module _ (s : List ℕ) where
  -- the way
  abbrev way : List FullNodeId
  way = focus_way (view s).forest

  trees_are : length (view s).forest.trees ≡ trees_of s
  unfolding view
  trees_are = length_list_of (trees_of s) (entry_in s)

  -- node i of the way is `at`; k is the place that is asked for, m the number of trees
  pub record Walking (k m i : ℕ) (at : FullNodeId) : Type 0 where
    pub before : i ≤ k
    pub within : i ≤ m
    pub left : drop i way ≡ way_through (suc (m - i)) (view s).forest at

  -- it starts at ROOT's focus, if there is one
  module _ (k : ℕ) {r : Option FullNodeId} (focus : r ≡ focus_of (view s).forest ROOT) where
    pub walk_nowhere : r ≡ None → None ≡ first_id (drop k way)
    walk_nowhere q =
        sym (no_place way k (rw (way_from (view s).forest, found_none (focus_of (view s).forest ROOT) focus q) (omega arith)))

    pub walk_starts : {x : FullNodeId} {m : ℕ} → r ≡ Some x → m ≡ trees_of s → Walking k m 0 x
    walk_starts {x} {m} q count = record {
      before = omega arith;
      within = omega arith;
      left =
          let all : m - 0 ≡ length (view s).forest.trees = omega (arith, trees_are) in
          way_from (view s).forest ∙ rw (found_some (focus_of (view s).forest ROOT) focus q, all);
    }

  module _ {k m i : ℕ} {at : FullNodeId} (h : Walking k m i at) where
    -- the node at i, and the rest
    rest : drop i way ≡ at ∷ elim (way_after (view s).forest at) [ None ↦ [] | Some y ↦ way_through (m - i) (view s).forest y ]
    rest = h.left ∙ way_step (view s).forest (m - i) at

    -- where nothing is left, node k is none
    over : i < k → length (drop i way) ≤ 1 → None ≡ first_id (drop k way)
    over l e = sym (no_place way k (omega (arith, length-drop i way)))

    -- no room is left
    pub walk_spent : i < k → m ≤ i → None ≡ first_id (drop k way)
    walk_spent l e =
        let none_left : m - i ≡ 0 = omega arith in
        over l (rw h.left (omega (arith, way_short (view s).forest (suc (m - i)) at)))

    module _ {r : Option FullNodeId} (next : r ≡ way_after (view s).forest at) where
      -- no node is left
      pub walk_ends : i < k → r ≡ None → None ≡ first_id (drop k way)
      walk_ends l q = over l (rw (rest, found_none (way_after (view s).forest at) next q) (omega arith))

      -- the next one
      pub walk_goes : {y : FullNodeId} → i < k → i < m → r ≡ Some y → Walking k m (i + 1) y
      walk_goes {y} l e q = record {
        before = omega arith;
        within = omega arith;
        left =
            let less : suc (m - (i + 1)) ≡ m - i = omega arith in
            sym (drop-drop 1 i way) ∙ rw (rest, found_some (way_after (view s).forest at) next q, less);
      }

    -- node k
    pub walk_done : k ≤ i → Some at ≡ first_id (drop k way)
    unfolding first_id
    walk_done l = let same : i ≡ k = omega (arith, h.before) in sym (rw (← same, rest))

  -- ## Its length

  -- each of the first k places has a node
  pub record Counting (k : ℕ) : Type 0 where
    pub few : k ≤ 34
    pub within : k ≤ length way

  pub counting_starts : Counting 0
  counting_starts = record { few = omega arith; within = omega arith }

  module _ {k : ℕ} (h : Counting k) where
    module _ {r : Option FullNodeId} (at : r ≡ first_id (drop k way)) where
      -- one more
      pub counting_goes : {x : FullNodeId} → r ≡ Some x → k < 34 → Counting (k + 1)
      counting_goes {x} q l =
          by_order k (length way) (λ m. record { few = omega arith; within = omega arith })
          (λ m. absurd (no_some (sym (no_place way k m) ∙ found_some (first_id (drop k way)) at q)))
        where
          no_some : ◌≡◌ {A = Option FullNodeId} None (Some x) → ⊥
          no_some e = let z : ◌≡◌ {A = ℕ} 0 1 = cc in omega arith

      -- place k has none
      pub counting_ends : r ≡ None → k ≡ length way
      unfolding first_id
      counting_ends q = go (drop k way) refl (found_none (first_id (drop k way)) at q)
        where
          go : (xs : List FullNodeId) → drop k way ≡ xs → first_id xs ≡ None → k ≡ length way
          go [] e p = omega (arith, length-drop k way, ap length e, h.within)
          go (x ∷ xs) e p = absurd (let z : ◌≡◌ {A = ℕ} 0 1 = cc in omega arith)

    -- no way is longer
    pub counting_full : 34 ≤ k → k ≡ length way
    counting_full l = omega (arith, focus_way_short (view s).forest, trees_are, h.within)

  -- ## Its last node

  pub last_none : {n : ℕ} → n ≡ length way → n < 1 → None ≡ last_of way
  last_none e l = sym (go way (omega arith))
    where
      go : (xs : List FullNodeId) → length xs < 1 → last_of xs ≡ None
      go [] h = unfold last_of in refl
      go (x ∷ xs) h = absurd (omega arith)

  pub last_some : {n : ℕ} {r : Option FullNodeId} → n ≡ length way → r ≡ first_id (drop (n - 1) way) → r ≡ last_of way
  last_some e h = h ∙ rw e (last_place way)

  -- the tree that it grafts
  module _ {r : Option FullNodeId} (last : r ≡ last_of way) where
    pub graft_nowhere : r ≡ None → ROOT ≡ or_root (last_graft (view s).forest way)
    unfolding last_graft or_root
    graft_nowhere q = sym (rw (found_none (last_of way) last q, last_graft))

    pub graft_last : {x : FullNodeId} {g : Option TreeId} {t : TreeId} → r ≡ Some x → g ≡ graft_at (view s).forest.nodes x
        → t ≡ unwrap_or g ROOT → t ≡ or_root (last_graft (view s).forest way)
    unfolding last_graft or_root
    graft_last {x} q is h =
        h ∙ ap (λ o. unwrap_or o ROOT) is
        ∙ by_option (graft_at (view s).forest.nodes x) (λ p. rw (found_some (last_of way) last q, last_graft, p))
        (λ t p. rw (found_some (last_of way) last q, last_graft, p))

-- ## Its words

-- word j of some ids, the tree or the node of id k
words_by : (xs : List FullNodeId) (j k side : ℕ) → j ≡ 2 * k + side → side < 2
    → get_or (id_words xs) j 0 ≡ elim (first_id (drop k xs)) [ None ↦ 0 | Some x ↦ if eqb side 0 then x.tree.0 else x.node.0 ]
unfolding id_words first_id
words_by [] j k side e l = rw (drop-nil {A = FullNodeId} k)
words_by (x ∷ xs) zero zero side e l = let z : side ≡ 0 = omega arith in rw z
words_by (x ∷ xs) zero (suc k) side e l = absurd (omega arith)
words_by (x ∷ xs) (suc zero) zero side e l = let z : side ≡ 1 = omega arith in rw z
words_by (x ∷ xs) (suc zero) (suc k) side e l = absurd (omega arith)
words_by (x ∷ xs) (suc (suc j)) zero side e l = absurd (omega arith)
words_by (x ∷ xs) (suc (suc j)) (suc k) side e l = words_by xs j k side (omega arith) l

words_at : (xs : List FullNodeId) (j : ℕ)
    → get_or (id_words xs) j 0 ≡ elim (first_id (drop (j / 2) xs)) [ None ↦ 0 | Some x ↦ if eqb (j % 2) 0 then x.tree.0 else x.node.0 ]
words_at xs j = words_by xs j (j / 2) (j % 2) (omega arith) (omega arith)

module _ (xs : List FullNodeId) (j : ℕ) {r : Option FullNodeId} (at : r ≡ first_id (drop (j / 2) xs)) where
  pub word_none : r ≡ None → 0 ≡ get_or (id_words xs) j 0
  word_none q = sym (words_at xs j ∙ rw (found_none (first_id (drop (j / 2) xs)) at q))

  module _ {x : FullNodeId} (q : r ≡ Some x) where
    pub word_tree : j % 2 ≡ 0 → x.tree.0 ≡ get_or (id_words xs) j 0
    word_tree e = sym (words_at xs j ∙ rw (found_some (first_id (drop (j / 2) xs)) at q, eq-eqb (j % 2) 0 e))

    pub word_node : (j % 2 ≡ 0 → ⊥) → x.node.0 ≡ get_or (id_words xs) j 0
    word_node e = sym (words_at xs j ∙ rw (found_some (first_id (drop (j / 2) xs)) at q, ne_eqb (j % 2) 0 e))

-- zeros after some words
zero_at : (n i : ℕ) → get_or {A = ℕ} (replicate n 0) i 0 ≡ 0
zero_at zero i = refl
zero_at (suc n) zero = refl
zero_at (suc n) (suc i) = zero_at n i

padded : (ws : List ℕ) (n i : ℕ) → get_or (ws ++ replicate n 0) i 0 ≡ get_or ws i 0
padded [] n i = zero_at n i
padded (w ∷ ws) n zero = refl
padded (w ∷ ws) n (suc i) = padded ws n i

-- the words of the array, as a loop stores them
pub words_go : {most j v : ℕ} {word : ℕ → ℕ} {before after : List ℕ} → Filling 0 most most word before j after → j < most → v ≡ word j
    → Filling 0 most most word before (j + 1) (set after j v)
words_go g h e = rw zero-add at (filling_goes g h e)

pub words_are : (xs : List FullNodeId) {most j : ℕ} {before after : List ℕ} → Filling 0 most most (λ k. get_or (id_words xs) k 0) before j after
    → most ≤ j → most ≡ 66 → length before ≡ 66 → after ≡ way_words xs
unfolding way_words
words_are xs {before = before} {after = after} g h e long =
    ext_get_or 0 after (way_words xs) (size ∙ sym sized)
    (λ i l. stored i (rw size at l) ∙ sym (get_or-take 66 (id_words xs ++ replicate 66 0) i 0 (rw size at l) ∙ padded (id_words xs) 66 i))
  where
    is : after ≡ fill 0 66 (λ k. get_or (id_words xs) k 0) before
    is = filling_ends g h ∙ rw e

    size : length after ≡ 66
    size = ap length is ∙ fill_length 0 (λ k. get_or (id_words xs) k 0) 66 before ∙ long

    sized : length (take 66 (id_words xs ++ replicate 66 0)) ≡ 66
    sized = length-take 66 (id_words xs ++ replicate 66 0) ∙ rw (length-append (id_words xs) (replicate 66 0), length-replicate {A = ℕ} 66 0) (omega arith)

    stored : (i : ℕ) → i < 66 → get_or after i 0 ≡ get_or (id_words xs) i 0
    stored i l = ap (λ s. get_or s i 0) is ∙ rw zero-add at (fill_put 0 (λ k. get_or (id_words xs) k 0) 66 before (omega (arith, long)) i l)
