-- Laws of the steps: what a step does, from what the columns and its searches answer. Assumes nothing.
use mathlib.Core.Bool.{Bool, true, false, ◌||◌, false≢true}
use mathlib.Core.List.{List, [], ◌∷◌, ◌++◌}
use mathlib.Core.Path.{◌≡◌, refl, sym, ap, ◌∙◌}
use Prim.Native.Nat.{ℕ, ◌+◌, ◌≤◌, ◌<◌}
use native.Mathlib.Decide.{dec_lt}
use native.Mathlib.Omega.{arith}
use lib.Dec.{ltb, leb}
use lib.ListN.{length, get_or, take}
use borrow.Author.Tests.{le-ltb, le-leb, lt-leb}
use Rattle.std.specs.Prelude.{if◌then◌else◌, Option, None, Some, IfSome}
use Rattle.base.specs.Tests.{has, position}
use Rattle.base.specs.Search.{First}
use Rattle.ids.specs.Ids.{same_node}
use Rattle.ids.proofs.Ids.{same_node→≡}
use Rattle.ids.specs.declared.NodeId.{NodeId}
use Rattle.record.specs.Batch.{NodeData, Listed, Batch, named_ids}
use Rattle.record_reader.specs.Reader.{no_node, listed_at}
use Rattle.state.specs.State.{Forest}
use Rattle.state_array.specs.View.{slots_of}
use Rattle.update.specs.Words.{listing, here, turn}
use Rattle.update.specs.Pass.{Event, places, placed_at_turn}
use Rattle.reasons_calls.specs.Pass.{pass_reason}
use Rattle.reasons_calls.proofs.Steps.{names_twice, names_once}
use Rattle.calls.specs.Layout.{NAMED, ENDS, NAMED_SLOTS, NAMINGS}
use Rattle.calls.specs.declared.notes.Scope.{Scope}
use Rattle.calls.specs.Setting.{asked, forest}
use Rattle.calls.specs.Says.{PositionIn}
use Rattle.calls.proofs.notes.Marks.{turn_first}
use Rattle.calls.proofs.notes.Told.{few_listed, few_named}
use Rattle.calls.specs.Causes.{cause_reason}
use Rattle.calls.specs.Steps.{entries_before, At, Standing, rest, seen, placing_if, waits, Moves}
use Rattle.calls.proofs.pass.Going.{entries_before_within, entries_before_more, rest_name, rest_own}
use Rattle.calls.proofs.pass.Faults.{placing_here, seen_has, seen_more}
use Rattle.calls.proofs.pass.Read.{has_before, first_place, listing_found, listing_missing, due_reached, due_is, end_word_lem, named_word_lem, named_old, named_mark, named_search}
use Rattle.calls.proofs.pass.Rows.{first_listed, first_id, first_unplaced, first_at, first_found}

-- ## A child that waits

module _ (s : Forest) (b : Batch) (earlier : List Listed) (c : NodeId) where
  -- a child that is placed at its turn
  waits_placed : placed_at_turn s b c ≡ true → waits s b earlier c ≡ []
  unfolding waits
  waits_placed e = go (listing earlier c)
    where
      go : (o : Option NodeData)
          → ◌≡◌ {A = List Event} (elim o [ None ↦ [] | Some d ↦ if placed_at_turn s b c then [] else places (record { id = c; body = d }) ∷ [] ]) []
      go None = refl
      go (Some d) = rw e

  -- one that was not listed before
  waits_missing : listing earlier c ≡ None → waits s b earlier c ≡ []
  unfolding waits
  waits_missing e = rw (e, waits)

  -- one that waits
  waits_here : (d : NodeData) → listing earlier c ≡ Some d → placed_at_turn s b c ≡ false → waits s b earlier c ≡ places (record { id = c; body = d }) ∷ []
  unfolding waits
  waits_here d e p = rw (e, p, waits)

-- ## What a step does

module _ {s : Forest} {b : Batch} {i j : ℕ} (at : At b i j) (h : i < length b.nodes) where
  -- a child is named
  name_moves : (twice : Bool) (r : Option ℕ) → j < entries_before b (i + 1) → IfSome r (λ p. p < length b.nodes)
      → twice ≡ has same_node (take j (named_ids b.nodes)) (get_or (named_ids b.nodes) j no_node)
      → (twice ≡ false → placing_if b r ≡ waits s b (take i b.nodes) (get_or (named_ids b.nodes) j no_node))
      → Moves s b i j (record { i = i; j = j + 1; twice = twice; at = r })
  unfolding cause_reason
  name_moves twice r entry short before goes =
      let all = named_ids b.nodes in
      let c = get_or all j no_node in
      let few : j < length all = omega (arith, entries_before_within b (i + 1)) in
      let same : has same_node (seen all j) c ≡ twice = seen_has all j c (omega arith) ∙ sym before in
      let after = waits s b (take i b.nodes) c ++ rest s b i (j + 1) in
      let left = rest_name s b i j at h entry in
      record {
        there = record { begun = omega (arith, at.begun); within = λ _. omega arith };
        listed = omega arith;
        at_within = short;
        one_more = omega arith;
        entry = λ _. few;
        twice = λ placed q. rw left (names_twice s b (seen all j) placed after c (same ∙ q));
        once = λ placed q. rw (left, seen_more all j, goes q) (names_once s b (seen all j) placed after c (same ∙ q));
      }

  -- the node's own turn
  turn_moves : (r : Option ℕ) → j ≡ entries_before b (i + 1) → IfSome r (λ p. p < length b.nodes)
      → placing_if b r ≡ (if placed_at_turn s b (listed_at b i).id || has same_node (take j (named_ids b.nodes)) (listed_at b i).id then places (listed_at b i) ∷ [] else [])
      → Moves s b i j (record { i = i + 1; j = j; twice = false; at = r })
  turn_moves r last short e =
      let own : placing_if b r ++ rest s b (i + 1) j ≡ rest s b i j = rw e (sym (rest_own s b i j at h last)) in
      record {
        there = record { begun = omega arith; within = λ n. omega (arith, entries_before_more b (i + 1) n) };
        listed = omega arith;
        at_within = short;
        one_more = omega arith;
        entry = λ q. absurd (false≢true q);
        twice = λ placed q. absurd (false≢true q);
        once = λ placed q. ap (pass_reason s b (seen (named_ids b.nodes) j) placed) (sym own);
      }

-- ## As the code finds it

module _ {state bytes : List ℕ} {c : Scope} {notes due firsts : List ℕ} {i j : ℕ} (q : Standing state bytes c notes due firsts i j) where
  -- the node is listed
  is_listed : i < length (asked bytes c).nodes
  is_listed = omega (arith, q.listed, q.prepared.told.given.scoped.listed)

  -- at most as many children are named as there are
  entry_within : j ≤ c.named
  entry_within = omega (arith, q.here.within is_listed, entries_before_within (asked bytes c) (i + 1), q.prepared.told.given.scoped.named)

  pub entry_limit : j ≤ 256
  entry_limit = omega (arith, entry_within, few_named state bytes c q.prepared.told.given)

  -- it has a place
  pub node_room : i < 64
  node_room = omega (arith, q.listed, few_listed state bytes c q.prepared.told.given)

  -- where the node's children end
  pub end_here : get_or notes (ENDS + i) 0 ≡ entries_before (asked bytes c) (i + 1)
  end_here = end_word_lem q.prepared.told i q.listed

  -- the node's own turn: it is placed
  module _ (past : get_or notes (ENDS + i) 0 ≤ j) where
    last_entry : j ≡ entries_before (asked bytes c) (i + 1)
    last_entry = omega (arith, end_here, q.here.within is_listed)

    turn_test : leb (get_or due i 0) j
        ≡ (placed_at_turn (forest state) (asked bytes c) (listed_at (asked bytes c) i).id
        || has same_node (take j (named_ids (asked bytes c).nodes)) (listed_at (asked bytes c) i).id)
    turn_test =
        ap (λ d. leb d j) (q.prepared.dues i is_listed)
        ∙ due_reached (forest state) (asked bytes c) i j (omega (arith, entry_within, q.prepared.told.given.scoped.named))

    pub moves_turn : get_or due i 0 ≤ j → Moves (forest state) (asked bytes c) i j (record { i = i + 1; j = j; twice = false; at = Some i })
    moves_turn l =
        turn_moves q.here is_listed (Some i) last_entry is_listed
        (placing_here (asked bytes c) i is_listed ∙ rw (sym turn_test ∙ le-leb (get_or due i 0) j l))

    -- or waits
    pub moves_wait : j < get_or due i 0 → Moves (forest state) (asked bytes c) i j (record { i = i + 1; j = j; twice = false; at = None })
    moves_wait l =
        turn_moves q.here is_listed None last_entry tt (rw (sym turn_test ∙ lt-leb (get_or due i 0) j l))

  -- a child is named
  module _ (entry : j < entries_before (asked bytes c) (i + 1)) where
    -- it is one of all
    is_named : j < c.named
    is_named = omega (arith, entries_before_within (asked bytes c) (i + 1), q.prepared.told.given.scoped.named)

    -- and none is placed
    name_only : (twice : Bool) → twice ≡ has same_node (take j (named_ids (asked bytes c).nodes)) (get_or (named_ids (asked bytes c).nodes) j no_node)
        → (twice ≡ false → waits (forest state) (asked bytes c) (take i (asked bytes c).nodes) (get_or (named_ids (asked bytes c).nodes) j no_node) ≡ [])
        → Moves (forest state) (asked bytes c) i j (record { i = i; j = j + 1; twice = twice; at = None })
    name_only twice e w = name_moves q.here is_listed twice None entry tt e (λ o. sym (w o))

    -- an old one
    pub moves_old : (n : ℕ) → n ≡ slots_of state → get_or notes (NAMED_SLOTS + j) 0 < n
        → Moves (forest state) (asked bytes c) i j (record { i = i; j = j + 1; twice = leb (get_or notes (NAMINGS + get_or notes (NAMED_SLOTS + j) 0) 0) j; at = None })
    unfolding placed_at_turn
    moves_old n e l =
        let s = forest state in
        let b = asked bytes c in
        let x = get_or (named_ids b.nodes) j no_node in
        let is_old = named_old q.prepared.told j n is_named e l in
        name_only _ (named_mark q.prepared.told j is_named (omega arith)) (λ _. waits_placed s b (take i b.nodes) x (rw is_old))

    -- one that is the first to name a listed node
    module _ (l : get_or firsts (j + 1) 0 < 64) where
      named_first : false ≡ has same_node (take j (named_ids (asked bytes c).nodes)) (get_or (named_ids (asked bytes c).nodes) j no_node)
      named_first =
          let all = named_ids (asked bytes c).nodes in
          sym
          (has_before same_node (get_or all j no_node) all j (omega (arith, is_named, q.prepared.told.given.scoped.named))
          ∙ le-ltb _ j (omega (arith, first_at q.prepared j is_named l)))

      -- or a later one
      pub moves_later : i ≤ get_or firsts (j + 1) 0 → Moves (forest state) (asked bytes c) i j (record { i = i; j = j + 1; twice = false; at = None })
      unfolding listed_at
      moves_later m =
          name_only false named_first (λ _. waits_missing (forest state) (asked bytes c) (take i (asked bytes c).nodes) _
          (listing_missing (asked bytes c).nodes _ i (get_or firsts (j + 1) 0) (omega (arith, is_listed)) (first_found q.prepared j is_named l) m))

    -- an earlier one
    pub moves_waiting : get_or firsts (j + 1) 0 < i → Moves (forest state) (asked bytes c) i j (record { i = i; j = j + 1; twice = false; at = Some (get_or firsts (j + 1) 0) })
    unfolding listed_at
    moves_waiting m =
        let l : get_or firsts (j + 1) 0 < 64 = omega (arith, node_room) in
        name_moves q.here is_listed false (Some (get_or firsts (j + 1) 0)) entry (first_listed q.prepared j is_named l) (named_first l)
        (λ _. placing_here (asked bytes c) (get_or firsts (j + 1) 0) (first_listed q.prepared j is_named l)
        ∙ sym
        (waits_here (forest state) (asked bytes c) (take i (asked bytes c).nodes) _ _
        (listing_found (asked bytes c).nodes _ i (get_or firsts (j + 1) 0) (omega (arith, is_listed)) (first_found q.prepared j is_named l) m)
        (first_unplaced q.prepared j is_named l)
        ∙ rw (first_id q.prepared j is_named l)))

    -- any other: it was named before, or is not listed, or is placed at its turn
    module _ (l : 64 ≤ get_or firsts (j + 1) 0) where
      -- a listed node that waits has its place
      placed_else : has same_node (take j (named_ids (asked bytes c).nodes)) (get_or (named_ids (asked bytes c).nodes) j no_node) ≡ false → (p : ℕ)
          → p < length (asked bytes c).nodes → get_or (named_ids (asked bytes c).nodes) j no_node ≡ (listed_at (asked bytes c) p).id
          → placed_at_turn (forest state) (asked bytes c) (get_or (named_ids (asked bytes c).nodes) j no_node) ≡ true
      placed_else e p m id = go (placed_at_turn s b x) refl
        where
          s : Forest
          s = forest state

          b : Batch
          b = asked bytes c

          x : NodeId
          x = get_or (named_ids b.nodes) j no_node

          go : (t : Bool) → placed_at_turn s b x ≡ t → t ≡ true
          go true o = refl
          go false o =
              let here_named : position same_node (named_ids b.nodes) (listed_at b p).id ≡ j =
              ap (position same_node (named_ids b.nodes)) (sym id) ∙ first_place (named_ids b.nodes) j (omega (arith, is_named, q.prepared.told.given.scoped.named)) e in
              let due-here : get_or due p 0 ≡ j + 1 = q.prepared.dues p m ∙ due_is s b p j (ap (placed_at_turn s b) (sym id) ∙ o) here_named in
              let place = rw due-here at (q.prepared.firsts_are.each p (omega (arith, q.prepared.told.given.scoped.listed))) in
              absurd (omega arith)

      pub moves_other : (r : ℕ) → PositionIn notes NAMED j (get_or notes (NAMED + j) 0) r
          → Moves (forest state) (asked bytes c) i j (record { i = i; j = j + 1; twice = ltb r j; at = None })
      unfolding here listed_at
      moves_other r g = name_only (ltb r j) before (λ o. go (sym before ∙ o) (dec_lt p (length b.nodes)))
        where
          s : Forest
          s = forest state

          b : Batch
          b = asked bytes c

          x : NodeId
          x = get_or (named_ids b.nodes) j no_node

          before : ltb r j ≡ has same_node (take j (named_ids b.nodes)) x
          before =
              named_search q.prepared.told j (get_or notes (NAMED + j) 0) r entry_within g
              ∙ ap (λ w. has same_node (take j (named_ids b.nodes)) (record { 0 = w })) (named_word_lem q.prepared.told j is_named)

          p : ℕ
          p = turn s b (here s b x)

          among : First (λ m. same_node x (listed_at b m).id) (length b.nodes) p
          among = turn_first s b (here s b x)

          go : has same_node (take j (named_ids b.nodes)) x ≡ false → Dec (p < length b.nodes) → waits s b (take i b.nodes) x ≡ []
          go e (yes m) = waits_placed s b (take i b.nodes) x (placed_else e p m (same_node→≡ x (listed_at b p).id (among.hit m)))
          go e (no m) = waits_missing s b (take i b.nodes) x (listing_missing b.nodes x i p (omega (arith, is_listed)) among (omega (arith, is_listed)))
