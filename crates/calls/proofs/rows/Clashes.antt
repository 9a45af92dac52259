-- Laws of the listed nodes: row 5, and row 18. Assumes nothing.
use borrow.Author.Count.{below_more}
use native.Mathlib.Nat.{zero-add}
use Rattle.base.proofs.Regions.{fill_put}
use Rattle.base.specs.Search.{First}
use Rattle.base.proofs.Search.{first_any}
use Rattle.calls.specs.Noted.{ClashRoom, clash_noted}
use Rattle.calls.proofs.notes.Positions.{first_cong}
use Rattle.calls.proofs.notes.Setting.{batched_facts}
use Rattle.record.specs.Parse.{well_formed, batch_of}
use mathlib.Core.Bool.{Bool, true, false, not, false≢true}
use mathlib.Core.List.{List}
use Rattle.std.specs.Prelude.{Option, None, Some}
use mathlib.Core.Path.{◌≡◌, refl, sym, ap, ◌∙◌, ap₂}
use Prim.Native.Nat.{ℕ, ◌+◌, ◌≤◌, ◌<◌}
use native.Mathlib.Omega.{arith}
use lib.Dec.{eqb, ltb}
use lib.ListN.{length, get_or, take, set, replicate, length-replicate}
use Rattle.std.proofs.lemmas.List.{get_or-take, length-take-le}
use borrow.Author.Tests.{ltb-true, eqb-true, eqb-false, eq-eqb, ne_eqb}
use Rattle.base.specs.Tests.{◌and◌, is_some, any, distinct}
use Rattle.base.proofs.Cases.{by_test}
use Rattle.base.proofs.Tests.{and_false, and_right, bit_is}
use Rattle.record.specs.Batch.{same_data, Listed, Batch, listed_ids}
use Rattle.base.proofs.Loops.{Filling, filling_begins, filling_goes}
use Rattle.calls.specs.Rows.{clashes}
use Rattle.calls.specs.Parts.{ListedAgain}
use Rattle.calls.specs.declared.rows.Again.{Again}
use Rattle.ids.specs.declared.FullNodeId.{FullNodeId}
use Rattle.record_reader.specs.Reader.{no_listed, listed_at, no_node}
use Rattle.state.specs.State.{NodeState, Forest, find, present}
use Rattle.state_array.specs.View.{slots_of}
use Rattle.update.specs.Words.{here}
use Rattle.update.specs.Gone.{gone}
use Rattle.update.specs.Numbers.{updated_and_removed}
use Rattle.calls.specs.Layout.{LISTED_SLOTS, FATES, DIFFERS}
use Rattle.calls.specs.declared.notes.Scope.{Scope}
use Rattle.calls.specs.Setting.{asked, forest}
use Rattle.calls.specs.Codes.{slot_at, id_at, differs}
use Rattle.calls.specs.Says.{listed_slot, goes_word, differ_word, Told, COMPARED}
use Rattle.calls.proofs.notes.Places.{slot_present, slot_id}
use Rattle.update_focus.proofs.Numbers.{forest_length}
use Rattle.base.specs.Bytes.{list_of}
use Rattle.base.proofs.Columns.{list_of_each}
use Rattle.base.proofs.Indexed.{distinct_list_of, distinct_twice}
use Rattle.ids.specs.Ids.{same_node}
use Rattle.ids.specs.declared.NodeId.{NodeId}
use Rattle.record.proofs.Batch.{listed_length, listed_at_lem}

module _ (b : Batch) where
  -- the number of listed node i
  abbrev pub listed_id : ℕ → NodeId
  listed_id i = (listed_at b i).id

  pub listed_ids_lem : list_of (length b.nodes) listed_id ≡ listed_ids b.nodes
  unfolding listed_at
  listed_ids_lem = rw (← listed_length b.nodes) (list_of_each no_node (listed_ids b.nodes) listed_id (λ i l. sym (listed_at_lem b.nodes i no_listed)))

  -- one stands there twice
  twice_found : (h j : ℕ) → h < j → j < length b.nodes → same_node (listed_id h) (listed_id j) ≡ true → true ≡ not (distinct same_node (listed_ids b.nodes))
  twice_found h j l m e = sym (ap (λ ids. not (distinct same_node ids)) (sym listed_ids_lem) ∙ ap not (distinct_twice same_node (length b.nodes) listed_id h j l m e))

  -- the first i numbers are stored, and each two of them differ
  pub record Listing (k i : ℕ) (seen : List ℕ) : Type 0 where
    pub filling : Filling 0 64 k (λ j. (listed_id j).0) (replicate 64 0) i seen
    pub apart : (j : ℕ) → j < i → (h : ℕ) → h < j → same_node (listed_id h) (listed_id j) ≡ false

-- none yet
pub listing_begins : (bytes : List ℕ) {k : ℕ} → well_formed bytes ≡ true → k ≡ length (batch_of bytes).nodes → Listing (batch_of bytes) k 0 (replicate 64 0)
listing_begins bytes formed e =
    let facts = batched_facts bytes (batch_of bytes) (record { formed = formed; nodes = refl }) in
    record { filling = filling_begins (omega (arith, facts.nodes_limit)); apart = λ j h. absurd (omega arith) }

module _ {b : Batch} {k i : ℕ} {seen : List ℕ} (g : Listing b k i seen) where
  -- one more, as a search among those before it answers
  module _ (l : i < k) {x : NodeId} (id : x ≡ listed_id b i) (room : length seen ≡ 64)
      {p : ℕ} (found : First (λ j. eqb (get_or (take i seen) j 0) x.0) (length (take i seen)) p) where
    first : First (λ j. eqb (get_or seen j 0) x.0) i p
    first =
        let few : i ≤ length seen = omega (arith, g.filling.few) in
        first_cong _ _ i p (λ j m. ap (λ v. eqb v x.0) (get_or-take i seen j 0 m)) (rw (length-take-le i seen few) at found)

    same : (h : ℕ) → h < i → eqb (get_or seen h 0) x.0 ≡ same_node (listed_id b h) (listed_id b i)
    unfolding same_node
    same h m =
        let room : 0 + i ≤ length (replicate {A = ℕ} 64 0) = rw (length-replicate {A = ℕ} 64 0) (omega (arith, g.filling.few)) in
        let stored = rw zero-add at (fill_put 0 (λ j. (listed_id b j).0) i (replicate 64 0) room h m) in
        ap₂ eqb (ap (λ s. get_or s h 0) g.filling.filled ∙ stored) (ap (λ (y : NodeId). y.0) id)

    pub listing_found : k ≡ length b.nodes → p < i → ListedAgain b (Some (record { first = p; second = i }))
    unfolding ListedAgain
    listing_found e h = record {
      within = omega arith;
      apart = g.apart;
      earlier = h;
      again = record {
        within = first.within;
        passed = λ j n. sym (same j (omega arith)) ∙ first.passed j n;
        hit = λ n. sym (same p n) ∙ first.hit n;
      };
    }

    pub listing_goes : i ≤ p → Listing b k (i + 1) (set seen i x.0)
    listing_goes past = record {
      filling = rw zero-add at (filling_goes g.filling l (ap (λ (y : NodeId). y.0) id));
      apart = below_more _ i g.apart (λ h m. sym (same h m) ∙ first.passed h (omega (arith, first.within)));
    }

  -- all of them
  pub listing_ends : k ≡ length b.nodes → k ≤ i → ListedAgain b None
  unfolding ListedAgain
  listing_ends e done = λ j m. g.apart j (omega arith)

-- row 5 by these places
pub again_twice : (b : Batch) (r : Option Again) → ListedAgain b r → is_some r ≡ not (distinct same_node (listed_ids b.nodes))
unfolding ListedAgain
again_twice b None apart =
    sym (ap (λ ids. not (distinct same_node ids)) (sym (listed_ids_lem b))
    ∙ ap not (distinct_list_of same_node (length b.nodes) (listed_id b) (λ h j l m. apart j (omega arith) h l)))
again_twice b (Some r) g = twice_found b r.first r.second g.earlier g.within (g.again.hit g.earlier)

-- ## A listed node

module _ (s : Forest) (b : Batch) (l : Listed) where
  -- one that differs is old
  pub differs_old : differs s b l ≡ true → present s.nodes (here s b l.id) ≡ true
  unfolding differs present
  differs_old e = go (find (here s b l.id) s.nodes) e
    where
      go : (o : Option NodeState) → (elim o as (λ _. Bool) [ None ↦ false | Some n ↦ not (same_data n.body l.body) ]) ≡ true → is_some o ≡ true
      go None f = absurd (false≢true f)
      go (Some n) f = refl

  -- the two tests of row 18
  pub clash_is : updated_and_removed s b l ≡ (gone s b (here s b l.id) and differs s b l)
  unfolding updated_and_removed differs
  clash_is = refl

module _ {state bytes : List ℕ} {c : Scope} {notes : List ℕ} (told : Told COMPARED state bytes c notes) {i : ℕ} (h : i < c.listed) where
  abbrev s : Forest
  s = forest state

  abbrev b : Batch
  b = asked bytes c

  -- the mark of a node that differs
  differs_is : eqb (get_or notes (DIFFERS + i) 0) 1 ≡ differs s b (listed_at b i)
  unfolding differ_word
  differs_is = ap (λ (m : ℕ). eqb m 1) (told.written 10 (omega arith) i h) ∙ bit_is (differs s b (listed_at b i))

  -- one that does not differ
  clash_same : (get_or notes (DIFFERS + i) 0 ≡ 1 → ⊥) → false ≡ updated_and_removed s b (listed_at b i)
  clash_same e = sym (clash_is s b (listed_at b i) ∙ rw (sym differs_is ∙ ne_eqb _ _ e) (and_false _))

  module _ (e : get_or notes (DIFFERS + i) 0 ≡ 1) where
    abbrev x : FullNodeId
    x = here s b (listed_at b i).id

    other : differs s b (listed_at b i) ≡ true
    other = sym differs_is ∙ eq-eqb _ _ e

    slot_is : get_or notes (LISTED_SLOTS + i) 0 ≡ slot_at s x
    unfolding listed_slot
    slot_is = told.written 3 (omega arith) i h

    -- it has a slot
    clash_within : get_or notes (LISTED_SLOTS + i) 0 < slots_of state
    clash_within =
        let within = ltb-true (slot_at s x) (length s.nodes) (sym (slot_present s x) ∙ differs_old s b (listed_at b i) other) in
        omega (arith, slot_is, forest_length state)

    -- whose mark says whether it goes
    clash_goes : eqb (get_or notes (FATES + get_or notes (LISTED_SLOTS + i) 0) 0) 1 ≡ updated_and_removed s b (listed_at b i)
    unfolding goes_word
    clash_goes =
        ap (λ (m : ℕ). eqb m 1) (told.written 9 (omega arith) (get_or notes (LISTED_SLOTS + i) 0) clash_within)
        ∙ bit_is _
        ∙ ap (λ (k : ℕ). gone s b (id_at s k)) slot_is
        ∙ ap (gone s b) (slot_id s x (omega (arith, clash_within, slot_is, forest_length state)))
        ∙ sym (clash_is s b (listed_at b i) ∙ rw other (and_right _))

  -- by the notes
  clash_noted_lem : clash_noted notes i ≡ updated_and_removed s b (listed_at b i)
  unfolding clash_noted
  clash_noted_lem =
      by_test (eqb (get_or notes (DIFFERS + i) 0) 1) (λ t. rw t (clash_goes (eqb-true (get_or notes (DIFFERS + i) 0) 1 t)))
      (λ t. rw t (clash_same (eqb-false (get_or notes (DIFFERS + i) 0) 1 t)))

-- ## All of them

module _ {state bytes : List ℕ} {c : Scope} {notes : List ℕ} (told : Told COMPARED state bytes c notes) where
  -- those that differ have slots
  pub clash_room : ClashRoom notes c.listed
  clash_room i h e = omega (arith, clash_within told h e)

  -- the first that does
  pub clash_first : {r : ℕ} → First (clash_noted notes) c.listed r → First (λ i. updated_and_removed (forest state) (asked bytes c) (listed_at (asked bytes c) i)) c.listed r
  clash_first {r} f = first_cong _ _ c.listed r (λ i h. clash_noted_lem told h) f

  -- whether one does
  pub clash_any : {r : ℕ} → First (clash_noted notes) c.listed r → ltb r c.listed ≡ clashes state bytes c
  unfolding listed_at
  clash_any {r} f =
      let at : ℕ → Listed = λ i. get_or (asked bytes c).nodes i no_listed in
      first_any (updated_and_removed (forest state) (asked bytes c)) c.listed at r (clash_first f)
      ∙ ap (any (updated_and_removed (forest state) (asked bytes c)))
      (ap (λ n. list_of n at) told.given.scoped.listed ∙ list_of_each no_listed (asked bytes c).nodes at (λ i l. refl))
