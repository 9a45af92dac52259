-- Laws of runs in order, and of the codes in the end: they are those of the outcome's nodes. Assumes nothing.
use mathlib.Core.Bool.{true, not, ◌||◌}
use mathlib.Core.List.{List, [], ◌∷◌}
use mathlib.Core.Logic.{inl, inr}
use mathlib.Core.Path.{◌≡◌, sym, ap, ◌∙◌, refl}
use Prim.Native.Nat.{ℕ, ◌+◌, ◌-◌, ◌≤◌, ◌<◌, zero, suc}
use native.Mathlib.Decide.{dec_lt}
use native.Mathlib.Omega.{arith}
use lib.ListN.{length, get_or, set}
use lib.Seq.{get_or-set_same, get_or-set_other}
use borrow.Author.Tests.{ltb-true}
use Rattle.base.specs.Tests.{◌and◌, distinct, has, position}
use Rattle.ids.specs.Ids.{same_node, same_id, before}
use Rattle.record.specs.Batch.{Batch, listed_ids}
use Rattle.record_reader.specs.Reader.{listed_at}
use Rattle.state.specs.State.{Forest, present, NodeState}
use Rattle.state_array.specs.View.{slots_of}
use Rattle.update.specs.Words.{here, old, listed}
use Rattle.update.specs.Gone.{gone}
use Rattle.update.specs.Outcome.{outcome}
use Rattle.update.proofs.Outcome.{present_after, ascending_outcome}
use Rattle.calls.specs.Layout.{COUNT, CODES}
use Rattle.calls.specs.declared.notes.Scope.{Scope}
use Rattle.calls.specs.Setting.{KeptForest, asked, forest}
use Rattle.calls.specs.Codes.{id_at, slot_at, code_id, Coded, code_of}
use Rattle.calls.specs.Says.{code_word, outcome_count, Told, COMPARED}
use Rattle.calls.proofs.notes.Places.{slot_present, slot_id, slot_self, present_at}
use Rattle.update_focus.proofs.Numbers.{forest_length}
use Rattle.calls.proofs.notes.Marks.{turn_self, listed_self}
use Rattle.calls.proofs.notes.Setting.{batched_facts}
use Rattle.calls.proofs.notes.Told.{batched, told_set, told_more}
use Rattle.calls.proofs.Outcome.Codes.{code_old, code_new, code_listed, gone_absent, code_slot, code_turn, coded, code_id_lem}
use Rattle.calls.specs.Plan.{code_in, Codes, Among, Planned, CODED, Ascends}
use Rattle.base.specs.Bytes.{list_of}
use Rattle.base.proofs.Tests.{both, joined, iff, at_position}
use Rattle.base.proofs.Lists.{has_list_of, all_at}
use Rattle.base.proofs.Bytes.{length_list_of, list_of_at, all_list_of}
use Rattle.ids.proofs.Ids.{same_id→≡, same_id_refl}
use Rattle.ids.specs.declared.FullNodeId.{FullNodeId}
use Rattle.state.specs.Sound.{ascending}
use Rattle.update.specs.Reports.{sorted}
use Rattle.update.proofs.Reports.{same_members}
use Rattle.state_array.specs.Stored.{no_state}

-- an ascending run is a sorted list
sorted_list_of : (n : ℕ) (f : ℕ → FullNodeId) → Ascends f n → sorted (list_of n f) ≡ true
unfolding sorted list_of
sorted_list_of zero f up = refl
sorted_list_of (suc n) f up =
    joined (all_list_of (before (f 0)) n (λ i. f (suc i)) (λ i l. up 0 (suc i) (omega arith) (omega arith)))
    (sorted_list_of n (λ i. f (suc i)) (λ i j h l. up (suc i) (suc j) (omega arith) (omega arith)))

-- what stands in a run stands there at an index
indexed : (n : ℕ) (f : ℕ → FullNodeId) (x : FullNodeId) → has same_id (list_of n f) x ≡ true → (i : ℕ) × (i < n) × (f i ≡ x)
indexed n f x e =
    let found = at_position same_id (list_of n f) x (f 0) e in
    let i = position same_id (list_of n f) x in
    let within : i < n = rw (length_list_of n f) at found.0 in
    (i, within, sym (list_of_at n i f (f 0) within) ∙ sym (same_id→≡ x (get_or (list_of n f) i (f 0)) found.1))

-- each of one run stands in another
abbrev StandsIn : (f : ℕ → FullNodeId) (m : ℕ) (g : ℕ → FullNodeId) (n : ℕ) → Type 0
StandsIn f m g n = (i : ℕ) → i < m → (j : ℕ) × (j < n) × (g j ≡ f i)

-- what stands in the one stands in the other
has_among : (f g : ℕ → FullNodeId) (m n : ℕ) → StandsIn f m g n → (x : FullNodeId) → has same_id (list_of m f) x ≡ true → has same_id (list_of n g) x ≡ true
has_among f g m n to x e =
    let i = indexed m f x e in
    let j = to i.0 i.1 in
    ap (has same_id (list_of n g)) (sym (j.2 ∙ i.2)) ∙ has_list_of same_id same_id_refl n g j.0 j.1

-- two ascending runs with the same members are the same run
pub same_run : (f g : ℕ → FullNodeId) (m n : ℕ) → Ascends f m → Ascends g n → StandsIn f m g n → StandsIn g n f m → (m ≡ n) × ((i : ℕ) → i < m → f i ≡ g i)
same_run f g m n p q to from =
    (many, λ i l. sym (list_of_at m i f (f 0) l) ∙ ap (λ (xs : List FullNodeId). get_or xs i (f 0)) same ∙ list_of_at n i g (f 0) (omega (arith, many)))
  where
    same : list_of m f ≡ list_of n g
    same = same_members (list_of m f) (list_of n g) (sorted_list_of m f p) (sorted_list_of n g q) (λ x. iff (has_among f g m n to x) (has_among g f n m from x))

    many : m ≡ n
    many = sym (length_list_of m f) ∙ ap (λ (xs : List FullNodeId). length xs) same ∙ length_list_of n g

-- ## The nodes of a forest

-- nodes in order are in order two by two
pub ascending_pair : (s : Forest) → ascending s.nodes ≡ true → Ascends (id_at s) (length s.nodes)
unfolding ascending
ascending_pair s e = go s.nodes e
  where
    go : (ns : List NodeState) → ascending ns ≡ true → Ascends (λ i. (get_or ns i no_state).id) (length ns)
    go [] e i j h l = absurd (omega arith)
    go (n ∷ ns) e i zero h l = absurd (omega arith)
    go (n ∷ ns) e zero (suc j) h l = all_at (λ m. before n.id m.id) ns no_state (both e).0 j (omega arith)
    go (n ∷ ns) e (suc i) (suc j) h l = go ns (both e).1 i j (omega arith) (omega arith)

module _ (s : Forest) (b : Batch) (kept : KeptForest s) (few : length b.nodes ≤ 64) (u : distinct same_node (listed_ids b.nodes) ≡ true) where
  -- ## What belongs in the end

  -- an old node that stays or a listed one that is new
  coded_among : (code : ℕ) → Coded s b code → Among s b (length s.nodes) (length b.nodes) code
  coded_among code h = go (dec_lt code 320)
    where
      go : Dec (code < 320) → Among s b (length s.nodes) (length b.nodes) code
      go (yes l) = inl (h.stays l)
      go (no l) =
          let m : 320 ≤ code = omega arith in
          inr (code - 320, (h.new m).0, omega arith, ap (old s b) (sym (code_new s b code m)) ∙ (h.new m).1)

  -- such a code is that of a node of the outcome
  coded_present : (code : ℕ) → Among s b (length s.nodes) (length b.nodes) code → present (outcome s b).nodes (code_id s b code) ≡ true
  unfolding ◌and◌ old
  coded_present code p = present_after s b kept.ascending u (code_id s b code) ∙ go p
    where
      go : Among s b (length s.nodes) (length b.nodes) code
          → (not (gone s b (code_id s b code)) and (present s.nodes (code_id s b code) || listed s b (code_id s b code))) ≡ true
      go (inl p) = rw (code_old s b code (omega (arith, p.0, kept.few_nodes)), p.1, present_at s code p.0)
      go (inr p) =
          rw (p.2, code_listed s b p.0, gone_absent s b (here s b (listed_at b p.0).id) p.3, p.3)
          (listed_self s b p.0 p.1)

  -- and is its id's
  code_self : (code : ℕ) → Among s b (length s.nodes) (length b.nodes) code → code_of s b (code_id s b code) ≡ code
  unfolding old
  code_self code (inl p) =
      ap (code_of s b) (code_old s b code (omega (arith, p.0, kept.few_nodes)))
      ∙ code_slot s b (id_at s code) (present_at s code p.0)
      ∙ slot_self s kept.ascending code p.0
  code_self code (inr p) =
      ap (code_of s b) (ap (code_id s b) p.2 ∙ code_listed s b p.0)
      ∙ code_turn s b (here s b (listed_at b p.0).id) p.3
      ∙ ap (λ (k : ℕ). 320 + k) (turn_self s b u p.0 p.1)
      ∙ sym p.2

  -- ## The outcome

  module _ (count : ℕ) (notes : List ℕ) (h : Codes (code_id s b) (Among s b (length s.nodes) (length b.nodes)) count notes) where
    o : Forest
    o = outcome s b

    run : (count ≡ length (outcome s b).nodes) × ((r : ℕ) → r < count → code_id s b (code_in notes r) ≡ id_at (outcome s b) r)
    unfolding o
    run = same_run (λ r. code_id s b (code_in notes r)) (id_at o) count (length o.nodes) h.up (ascending_pair o (ascending_outcome s b kept.ascending)) to from
      where
        to : (r : ℕ) → r < count → (j : ℕ) × (j < length o.nodes) × (id_at o j ≡ code_id s b (code_in notes r))
        to r l =
            let x = code_id s b (code_in notes r) in
            let there = coded_present (code_in notes r) (h.are r l) in
            let below : slot_at o x < length o.nodes = ltb-true (slot_at o x) (length o.nodes) (sym (slot_present o x) ∙ there) in
            (slot_at o x, below, slot_id o x below)

        from : (j : ℕ) → j < length o.nodes → (r : ℕ) × (r < count) × (code_id s b (code_in notes r) ≡ id_at o j)
        from j l =
            let code = code_of s b (id_at o j) in
            let r = h.whole code (coded_among code (coded s b kept few u j l)) in
            (r.0, r.1, ap (code_id s b) r.2 ∙ code_id_lem s b kept few u j l)

    -- as many codes as nodes
    pub count_is : count ≡ length (outcome s b).nodes
    count_is = run.0

    -- and each node's
    pub codes_are : (r : ℕ) → r < length (outcome s b).nodes → code_in notes r ≡ code_of s b (id_at (outcome s b) r)
    codes_are r l =
        let m : r < count = omega (arith, run.0) in
        sym (code_self (code_in notes r) (h.are r m)) ∙ ap (code_of s b) (run.1 r m)

-- THE CODES ARE TOLD: all slots and all listed nodes are passed, and the count is stored
pub plan_told : (state bytes : List ℕ) (c : Scope) (notes : List ℕ) (count : ℕ) → Planned (slots_of state) c.listed state bytes c notes count
    → Told CODED state bytes c (set notes COUNT count)
unfolding code_word
plan_told state bytes c notes count h =
    told_more state bytes c now 12 (told_more state bytes c now COMPARED (told_set state bytes c notes COMPARED h.told COUNT count (omega arith)) counted) coded_words
  where
    now : List ℕ
    now = set notes COUNT count

    s : Forest
    s = forest state

    b : Batch
    b = asked bytes c

    few : length b.nodes ≤ 64
    few = (batched_facts bytes b (batched state bytes c h.told.given)).nodes_limit

    codes : Codes (code_id s b) (Among s b (length s.nodes) (length b.nodes)) count notes
    codes = rw (forest_length state, ← h.told.given.scoped.listed) h.codes

    counted : (i : ℕ) → i < 1 → get_or now (2112 + i) 0 ≡ outcome_count state bytes c
    counted i l =
        let first : i ≡ 0 = omega arith in
        rw first (get_or-set_same notes COUNT count 0 (omega (arith, h.told.long)) ∙ count_is s b h.told.given.kept few h.told.given.once count notes codes)

    coded_words : (r : ℕ) → r < outcome_count state bytes c → get_or now (2113 + r) 0 ≡ code_of s b (id_at (outcome s b) r)
    coded_words r l =
        get_or-set_other notes COUNT (CODES + r) count 0 (λ e. absurd (omega arith))
        ∙ codes_are s b h.told.given.kept few h.told.given.once count notes codes r l
