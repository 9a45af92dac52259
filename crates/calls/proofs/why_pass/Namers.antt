-- The node that an entry belongs to, and the nodes that name a child. Assumes nothing.
use mathlib.Core.Bool.{Bool}
use mathlib.Core.List.{List, [], ◌∷◌, ◌++◌, map}
use mathlib.Core.Path.{◌≡◌, refl, ap, ◌∙◌}
use Prim.Native.Nat.{ℕ, zero, suc, ◌+◌, ◌-◌, ◌≤◌, ◌<◌}
use native.Mathlib.Nat.{zero-add}
use native.Mathlib.Numerals.{add-one}
use native.Mathlib.Omega.{arith}
use lib.Dec.{ltb}
use lib.ListN.{length, get_or, take, drop, length-append, length-drop, length-map, get_or-append}
use lib.Seq.{take_all, get_or-append-add, get_or-drop}
use borrow.Author.Tests.{lt-ltb, le-ltb, ltb-false, ltb-true}
use Rattle.std.specs.Prelude.{if◌then◌else◌, None, Some}
use Rattle.base.specs.Tests.{keep, first_given}
use Rattle.base.specs.Search.{First}
use Rattle.base.proofs.Cases.{by_test, by_order}
use Rattle.base.proofs.Search.{first_later}
use Rattle.ids.specs.Ids.{same_node}
use Rattle.ids.specs.declared.NodeId.{NodeId}
use Rattle.ids.specs.declared.FullNodeId.{FullNodeId}
use Rattle.record.specs.Batch.{Listed, Batch, named_ids}
use Rattle.record_reader.specs.Reader.{no_listed, listed_at}
use Rattle.state.specs.State.{Forest}
use Rattle.update.specs.Words.{here}
use Rattle.reasons_calls.specs.Pass.{namers_among, namers_of}
use Rattle.reasons_why.specs.Why.{first_id, second_id}
use Rattle.calls.proofs.notes.Positions.{first_given_at}
use Rattle.calls.specs.Causes.{Entry, entries, no_entry}
use Rattle.calls.specs.WhyPass.{namer_at}
use Rattle.calls.specs.Steps.{entries_before}
use Rattle.calls.proofs.pass.Going.{entries_before_within, entries_before_more}
use Rattle.calls.proofs.pass.Causes.{entry_of, entries_length}

-- ## The node that an entry belongs to

-- the node that names child k of listed node i
entry_by : (ls : List Listed) (i k : ℕ) → i < length ls → k < length (get_or ls i no_listed).body.children
    → (get_or (entries ls) (length (named_ids (take i ls)) + k) no_entry).by ≡ (get_or ls i no_listed).id
unfolding entries named_ids
entry_by [] i k h l = absurd (omega arith)
entry_by (x ∷ xs) zero k h l =
    let own = map (entry_of x) x.body.children in
    ap (λ (e : Entry). e.by)
    (ap (λ m. get_or (own ++ entries xs) m no_entry) (zero-add k)
    ∙ get_or-append own (entries xs) no_entry k (omega (arith, length-map x.body.children (entry_of x))))
    ∙ by_of x.body.children k l
  where
    by_of : (cs : List NodeId) (k : ℕ) → k < length cs → (get_or (map (entry_of x) cs) k no_entry).by ≡ x.id
    by_of [] k h = absurd (omega arith)
    by_of (c ∷ cs) zero h = refl
    by_of (c ∷ cs) (suc k) h = by_of cs k (omega arith)
entry_by (x ∷ xs) (suc i) k h l =
    let own = map (entry_of x) x.body.children in
    let later = length (named_ids (take i xs)) in
    let at : length (x.body.children ++ named_ids (take i xs)) + k ≡ length own + (later + k) =
    omega (arith, length-append x.body.children (named_ids (take i xs)), length-map x.body.children (entry_of x)) in
    ap (λ (e : Entry). e.by) (ap (λ m. get_or (own ++ entries xs) m no_entry) at ∙ get_or-append-add own (entries xs) (later + k) no_entry)
    ∙ entry_by xs i k (omega arith) l

-- the node whose entry j is, as a search by the ends finds it
module _ (s : Forest) (b : Batch) (j : ℕ) {r : ℕ} (f : First (λ m. ltb j (entries_before b (m + 1))) (length b.nodes) r) where
  begun : entries_before b r ≤ j
  begun = go r f
    where
      go : (r : ℕ) → First (λ m. ltb j (entries_before b (m + 1))) (length b.nodes) r → entries_before b r ≤ j
      go zero f = unfold named_ids in (omega arith)
      go (suc q) f = rw add-one at (ltb-false j (entries_before b (q + 1)) (f.passed q (omega arith)))

  pub namer_found : r < length b.nodes → namer_at s b j ≡ Some (here s b (listed_at b r).id)
  unfolding namer_at listed_at
  namer_found h =
      let more = entries_before_more b r h in
      let short = ltb-true j (entries_before b (r + 1)) (f.hit h) in
      let inside : j < length (entries b.nodes) = omega (arith, entries_length b.nodes, entries_before_within b (r + 1)) in
      let at : entries_before b r + (j - entries_before b r) ≡ j = omega (arith, begun) in
      let by = entry_by b.nodes r (j - entries_before b r) h (omega (arith, begun)) in
      rw (lt-ltb j (length (entries b.nodes)) inside) (ap (λ x. Some (here s b x)) (rw at at by))

  pub namer_none : length b.nodes ≤ r → namer_at s b j ≡ None
  unfolding namer_at
  namer_none h =
      let all : entries_before b r ≡ length (named_ids b.nodes) = ap (λ ls. length (named_ids ls)) (take_all r b.nodes h) in
      rw (le-ltb j (length (entries b.nodes)) (omega (arith, begun, entries_length b.nodes)))

-- ## The nodes that name a child

module _ {A : Type 0} (p : A → Bool) (f : A → FullNodeId) where
  -- the first of those kept, and the second
  kept_first : (xs : List A) → first_id (map f (keep p xs)) ≡ first_given (λ x. if p x then Some (f x) else None) xs
  unfolding first_id
  kept_first [] = refl
  kept_first (x ∷ xs) = by_test (p x) (λ t. rw (t, first_given)) (λ t. rw (t, first_given) (kept_first xs))

  kept_second : (d : A) (xs : List A) (r : ℕ) → First (λ i. p (get_or xs i d)) (length xs) r
      → second_id (map f (keep p xs)) ≡ first_given (λ x. if p x then Some (f x) else None) (drop (suc r) xs)
  unfolding second_id
  kept_second d [] r h = refl
  kept_second d (x ∷ xs) zero h = rw (h.hit (omega arith)) (kept_first xs)
  kept_second d (x ∷ xs) (suc r) h =
      rw (h.passed zero (omega arith)) (kept_second d xs r (first_later (λ i. p (get_or (x ∷ xs) i d)) (length xs) r h))

module _ (s : Forest) (b : Batch) (c : NodeId) where
  -- those whose entries hold it, in their order
  namers_are : (ls : List Listed) → namers_among s b ls c ≡ map (λ e. here s b e.by) (keep (λ e. same_node c e.child) (entries ls))
  unfolding namers_among entries
  namers_are [] = refl
  namers_are (l ∷ ls) = own l.body.children (namers_are ls)
    where
      own : (cs : List NodeId) → namers_among s b ls c ≡ map (λ e. here s b e.by) (keep (λ e. same_node c e.child) (entries ls))
          → map (λ k. here s b l.id) (keep (same_node c) cs) ++ namers_among s b ls c
          ≡ map (λ (e : Entry). here s b e.by) (keep (λ e. same_node c e.child) (map (entry_of l) cs ++ entries ls))
      own [] h = h
      own (x ∷ cs) h = by_test (same_node c x) (λ t. rw t (ap (λ ys. here s b l.id ∷ ys) (own cs h))) (λ t. rw t (own cs h))

  module _ {p : ℕ} (f : First (λ m. same_node c (get_or (entries b.nodes) m no_entry).child) (length (entries b.nodes)) p) where
    -- the first
    pub first_namer : first_id (namers_of s b c) ≡ namer_at s b p
    unfolding namers_of namer_at
    first_namer =
        let es = entries b.nodes in
        ap first_id (namers_are b.nodes)
        ∙ kept_first (λ (e : Entry). same_node c e.child) (λ e. here s b e.by) es
        ∙ first_given_at (λ (e : Entry). same_node c e.child) (λ e. here s b e.by) no_entry es p f

    -- the second
    pub second_namer : {q : ℕ} → p < length (entries b.nodes)
        → First (λ m. same_node c (get_or (drop (suc p) (entries b.nodes)) m no_entry).child) (length (drop (suc p) (entries b.nodes))) q
        → second_id (namers_of s b c) ≡ namer_at s b (p + 1 + q)
    unfolding namers_of namer_at
    second_namer {q} h g =
        let es = entries b.nodes in
        ap second_id (namers_are b.nodes)
        ∙ kept_second (λ (e : Entry). same_node c e.child) (λ e. here s b e.by) no_entry es p f
        ∙ first_given_at (λ (e : Entry). same_node c e.child) (λ e. here s b e.by) no_entry (drop (suc p) es) q g
        ∙ rw (add-one, get_or-drop (suc p) es q no_entry) (by_order q (length (drop (suc p) es))
        (λ l. rw (lt-ltb q _ l, lt-ltb (suc p + q) (length es) (omega (arith, length-drop (suc p) es))))
        (λ l. rw (le-ltb q _ l, le-ltb (suc p + q) (length es) (omega (arith, length-drop (suc p) es)))))
