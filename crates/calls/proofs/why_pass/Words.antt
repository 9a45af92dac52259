-- Laws of a cause in words and ids, as the code finds them in the notes. Assumes nothing.
use Rattle.std.specs.Prelude.{Option, None, Some}
use mathlib.Core.List.{List}
use mathlib.Core.Path.{◌≡◌, refl, sym, ap, ◌∙◌}
use Prim.Native.Nat.{ℕ, suc, ◌+◌, ◌-◌, ◌≤◌, ◌<◌}
use native.Mathlib.Omega.{arith}
use lib.Dec.{ltb}
use lib.ListN.{length, get_or, drop, length-drop}
use lib.Seq.{get_or-drop}
use borrow.Author.Tests.{lt-ltb, eq-eqb}
use Rattle.base.specs.Search.{First}
use Rattle.base.proofs.Loops.{Passing, passing_cong, passing_hit, passing_ends}
use Rattle.base.proofs.Cases.{by_order}
use Rattle.base.proofs.Tests.{clash}
use Rattle.ids.specs.Ids.{same_node}
use Rattle.ids.specs.declared.NodeId.{NodeId}
use Rattle.ids.specs.declared.FullNodeId.{FullNodeId}
use Rattle.record.specs.Batch.{named_ids}
use Rattle.record_reader.specs.Reader.{no_node}
use Rattle.update.specs.Words.{here}
use Rattle.reasons.specs.Reasons.{without_place}
use Rattle.reasons_why.specs.declared.Why.{Why}
use Rattle.reasons_why.specs.Why.{why_of}
use Rattle.calls.specs.Layout.{LISTED, NAMED, ENDS}
use Rattle.calls.specs.declared.notes.Scope.{Scope}
use Rattle.calls.specs.Setting.{asked, forest}
use Rattle.calls.specs.Says.{PositionIn, Told, READ}
use Rattle.calls.specs.Noted.{id_noted}
use Rattle.calls.proofs.notes.Noted.{listed_noted}
use Rattle.calls.proofs.notes.Setting.{batched_at}
use Rattle.calls.proofs.notes.Told.{batched}
use Rattle.calls.specs.declared.pass.Cause.TheVariants.{NamedTwice, GraftOverChildren, GraftOfRoot, ClaimedTwice, WithoutPlace, ChildNowhere}
use Rattle.calls.specs.Causes.{Entry, entries, no_entry, cause_reason, Within}
use Rattle.calls.specs.declared.pass.Cause.{Cause}
use Rattle.calls.specs.WhyPass.{claimed_noted, namer_at, plain_nodes}
use Rattle.calls.specs.Steps.{entries_before}
use Rattle.calls.proofs.pass.Read.{searched, first_count, end_word_lem, named_word_lem, child_here}
use Rattle.calls.proofs.pass.Causes.{entries_length, entry_child}
use Rattle.calls.proofs.why_pass.Namers.{namer_found, namer_none, first_namer, second_namer}

module _ {state bytes : List ℕ} {c : Scope} {notes : List ℕ} (told : Told READ state bytes c notes) where
  -- ## The node whose entry j is

  module _ {i : ℕ} (j : ℕ) (g : Passing (λ m. ltb j (get_or notes (ENDS + m) 0)) c.listed i) where
    -- the search by the ends
    by_ends : Passing (λ m. ltb j (entries_before (asked bytes c) (m + 1))) (length (asked bytes c).nodes) i
    by_ends = rw (← told.given.scoped.listed) (passing_cong g _ (λ m h. ap (ltb j) (end_word_lem told m h)))

    pub namer_here : {x : FullNodeId} → i < c.listed → j < get_or notes (ENDS + i) 0
        → x ≡ id_noted c notes (LISTED + i) → Some x ≡ namer_at (forest state) (asked bytes c) j
    namer_here h l e =
        let inside : i < length (asked bytes c).nodes = omega (arith, told.given.scoped.listed) in
        ap Some (e ∙ listed_noted (omega arith) told h)
        ∙ sym ((namer_found (forest state) (asked bytes c) j (passing_hit by_ends inside (ap (ltb j) (sym (end_word_lem told i h)) ∙ lt-ltb j _ l)) inside))

    pub namer_past : c.listed ≤ i → None ≡ namer_at (forest state) (asked bytes c) j
    namer_past h =
        let past : length (asked bytes c).nodes ≤ i = omega (arith, told.given.scoped.listed) in
        sym ((namer_none (forest state) (asked bytes c) j (passing_ends by_ends past) (omega arith)))

  -- ## Any cause

  -- its listed nodes
  module _ {cause : Cause} (within : Within (asked bytes c) cause) where
    pub within_crowded : {i : ℕ} → cause ≡ GraftOverChildren i → i < c.listed
    unfolding Within
    within_crowded e = omega (arith, rw e at within, told.given.scoped.listed)

    pub within_root : {i : ℕ} → cause ≡ GraftOfRoot i → i < c.listed
    unfolding Within
    within_root e = omega (arith, rw e at within, told.given.scoped.listed)

    pub within_claimed : {i m : ℕ} → cause ≡ ClaimedTwice i m → (i < c.listed) × (m < c.listed)
    unfolding Within
    within_claimed e = let w = rw e at within in (omega (arith, w.0, told.given.scoped.listed), omega (arith, w.1, told.given.scoped.listed))

    pub within_placeless : {i : ℕ} → cause ≡ WithoutPlace i → i < c.listed
    unfolding Within
    within_placeless e = omega (arith, rw e at within, told.given.scoped.listed)

  -- a number and listed node i
  pub why_crowded : {i : ℕ} {x : FullNodeId} {r : Why} → i < c.listed → x ≡ id_noted c notes (LISTED + i)
      → r ≡ plain_nodes 10 x None None → r ≡ why_of (cause_reason (forest state) (asked bytes c) (GraftOverChildren i))
  unfolding why_of cause_reason plain_nodes
  why_crowded h e q = q ∙ ap (λ y. plain_nodes 10 y None None) (e ∙ listed_noted (omega arith) told h)

  pub why_root : {i : ℕ} {x : FullNodeId} {r : Why} → i < c.listed → x ≡ id_noted c notes (LISTED + i)
      → r ≡ plain_nodes 11 x None None → r ≡ why_of (cause_reason (forest state) (asked bytes c) (GraftOfRoot i))
  unfolding why_of cause_reason plain_nodes
  why_root h e q = q ∙ ap (λ y. plain_nodes 11 y None None) (e ∙ listed_noted (omega arith) told h)

  -- two listed nodes and a tree
  pub why_claimed : {i m : ℕ} {r : Why} → i < c.listed → m < c.listed
      → r ≡ why_of (claimed_noted bytes c notes i m)
      → r ≡ why_of (cause_reason (forest state) (asked bytes c) (ClaimedTwice i m))
  unfolding cause_reason
  why_claimed {i} h k e =
      e ∙ rw (batched_at bytes (asked bytes c) (batched state bytes c told.given) i, listed_noted (omega arith) told k, listed_noted (omega arith) told h)

  -- a listed node and its place
  pub why_placeless : {i : ℕ} {r : Why} → i < c.listed → r ≡ why_of (without_place (id_noted c notes (LISTED + i)) i)
      → r ≡ why_of (cause_reason (forest state) (asked bytes c) (WithoutPlace i))
  unfolding cause_reason
  why_placeless h e = e ∙ rw (listed_noted (omega arith) told h)

  -- the child of an entry, and the node whose entry it is
  pub why_nowhere : (j : ℕ) {x : FullNodeId} {by : Option FullNodeId} {r : Why} → j < c.named
      → x ≡ id_noted c notes (NAMED + j) → by ≡ namer_at (forest state) (asked bytes c) j
      → r ≡ plain_nodes 14 x by None → r ≡ why_of (cause_reason (forest state) (asked bytes c) (ChildNowhere j))
  unfolding why_of cause_reason plain_nodes namer_at
  why_nowhere j h e f q =
      let inside = lt-ltb j (length (entries (asked bytes c).nodes)) (omega (arith, entries_length (asked bytes c).nodes, told.given.scoped.named)) in
      let by-entry : _ ≡ Some (here (forest state) (asked bytes c) (get_or (entries (asked bytes c).nodes) j no_entry).by) = rw inside at f in
      let child = e ∙ child_here told h in
      q ∙ (λ k. plain_nodes 14 (child k) (by-entry k) None)

  -- ## A child named twice

  -- its first entry is j or an earlier one
  pub first_within : (j : ℕ) {p : ℕ} → PositionIn notes NAMED c.named (get_or notes (NAMED + j) 0) p → p ≤ j
  first_within j {p} f = by_order j p (λ l. absurd (clash (f.passed j l) (eq-eqb (get_or notes (NAMED + j) 0) _ refl))) (λ l. l)

  module _ {j p q : ℕ} (h : j < c.named) (f : PositionIn notes NAMED c.named (get_or notes (NAMED + j) 0) p)
      (g : PositionIn notes (NAMED + (p + 1)) (c.named - (p + 1)) (get_or notes (NAMED + j) 0) q) where
    abbrev child : NodeId
    child = get_or (named_ids (asked bytes c).nodes) j no_node

    abbrev all : List Entry
    all = entries (asked bytes c).nodes

    same_child : ◌≡◌ {A = NodeId} (record { 0 = get_or notes (NAMED + j) 0 }) child
    same_child = ap (λ w. record { 0 = w }) (named_word_lem told j h)

    many : c.named ≡ length all
    many = told.given.scoped.named ∙ sym (entries_length (asked bytes c).nodes)

    word_at : (m : ℕ) → m < c.named → get_or notes (NAMED + m) 0 ≡ (get_or all m no_entry).child.0
    word_at m l = named_word_lem told m l ∙ ap (λ (x : NodeId). x.0) (sym (entry_child (asked bytes c).nodes m))

    -- the search for the first entry, and for the second
    first_entry : First (λ m. same_node child (get_or all m no_entry).child) (length all) p
    first_entry =
        first_count _ c.named (length all) p many
        (rw same_child at (searched (λ m. get_or notes (NAMED + m) 0) (λ m. (get_or all m no_entry).child) c.named _ p word_at f))

    second_entry : First (λ m. same_node child (get_or (drop (suc p) all) m no_entry).child) (length (drop (suc p) all)) q
    second_entry =
        let long : c.named - (p + 1) ≡ length (drop (suc p) all) = omega (arith, many, length-drop (suc p) all) in
        first_count _ (c.named - (p + 1)) (length (drop (suc p) all)) q long
        (rw same_child at
        (searched (λ m. get_or notes (NAMED + (p + 1) + m) 0) (λ m. (get_or (drop (suc p) all) m no_entry).child) (c.named - (p + 1)) _ q
        (λ m l. let at : NAMED + (p + 1) + m ≡ NAMED + (suc p + m) = omega arith in
        ap (λ k. get_or notes k 0) at ∙ word_at (suc p + m) (omega arith) ∙ ap (λ (e : Entry). e.child.0) (sym (get_or-drop (suc p) all m no_entry))) g))

    pub why_named : {x : FullNodeId} {by also : Option FullNodeId} {r : Why} → x ≡ id_noted c notes (NAMED + j)
        → by ≡ (namer_at (forest state) (asked bytes c) (p + 1 + q)) → also ≡ namer_at (forest state) (asked bytes c) p
        → r ≡ plain_nodes 9 x by also → r ≡ why_of (cause_reason (forest state) (asked bytes c) (NamedTwice j))
    unfolding why_of cause_reason plain_nodes
    why_named e s u v =
        let second = s ∙ (sym (second_namer (forest state) (asked bytes c) child first_entry (omega (arith, many, first_within j f)) second_entry)) in
        let first = u ∙ (sym (first_namer (forest state) (asked bytes c) child first_entry)) in
        let id = e ∙ child_here told h in
        v ∙ (λ k. plain_nodes 9 (id k) (second k) (first k))
