-- Laws of the four lists by the marks, and of the extra ids. Assumes nothing.
use mathlib.Core.Bool.{Bool, true, false, not, ◌||◌, false≢true}
use mathlib.Core.List.{List, [], ◌∷◌, ◌++◌}
use mathlib.Core.Path.{◌≡◌, refl, sym, ap, ap₂, ◌∙◌, subst}
use Prim.Native.Nat.{ℕ, ◌+◌, ◌*◌, ◌<◌}
use native.Mathlib.Omega.{arith}
use lib.Dec.{ltb}
use lib.ListN.{length, get_or}
use borrow.Author.Tests.{ltb-true}
use Rattle.std.specs.Prelude.{if◌then◌else◌, Option, None, Some, Result}
use Rattle.base.specs.Tests.{◌and◌, is_some, keep, has, same_option}
use Rattle.base.specs.Bytes.{bit}
use Rattle.base.proofs.Lists.{any_append}
use Rattle.base.proofs.Tests.{both, has_keep}
use Rattle.ids.specs.Ids.{same_id}
use Rattle.ids.specs.declared.FullNodeId.{FullNodeId}
use Rattle.ids.proofs.Ids.{same_id→≡}
use Rattle.record.specs.Batch.{Batch}
use Rattle.state.specs.State.{NodeState, ids_of, Forest, find, present, State}
use Rattle.state.specs.Sound.{ascending}
use Rattle.state.proofs.State.{present_has}
use Rattle.state.proofs.Order.{find_none, ascending_keep}
use Rattle.state_array.specs.View.{slots_of, view}
use Rattle.update.specs.Words.{old}
use Rattle.update.specs.Gone.{gone}
use Rattle.update.specs.Outcome.{pane_root, outcome}
use Rattle.update.specs.Reports.{sorted, added, removed, is_updated, updated, is_relinked, relinked, changes_with, changes_of, Changes, no_changes, unless_in, focus_moved, extra_before, extra_after}
use Rattle.update.proofs.Outcome.{ascending_outcome}
use Rattle.update.proofs.Reports.{removed_is, sorted_ids, sorted_keep, same_members}
use Rattle.calls.specs.declared.notes.Scope.{Scope}
use Rattle.calls.specs.Reported.{unless_before, unless_after, Reported, UpdateReported, ReportOf}
use Rattle.calls.specs.Layout.{FATES, CHANGED}
use Rattle.calls.specs.Setting.{asked, forest}
use Rattle.calls.specs.Codes.{node_at, id_at, slot_at, flag, change_of}
use Rattle.calls.specs.Says.{goes_word, changed_word, outcome_state, REPORTED}
use Rattle.calls.proofs.notes.Places.{slot_found, slot_present, slot_id, present_at}
use Rattle.update_focus.proofs.Numbers.{forest_length}
use Rattle.calls.specs.Outcomes.{changes_in, Outcomes}
use Rattle.calls.specs.Slice.{picked, changes_noted, ListsWritten}
use Rattle.calls.specs.declared.reports.Lists.{Lists}
use Rattle.calls.specs.declared.reports.TooShort.{TooShort}
use Rattle.calls.proofs.reports.Changed.{shows, counted}
use Rattle.calls.proofs.reports.Slice.{picked_ids}
use Rattle.state.specs.Focus.{state_focus}
use Rattle.calls.specs.declared.reports.Report.{Report}

module _ (xs : List FullNodeId) (x : FullNodeId) where
  -- a node that stands in a list, and one that does not
  pub unless_there : has same_id xs x ≡ true → None ≡ unless_in xs (Some x)
  unfolding unless_in
  unless_there e = rw e

  pub unless_absent : has same_id xs x ≡ false → Some x ≡ unless_in xs (Some x)
  unfolding unless_in
  unless_absent e = rw e

-- no node stands in no list
pub unless_none : (xs : List FullNodeId) → None ≡ unless_in xs None
unfolding unless_in
unless_none xs = refl

unless_nothing : (o : Option FullNodeId) → unless_in [] o ≡ o
unfolding unless_in
unless_nothing None = refl
unless_nothing (Some x) = refl

-- a report of two answers is that of two states whose focus they are
pub report_is : (s s' : State) (c : Changes) (before after lost got : Option FullNodeId) (r : Report) → ReportOf before after lost got r
    → before ≡ state_focus s → after ≡ state_focus s'
    → lost ≡ unless_before c before → got ≡ unless_after c after → Reported s s' c r
unfolding extra_before extra_after focus_moved
report_is s s' c before after lost got r says p q l g = record {
  before_is = says.before_is ∙ p;
  after_is = says.after_is ∙ q;
  extra_before_is = says.extra_before_is ∙ rw (l, p, q) (swapped (same_option same_id (state_focus s) (state_focus s')) (unless_before c (state_focus s)));
  extra_after_is = says.extra_after_is ∙ rw (g, p, q) (swapped (same_option same_id (state_focus s) (state_focus s')) (unless_after c (state_focus s')));
}
  where
    swapped : (t : Bool) (o : Option FullNodeId) → (if t then None else o) ≡ (if not t then o else None)
    swapped true o = refl
    swapped false o = refl

-- with empty lists the answers themselves are left
pub host_left : (o : Option FullNodeId) → (o ≡ unless_before no_changes o) × (o ≡ unless_after no_changes o)
unfolding no_changes
host_left o = (sym (unless_nothing o), sym (unless_nothing o))

-- ## Which nodes stand in a list

-- whether a node that may be found passes
abbrev passes : (NodeState → Bool) → Option NodeState → Bool
passes q o = elim o [ None ↦ false | Some n ↦ q n ]

passes_if : (q : NodeState → Bool) (t : Bool) (n : NodeState) → passes q (if t then Some n else None) ≡ (t and q n)
unfolding ◌and◌
passes_if q true n = refl
passes_if q false n = refl

-- a node that is found is kept if it passes
has_kept : (q : NodeState → Bool) (ns : List NodeState) (x : FullNodeId) → ascending ns ≡ true → has same_id (ids_of (keep q ns)) x ≡ passes q (find x ns)
unfolding ascending ids_of find
has_kept q [] x up = refl
has_kept q (n ∷ ns) x up = go (q n) refl (same_id x n.id) refl (has_kept q ns x (both up).1)
  where
    absent : same_id x n.id ≡ true → find x ns ≡ None
    absent f = find_none x ns (rw (same_id→≡ x n.id f) (both up).0)

    go : (t : Bool) → q n ≡ t → (u : Bool) → same_id x n.id ≡ u → has same_id (ids_of (keep q ns)) x ≡ passes q (find x ns)
        → has same_id (ids_of (if t then n ∷ keep q ns else keep q ns)) x ≡ passes q (if u then Some n else find x ns)
    go true e true f h = rw f (sym e)
    go true e false f h = rw f h
    go false e true f h = h ∙ ap (passes q) (absent f) ∙ sym e
    go false e false f h = h

-- a test beside one that it implies
and_implied : (p a : Bool) → (a ≡ true → p ≡ true) → (p and a) ≡ a
unfolding ◌and◌
and_implied true a h = refl
and_implied false true h = h refl
and_implied false false h = refl

-- a sorted list of the ids that pass a test, all of which are present among nodes in order, is what passes of the nodes' ids
among : (ns : List NodeState) (xs : List FullNodeId) (q : FullNodeId → Bool) → ascending ns ≡ true → sorted xs ≡ true
    → ((x : FullNodeId) → has same_id xs x ≡ q x)
    → ((x : FullNodeId) → q x ≡ true → present ns x ≡ true)
    → keep q (ids_of ns) ≡ xs
among ns xs q up order says there =
    same_members (keep q (ids_of ns)) xs (sorted_keep q (ids_of ns) (sorted_ids ns up)) order
    (λ x. has_keep same_id same_id→≡ q (ids_of ns) x
    ∙ ap (λ (t : Bool). t and q x) (sym (present_has ns x))
    ∙ and_implied (present ns x) (q x) (there x)
    ∙ sym (says x))

-- an old node that is updated, or relinked, by its id
abbrev was_updated : Forest → Batch → FullNodeId → Bool
was_updated s b x = old s b x and is_updated s (outcome s b) (pane_root s b) (node_at s (slot_at s x))

abbrev was_relinked : Forest → Batch → FullNodeId → Bool
was_relinked s b x = old s b x and is_relinked s (outcome s b) x

module _ (s : Forest) (b : Batch) (up : ascending s.nodes ≡ true) where
  -- among the outcome's nodes
  updated_among : keep (was_updated s b) (ids_of (outcome s b).nodes) ≡ updated s (outcome s b) (pane_root s b)
  unfolding updated old is_updated present
  updated_among =
      among (outcome s b).nodes (updated s (outcome s b) (pane_root s b)) (was_updated s b) (ascending_outcome s b up)
      (sorted_ids (keep (is_updated s (outcome s b) (pane_root s b)) s.nodes) (ascending_keep (is_updated s (outcome s b) (pane_root s b)) s.nodes up))
      (λ x. has_kept (is_updated s (outcome s b) (pane_root s b)) s.nodes x up
      ∙ ap (passes (is_updated s (outcome s b) (pane_root s b))) (slot_found s x)
      ∙ passes_if (is_updated s (outcome s b) (pane_root s b)) (ltb (slot_at s x) (length s.nodes)) (node_at s (slot_at s x))
      ∙ ap (λ (t : Bool). t and is_updated s (outcome s b) (pane_root s b) (node_at s (slot_at s x))) (sym (slot_present s x)))
      there
    where
      found : (o : Option NodeState) (f : NodeState → Bool) → passes f o ≡ true → is_some o ≡ true
      found None f e = absurd (false≢true e)
      found (Some n) f e = refl

      there : (x : FullNodeId) → was_updated s b x ≡ true → present (outcome s b).nodes x ≡ true
      there x e =
          let at = slot_id s x (ltb-true (slot_at s x) (length s.nodes) (sym (slot_present s x) ∙ (both e).0)) in
          rw at at (found (find (node_at s (slot_at s x)).id (outcome s b).nodes) _ (both e).1)

  relinked_among : keep (was_relinked s b) (ids_of (outcome s b).nodes) ≡ relinked s (outcome s b)
  unfolding relinked old is_relinked
  relinked_among =
      among (outcome s b).nodes (relinked s (outcome s b)) (was_relinked s b) (ascending_outcome s b up)
      (sorted_keep (is_relinked s (outcome s b)) (ids_of s.nodes) (sorted_ids s.nodes up))
      (λ x. has_keep same_id same_id→≡ (is_relinked s (outcome s b)) (ids_of s.nodes) x
      ∙ ap (λ (t : Bool). t and is_relinked s (outcome s b) x) (sym (present_has s.nodes x)))
      there
    where
      there : (x : FullNodeId) → was_relinked s b x ≡ true → present (outcome s b).nodes x ≡ true
      there x e = (both (both e).1).0

-- ## The bits of a mark

bits : (o u l : Bool) → (bit 1 (if o then 2 * flag u + 4 * flag l else 1) ≡ not o) × (bit 2 (if o then 2 * flag u + 4 * flag l else 1) ≡ (o and u))
    × (bit 4 (if o then 2 * flag u + 4 * flag l else 1) ≡ (o and l))
unfolding ◌and◌
bits true true true = (refl, refl, refl)
bits true true false = (refl, refl, refl)
bits true false true = (refl, refl, refl)
bits true false false = (refl, refl, refl)
bits false u l = (refl, refl, refl)

marks : (s : Forest) (b : Batch) (x : FullNodeId)
    → (bit 1 (change_of s b x) ≡ not (old s b x)) × (bit 2 (change_of s b x) ≡ was_updated s b x) × (bit 4 (change_of s b x) ≡ was_relinked s b x)
unfolding change_of
marks s b x = bits (old s b x) (is_updated s (outcome s b) (pane_root s b) (node_at s (slot_at s x))) (is_relinked s (outcome s b) x)

-- the bit of a flag
bit_flag : (t : Bool) → bit 1 (flag t) ≡ t
bit_flag true = refl
bit_flag false = refl

-- ## The four lists

module _ {state bytes : List ℕ} {c : Scope} {notes next : List ℕ} (given : Outcomes REPORTED state bytes c notes next) where
  -- the mark of the outcome's node r
  mark : (r : ℕ) → r < slots_of next → get_or notes (CHANGED + r) 0 ≡ change_of (forest state) (asked bytes c) (id_at (outcome (forest state) (asked bytes c)) r)
  unfolding changed_word
  mark r h = given.told.written 14 (omega arith) r (omega (arith, counted given))

  picked_added : picked 1 notes CHANGED next ≡ (changes_in state bytes c).added
  unfolding changes_of changes_with added old
  picked_added =
      picked_ids 1 notes CHANGED next (outcome (forest state) (asked bytes c)) (shows given) (λ x. not (present (forest state).nodes x))
      (λ r h. ap (bit 1) (mark r h) ∙ (marks (forest state) (asked bytes c) (id_at (outcome (forest state) (asked bytes c)) r)).0)

  picked_updated : picked 2 notes CHANGED next ≡ (changes_in state bytes c).updated
  unfolding changes_of changes_with
  picked_updated =
      picked_ids 2 notes CHANGED next (outcome (forest state) (asked bytes c)) (shows given) (was_updated (forest state) (asked bytes c))
      (λ r h. ap (bit 2) (mark r h) ∙ (marks (forest state) (asked bytes c) (id_at (outcome (forest state) (asked bytes c)) r)).1)
      ∙ updated_among (forest state) (asked bytes c) given.told.given.kept.ascending

  picked_removed : picked 1 notes FATES state ≡ (changes_in state bytes c).removed
  unfolding changes_of changes_with removed goes_word
  picked_removed =
      picked_ids 1 notes FATES state (forest state) refl (λ x. not (present (outcome (forest state) (asked bytes c)).nodes x))
      (λ i h. ap (bit 1) (given.told.written 9 (omega arith) i h)
      ∙ bit_flag (gone (forest state) (asked bytes c) (id_at (forest state) i))
      ∙ sym (removed_is (forest state) (asked bytes c) (id_at (forest state) i) (present_at (forest state) i (omega (arith, forest_length state)))))

  picked_relinked : picked 4 notes CHANGED next ≡ (changes_in state bytes c).relinked
  unfolding changes_of changes_with
  picked_relinked =
      picked_ids 4 notes CHANGED next (outcome (forest state) (asked bytes c)) (shows given) (was_relinked (forest state) (asked bytes c))
      (λ r h. ap (bit 4) (mark r h) ∙ (marks (forest state) (asked bytes c) (id_at (outcome (forest state) (asked bytes c)) r)).2)
      ∙ relinked_among (forest state) (asked bytes c) given.told.given.kept.ascending

  -- all of them
  changes_noted_lem : changes_noted state notes next ≡ changes_in state bytes c
  unfolding changes_of changes_with
  changes_noted_lem = λ k. record { added = picked_added k; updated = picked_updated k; removed = picked_removed k; relinked = picked_relinked k }

  pub lists_noted : (before after : List ℕ) (l : Result Lists TooShort) → ListsWritten (changes_noted state notes next) before after l → ListsWritten (changes_in state bytes c) before after l
  lists_noted before after l w = subst (λ d. ListsWritten d before after l) changes_noted_lem w

  pub report_noted : {r : Report} → Reported (view state) (view next) (changes_noted state notes next) r → UpdateReported state bytes c r
  report_noted {r} w =
      subst (λ d. Reported (view state) (outcome_state state bytes c) d r) changes_noted_lem
      (subst (λ n. Reported (view state) n (changes_noted state notes next) r) given.next_is w)

-- ## A node by its marks

module _ (xs ys : List FullNodeId) (found : Option FullNodeId) {x : FullNodeId} (is : found ≡ Some x) {t u : Bool} (p : t ≡ has same_id xs x) (q : u ≡ has same_id ys x) where
  marked : (t || u) ≡ has same_id (xs ++ ys) x
  marked = ap₂ ◌||◌ p q ∙ sym (any_append (same_id x) xs ys)

  -- it stands in one of two lists, or in neither
  pub unless_marked : (t || u) ≡ true → None ≡ unless_in (xs ++ ys) found
  unless_marked e = rw is (unless_there _ x (sym marked ∙ e))

  pub unless_unmarked : (t || u) ≡ false → Some x ≡ unless_in (xs ++ ys) (Some x)
  unless_unmarked e = unless_absent _ x (sym marked ∙ e)
