-- Counting the nodes met: where each is met once and what is met is recorded, as many are met as there are, so `way_ends` follows from the
-- other rules. Assumes nothing.
use mathlib.Core.Bool.{true, not, false≢true}
use mathlib.Core.List.{List, [], ◌∷◌}
use Rattle.std.specs.Prelude.{None}
use Rattle.std.proofs.lemmas.Option.{none-some}
use mathlib.Core.Path.{◌≡◌, refl, sym, ap, ◌∙◌}
use Prim.Native.Nat.{ℕ, suc, ◌+◌}
use native.Mathlib.Omega.{arith}
use lib.ListN.{length}
use borrow.Author.Tests.{eqb-true, le-leb}
use Rattle.base.specs.Tests.{is_some, all, count, distinct}
use Rattle.base.proofs.Cases.{by_test}
use Rattle.base.proofs.Tests.{both, joined}
use Rattle.ids.specs.Ids.{same_id}
use Rattle.ids.proofs.Ids.{same_id→≡, same_id_sym}
use Rattle.ids.specs.declared.FullNodeId.{FullNodeId}
use Rattle.state.specs.State.{NodeState, ids_of, Forest, find, present}
use Rattle.state.specs.Down.{Met, way_down}
use Rattle.state.specs.Sound.{met_once, recorded, sound_links, ascending, way_ends}
use Rattle.state.proofs.State.{present_has}
use Rattle.state.proofs.Order.{find_none}
use Rattle.state.proofs.Down.{recorded_present}

-- ids that ascend differ
pub distinct_ids : (ns : List NodeState) → ascending ns ≡ true → distinct same_id (ids_of ns) ≡ true
unfolding ascending ids_of present
distinct_ids [] e = refl
distinct_ids (n ∷ ns) e = joined (ap not (sym (present_has ns n.id) ∙ ap is_some (find_none n.id ns (both e).0))) (distinct_ids ns (both e).1)

-- how often a node is met
unfoldable pub meets : FullNodeId → List Met → ℕ
meets x ms = count (λ m. same_id x m.id) ms

-- how many of the nodes have the id that is met
hits : Met → List NodeState → ℕ
hits m ns = count (λ n. same_id n.id m.id) ns

-- how often the nodes are met, all together
unfoldable pub total : List NodeState → List Met → ℕ
total [] ms = 0
total (n ∷ ns) ms = meets n.id ms + total ns ms

total_none : (ns : List NodeState) → total ns [] ≡ 0
unfolding total meets
total_none [] = refl
total_none (n ∷ ns) = omega (arith, total_none ns)

total_more : (ns : List NodeState) (m : Met) (ms : List Met) → total ns (m ∷ ms) ≡ hits m ns + total ns ms
unfolding total meets hits
total_more [] m ms = refl
total_more (n ∷ ns) m ms =
    let h = total_more ns m ms in by_test (same_id n.id m.id) (λ t. rw t (omega arith)) (λ t. rw t (omega arith))

-- an absent id is met by none, and in order a present one by one
hits_none : (m : Met) (ns : List NodeState) → find m.id ns ≡ None → hits m ns ≡ 0
unfolding find hits
hits_none m [] e = refl
hits_none m (n ∷ ns) e =
    by_test (same_id m.id n.id) (λ t. absurd (none-some n (sym (rw t at e))))
    (λ t. rw (same_id_sym n.id m.id, t) (hits_none m ns (rw t at e)))

hits_one : (m : Met) (ns : List NodeState) → ascending ns ≡ true → present ns m.id ≡ true → hits m ns ≡ 1
unfolding find present hits ascending
hits_one m [] up e = absurd (false≢true e)
hits_one m (n ∷ ns) up e =
    by_test (same_id m.id n.id)
    (λ t. rw (same_id_sym n.id m.id, t) (ap suc (hits_none m ns (find_none m.id ns (rw (same_id→≡ m.id n.id t) (both up).0)))))
    (λ t. rw (same_id_sym n.id m.id, t) (hits_one m ns (both up).1 (rw t at e)))

-- each of those met is one node, if they are recorded
pub total_all : (ns : List NodeState) → ascending ns ≡ true → (ms : List Met) → all (recorded ns) ms ≡ true → total ns ms ≡ length ms
total_all ns up [] e = total_none ns
total_all ns up (m ∷ ms) e =
    omega (arith, total_more ns m ms, hits_one m ns up (recorded_present ns m (both e).0), total_all ns up ms (both e).1)

-- all met once: as many are met as there are nodes
pub once_total : (ns : List NodeState) (ms : List Met) → all (met_once ms) ns ≡ true → total ns ms ≡ length ns
unfolding total met_once meets
once_total [] ms e = refl
once_total (n ∷ ns) ms e = omega (arith, eqb-true (meets n.id ms) 1 (both e).0, once_total ns ms (both e).1)

pub way_ends_lem : (s : Forest) → sound_links s ≡ true → ascending s.nodes ≡ true → way_ends s ≡ true
unfolding sound_links way_ends
way_ends_lem s e up =
    let links = both (both e).0 in
    le-leb (length (way_down s)) (length s.nodes) (omega (arith, once_total s.nodes (way_down s) links.0, total_all s.nodes up (way_down s) links.1))
