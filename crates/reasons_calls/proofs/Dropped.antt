-- The reason of 18 says what is so: an old node that goes has a node above it, or is one, that goes by itself. Assumes nothing.
use mathlib.Core.Bool.{true, false≢true}
use Rattle.std.specs.Prelude.{None, Some}
use mathlib.Core.Path.{◌≡◌, refl}
use Prim.Native.Nat.{ℕ, zero, suc}
use lib.ListN.{length}
use Rattle.base.proofs.Cases.{by_option}
use Rattle.base.proofs.Tests.{both}
use Rattle.ids.specs.declared.FullNodeId.{FullNodeId}
use Rattle.record.specs.Batch.{Batch}
use Rattle.state.specs.State.{ParentAndIndex, NodeState, Forest, find, present, link_at}
use Rattle.update.specs.Words.{here}
use Rattle.update.specs.Gone.{Fate, stays, goes, asParent, fares, fate, gone_within, gone}
use Rattle.update.specs.Numbers.{updated_and_removed}
use Rattle.reasons.specs.Reasons.{Dropped}
use Rattle.reasons_calls.specs.Outcome.{dropper, dropped_within, removed_reason}
use Rattle.reasons.specs.Breaks.{Up, there, step}
use Rattle.reasons_calls.specs.Holds.{Goes, as_root, from, OfBatch}
use Rattle.reasons.proofs.First.{IfSome, says_if, says_first}

module _ (s : Forest) (b : Batch) where
  -- some node above x, or x itself, goes by itself: with it what climbing finds
  record Climbed (room : ℕ) (x : FullNodeId) : Type 0 where
    found : Dropped
    is : dropped_within s b room x ≡ Some found
    steps : ℕ
    above : Up s.nodes (λ z l. fate s b z l ≡ asParent) steps x found.node
    why : Goes s b found

  climbs : (room : ℕ) (x : FullNodeId) → gone_within s b room x ≡ true → Climbed room x
  unfolding gone_within dropped_within dropper link_at present fares
  climbs zero x e = absurd (false≢true e)
  climbs (suc room) x e =
      by_option (find x s.nodes) (λ q. absurd (false≢true (rw (q, gone_within) at e)))
      (λ n q. by_option n.parent_and_index
      (λ p. record {
        found = record { node = x; by = None };
        is = rw (q, dropped_within, p);
        steps = 0;
        above = there;
        why = as_root (rw (q, link_at) p) (rw (q, gone_within, p) at e) refl;
      })
      (λ l p. on n q l p (fate s b x l) refl (rw (q, gone_within, p) at e) (climbs room l.parent)))
    where
      on : (n : NodeState) → find x s.nodes ≡ Some n → (l : ParentAndIndex) → n.parent_and_index ≡ Some l → (f : Fate) → fate s b x l ≡ f
          → fares f (gone_within s b room l.parent) ≡ true → (gone_within s b room l.parent ≡ true → Climbed room l.parent) → Climbed (suc room) x
      on n q l p stays f g h = absurd (false≢true g)
      on n q l p goes f g h = record {
        found = record { node = x; by = dropper s b l.parent };
        is = rw (q, dropped_within, p, f);
        steps = 0;
        above = there;
        why = from l (rw (q, link_at) p) f refl;
      }
      on n q l p asParent f g h =
          let z = h g in
          let link : link_at s.nodes x ≡ Some l = rw (q, link_at) p in
          record {
            found = z.found;
            is = rw (q, dropped_within, p, f) z.is;
            steps = suc z.steps;
            above = step l link f z.above;
            why = z.why;
          }

  -- 18
  pub removed_true : IfSome (OfBatch s b) (removed_reason s b)
  unfolding removed_reason OfBatch updated_and_removed gone
  removed_true =
      says_first (OfBatch s b) _ b.nodes
      (λ l i. says_if (OfBatch s b) (updated_and_removed s b l) _
      (λ t. let x = here s b l.id in
      let z = climbs (length s.nodes) x (both t).0 in
      rw z.is
      ((l, i, refl, t), record { steps = z.steps; above = z.above; why = z.why })))
