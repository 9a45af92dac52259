-- Number 19: a rule is found broken in an outcome where its shape is not sound, and only there. Assumes nothing.
use mathlib.Core.Bool.{true}
use mathlib.Core.List.{List, [], ◌∷◌, Memᴰ}
use mathlib.Core.Path.{◌≡◌, ap}
use Prim.Native.Nat.{◌≤◌}
use native.Mathlib.Omega.{arith}
use lib.ListN.{length, length-append}
use borrow.Author.Tests.{leb-true, le-leb}
use Rattle.base.specs.Tests.{is_none}
use Rattle.base.proofs.Lists.{all_of}
use Rattle.record.specs.Batch.{Listed, Batch, named_ids}
use Rattle.record.proofs.Parse.{BatchFacts}
use Rattle.state.specs.State.{Forest}
use Rattle.state.specs.Sound.{sound_shape, sound}
use Rattle.state.proofs.Sound.{shape_parts, sound_parts}
use Rattle.state.proofs.Pool.{child_total, children_few}
use Rattle.update.specs.Outcome.{outcome}
use Rattle.update.proofs.Outcome.{all_outcome}
use Rattle.reasons.specs.Shape.{broken_shape}
use Rattle.reasons.proofs.Lists.{sum_member}
use Rattle.reasons.proofs.Complete.{few_children, shape_exact}

-- a listed node names no more children than all do
children_named : (ls : List Listed) (l : Listed) → Memᴰ l ls → length l.body.children ≤ length (named_ids ls)
unfolding named_ids
children_named [] l x' = elim x' [ ]
children_named (k ∷ ls) l (Memᴰ.head q) = omega (arith, length-append k.body.children (named_ids ls), ap (λ (z : Listed). length z.body.children) q)
children_named (k ∷ ls) l (Memᴰ.tail i) = omega (arith, length-append k.body.children (named_ids ls), children_named ls l i)

-- in the outcome of a batch on a sound state a rule is found broken where the shape is not sound, and only there
pub outcome_exact : (s : Forest) (b : Batch) → sound s ≡ true → BatchFacts b → is_none (broken_shape (outcome s b)) ≡ sound_shape (outcome s b)
unfolding child_total
outcome_exact s b e facts =
    let p = sound_parts s e in
    shape_exact (outcome s b)
    (all_outcome few_children s b
    (all_of (λ n. few_children n.body) s.nodes (λ n i. le-leb (length n.body.children) 256
    (omega (
      arith,
      sum_member (λ n. length n.body.children) s.nodes n i,
      children_few s (shape_parts s p.shape),
      leb-true (length s.nodes) 256 p.few_nodes,
    ))))
    (all_of (λ l. few_children l.body) b.nodes
    (λ l i. le-leb (length l.body.children) 256 (omega (arith, children_named b.nodes l i, facts.named_limit)))))
