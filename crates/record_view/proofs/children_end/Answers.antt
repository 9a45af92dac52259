-- `record_view::children_end` meets its contract: the sum is no large number. Assumes nothing.
use mathlib.Core.Path.{refl, ap}
use Prim.Native.Nat.{◌+◌}
use Rattle.record_reader.specs.declared.NodeRecord.{NodeRecord}
use Rattle.record_view.proofs.View.{end_small}
use native.Mathlib.Omega.{arith}
use Rattle.record_view.proofs.children_end.Goals as goal

pub overflow_add-result : goal.overflow_add-result
overflow_add-result c =
    let a = c.args in
    let sum = ap (λ (n : NodeRecord). n.first_child + n.child_count) c.read_node-n.ensures in
    omega (arith, end_small a.batch.now (λ k. omega (arith, c.shared_slice_known-1.given k)) a.i refl refl, sum)

pub returns : goal.returns
returns c = ap (λ (n : NodeRecord). n.first_child + n.child_count) c.read_node-n.ensures
