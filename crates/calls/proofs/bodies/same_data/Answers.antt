-- `bodies::same_data` meets its contract: the data compared, then the children. Assumes nothing.
use native.Mathlib.Omega.{arith}
use Rattle.update_bodies.proofs.Bodies.{floats_fit}
use Rattle.update_bodies.proofs.Same.{bytes_all}
use Rattle.calls.proofs.notes.Told.{few_listed, few_named}
use Rattle.calls.proofs.bodies.Differs.{run_within, other_data, same_data_lem}
use Rattle.calls.proofs.bodies.same_data.Goals as goal

pub overflow_add-i : goal.overflow_add-i
overflow_add-i c = omega (arith, few_listed)

pub returns-then-not-same_body : goal.returns-then-not-same_body
returns-then-not-same_body c =
    other_data c.requires.told c.requires.i_lt_listed.0 c.requires.i_lt_listed.1 c.body_of-old.ensures (floats_fit c.body_of-old.result _ c.body_of-old.type_inv) c.body_of-new.ensures
    (bytes_all c.args.batch.now (λ k. omega (arith, c.type_inv.batch k))) c.same_body.ensures c.if-not-same_body.true

pub overflow_add-to : goal.overflow_add-to
overflow_add-to c = omega (arith, run_within c.requires.told c.requires.i_lt_listed.0, few_named, c.first_child-to.ensures)

pub returns : goal.returns
returns c =
    same_data_lem c.requires.told c.requires.i_lt_listed.0 c.requires.i_lt_listed.1 c.body_of-old.ensures (floats_fit c.body_of-old.result _ c.body_of-old.type_inv) c.body_of-new.ensures
    (bytes_all c.args.batch.now (λ k. omega (arith, c.type_inv.batch k)))
    c.same_body.ensures c.if-not-same_body.false
    c.id_at-own.ensures c.shape_at-shape.ensures
    c.first_entry-from.ensures c.first_child-to.ensures c.child_entries-entries.ensures c.same_run.ensures
