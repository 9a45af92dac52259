-- `writing::write_nodes` meets its contract. The nodes before r are in their places. Assumes nothing.
use mathlib.Core.Path.{ap, ◌∙◌}
use Prim.Native.Nat.{◌<◌}
use lib.ListN.{length}
use Rattle.base.proofs.Regions.{fills_none}
use Rattle.state_array.specs.Stored.{link_row}
use Rattle.update_bodies.proofs.Bodies.{floats_fit}
use Rattle.update_bodies.proofs.Same.{bytes_all}
use Rattle.calls.specs.Links.{link_word}
use Rattle.state_array.proofs.Filled.{node_more}
use Rattle.calls.specs.Written.{nodes_after}
use Rattle.calls.proofs.writing.Plan.{count_told, nodes_room, told_compared, code_there, code_few, id_there, link_there, body_there}
use native.Mathlib.Omega.{arith}
use Rattle.calls.proofs.writing.write_nodes.Goals as goal

pub loop-r-init : goal.loop-r-init
loop-r-init c = let all = count_told c.requires in (all, omega (arith, all, nodes_room c.requires), search fills_none)

pub id_of-x-requires : goal.id_of-x-requires
id_of-x-requires c = code_few c.requires (omega (arith, c.loop-r.invariant.0))

pub link_of-l-requires : goal.link_of-l-requires
link_of-l-requires c =
    let told = c.requires in
    record { told = told_compared told; coded = code_there told (omega (arith, c.loop-r.invariant.0)) }

pub loop-r-preserved : goal.loop-r-preserved
unfolding link_word
loop-r-preserved c =
    let l = c.loop-r in
    let among : l.r < length (nodes_after c.args.state.now c.args.batch.now c.args.scope) = omega (arith, l.invariant.0) in (
      l.invariant.0,
      l.invariant.1,
      node_more _ l.r (omega arith) _ l.invariant.2 (c.id_of-x.ensures ∙ id_there c.requires among) (c.link_of-l.ensures ∙ ap link_row (link_there c.requires among))
          (body_there c.requires among c.body_of-body.ensures (floats_fit c.body_of-body.result _ c.body_of-body.type_inv) (bytes_all c.args.batch.now (λ k. omega (arith, c.type_inv.batch k)))) c.put_id.ensures c.put_link.ensures c.put_body.ensures,
    )
