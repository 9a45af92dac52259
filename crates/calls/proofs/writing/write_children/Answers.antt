-- `writing::write_children` meets its contract. The runs of the nodes before r are in their places. Assumes nothing.
use mathlib.Core.List.{List}
use Rattle.state_array.specs.Stored.{no_state}
use Rattle.state_array.proofs.Filled.{runs_none, runs_more, run_room, runs_all}
use mathlib.Core.Path.{◌≡◌}
use Prim.Native.Nat.{◌<◌, ℕ, ◌+◌}
use lib.ListN.{length, get_or}
use Rattle.calls.specs.declared.notes.Scope.{Scope}
use Rattle.calls.specs.Layout.{SOURCES}
use Rattle.calls.specs.Says.{Told, PLANNED}
use Rattle.calls.proofs.notes.Told.{batched}
use Rattle.calls.specs.Written.{nodes_after, source_children}
use Rattle.calls.proofs.writing.Plan.{count_told, node_among, nodes_room, entries_room, source_there}
use Rattle.calls.proofs.writing.Kids.{source_children_lem}
use native.Mathlib.Omega.{arith}
use Rattle.calls.proofs.writing.write_children.Goals as goal

-- the children of the outcome's node r, by its source
kids : {state bytes : List ℕ} {c : Scope} {notes : List ℕ} (told : Told PLANNED state bytes c notes) {r : ℕ} → r < length (nodes_after state bytes c)
    → source_children state bytes (get_or notes (SOURCES + r) 0) ≡ (get_or (nodes_after state bytes c) r no_state).body.children
kids {state} {bytes} {c} told l = source_children_lem state bytes _ c (batched state bytes c told.given) (source_there told l)

pub loop-r-init : goal.loop-r-init
loop-r-init c =
    let told = c.requires in
    (omega (arith, count_told told, nodes_room told), λ scope told. runs_none _ _)

pub write_run-first-requires : goal.write_run-first-requires
write_run-first-requires c =
    let told = c.requires in
    let l = c.loop-r in
    let among = node_among told c.loop-r-test.true in
    run_room _ l.r l.first _ _ l.next among (kids told among) (l.invariant.1 _ told) (entries_room told)

pub loop-r-preserved : goal.loop-r-preserved
loop-r-preserved c =
    let l = c.loop-r in (
      l.invariant.0,
      λ scope told.
          let among = node_among told c.loop-r-test.true in
          rw (c.write_run-first.ensures.value, c.write_run-first.ensures.next_after, c.put_first_child.ensures)
          (runs_more _ l.r l.first _ _ l.next among (omega arith) (kids told among) (l.invariant.1 scope told)),
    )

pub returns : goal.returns
returns c =
    let told = c.requires in
    runs_all _ c.loop-r.r _ _ _ (omega (arith, count_told told)) (c.loop-r.invariant.1 _ told)
