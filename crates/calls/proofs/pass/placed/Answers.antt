-- `pass::placed` meets its contract: a law for each way out. Assumes nothing.
use mathlib.Core.Path.{◌≡◌, ◌∙◌}
use native.Mathlib.Omega.{arith}
use Rattle.ids.specs.Ids.{ROOT, same_tree}
use Rattle.ids.proofs.Ids.{tree_test}
use Rattle.calls.proofs.notes.Told.{few_listed}
use Rattle.calls.proofs.pass.Faults.{placed_crowded, placed_claimless, placed_root, placed_claimed, placed_claim}
use Rattle.calls.proofs.pass.placed.Goals as goal

pub returns-then-grafts_new-child_count : goal.returns-then-grafts_new-child_count
returns-then-grafts_new-child_count c = search placed_crowded

pub overflow_add-i : goal.overflow_add-i
overflow_add-i c = omega (arith, few_listed)

pub offset_bounds-notes-i : goal.offset_bounds-notes-i
offset_bounds-notes-i c = omega (arith, few_listed)

pub bounds-notes-i : goal.bounds-notes-i
bounds-notes-i c = omega (arith, few_listed)

pub returns-then-notes-i-ne1 : goal.returns-then-notes-i-ne1
returns-then-notes-i-ne1 c = search placed_claimless

pub returns-then-eq : goal.returns-then-eq
returns-then-eq c =
    let test : c.eq.result ≡ same_tree c.graft-t.result ROOT = c.eq.ensures ∙ tree_test _ _ in
    search placed_root

pub returns-then-m-scope : goal.returns-then-m-scope
returns-then-m-scope c =
    let test : c.eq.result ≡ same_tree c.graft-t.result ROOT = c.eq.ensures ∙ tree_test _ _ in
    search placed_claimed

pub returns : goal.returns
returns c =
    let test : c.eq.result ≡ same_tree c.graft-t.result ROOT = c.eq.ensures ∙ tree_test _ _ in
    search placed_claim
