-- `gone::fate_at` meets its contract. Assumes nothing.
use mathlib.Core.Path.{◌≡◌, sym, ◌∙◌}
use borrow.Author.Tests.{eqb-true, eqb-false}
use Rattle.calls.proofs.gone.Slots.{parent_within, fate_top, fate_mine, fate_below, fate_root}
use native.Mathlib.Omega.{arith}
use Rattle.calls.proofs.gone.fate_at.Goals as goal

pub returns-then-l-eq0 : goal.returns-then-l-eq0
returns-then-l-eq0 c = search fate_top

pub overflow_add-parent_turn : goal.overflow_add-parent_turn
overflow_add-parent_turn c = omega (arith, parent_within c.requires.told c.requires.i_bound c.id_at-x.ensures c.link_at-l.ensures c.if-l-eq0.false)

pub offset_bounds-notes-slot : goal.offset_bounds-notes-slot
offset_bounds-notes-slot c = omega (arith, parent_within c.requires.told c.requires.i_bound c.id_at-x.ensures c.link_at-l.ensures c.if-l-eq0.false)

pub bounds-notes-slot : goal.bounds-notes-slot
bounds-notes-slot c = omega (arith, parent_within c.requires.told c.requires.i_bound c.id_at-x.ensures c.link_at-l.ensures c.if-l-eq0.false)

pub returns-then-eq : goal.returns-then-eq
returns-then-eq c =
    let mine : c.id_at-x.result.tree.0 ≡ c.args.scope.tree.0 = eqb-true _ _ (sym c.eq.ensures ∙ c.if-eq.true) in
    search fate_mine

pub returns-then-eq-2 : goal.returns-then-eq-2
returns-then-eq-2 c =
    let other : c.id_at-x.result.tree.0 ≡ c.args.scope.tree.0 → ⊥ = eqb-false _ _ (sym c.eq.ensures ∙ c.if-eq.false) in
    let own : c.link_at-l.result.parent.tree.0 ≡ c.id_at-x.result.tree.0 = eqb-true _ _ (sym c.eq-2.ensures ∙ c.if-eq-2.true) in
    search fate_below

pub fate_under-requires : goal.fate_under-requires
fate_under-requires c = record { told = c.requires.told; slot_bound = parent_within c.requires.told c.requires.i_bound c.id_at-x.ensures c.link_at-l.ensures c.if-l-eq0.false }

pub returns : goal.returns
returns c =
    let other : c.id_at-x.result.tree.0 ≡ c.args.scope.tree.0 → ⊥ = eqb-false _ _ (sym c.eq.ensures ∙ c.if-eq.false) in
    let apart : c.link_at-l.result.parent.tree.0 ≡ c.id_at-x.result.tree.0 → ⊥ = eqb-false _ _ (sym c.eq-2.ensures ∙ c.if-eq-2.false) in
    search fate_root
