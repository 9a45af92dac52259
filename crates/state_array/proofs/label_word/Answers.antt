-- `state_array::label_word` meets its contract: the slot's word, cut at the label's end. Assumes nothing.
use mathlib.Core.Path.{◌≡◌, sym, ◌∙◌}
use Prim.Native.Nat.{◌+◌, ◌*◌, ◌-◌}
use native.Mathlib.Nat.{mod-one, min-zero}
use native.Mathlib.Omega.{arith}
use Rattle.state_array.specs.Layout.{LABEL_LENGTH, LABEL, word}
use Rattle.state_array.proofs.Bodies.{label_cut}
use Rattle.state_array.proofs.label_word.Goals as goal

pub returns-then-length-from : goal.returns-then-length-from
returns-then-length-from c =
    let a = c.args in
    let none : word a.state.now LABEL_LENGTH a.i - 8 * a.k ≡ 0 = omega (arith, c.word_at-length.ensures, c.if-length-from.true) in
    sym (label_cut a.state.now a.i a.k c.requires ∙ rw (none, min-zero 8) (mod-one (word a.state.now (LABEL + a.k) a.i)))

pub returns : goal.returns
returns c =
    let a = c.args in
    c.low_bytes.ensures ∙ rw (c.word_at-length.ensures, c.word_at.ensures) (sym (label_cut a.state.now a.i a.k c.requires))
