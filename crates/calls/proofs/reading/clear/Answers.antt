-- `reading::clear` meets its contract. Assumes nothing.
use mathlib.Core.Path.{◌≡◌, sym, ◌∙◌}
use Prim.Native.Nat.{ℕ}
use lib.ListN.{replicate, length-replicate}
use native.Mathlib.Omega.{arith}
use borrow.Author.Rules.{rules}
use Rattle.std.proofs.lemmas.Slice.{put_mid-paste}
use Rattle.calls.proofs.reading.Reading.{zeros_fill}
use Rattle.calls.proofs.reading.clear.Goals as goal

pub returns : goal.returns
returns c =
    let n = c.args.n in
    let zeros : c.fill.new.self ≡ replicate n 0 = search rules in
    put_mid-paste _ _ _ _ (replicate n 0) n zeros (omega arith) (sym (length-replicate {A = ℕ} n 0)) ∙ zeros_fill _ _ _ (omega arith)
