-- `filters::is_kept` meets its contract: with the exception or without it. Assumes nothing.
use mathlib.Core.Bool.{true, false, or-false}
use mathlib.Core.Path.{◌≡◌, refl, sym}
use Rattle.base.proofs.Tests.{call_false, call_true}
use Rattle.base.specs.Tests.{◌and◌}
use Rattle.question_calls.specs.Filters.{is_kept}
use Rattle.question_calls.proofs.filters.is_kept.Goals as goal

pub returns-then-not-excepted : goal.returns-then-not-excepted
unfolding is_kept ◌and◌
returns-then-not-excepted c = let bare : c.args.excepted ≡ false = call_false refl c.if-not-excepted.true in rw (c.is_include-included.ensures, bare) (sym (or-false _))

pub returns : goal.returns
unfolding is_kept ◌and◌
returns c =
    let excepted : c.args.excepted ≡ true = call_true refl c.if-not-excepted.false in
    rw (c.is_include-included.ensures, c.is_root.ensures, excepted) refl
