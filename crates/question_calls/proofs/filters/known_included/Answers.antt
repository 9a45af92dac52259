-- `filters::known_included` meets its contract: a node that is included is not dropped. Assumes nothing.
use mathlib.Core.Path.{sym, ◌∙◌}
use Rattle.question_calls.proofs.filters.Near.{included_undropped}
use Rattle.question_calls.proofs.filters.known_included.Goals as goal

pub returns-then-is_plain : goal.returns-then-is_plain
returns-then-is_plain = (λ c k _. c.nothing_known.ensures k)

pub returns-then-is_root : goal.returns-then-is_root
returns-then-is_root = (λ c k _. c.nothing_known-then-is_root.ensures k)

pub returns : goal.returns
returns c = λ k included l.
    included_undropped _ _ _ (sym c.is_plain.ensures ∙ c.if-is_plain.false) (sym c.is_root.ensures ∙ c.if-is_root.false) (included l)
