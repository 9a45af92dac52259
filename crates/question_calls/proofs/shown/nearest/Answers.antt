-- `shown::nearest` meets its contract: by the filter that asks no parent, or by those that do. Assumes nothing.
use mathlib.Core.Bool.{Bool}
use mathlib.Core.Path.{sym, ap, ◌∙◌}
use native.Mathlib.Omega.{arith}
use Rattle.questions.specs.Filters.{filter_of}
use Rattle.question_calls.specs.Plain.{seen_at, first_included, up_from}
use Rattle.question_calls.specs.Filters.{excepted_filter}
use Rattle.question_calls.proofs.filters.Near.{plain_filter, asking_filter}
use Rattle.question_calls.proofs.shown.nearest.Goals as goal

pub returns-then-is_plain : goal.returns-then-is_plain
returns-then-is_plain c =
    let a = c.args in record {
      included_value = c.included_from.ensures
          ∙ ap (λ f. first_included f (up_from a.state.now a.i)) (plain_filter _ _ (sym c.is_plain.ensures ∙ c.if-is_plain.true));
      knows = λ l. absurd (omega (arith, c.slots.ensures));
    }

pub returns : goal.returns
returns c =
    let a = c.args in
    let v = seen_at a.state.now a.focused in
    let asks = asking_filter v a.filter (sym c.is_plain.ensures ∙ c.if-is_plain.false) in
    let same = ap (λ (e : Bool). filter_of (excepted_filter e) v) c.has_root_exception-excepted.ensures ∙ asks in record { included_value = c.nearest_up-up.ensures.included_is ∙ ap (λ f. first_included f (up_from a.state.now a.i)) same; knows = c.nearest_up-up.ensures.dropped_is }
