-- `reports::report_of` meets its contract: by whether the answers are the same. Assumes nothing.
use mathlib.Core.Bool.{◌&&◌}
use mathlib.Core.Path.{◌≡◌, refl, sym, ◌∙◌}
use lib.Dec.{eqb}
use Rattle.std.specs.Prelude.{Option, None, Some}
use Rattle.std.specs.Option.{option_eq}
use Rattle.base.specs.Tests.{same_option}
use Rattle.ids.specs.Ids.{same_id}
use Rattle.ids.proofs.Ids.{id_test}
use Rattle.ids.specs.declared.FullNodeId.{FullNodeId}
use Rattle.calls.proofs.reports.report_of.Goals as goal

-- whether two answers are the same node, or none both
found_test : (x y : Option FullNodeId) → option_eq (λ (a b : FullNodeId). eqb a.tree.0 b.tree.0 && eqb a.node.0 b.node.0) x y ≡ same_option same_id x y
found_test None None = refl
found_test None (Some y) = refl
found_test (Some x) None = refl
found_test (Some x) (Some y) = id_test x y

pub returns-then-eq : goal.returns-then-eq
returns-then-eq c =
    let same = sym (c.eq.ensures ∙ found_test c.args.before c.args.after) ∙ c.if-eq.true in
    record { before_is = refl; after_is = refl; extra_before_is = rw same; extra_after_is = rw same }

pub returns : goal.returns
returns c =
    let same = sym (c.eq.ensures ∙ found_test c.args.before c.args.after) ∙ c.if-eq.false in
    record { before_is = refl; after_is = refl; extra_before_is = rw same; extra_after_is = rw same }
