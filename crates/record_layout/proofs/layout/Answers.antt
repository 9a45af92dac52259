-- `record_layout::layout` meets its contract: no rule is broken where the bytes are well formed. Assumes nothing.
use mathlib.Core.Path.{sym, ap, ◌∙◌}
use native.Mathlib.Omega.{arith}
use Rattle.base.specs.Tests.{is_none}
use Rattle.record_rules.proofs.Rules.{fault_none}
use Rattle.record_layout.proofs.Rows.{test_says}
use Rattle.record_layout.proofs.layout.Goals as goal

pub returns : goal.returns
returns c =
    sym (test_says _ _ c.is_none.ensures) ∙ ap is_none c.offence.ensures
    ∙ fault_none c.args.batch.now (λ i. omega (arith, c.type_inv.batch i))
