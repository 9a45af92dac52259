-- Laws of numbers 15 to 17 and 20: the reason, by the number that was found. Assumes nothing.
use mathlib.Core.Bool.{Bool, true, false}
use mathlib.Core.List.{List, [], ◌∷◌}
use mathlib.Core.Path.{◌≡◌, refl, sym, ap, ◌∙◌}
use Prim.Native.Nat.{ℕ, ◌≤◌, ◌<◌}
use native.Mathlib.Omega.{arith}
use lib.Dec.{ltb}
use lib.ListN.{length}
use borrow.Author.Tests.{lt-ltb, le-ltb}
use Rattle.std.specs.Prelude.{if◌then◌else◌, Option, None, Some}
use Rattle.base.specs.Tests.{is_none}
use Rattle.base.specs.Tables.{row, first}
use Rattle.ids.specs.Ids.{ROOT}
use Rattle.ids.specs.declared.TreeId.{TreeId}
use Rattle.reasons.specs.Reasons.{Reason, accepted, root_absent, too_many, last_of}
use Rattle.reasons_calls.specs.Outcome.{focus_way, last_graft, focus_reason}
use Rattle.reasons_calls.specs.Explain.{reason_if}
use Rattle.reasons_why.specs.declared.Why.{Why}
use Rattle.reasons_why.specs.Why.{or_root, why, why_of, why_for}
use Rattle.state.specs.State.{Forest}
use Rattle.state.specs.Down.{root_of}
use Rattle.state.specs.Focus.{effective_focus}
use Rattle.state_array.specs.View.{slots_of, view}
use Rattle.update.specs.Numbers.{absent}
use Rattle.update_focus.proofs.Numbers.{forest_length}
use Rattle.update_focus.specs.Numbers.{focus_number}

-- ## 15 to 17

-- a table of three rows, and the reasons that go with them
module _ (x y z : Reason) {k : ℕ} where
  -- no row holds
  row_none : (a b c : Bool) → k ≡ first (row 15 a ∷ row 16 b ∷ row 17 c ∷ []) → k ≡ 0
      → (if a then Some x else if b then Some y else if c then Some z else None) ≡ None
  unfolding first
  row_none true b c e q = absurd (omega arith)
  row_none false true c e q = absurd (omega arith)
  row_none false false true e q = absurd (omega arith)
  row_none false false false e q = refl

  -- the first, the second or the third does
  row_first : (a b c : Bool) → k ≡ first (row 15 a ∷ row 16 b ∷ row 17 c ∷ []) → k ≡ 15
      → (if a then Some x else if b then Some y else if c then Some z else None) ≡ Some x
  unfolding first
  row_first true b c e q = refl
  row_first false true c e q = absurd (omega arith)
  row_first false false true e q = absurd (omega arith)
  row_first false false false e q = absurd (omega arith)

  row_second : (a b c : Bool) → k ≡ first (row 15 a ∷ row 16 b ∷ row 17 c ∷ []) → k ≡ 16
      → (if a then Some x else if b then Some y else if c then Some z else None) ≡ Some y
  unfolding first
  row_second true b c e q = absurd (omega arith)
  row_second false true c e q = refl
  row_second false false true e q = absurd (omega arith)
  row_second false false false e q = absurd (omega arith)

  row_third : (a b c : Bool) → k ≡ first (row 15 a ∷ row 16 b ∷ row 17 c ∷ []) → (k ≡ 0 → ⊥) → (k ≡ 15 → ⊥) → (k ≡ 16 → ⊥)
      → (if a then Some x else if b then Some y else if c then Some z else None) ≡ Some z
  unfolding first
  row_third true b c e p q r = absurd (q e)
  row_third false true c e p q r = absurd (r e)
  row_third false false true e p q r = refl
  row_third false false false e p q r = absurd (p e)

module _ (o : Forest) {k : ℕ} (number : k ≡ focus_number o) {r : Why} where
  pub why_focused : k ≡ 0 → r ≡ why_of accepted → r ≡ why_for (focus_reason o)
  unfolding focus_number focus_reason why_for
  why_focused q e =
      e ∙ sym (ap why_for (row_none _ _ _ (is_none (effective_focus o)) (absent o.nodes (root_of o)) (absent o.nodes (effective_focus o)) number q))

  pub why_nothing : {t : TreeId} → k ≡ 15 → t ≡ or_root (last_graft o (focus_way o))
      → r ≡ why 15 0 (length (focus_way o)) 0 t (last_of (focus_way o)) None None → r ≡ why_for (focus_reason o)
  unfolding focus_number focus_reason why_for why_of
  why_nothing q is e =
      e ∙ rw is
      (sym (ap why_for (row_first _ _ _ (is_none (effective_focus o)) (absent o.nodes (root_of o)) (absent o.nodes (effective_focus o)) number q)))

  pub why_rootless : k ≡ 16 → r ≡ why_of (root_absent (root_of o)) → r ≡ why_for (focus_reason o)
  unfolding focus_number focus_reason why_for
  why_rootless q e =
      e ∙ sym (ap why_for (row_second _ _ _ (is_none (effective_focus o)) (absent o.nodes (root_of o)) (absent o.nodes (effective_focus o)) number q))

  pub why_lost : (k ≡ 0 → ⊥) → (k ≡ 15 → ⊥) → (k ≡ 16 → ⊥)
      → r ≡ why 17 0 (length (focus_way o)) 0 ROOT (last_of (focus_way o)) None None → r ≡ why_for (focus_reason o)
  unfolding focus_number focus_reason why_for why_of
  why_lost p q s e =
      e ∙ sym (ap why_for (row_third _ _ _ (is_none (effective_focus o)) (absent o.nodes (root_of o)) (absent o.nodes (effective_focus o)) number p q s))

-- ## 20

-- the reason that an outcome has too many nodes
abbrev many_reason : Forest → Option Reason
many_reason o = reason_if (ltb 256 (length o.nodes)) (too_many (length o.nodes))

module _ (s : List ℕ) {n : ℕ} (count : n ≡ slots_of s) where
  pub why_few : {r : Why} → n ≤ 256 → r ≡ why_of accepted → r ≡ why_for (many_reason (view s).forest)
  unfolding why_for
  why_few l e = e ∙ sym (rw (forest_length s ∙ sym count, le-ltb 256 n l))

  pub why_many : 256 < n → why 20 0 n 0 ROOT None None None ≡ why_for (many_reason (view s).forest)
  unfolding why_for why_of
  why_many l = sym (rw (forest_length s ∙ sym count, lt-ltb 256 n l))
