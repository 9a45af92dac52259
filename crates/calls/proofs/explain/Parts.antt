-- What the functions answer, by the facts that each has. Assumes nothing.
use mathlib.Core.Bool.{Bool, true, false, not, ◌||◌, true≢false, false≢true}
use mathlib.Core.List.{List, [], ◌∷◌}
use Rattle.std.specs.Prelude.{Option, None, Some}
use mathlib.Core.Path.{◌≡◌, refl, sym, ap, ◌∙◌}
use Prim.Native.Nat.{ℕ, ◌<◌}
use native.Mathlib.Omega.{arith}
use lib.Dec.{eqb, ltb}
use lib.ListN.{get_or, length}
use Rattle.base.specs.Tests.{is_some, is_none}
use Rattle.base.proofs.Cases.{by_test}
use Rattle.ids.specs.Ids.{ROOT, same_tree}
use Rattle.ids.specs.declared.TreeId.{TreeId}
use Rattle.record.specs.Batch.{Batch, listed_ids}
use Rattle.record.specs.Parse.{well_formed, batch_of}
use Rattle.record_rules.specs.declared.Offence.{Offence}
use Rattle.record_rules.specs.Rules.{record_fault}
use Rattle.record_rules.proofs.Rules.{fault_none}
use Rattle.state.specs.State.{Forest}
use Rattle.state.specs.Down.{root_of}
use Rattle.state.specs.Focus.{effective_focus}
use Rattle.state.specs.Sound.{sound, sound_shape}
use Rattle.update.specs.Calls.{seed, without_tree_data}
use Rattle.update.specs.Numbers.{absent}
use Rattle.state_array.specs.Layout.{blank_words}
use Rattle.replies.specs.Replies.{plain_id}
use Rattle.replies.specs.declared.OptionalId.{OptionalId}
use Rattle.reasons.specs.Reasons.{Reason, number_of, unsound_outcome, no_tree_data, not_root, too_many, first_reason}
use Rattle.reasons.specs.Shape.{broken_state, broken_shape}
use Rattle.reasons_calls.specs.Outcome.{focus_way, focus_reason, clash_reason, removed_reason, outcome_reason}
use Rattle.reasons_calls.specs.Pass.{repeated_after}
use Rattle.reasons_calls.specs.Explain.{reason_if, reasons_before_pass}
use Rattle.calls.specs.WhyRows.{AgainIs}
use Rattle.reasons_why.specs.declared.Why.{Why}
use Rattle.reasons_why.specs.Why.{of_tree, why_broken, why_of, why_for, way_of, way_words}
use Rattle.calls.specs.declared.explain.Explanation.{Explanation}
use Rattle.calls.specs.Explained.{plain_why, Explained, ExplainedStart, Explains, ExplainsFor, no_way, way_for, offence_why, record_reason, first_reasons, start_reasons, last_reasons}
use Rattle.calls.proofs.explain.Explained.{Wayless, wayless_of, wayless_if, alone, explains_plain, explains_found, explains_passed, explains_alone}
use Rattle.calls.proofs.explain.Calls.{none_way}
use Rattle.reasons_calls.proofs.Numbers.{clash_number, removed_number}
use Rattle.reasons_why.proofs.Numbers.{Proper, proper}
use Rattle.update.specs.Words.{tree_number}

-- ## Plain numbers

pub plain_is : (w : Why) {n b a : OptionalId} → n ≡ plain_id w.node → b ≡ plain_id w.by → a ≡ plain_id w.also
    → record { place = w.place; other = w.other; tree = w.tree; node = n; by = b; also = a; rule = w.rule; number = w.number } ≡ plain_why w
unfolding plain_why
plain_is w p q s = rw (p, q, s)

module _ {reason : Reason} {v : Why} {r : Explanation} {way : List ℕ} (h : Explains reason v way) (e : r ≡ plain_why v) where
  pub explained_is : Explained reason r way
  explained_is = record { explanation_is = e ∙ ap plain_why h.why_is; way_is = h.way_is }

  pub explained_start : {memory : List ℕ} → memory ≡ blank_words → ExplainedStart reason r way memory
  explained_start b = record { explained = explained_is; blank = b }

-- ## Row 2

-- ROOT's number in the forest that a start begins with
seed_number : (b : Batch) → same_tree b.tree ROOT ≡ true → record { 0 = 0 } ≡ tree_number (seed b) (without_tree_data b)
unfolding tree_number seed without_tree_data
seed_number b e = rw e

module _ (bytes : List ℕ) {o : Option Offence} (is : o ≡ record_fault bytes) where
  pub offence_found : (os : List (Option Reason)) {x : Offence} {r : Why} → o ≡ Some x → r ≡ offence_why x → r ≡ why_for (first_reason (record_reason (record_fault bytes) ∷ os))
  unfolding offence_why why_for why_of
  offence_found os some e = rw (sym is ∙ some) e

  pub offence_none : o ≡ None → record_fault bytes ≡ None
  offence_none none = sym is ∙ none

  pub offence_formed : ((i : ℕ) → get_or bytes i 0 < 256) → o ≡ None → well_formed bytes ≡ true
  offence_formed small none = sym (fault_none bytes small) ∙ ap is_none (offence_none none)

  -- ## Rows 1, 2 and 5 to 8

  module _ (s : Forest) {t : Bool} (sound-is : t ≡ sound s) where
    pub first_offence : {x : Offence} {r : Why} → t ≡ true → o ≡ Some x → r ≡ offence_why x → r ≡ why_for (first_reason (first_reasons s bytes))
    unfolding first_reasons
    first_offence l some e = rw (sym sound-is ∙ l) (offence_found (reasons_before_pass s (batch_of bytes)) some e)

    pub first_rest : {r : Why} → t ≡ true → o ≡ None → r ≡ why_for (first_reason (reasons_before_pass s (batch_of bytes))) → r ≡ why_for (first_reason (first_reasons s bytes))
    unfolding first_reasons
    first_rest l none e = rw (sym sound-is ∙ l, offence_none none) e

  -- ## Rows 2 to 5 of a start

  pub start_offence : {x : Offence} {r : Why} → o ≡ Some x → r ≡ offence_why x → r ≡ why_for (first_reason (start_reasons bytes))
  unfolding start_reasons
  start_offence some e =
      offence_found
      (reason_if (is_none (batch_of bytes).root) no_tree_data
      ∷ reason_if (not (same_tree (batch_of bytes).tree ROOT)) (not_root (batch_of bytes).tree)
      ∷ repeated_after (seed (batch_of bytes)) (without_tree_data (batch_of bytes)) [] (listed_ids (batch_of bytes).nodes)
      ∷ [])
      some e

  module _ (none : o ≡ None) {d : Bool} (rooted : d ≡ is_some (batch_of bytes).root) where
    pub start_unrooted : {r : Why} → d ≡ false → r ≡ of_tree 3 ROOT → r ≡ why_for (first_reason (start_reasons bytes))
    unfolding start_reasons why_for why_of
    start_unrooted l e = rw (offence_none none, ap not (sym rooted ∙ l)) e

    module _ (l : d ≡ true) {t : TreeId} (tree : t ≡ (batch_of bytes).tree) {q : Bool} (root : q ≡ same_tree t ROOT) where
      pub start_pane : {r : Why} → q ≡ false → r ≡ of_tree 4 t → r ≡ why_for (first_reason (start_reasons bytes))
      unfolding start_reasons why_for why_of
      start_pane k e = rw (offence_none none, ap not (sym rooted ∙ l), ← tree, ap not (sym root ∙ k)) e

      pub start_again : {r : Why} → q ≡ true → AgainIs bytes (record { 0 = 0 }) r → r ≡ why_for (first_reason (start_reasons bytes))
      unfolding start_reasons without_tree_data
      start_again {r} k e =
          let is_the_root : same_tree (batch_of bytes).tree ROOT ≡ true = rw (← tree) (sym root ∙ k) in
          let number : record { 0 = 0 } ≡ tree_number (seed (batch_of bytes)) (without_tree_data (batch_of bytes)) = seed_number (batch_of bytes) is_the_root in
          let again = e.says (seed (batch_of bytes)) (without_tree_data (batch_of bytes)) refl number in
          rw (offence_none none, ap not (sym rooted ∙ l), is_the_root) (again ∙ ap why_for (sym (alone _)))

pub first_unsound : (bytes : List ℕ) (s : Forest) {t : Bool} {r : Why} → t ≡ sound s → t ≡ false → r ≡ why_broken 1 (broken_state s) → r ≡ why_for (first_reason (first_reasons s bytes))
unfolding first_reasons why_for why_of
first_unsound bytes s is l e = rw (sym is ∙ l) e

-- ## Rows 15 to 20, the last ones

root_wayless : (o : Forest) → is_none (effective_focus o) ≡ false → absent o.nodes (root_of o) ≡ true → Wayless (focus_reason o)
unfolding focus_reason way_of
root_wayless o t u = rw (t, u) refl

present_wayless : (o : Forest) → is_none (effective_focus o) ≡ false → absent o.nodes (root_of o) ≡ false → absent o.nodes (effective_focus o) ≡ false → Wayless (focus_reason o)
unfolding focus_reason way_of
present_wayless o t u v = rw (t, u, v) tt

-- 20
abbrev many : Forest → Option Reason
many o = reason_if (ltb 256 (length o.nodes)) (too_many (length o.nodes))

-- the rows after 18, after 17, and after 12
abbrev after_removed : Forest → List (Option Reason)
after_removed o = outcome_reason o ∷ many o ∷ []

abbrev after_focus : Forest → Batch → Forest → List (Option Reason)
after_focus s b o = removed_reason s b ∷ after_removed o

abbrev after_clash : Forest → Batch → Forest → List (Option Reason)
after_clash s b o = focus_reason o ∷ after_focus s b o

module _ (o : Forest) {r : Why} {way : List ℕ} where
  unsound_explains : sound_shape o ≡ false → r ≡ why_broken 19 (broken_shape o) → way ≡ no_way
      → ExplainsFor (first_reason (after_removed o)) r way
  unfolding outcome_reason why_for why_of way_of
  unsound_explains f e z = rw f (explains_plain (Some (unsound_outcome (broken_shape o))) refl e z)

  many_explains : sound_shape o ≡ true → r ≡ why_for (many o) → way ≡ no_way
      → ExplainsFor (first_reason (after_removed o)) r way
  unfolding outcome_reason way_of
  many_explains f e z =
      rw f (explains_alone (many o) (explains_plain (many o) (wayless_if (ltb 256 (length o.nodes)) (too_many (length o.nodes)) refl) e z))

-- ## Rows 15 to 17

-- 15 or 17
abbrev has_way : ℕ → Bool
has_way n = eqb n 15 || eqb n 17

module _ (o : Forest) where
  way_led : is_none (effective_focus o) ≡ true → way_for (focus_reason o) ≡ focus_way o
  unfolding focus_reason way_for way_of
  way_led t = rw t

  way_lost : is_none (effective_focus o) ≡ false → absent o.nodes (root_of o) ≡ false → absent o.nodes (effective_focus o) ≡ true → way_for (focus_reason o) ≡ focus_way o
  unfolding focus_reason way_for way_of
  way_lost t u v = rw (t, u, v)

  module _ {w : Why} (e : w ≡ why_for (focus_reason o)) where
    number_15 : is_none (effective_focus o) ≡ true → w.number ≡ 15
    unfolding focus_reason why_for why_of
    number_15 t = ap (λ (x : Why). x.number) e ∙ rw t

    number_16 : is_none (effective_focus o) ≡ false → absent o.nodes (root_of o) ≡ true → w.number ≡ 16
    unfolding focus_reason why_for why_of
    number_16 t u = ap (λ (x : Why). x.number) e ∙ rw (t, u)

    number_17 : is_none (effective_focus o) ≡ false → absent o.nodes (root_of o) ≡ false → absent o.nodes (effective_focus o) ≡ true → w.number ≡ 17
    unfolding focus_reason why_for why_of
    number_17 t u v = ap (λ (x : Why). x.number) e ∙ rw (t, u, v)

    number_0 : is_none (effective_focus o) ≡ false → absent o.nodes (root_of o) ≡ false → absent o.nodes (effective_focus o) ≡ false → w.number ≡ 0
    unfolding focus_reason why_for why_of
    number_0 t u v = ap (λ (x : Why). x.number) e ∙ rw (t, u, v)

    pub focus_led : {way : List ℕ} → has_way w.number ≡ true → way ≡ way_words (focus_way o) → ExplainsFor (focus_reason o) w way
    focus_led l h =
        by_test (is_none (effective_focus o)) (λ t. record { why_is = e; way_is = h ∙ ap way_words (sym (way_led t)) })
        (λ t. by_test (absent o.nodes (root_of o)) (λ u. absurd (false≢true (sym (ap has_way (number_16 t u)) ∙ l)))
        (λ u. by_test (absent o.nodes (effective_focus o)) (λ v. record { why_is = e; way_is = h ∙ ap way_words (sym (way_lost t u v)) })
        (λ v. absurd (false≢true (sym (ap has_way (number_0 t u v)) ∙ l)))))

    pub focus_plain : {way : List ℕ} → has_way w.number ≡ false → way ≡ no_way → ExplainsFor (focus_reason o) w way
    focus_plain l h =
        by_test (is_none (effective_focus o)) (λ t. absurd (true≢false (sym (ap has_way (number_15 t)) ∙ l)))
        (λ t. by_test (absent o.nodes (root_of o)) (λ u. explains_plain (focus_reason o) (root_wayless o t u) e h)
        (λ u. by_test (absent o.nodes (effective_focus o)) (λ v. absurd (true≢false (sym (ap has_way (number_17 t u v)) ∙ l)))
        (λ v. explains_plain (focus_reason o) (present_wayless o t u v) e h)))

-- ## 12's second part and rows 15 to 20

proper_focus : (o : Forest) → Proper (focus_reason o)
unfolding focus_reason number_of
proper_focus o =
    by_test (is_none (effective_focus o)) (λ t. rw t (omega arith))
    (λ t. by_test (absent o.nodes (root_of o)) (λ u. rw (t, u) (omega arith))
    (λ u. by_test (absent o.nodes (effective_focus o)) (λ v. rw (t, u, v) (omega arith)) (λ v. rw (t, u, v) tt)))

module _ (s : Forest) (b : Batch) (o : Forest) {cl : Why} (clash : cl ≡ why_for (clash_reason s b o)) where
  pub outcome_clash : {way : List ℕ} → (cl.number ≡ 0 → ⊥) → way ≡ no_way → ExplainsFor (first_reason (last_reasons s b o)) cl way
  unfolding last_reasons
  outcome_clash some? z =
      explains_found (clash_reason s b o) (after_clash s b o)
      (explains_plain (clash_reason s b o) (wayless_of (clash_reason s b o) 12 (λ k. omega arith) (λ k. omega arith) (clash_number s b o)) clash z) some?

  module _ (none-12 : cl.number ≡ 0) {f : Why} {way : List ℕ} (focus : ExplainsFor (focus_reason o) f way) where
    past_clash : {r : Why} → ExplainsFor (first_reason (after_clash s b o)) r way → ExplainsFor (first_reason (last_reasons s b o)) r way
    unfolding last_reasons
    past_clash h = explains_passed (clash_reason s b o) (after_clash s b o) (proper (clash_reason s b o) 12 (omega arith) (clash_number s b o)) clash none-12 h

    pub outcome_focus : (f.number ≡ 0 → ⊥) → ExplainsFor (first_reason (last_reasons s b o)) f way
    outcome_focus some? = past_clash (explains_found (focus_reason o) (after_focus s b o) focus some?)

    module _ (none-15 : f.number ≡ 0) {m : Why} (removed : m ≡ why_for (removed_reason s b)) where
      no_way_yet : way ≡ no_way
      no_way_yet = none_way (focus_reason o) (proper_focus o) focus none-15

      past_focus : {r : Why} → ExplainsFor (first_reason (after_focus s b o)) r way
          → ExplainsFor (first_reason (last_reasons s b o)) r way
      past_focus h = past_clash (explains_passed (focus_reason o) (after_focus s b o) (proper_focus o) focus.why_is none-15 h)

      pub outcome_removed : (m.number ≡ 0 → ⊥) → ExplainsFor (first_reason (last_reasons s b o)) m way
      outcome_removed some? =
          past_focus (explains_found (removed_reason s b) (after_removed o)
          (explains_plain (removed_reason s b) (wayless_of (removed_reason s b) 18 (λ k. omega arith) (λ k. omega arith) (removed_number s b)) removed no_way_yet) some?)

      module _ (none-18 : m.number ≡ 0) {t : Bool} (shape : t ≡ sound_shape o) {r : Why} where
        past_removed : ExplainsFor (first_reason (after_removed o)) r way
            → ExplainsFor (first_reason (last_reasons s b o)) r way
        past_removed h = past_focus (explains_passed (removed_reason s b) (after_removed o) (proper (removed_reason s b) 18 (omega arith) (removed_number s b)) removed none-18 h)

        pub outcome_unsound : t ≡ false → r ≡ why_broken 19 (broken_shape o) → ExplainsFor (first_reason (last_reasons s b o)) r way
        outcome_unsound l e = past_removed (shape_explains l e)
          where
            shape_explains : t ≡ false → r ≡ why_broken 19 (broken_shape o)
                → ExplainsFor (first_reason (after_removed o)) r way
            shape_explains k h = unsound_explains o (sym shape ∙ k) h no_way_yet

        pub outcome_many : t ≡ true → r ≡ why_for (many o) → ExplainsFor (first_reason (last_reasons s b o)) r way
        outcome_many l e = past_removed (many_explains o (sym shape ∙ l) e no_way_yet)
