-- What explaining answers: a reason as plain fields, and the way that it has in all its words. Assumes nothing.
use Rattle.std.specs.Prelude.{not, List, [], ◌∷◌, ◌≡◌, ℕ, ltb, length, replicate, Option, None, Some}
use Rattle.base.specs.Tests.{is_none}
use Rattle.ids.specs.Ids.{ROOT, same_tree}
use Rattle.ids.specs.declared.FullNodeId.{FullNodeId}
use Rattle.record.specs.Batch.{Batch, listed_ids}
use Rattle.record.specs.Parse.{batch_of}
use Rattle.record_rules.specs.declared.Offence.{Offence}
use Rattle.record_rules.specs.Rules.{record_fault}
use Rattle.reasons.specs.Reasons.{Reason, unsound_state, broken_record, no_tree_data, not_root, too_many, first_reason}
use Rattle.reasons.specs.Shape.{broken_state}
use Rattle.reasons_calls.specs.Pass.{repeated_after, pass_fault, placeless_from, nowhere_fault}
use Rattle.reasons_calls.specs.Outcome.{clash_reason, focus_reason, removed_reason, outcome_reason}
use Rattle.reasons_calls.specs.Explain.{reason_if, reasons_before_pass, reasons_after_pass}
use Rattle.replies.specs.Replies.{plain_id}
use Rattle.reasons_why.specs.declared.Why.{Why}
use Rattle.reasons_why.specs.Why.{why, why_of, why_for, way_of, way_words}
use Rattle.state.specs.State.{Forest}
use Rattle.state.specs.Sound.{sound}
use Rattle.update.specs.Outcome.{outcome}
use Rattle.update.specs.Calls.{seed, without_tree_data}
use Rattle.state_array.specs.Layout.{blank_words}
use Rattle.calls.specs.Says.{Written}
use Rattle.calls.specs.declared.notes.Scope.{Scope}
use Rattle.calls.specs.Setting.{asked, forest}
use Rattle.calls.specs.declared.explain.Explanation.{Explanation}

-- ## The contracts

-- a reason's fields as plain numbers
unfoldable pub plain_why : Why → Explanation
plain_why w = record {
  place = w.place;
  other = w.other;
  tree = w.tree;
  node = plain_id w.node;
  by = plain_id w.by;
  also = plain_id w.also;
  rule = w.rule;
  number = w.number;
}

-- a reason: its plain numbers, and every word of its way
pub record Explained (reason : Reason) (r : Explanation) (way : List ℕ) : Type 0 where
  pub explanation_is : r ≡ plain_why (why_of reason)
  pub way_is : way ≡ way_words (way_of reason)

-- of a start, with the memory blank afterwards
pub record ExplainedStart (reason : Reason) (r : Explanation) (way memory : List ℕ) : Type 0 where
  pub explained : Explained reason r way
  pub blank : memory ≡ blank_words

-- ## Parts

-- a reason: its fields, and its way
pub record Explains (reason : Reason) (r : Why) (way : List ℕ) : Type 0 where
  pub why_is : r ≡ why_of reason
  pub way_is : way ≡ way_words (way_of reason)

-- the words of no way
abbrev pub no_way : List ℕ
no_way = replicate 66 0

-- the way of a reason, if there is one
unfoldable pub way_for : Option Reason → List FullNodeId
way_for None = []
way_for (Some r) = way_of r

-- a reason, or none
pub record ExplainsFor (o : Option Reason) (r : Why) (way : List ℕ) : Type 0 where
  pub why_is : r ≡ why_for o
  pub way_is : way ≡ way_words (way_for o)

-- row 2
unfoldable pub offence_why : Offence → Why
offence_why o = why 2 o.rule o.offset 0 ROOT None None None

-- the reason of a record that breaks a rule
abbrev pub record_reason : Option Offence → Option Reason
record_reason o = elim o [ None ↦ None | Some x ↦ Some (broken_record x) ]

-- rows 1, 2 and 5 to 8
unfoldable pub first_reasons : Forest → List ℕ → List (Option Reason)
first_reasons s bytes =
    reason_if (not (sound s)) (unsound_state (broken_state s)) ∷ record_reason (record_fault bytes) ∷ reasons_before_pass s (batch_of bytes)

-- rows 2 to 5 of a start
unfoldable pub start_reasons : List ℕ → List (Option Reason)
start_reasons bytes =
    record_reason (record_fault bytes)
    ∷ reason_if (is_none (batch_of bytes).root) no_tree_data
    ∷ reason_if (not (same_tree (batch_of bytes).tree ROOT)) (not_root (batch_of bytes).tree)
    ∷ repeated_after (seed (batch_of bytes)) (without_tree_data (batch_of bytes)) [] (listed_ids (batch_of bytes).nodes)
    ∷ []

-- rows 9 to 14
abbrev pub pass_reasons : Forest → Batch → List (Option Reason)
pass_reasons s b = pass_fault s b ∷ placeless_from s b 0 b.nodes ∷ nowhere_fault s b ∷ []

-- 12's second part and rows 15 to 20; o is the outcome
unfoldable pub last_reasons : Forest → Batch → Forest → List (Option Reason)
last_reasons s b o =
    clash_reason s b o
    ∷ focus_reason o
    ∷ removed_reason s b
    ∷ outcome_reason o
    ∷ reason_if (ltb 256 (length o.nodes)) (too_many (length o.nodes))
    ∷ []

-- rows 9 to 20
unfoldable pub later_reasons : Forest → Batch → List (Option Reason)
later_reasons s b = pass_fault s b ∷ reasons_after_pass s b (outcome s b)

-- a batch judged by them; where there is no reason, the outcome is written
pub record Judged (state bytes : List ℕ) (c : Scope) (notes next : List ℕ) (r : Why) (way : List ℕ) : Type 0 where
  pub explained : ExplainsFor (first_reason (later_reasons (forest state) (asked bytes c))) r way
  pub written : r.number ≡ 0 → Written state bytes c notes next
