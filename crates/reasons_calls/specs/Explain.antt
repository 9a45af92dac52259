-- What a call to explain answers: the reason of the first row that holds, in the order of document 01's table. Assumes nothing.
use Rattle.std.specs.Prelude.{Bool, not, List, [], ◌∷◌, ◌++◌, ℕ, ltb, leb, length, if◌then◌else◌, Option, None, Some}
use Rattle.base.specs.Tests.{◌and◌, is_none}
use Rattle.ids.specs.Ids.{ROOT, same_tree}
use Rattle.record.specs.Batch.{Batch, listed_ids}
use Rattle.record.specs.Parse.{parse}
use Rattle.state.specs.State.{Forest, State, holder, subtree_of}
use Rattle.state.specs.Sound.{sound}
use Rattle.update.specs.Words.{known, with_tree_data}
use Rattle.update.specs.Outcome.{outcome}
use Rattle.update.specs.Reports.{changes_of, change_words}
use Rattle.update.specs.Calls.{seed, without_tree_data}
use Rattle.reasons.specs.Reasons.{Reason, first_reason, accepted, unsound_state, broken_record, no_tree_data, not_root, notGrafted, notExisting}
use Rattle.reasons.specs.Reasons.{noNumberLeft, too_many, slice_too_short}
use Rattle.record_rules.specs.Rules.{record_fault}
use Rattle.reasons.specs.Shape.{broken_state}
use Rattle.reasons_calls.specs.Pass.{repeated_after, pass_fault, placeless_from, nowhere_fault}
use Rattle.reasons_calls.specs.Outcome.{clash_reason, focus_reason, removed_reason, outcome_reason}

-- a reason where a test holds
abbrev pub reason_if : Bool → Reason → Option Reason
reason_if test r = if test then Some r else None

-- 5 to 8 of a batch
unfoldable pub reasons_before_pass : Forest → Batch → List (Option Reason)
reasons_before_pass s b =
    repeated_after s b [] (listed_ids b.nodes)
    ∷ reason_if (with_tree_data s b and not (same_tree b.tree ROOT) and is_none (holder s.nodes b.tree)) (notGrafted b.tree)
    ∷ reason_if (not (with_tree_data s b) and not (same_tree b.tree ROOT) and is_none (subtree_of s b.tree)) (notExisting b.tree)
    ∷ reason_if (not (known s b) and leb 32 (length s.trees)) (noNumberLeft b.tree)
    ∷ []

-- 13 to 20; o is the outcome
unfoldable pub reasons_after_pass : Forest → Batch → Forest → List (Option Reason)
reasons_after_pass s b o =
    placeless_from s b 0 b.nodes
    ∷ nowhere_fault s b
    ∷ clash_reason s b o
    ∷ focus_reason o
    ∷ removed_reason s b
    ∷ outcome_reason o
    ∷ reason_if (ltb 256 (length o.nodes)) (too_many (length o.nodes))
    ∷ []

-- 5 to 20
unfoldable pub batch_reason : Forest → Batch → Option Reason
batch_reason s b = first_reason (reasons_before_pass s b ++ pass_fault s b ∷ reasons_after_pass s b (outcome s b))

-- 21: the lists take more elements than are lent
unfoldable pub slice_reason : Forest → Batch → ℕ → Option Reason
slice_reason s b room =
    let most = length (change_words (changes_of s b)) in
    reason_if (ltb room most) (slice_too_short most room)

-- the reason, or that there is none
unfoldable pub or_accepted : Option Reason → Reason
or_accepted None = accepted
or_accepted (Some r) = r

-- a batch on a state, with so many elements lent for the lists
unfoldable pub why_update : State → List ℕ → ℕ → Reason
why_update s bytes room =
    or_accepted
    (first_reason
    (reason_if (not (sound s.forest)) (unsound_state (broken_state s.forest))
    ∷ elim (record_fault bytes) [ None ↦ None | Some o ↦ Some (broken_record o) ]
    ∷ elim (parse bytes) [ None ↦ [] | Some b ↦ batch_reason s.forest b ∷ slice_reason s.forest b room ∷ [] ]))

-- a start
unfoldable pub why_start : List ℕ → Reason
why_start bytes =
    or_accepted
    (first_reason
    (elim (record_fault bytes) [ None ↦ None | Some o ↦ Some (broken_record o) ]
    ∷ elim (parse bytes) [
      | None ↦ []
      | Some b ↦
          reason_if (is_none b.root) no_tree_data
          ∷ reason_if (not (same_tree b.tree ROOT)) (not_root b.tree)
          ∷ batch_reason (seed b) (without_tree_data b)
          ∷ []
    ]))
