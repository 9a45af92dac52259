-- What a call answers is what its definition answers: a law for each way out. Assumes nothing.
use mathlib.Core.List.{List, []}
use mathlib.Core.Path.{◌≡◌, refl, ◌∙◌}
use Prim.Native.Nat.{ℕ}
use lib.ListN.{length}
use borrow.Author.Tests.{ne_eqb}
use Rattle.state.specs.State.{State}
use Rattle.state.specs.Focus.{state_focus}
use Rattle.state_array.specs.View.{view}
use Rattle.update.specs.Reports.{Changes, no_changes, lengths_of, slice_after}
use Rattle.update.specs.Calls as definition
use Rattle.calls.specs.declared.reports.Report as reports
use Rattle.calls.specs.Reported.{Reported, OnlyAfter}
use Rattle.replies.specs.declared.Lengths.{Lengths}
use Rattle.replies.specs.declared.Reply.{Reply}
use Rattle.replies.specs.Replies.{reply_to, Answers}
use Rattle.replies.specs.Plain.{lengths_are, refused_reply}
use Rattle.calls.specs.Plain.{plain_report, accepted_reply}

-- a refusal: the words are as they were
pub refused_answers : (k : ℕ) → (k ≡ 0 → ⊥) → (s : State) (kept written slice : List ℕ) → view kept ≡ s → (d : definition.Answer) → d ≡ definition.refused k s slice
    → (r : Reply) → r ≡ refused_reply k → Answers d kept written kept r slice
unfolding definition.refused reply_to refused_reply lengths_of no_changes
refused_answers k some s kept written slice shown d e r q =
    rw e (record { reply_is = q; state_is = shown; words_are = rw (ne_eqb k 0 some); slice_is = refl })

-- the lengths of four lists
abbrev lengths_in : Changes → Lengths
lengths_in c = lengths_are (length c.added) (length c.updated) (length c.removed) (length c.relinked)

-- an accepted batch or host focus change
pub accepted_answers : (s s' : State) (c : Changes) (lent kept written t : List ℕ) → t ≡ written → view t ≡ s' → (d : definition.Answer) → d ≡ definition.accepted s s' c lent
    → (p : reports.Report) → Reported s s' c p → (l : Lengths) → l ≡ lengths_in c → (r : Reply) → r ≡ accepted_reply l p → (slice : List ℕ) → slice ≡ slice_after lent c
    → Answers d kept written t r slice
unfolding definition.accepted reply_to accepted_reply plain_report lengths_of
accepted_answers s s' c lent kept written t same shown d e p said l long r q slice lists =
    rw e (record {
      reply_is = q ∙ rw (long, said.before_is, said.after_is, said.extra_before_is, said.extra_after_is);
      state_is = shown;
      words_are = same;
      slice_is = lists;
    })

-- an accepted start
pub started_answers : (s : State) (kept written t : List ℕ) → t ≡ written → view t ≡ s → (d : definition.Answer) → d ≡ definition.started s
    → (p : reports.Report) → OnlyAfter (state_focus s) p → (r : Reply) → r ≡ accepted_reply (lengths_are 0 0 0 0) p → Answers d kept written t r []
unfolding definition.started reply_to accepted_reply plain_report lengths_of no_changes
started_answers s kept written t same shown d e p said r q =
    rw e (record {
      reply_is = q ∙ rw (said.before_is, said.after_is, said.extra_before_is, said.extra_after_is);
      state_is = shown;
      words_are = same;
      slice_is = refl;
    })
