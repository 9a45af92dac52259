-- What the functions of src/answers.rt and src/seeds.rt answer, and how the host flag is put. Assumes nothing.
use Rattle.std.specs.Prelude.{List, ◌≡◌, ℕ, length, if◌then◌else◌}
use Rattle.record.specs.Parse.{batch_of}
use Rattle.state.specs.State.{State}
use Rattle.state_array.specs.Layout.{WORDS}
use Rattle.state_array.specs.Put.{host_put}
use Rattle.update.specs.Calls.{seed}
use Rattle.calls.specs.declared.reports.Report as reports
use Rattle.replies.specs.declared.Lengths.{Lengths}
use Rattle.replies.specs.declared.Report.{Report}
use Rattle.replies.specs.declared.Reply.{Reply}
use Rattle.replies.specs.Replies.{plain_id, is_set}

-- a report, its enums as plain ids
unfoldable pub plain_report : reports.Report → Report
plain_report r = record {
  focus_before = plain_id r.focus_before;
  focus_after = plain_id r.focus_after;
  extra_before = plain_id r.extra_before;
  extra_after = plain_id r.extra_after;
}

-- an accepted call's reply
unfoldable pub accepted_reply : Lengths → reports.Report → Reply
accepted_reply l r = record { lengths = l; report = plain_report r; number = 0 }

-- the state that a start's batch is applied to: ROOT with the root and the focus of the record, and no node
unfoldable pub seeded : List ℕ → ℕ → State
seeded bytes host = record { forest = seed (batch_of bytes); host_focused = is_set host }

-- the flag's word is put, and there was one
pub record HostPut (s : List ℕ) (host : ℕ) (t : List ℕ) : Type 0 where
  pub long : length s ≡ WORDS
  pub put : t ≡ host_put (if is_set host then 1 else 0) s
