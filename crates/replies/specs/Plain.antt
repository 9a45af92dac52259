-- What the functions answer: lengths, and the reply of a refused call. Assumes nothing.
use Rattle.std.specs.Prelude.{ℕ, None}
use Rattle.replies.specs.declared.Lengths.{Lengths}
use Rattle.replies.specs.declared.Reply.{Reply}
use Rattle.replies.specs.Replies.{plain_id}

-- four lengths
abbrev pub lengths_are : ℕ → ℕ → ℕ → ℕ → Lengths
lengths_are added updated removed relinked = record { added = added; updated = updated; removed = removed; relinked = relinked }

-- after any number but 0: the other parts are 0 or none
unfoldable pub refused_reply : ℕ → Reply
refused_reply k = record {
  lengths = lengths_are 0 0 0 0;
  report = record { focus_before = plain_id None; focus_after = plain_id None; extra_before = plain_id None; extra_after = plain_id None };
  number = k;
}
