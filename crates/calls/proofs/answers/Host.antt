-- What a host focus change answers. Assumes nothing.
use mathlib.Core.List.{List, []}
use mathlib.Core.Bool.{true, false}
use mathlib.Core.Path.{◌≡◌, refl, ap, ◌∙◌}
use Prim.Native.Nat.{ℕ}
use native.Mathlib.Omega.{arith}
use Rattle.std.specs.Prelude.{if◌then◌else◌, Option}
use Rattle.base.proofs.Tests.{bit_set}
use Rattle.ids.specs.Ids.{id_words}
use Rattle.state_array.specs.View.{view}
use Rattle.state_array.proofs.View.{view_host}
use Rattle.state.specs.Focus.{state_focus}
use Rattle.state.specs.Sound.{sound}
use Rattle.update.specs.Reports.{no_changes, change_words, slice_after}
use Rattle.update.specs.Calls as definition
use Rattle.calls.specs.declared.reports.Report as reports
use Rattle.calls.specs.Reported.{HostReported}
use Rattle.replies.specs.declared.Reply.{Reply}
use Rattle.replies.specs.Replies.{is_set, HostFocuses}
use Rattle.replies.specs.Plain.{lengths_are, refused_reply}
use Rattle.calls.specs.Plain.{accepted_reply, HostPut}
use Rattle.ids.specs.declared.FullNodeId.{FullNodeId}
use Rattle.calls.proofs.answers.Answers.{refused_answers, accepted_answers}

-- on a state that is not sound
pub host_refused : (s : List ℕ) (host : ℕ) → sound (view s).forest ≡ false → (r : Reply) → r ≡ refused_reply 1 → HostFocuses s host s r
unfolding definition.host_focus
host_refused s host e r q =
    let d : definition.host_focus (view s) (is_set host) ≡ definition.refused 1 (view s) [] = rw e in
    refused_answers 1 (λ z. omega arith) (view s) s _ [] refl _ d r q

-- on one that is
pub host_accepted : (s : List ℕ) (host : ℕ) → sound (view s).forest ≡ true → (t : List ℕ) → HostPut s host t
    → (before after : Option FullNodeId) → before ≡ state_focus (view s) → after ≡ state_focus (view t)
    → (p : reports.Report) → HostReported before after p → (r : Reply) → r ≡ accepted_reply (lengths_are 0 0 0 0) p → HostFocuses s host t r
unfolding definition.host_focus definition.with_host_focus no_changes slice_after change_words id_words
host_accepted s host e t h before after b a p said r q =
    let shown : view t ≡ definition.with_host_focus (view s) (is_set host) =
    ap view h.put ∙ view_host s (if is_set host then 1 else 0) h.long ∙ rw (bit_set (is_set host)) in
    let d : definition.host_focus (view s) (is_set host) ≡ definition.accepted (view s) (definition.with_host_focus (view s) (is_set host)) no_changes [] = rw e in
    accepted_answers (view s) (definition.with_host_focus (view s) (is_set host)) no_changes [] s _ t h.put shown _ d p (said _ _ b (rw shown at a)) _ refl r q [] refl
