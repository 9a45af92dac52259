-- What the library's functions promise: each part of a reply, every word of the state and every element of the lent slice. Assumes nothing.
use Rattle.std.specs.Prelude.{Bool, not, List, [], ◌≡◌, ℕ, eqb, if◌then◌else◌, Option, None, Some}
use Rattle.ids.specs.declared.FullNodeId.{FullNodeId}
use Rattle.state_array.specs.Put.{host_put}
use Rattle.state_array.specs.Stored.{stored}
use Rattle.state_array.specs.View.{view}
use Rattle.update.specs.Calls as definition
use Rattle.state_array.specs.Layout.{blank_words}
use Rattle.replies.specs.declared.OptionalId.{OptionalId}
use Rattle.replies.specs.declared.Reply.{Reply}

-- ## The reply

-- an id, or none, as three numbers
unfoldable pub plain_id : Option FullNodeId → OptionalId
plain_id None = record { node = 0; tree = 0; present = 0 }
plain_id (Some x) = record { node = x.node.0; tree = x.tree.0; present = 1 }

-- what the definition answers, as a reply
unfoldable pub reply_to : definition.Answer → Reply
reply_to d = record {
  lengths = record {
    added = d.lengths.added;
    updated = d.lengths.updated;
    removed = d.lengths.removed;
    relinked = d.lengths.relinked;
  };
  report = record {
    focus_before = plain_id d.focus_before;
    focus_after = plain_id d.focus_after;
    extra_before = plain_id d.extra_before;
    extra_after = plain_id d.extra_after;
  };
  number = d.number;
}

-- ## The contracts

-- A call that answers as the definition d does: its reply; the state's words t, which are `written` after acceptance and `kept` after any
-- other number; the lent slice as it then is, [] where none is lent.
pub record Answers (d : definition.Answer) (kept written t : List ℕ) (r : Reply) (slice : List ℕ) : Type 0 where
  pub reply_is : r ≡ reply_to d
  pub state_is : view t ≡ d.state
  pub words_are : t ≡ (if eqb d.number 0 then written else kept)
  pub slice_is : slice ≡ d.slice

-- whether a flag from outside counts as set
abbrev pub is_set : ℕ → Bool
is_set flag = not (eqb flag 0)

-- a start: t is the state afterwards, the one image of the definition's; after a refusal all zeros
abbrev pub Starts : List ℕ → ℕ → List ℕ → Reply → Type 0
Starts bytes host t r = let d = definition.start bytes (is_set host) in Answers d blank_words (stored d.state) t r []

-- a batch on the state s: after acceptance the one image of the definition's state, after a refusal every word as it was
abbrev pub Updates : List ℕ → List ℕ → List ℕ → List ℕ → Reply → List ℕ → Type 0
Updates s bytes lent t r slice = let d = definition.update (view s) bytes lent in Answers d s (stored d.state) t r slice

-- a host focus change of the state s: the flag's word alone
abbrev pub HostFocuses : List ℕ → ℕ → List ℕ → Reply → Type 0
HostFocuses s host t r = Answers (definition.host_focus (view s) (is_set host)) s (host_put (if is_set host then 1 else 0) s) t r []
