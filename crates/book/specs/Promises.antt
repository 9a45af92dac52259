-- Demand 3 over the functions that a terminal links: any accepted start, any list of calls after it, and any chain of states in which each
-- call's reply and the words that it leaves are such as its contract allows for the words that the last call left. Assumes nothing.
use Rattle.std.specs.Prelude.{◌||◌, not, true, false, List, [], ◌∷◌, ◌++◌, map, ◌≡◌, ℕ, ◌+◌, ◌*◌, get_or}
use Rattle.base.specs.Tests.{◌and◌, has}
use Rattle.base.specs.Bytes.{list_of}
use Rattle.ids.specs.Ids.{same_id}
use Rattle.ids.specs.declared.FullNodeId.{FullNodeId}
use Rattle.state.specs.State.{Forest, present}
use Rattle.state_array.specs.View.{view}
use Rattle.replies.specs.declared.Reply.{Reply}
use Rattle.replies.specs.Replies.{is_set, Starts, Updates, HostFocuses}
use Rattle.book.specs.Book as book
use Rattle.book.specs.Demand.{book_after, Agrees}

-- ## Calls of the functions

-- a batch: the bytes of its record, and the lent slice; a host focus change, with its flag
pub data Call : Type 0 where
  batch : List ℕ → List ℕ → Call
  host : ℕ → Call

-- the book's call
unfoldable pub meant : Call → book.Call
meant (batch bytes slice) = book.batch bytes slice
meant (host flag) = book.host (is_set flag)

-- the contract of a call on the words s allows that it leaves the words t and the slice, with the reply r
unfoldable pub Allows : List ℕ → Call → List ℕ → Reply → List ℕ → Type 0
Allows s (batch bytes lent) t r slice = Updates s bytes lent t r slice
Allows s (host flag) t r slice = HostFocuses s flag t r

-- from s, by these calls, to t: each call gets the words as the last one left them
unfoldable pub Chain : List ℕ → List Call → List ℕ → Type 0
Chain s [] t = s ≡ t
Chain s (c ∷ cs) t = (u : List ℕ) × (r : Reply) × (slice : List ℕ) × Allows s c u r slice × Chain u cs t

-- ## The sentence on each accepted batch

-- n ids that stand in a slice, two words each, from a place on
unfoldable pub ids_in : List ℕ → ℕ → ℕ → List FullNodeId
ids_in slice from n = list_of n (λ i. record { tree = record { 0 = get_or slice (from + 2 * i) 0 }; node = record { 0 = get_or slice (from + 2 * i + 1) 0 } })

-- the added list and the removed list, as they stand in the slice
abbrev pub added_in : Reply → List ℕ → List FullNodeId
added_in r slice = ids_in slice 0 r.lengths.added

abbrev pub removed_in : Reply → List ℕ → List FullNodeId
removed_in r slice = ids_in slice (2 * (r.lengths.added + r.lengths.updated)) r.lengths.removed

-- a batch that led from s to t
pub record CountedInSlice (s t : Forest) (r : Reply) (slice : List ℕ) : Type 0 where
  -- it leaves exactly the nodes before it, with those in its added list joined and those in its removed list taken away
  pub nodes_after : (x : FullNodeId) → present t.nodes x ≡ ((present s.nodes x || has same_id (added_in r slice) x) and not (has same_id (removed_in r slice) x))
  -- nothing added was there before
  pub added_new : (x : FullNodeId) → has same_id (added_in r slice) x ≡ true → present s.nodes x ≡ false
  -- and nothing removed was not
  pub removed_old : (x : FullNodeId) → has same_id (removed_in r slice) x ≡ true → present s.nodes x ≡ true

-- ## The claim

-- what the demand says of one start, which left the words s, one list of calls and one chain to the words t
pub record CodeClaim (bytes s : List ℕ) (calls : List Call) (t : List ℕ) : Type 0 where
  -- after the list
  pub after_the_list : Agrees (view t).forest (book_after (view s) (book.opened bytes) (map meant calls))
  -- each accepted batch in the list, on the words u that it was handed, with the words v and the slice that it left
  pub each_accepted_batch : (earlier : List Call) (record-bytes lent : List ℕ) (later : List Call)
      → calls ≡ earlier ++ batch record-bytes lent ∷ later
      → (u : List ℕ) → Chain s earlier u
      → (v : List ℕ) (r : Reply) (slice : List ℕ) → Allows u (batch record-bytes lent) v r slice
      → r.number ≡ 0
      → CountedInSlice (view u).forest (view v).forest r slice

-- of any accepted start and any list of calls after it, refused ones included and whatever they hold
abbrev pub Demand3OfCode : Type 0
Demand3OfCode =
    (bytes : List ℕ) (host : ℕ) (s : List ℕ) (r : Reply)
    → Starts bytes host s r
    → r.number ≡ 0
    → (calls : List Call) (t : List ℕ) → Chain s calls t → CodeClaim bytes s calls t
