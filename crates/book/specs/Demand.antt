-- Demand 3 as one claim over an accepted start and any list of calls after it, refused ones included and whatever they hold.
-- Each call gets the state as the last one gave it back. Assumes nothing.
use Rattle.std.specs.Prelude.{Bool, true, false, not, ◌||◌, ◌≡◌, ℕ, suc, ◌+◌, ◌<◌, length, None, Some}
use mathlib.Core.List.{List, [], ◌∷◌, ◌++◌, map, Memᴰ}
use Rattle.base.specs.Tests.{◌and◌, count, has}
use Rattle.ids.specs.Ids.{same_id}
use Rattle.ids.specs.declared.FullNodeId.{FullNodeId}
use Rattle.state.specs.State.{Forest, State, present, graft_at, link_at}
use Rattle.state.specs.Down.{Met, down, root_of, way_down, climb}
use Rattle.state.specs.Focus.{effective_focus}
use Rattle.state.specs.Sound.{sound}
use Rattle.update.specs.Calls.{Answer, start, update}
use Rattle.book.specs.Book.{Book, opened, Call, batch, answer_to, entered, trees_of_lines, entry_of_node}

-- ## After a list of calls

-- the state after a list of calls
unfoldable pub state_after : State → List Call → State
state_after s [] = s
state_after s (c ∷ cs) = state_after (answer_to s c).state cs

-- the book after it, fed what each call answers
unfoldable pub book_after : State → Book → List Call → Book
book_after s k [] = k
book_after s k (c ∷ cs) = book_after (answer_to s c).state (entered k c (answer_to s c).number (answer_to s c).changes.removed) cs

-- ## The sentences of the demand

-- what a state and its book agree on
pub record Agrees (s : Forest) (k : Book) : Type 0 where
  -- the state's nodes with their children and grafts are exactly the book's
  pub nodes_are_the_books : map entry_of_node s.nodes ≡ k.nodes
  -- and so are the roots and focuses of existing trees
  pub trees_are_the_books : s.trees ≡ trees_of_lines k.nodes 0 k.trees
  -- the root, and the way down from it
  pub root : FullNodeId
  pub is_the_root : root_of s ≡ Some root
  -- going down from the root meets every node exactly once
  pub met_once : (x : FullNodeId) → present s.nodes x ≡ true → count (λ m. same_id x m.id) (way_down s) ≡ 1
  -- and nothing else
  pub met_only : (m : Met) → Memᴰ m (way_down s) → present s.nodes m.id ≡ true
  -- (the way down is whole: with more room nothing more is met)
  pub met_all : (more : ℕ) → down (suc (length s.nodes) + more) s (record { id = root; link = None } ∷ []) ≡ way_down s
  -- the root keeps no parent
  pub root_keeps_none : link_at s.nodes root ≡ None
  -- every other node the one it was met under
  pub parent_is_met_under : (m : Met) → Memᴰ m (way_down s) → link_at s.nodes m.id ≡ m.link
  -- climbing by these reaches the root in fewer steps than there are nodes
  pub climbs_to_root : (x : FullNodeId) → present s.nodes x ≡ true → (k : ℕ) × (k < length s.nodes) × (climb k s.nodes x ≡ root)
  -- the root is present
  pub root_present : present s.nodes root ≡ true
  -- and so is the effective focus
  pub focus : FullNodeId
  pub is_focus : effective_focus s ≡ Some focus
  pub focus_present : present s.nodes focus ≡ true
  -- which is never a graft
  pub focus_no_graft : graft_at s.nodes focus ≡ None
  -- the state is sound, so the next call is never answered 1
  pub is_sound : sound s ≡ true

-- what holds of a batch's answer
pub record Counted (s : Forest) (a : Answer) : Type 0 where
  -- the batch leaves exactly the nodes before it, with those in its added list joined and those in its removed list taken away
  pub nodes_after : (x : FullNodeId)
      → present a.state.forest.nodes x ≡ ((present s.nodes x || has same_id a.changes.added x) and not (has same_id a.changes.removed x))
  -- nothing added was there before
  pub added_new : (x : FullNodeId) → has same_id a.changes.added x ≡ true → present s.nodes x ≡ false
  -- and nothing removed was not
  pub removed_old : (x : FullNodeId) → has same_id a.changes.removed x ≡ true → present s.nodes x ≡ true

-- ## The claim

-- what the demand says of one start and one list of calls
pub record Claim (bytes : List ℕ) (host_focused : Bool) (calls : List Call) : Type 0 where
  -- after the list
  pub after_the_list : Agrees (state_after (start bytes host_focused).state calls).forest (book_after (start bytes host_focused).state (opened bytes) calls)
  -- each accepted batch in the list
  pub each_accepted_batch : (earlier : List Call) (record-bytes slice : List ℕ) (later : List Call)
      → calls ≡ earlier ++ batch record-bytes slice ∷ later
      → (update (state_after (start bytes host_focused).state earlier) record-bytes slice).number ≡ 0
      → Counted (state_after (start bytes host_focused).state earlier).forest (update (state_after (start bytes host_focused).state earlier) record-bytes slice)

-- of any accepted start and any list of calls after it
abbrev pub Demand3 : Type 0
Demand3 = (bytes : List ℕ) (host_focused : Bool) → (start bytes host_focused).number ≡ 0 → (calls : List Call) → Claim bytes host_focused calls
