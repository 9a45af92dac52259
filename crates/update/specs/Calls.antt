-- What a start, a batch and a host focus change answer: the number, the state and every other part. Document 01, modules 3 to 5.
-- Assumes nothing.
use Rattle.std.specs.Prelude.{Bool, not, List, [], ◌∷◌, ℕ, zero, suc, ltb, length, if◌then◌else◌, Option, None, Some}
use Rattle.base.specs.Tests.{is_none}
use Rattle.base.specs.Tables.{Row, row, found, first}
use Rattle.ids.specs.Ids.{ROOT, same_tree}
use Rattle.ids.specs.declared.FullNodeId.{FullNodeId}
use Rattle.record.specs.Batch.{Batch}
use Rattle.record.specs.Parse.{parse}
use Rattle.state.specs.State.{Forest, State, blank}
use Rattle.state.specs.Focus.{state_focus}
use Rattle.state.specs.Sound.{sound}
use Rattle.update.specs.Outcome.{outcome}
use Rattle.update.specs.Reports.{Changes, no_changes, changes_of, Lengths, lengths_of, change_words, slice_after, extra_before, extra_after}
use Rattle.update.specs.Numbers.{batch_number}

-- ## Answers

-- `changes` are the four lists, which an accepted batch writes to the lent slice; `slice` is the lent slice afterwards, [] where none is lent.
pub record Answer : Type 0 where
  pub number : ℕ
  pub state : State
  pub changes : Changes
  pub lengths : Lengths
  pub focus_before : Option FullNodeId
  pub focus_after : Option FullNodeId
  pub extra_before : Option FullNodeId
  pub extra_after : Option FullNodeId
  pub slice : List ℕ

-- after any number but 0: the state handed in, the slice untouched, the other parts 0 or none
unfoldable pub refused : ℕ → State → List ℕ → Answer
refused k s slice = record {
  number = k;
  state = s;
  changes = no_changes;
  lengths = lengths_of no_changes;
  focus_before = None;
  focus_after = None;
  extra_before = None;
  extra_after = None;
  slice = slice;
}

-- from s to s' with these changes
unfoldable pub accepted : State → State → Changes → List ℕ → Answer
accepted s s' c slice = record {
  number = 0;
  state = s';
  changes = c;
  lengths = lengths_of c;
  focus_before = state_focus s;
  focus_after = state_focus s';
  extra_before = extra_before s s' c;
  extra_after = extra_after s s' c;
  slice = slice_after slice c;
}

-- a number and, if it is 0, the answer
unfoldable pub judged : ℕ → State → List ℕ → Answer → Answer
judged zero s slice a = a
judged (suc k) s slice a = refused (suc k) s slice

-- ## A batch

-- 5 to 20, then 21: `slice` is what the caller lends for the lists
unfoldable pub batch_rows : State → Batch → List ℕ → List Row
batch_rows s b slice =
    found (batch_number s.forest b)
    ∷ row 21 (ltb (length slice) (length (change_words (changes_of s.forest b))))
    ∷ []

-- the table of a batch, 1, 2 and 5 to 21: `parsed` is what its bytes stand for, none where they are no record
unfoldable pub update_number : State → Option Batch → List ℕ → ℕ
update_number s parsed slice =
    first
    (row 1 (not (sound s.forest))
    ∷ row 2 (is_none parsed)
    ∷ elim parsed [ None ↦ [] | Some b ↦ batch_rows s b slice ])

-- a batch whose record is well formed
unfoldable pub update_batch : State → Batch → List ℕ → Answer
update_batch s b slice =
    let s' : State = record { forest = outcome s.forest b; host_focused = s.host_focused } in
    let a : Answer = accepted s s' (changes_of s.forest b) slice in
    judged (update_number s (Some b) slice) s slice a

-- any bytes
unfoldable pub update : State → List ℕ → List ℕ → Answer
update s bytes slice =
    elim (parse bytes) [
      | None ↦ refused (update_number s None slice) s slice
      | Some b ↦ update_batch s b slice
    ]

-- ## A start

-- As in `Tree::new`, a start is a batch without tree data on a forest that has ROOT's root from the tree data, and no node yet.
unfoldable pub seed : Batch → Forest
seed b = record {
  nodes = [];
  trees = record {
    id = ROOT;
    subtree = elim b.root [ None ↦ None | Some r ↦ Some (record { root = r; focus = b.focus }) ];
  } ∷ [];
}

-- the same batch with its tree data taken
unfoldable pub without_tree_data : Batch → Batch
without_tree_data b = record { tree = b.tree; root = None; focus = b.focus; nodes = b.nodes }

-- 3: a start without tree data. 4: a start for a tree other than ROOT
unfoldable pub start_number : Batch → ℕ
start_number b =
    first
    (row 3 (is_none b.root)
    ∷ row 4 (not (same_tree b.tree ROOT))
    ∷ found (batch_number (seed b) (without_tree_data b))
    ∷ [])

-- a start lists nothing, with no focus before and no extra ids
unfoldable pub started : State → Answer
started s = record {
  number = 0;
  state = s;
  changes = no_changes;
  lengths = lengths_of no_changes;
  focus_before = None;
  focus_after = state_focus s;
  extra_before = None;
  extra_after = None;
  slice = [];
}

-- a start whose record is well formed
unfoldable pub start_batch : Batch → Bool → Answer
start_batch b host_focused =
    let s : State = record { forest = outcome (seed b) (without_tree_data b); host_focused = host_focused } in
    let a : Answer = started s in
    judged (start_number b) blank [] a

-- any bytes: 2 where they are no record
unfoldable pub start : List ℕ → Bool → Answer
start bytes host_focused = elim (parse bytes) [ None ↦ refused 2 blank [] | Some b ↦ start_batch b host_focused ]

-- ## A host focus change

-- the host flag set
unfoldable pub with_host_focus : State → Bool → State
with_host_focus s h = record { forest = s.forest; host_focused = h }

-- it reports as a batch does, with empty lists
unfoldable pub host_focus : State → Bool → Answer
host_focus s h = if sound s.forest then accepted s (with_host_focus s h) no_changes [] else refused 1 s []
