-- Calls and answers written short, for worked examples. A call here takes a batch; one that goes through bytes says `start` or `update`.
-- Assumes nothing.
use Rattle.std.specs.Prelude.{true, List, [], ◌++◌, ℕ, ◌-◌, length, replicate, Option, None, Some}
use Rattle.ids.specs.declared.FullNodeId.{FullNodeId}
use Rattle.record.specs.Batch.{Batch}
use Rattle.state.specs.State.{State}
use Rattle.update.specs.Calls.{Answer, refused, update_batch, start_batch}

-- what is lent: sixteen elements; and the same with these words written to it
abbrev pub slice : List ℕ
slice = replicate 16 99

abbrev pub filled : List ℕ → List ℕ
filled ws = ws ++ replicate (16 - length ws) 99

-- a start with host focus, and a batch on a state, from the batch that their bytes stand for
abbrev pub start_with : Batch → Answer
start_with b = start_batch b true

abbrev pub then : State → Batch → Answer
then s b = update_batch s b slice

-- refused with a number
abbrev pub refuses : ℕ → State → Answer
refuses k s = refused k s slice

-- a start accepted, with its focus
abbrev pub starts : State → FullNodeId → Answer
starts s f = record {
  number = 0;
  state = s;
  changes = record { added = []; updated = []; removed = []; relinked = [] };
  lengths = record { added = 0; updated = 0; removed = 0; relinked = 0 };
  focus_before = None;
  focus_after = Some f;
  extra_before = None;
  extra_after = None;
  slice = [];
}

-- what a batch that is accepted answers; `slice` has the words that are written to what is lent
pub record Taken : Type 0 where
  pub state : State
  pub added : List FullNodeId
  pub updated : List FullNodeId
  pub removed : List FullNodeId
  pub relinked : List FullNodeId
  pub focus_before : FullNodeId
  pub focus_after : FullNodeId
  pub extra_before : Option FullNodeId
  pub extra_after : Option FullNodeId
  pub slice : List ℕ

-- accepted
abbrev pub accepts : Taken → Answer
accepts t = record {
  number = 0;
  state = t.state;
  changes = record { added = t.added; updated = t.updated; removed = t.removed; relinked = t.relinked };
  lengths = record { added = length t.added; updated = length t.updated; removed = length t.removed; relinked = length t.relinked };
  focus_before = Some t.focus_before;
  focus_after = Some t.focus_after;
  extra_before = t.extra_before;
  extra_after = t.extra_after;
  slice = filled t.slice;
}

-- ## A case: what a call answers, and what it should answer

pub record Case : Type 0 where
  pub got : Answer
  pub says : Answer

infix 70 ◌gives◌
abbrev pub ◌gives◌ : Answer → Answer → Case
got gives says = record { got = got; says = says }
