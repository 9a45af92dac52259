-- What the questions of module 8 answer: lists of ids in the lent slice, and single nodes. Assumes nothing.
use Rattle.std.specs.Prelude.{List, ◌≡◌, ℕ, ltb, length, if◌then◌else◌, Option, Result, Ok, Err}
use Rattle.ids.specs.Ids.{id_words}
use Rattle.ids.specs.declared.FullNodeId.{FullNodeId}
use Rattle.state.specs.State.{Forest, State}
use Rattle.questions.specs.declared.Side.{Side}
use Rattle.questions.specs.declared.Filter.{Filter}
use Rattle.questions.specs.declared.FilterResult.{FilterResult}
use Rattle.questions.specs.Answers.{ask_number, written}
use Rattle.questions.specs.Filters.{seen, filter_of}
use Rattle.questions.specs.Walks.{filtered_children, filtered_siblings}
use Rattle.node_answers.specs.declared.Refusal.{Refusal}
use Rattle.node_answers.specs.declared.Refusal.TheVariants.{TooShort}
use Rattle.node_answers.specs.Answers.{answer, Lists}

-- ## Lists

-- a question about x whose list is xs: the answer, and the slice as it then is
abbrev pub ListOf : Forest → FullNodeId → List FullNodeId → List ℕ → Result ℕ Refusal → List ℕ → Type 0
ListOf s x xs lent r slice = Lists s x (length xs) (id_words xs) lent r slice

-- its filtered children, and its filtered siblings on a side
abbrev pub ChildList : State → FullNodeId → Filter → List ℕ → Result ℕ Refusal → List ℕ → Type 0
ChildList v x filter lent r slice = ListOf v.forest x (filtered_children (filter_of filter (seen v)) v.forest x) lent r slice

abbrev pub SiblingList : State → FullNodeId → Filter → Side → List ℕ → Result ℕ Refusal → List ℕ → Type 0
SiblingList v x filter side lent r slice = ListOf v.forest x (filtered_siblings (filter_of filter (seen v)) side v.forest x) lent r slice

-- refused where the slice is too short for these words of n ids, else they are written
pub record Puts (words : List ℕ) (n : ℕ) (lent : List ℕ) (r : Result ℕ Refusal) (slice : List ℕ) : Type 0 where
  pub answer_is : r ≡ (if ltb (length lent) (length words) then Err TooShort else Ok n)
  pub slice_is : slice ≡ (if ltb (length lent) (length words) then lent else written words lent)

-- so of a list of ids
abbrev pub PutsList : List FullNodeId → List ℕ → Result ℕ Refusal → List ℕ → Type 0
PutsList xs lent r slice = Puts (id_words xs) (length xs) lent r slice

-- ## Single nodes

-- a question about x that a filter answers with a node or none
abbrev pub NodeOf : State → FullNodeId → Filter → ((FullNodeId → FilterResult) → Forest → FullNodeId → Option FullNodeId) → Result (Option FullNodeId) Refusal → Type 0
NodeOf v x filter node r = r ≡ answer (ask_number v.forest x) (node (filter_of filter (seen v)) v.forest x)
