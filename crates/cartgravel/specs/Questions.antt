-- What the library's questions promise, as plain structs. Assumes nothing.
use Rattle.std.specs.Prelude.{List, ◌≡◌, ℕ, length, Option, None, Some}
use Rattle.ids.specs.Ids.{id_words}
use Rattle.ids.specs.declared.FullNodeId.{FullNodeId}
use Rattle.state.specs.State.{Forest, State}
use Rattle.questions.specs.Answers.{after, written}
use Rattle.node_answers.specs.Reading.{label_at}
use Rattle.node_answers.specs.Answers.{answer, number_for}
use Rattle.questions.specs.declared.Filter.{Filter}
use Rattle.questions.specs.declared.FilterResult.{FilterResult}
use Rattle.questions.specs.Answers.{ask_number}
use Rattle.questions.specs.Links.{siblings}
use Rattle.questions.specs.Walks.{filtered_children, filtered_siblings}
use Rattle.questions.specs.Filters.{seen, filter_of}
use Rattle.node_answers.specs.Filter.{filter_answer}
use Rattle.questions.specs.Kept.{WalkStep}
use Rattle.question_calls.specs.Walk.{stepped_of}
use Rattle.cartgravel.specs.declared.PlainStep.{PlainStep}
use Rattle.cartgravel_plain.specs.declared.Listed.{Listed}
use Rattle.cartgravel_plain.specs.declared.FoundId.{FoundId}
use Rattle.cartgravel_plain.specs.declared.PlainResult.{PlainResult}
use Rattle.questions.specs.declared.Side.{Side}
use Rattle.cartgravel_plain.specs.Plain.{plain_list, plain_found, filter_numbered, unknown_number, plain_result}

-- a question for a list of n elements, which is these words: the answer, and the slice as it then is
pub record PlainLists (s : Forest) (x : FullNodeId) (n : ℕ) (words lent : List ℕ) (r : Listed) (slice : List ℕ) : Type 0 where
  pub answer_is : r ≡ plain_list (answer (number_for s x words (length lent)) n)
  pub slice_is : slice ≡ after (number_for s x words (length lent)) lent (written words lent)

-- of a node's label
abbrev pub PlainLabel : Forest → FullNodeId → List ℕ → Listed → List ℕ → Type 0
PlainLabel s x lent r slice = PlainLists s x (length (label_at s x)) (label_at s x) lent r slice

-- of ids, two elements each
abbrev pub PlainIds : Forest → FullNodeId → List FullNodeId → List ℕ → Listed → List ℕ → Type 0
PlainIds s x ids lent r slice = PlainLists s x (length ids) (id_words ids) lent r slice

-- ## With a filter by its number

-- what is answered of a filter that is one of ours, else 1 or 2 alone
abbrev pub of_filter : {A : Type 0} → A → (Filter → A) → Option Filter → A
of_filter refused said (Some f) = said f
of_filter refused said None = refused

-- what a filter says
unfoldable pub filter_reply : State → FullNodeId → ℕ → PlainResult
filter_reply s x k =
    of_filter (record { result = 0; number = unknown_number s.forest }) (λ f. plain_result (filter_answer s x f)) (filter_numbered k)

-- a node or none
unfoldable pub node_reply : State → FullNodeId → ((FullNodeId → FilterResult) → Forest → FullNodeId → Option FullNodeId) → ℕ → FoundId
node_reply s x node k =
    of_filter (plain_found (answer (unknown_number s.forest) None))
    (λ f. plain_found (answer (ask_number s.forest x) (node (filter_of f (seen s)) s.forest x))) (filter_numbered k)

-- a number that is none of ours: 1 or 2 alone, and the slice as it was
pub record NoList (s : Forest) (lent : List ℕ) (r : Listed) (slice : List ℕ) : Type 0 where
  pub answer_is : r ≡ record { length = 0; number = unknown_number s }
  pub slice_is : slice ≡ lent

-- the siblings on a side
abbrev pub SiblingsOn : Forest → FullNodeId → List ℕ → Listed → List ℕ → Option Side → Type 0
SiblingsOn s x lent r slice (Some side) = PlainIds s x (siblings side s x) lent r slice
SiblingsOn s x lent r slice None = NoList s lent r slice

-- the filtered children
abbrev pub FilteredChildren : State → FullNodeId → List ℕ → Listed → List ℕ → Option Filter → Type 0
FilteredChildren s x lent r slice (Some f) = PlainIds s.forest x (filtered_children (filter_of f (seen s)) s.forest x) lent r slice
FilteredChildren s x lent r slice None = NoList s.forest lent r slice

-- the filtered siblings on a side
abbrev pub FilteredOn : State → FullNodeId → Filter → List ℕ → Listed → List ℕ → Option Side → Type 0
FilteredOn s x f lent r slice (Some side) = PlainIds s.forest x (filtered_siblings (filter_of f (seen s)) side s.forest x) lent r slice
FilteredOn s x f lent r slice None = NoList s.forest lent r slice

abbrev pub FilteredSiblings : State → FullNodeId → List ℕ → Listed → List ℕ → Option Side → Option Filter → Type 0
FilteredSiblings s x lent r slice side (Some f) = FilteredOn s x f lent r slice side
FilteredSiblings s x lent r slice side None = NoList s.forest lent r slice

-- ## A kept walk

-- a step of it: the node or none, and the walk after it
unfoldable pub plain_step : WalkStep → PlainStep
plain_step w = let a = stepped_of w in record { walk = a.walk; answer = plain_found a.answer }
