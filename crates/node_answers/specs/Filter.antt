-- What the question about a filter answers: document 01, "Numbers a call can return". Assumes nothing.
use Rattle.std.specs.Prelude.{ℕ, Result}
use Rattle.ids.specs.declared.FullNodeId.{FullNodeId}
use Rattle.state.specs.State.{State}
use Rattle.questions.specs.declared.Filter.{Filter}
use Rattle.questions.specs.declared.FilterResult.{FilterResult}
use Rattle.questions.specs.declared.FilterResult.TheVariants.{Include, ExcludeNode, ExcludeSubtree}
use Rattle.questions.specs.Answers.{ask_number}
use Rattle.questions.specs.Filters.{seen, filter_of}
use Rattle.node_answers.specs.declared.Refusal.{Refusal}
use Rattle.node_answers.specs.Answers.{answer}

-- what the filter says; 1 or 22 alone
unfoldable pub filter_answer : State → FullNodeId → Filter → Result FilterResult Refusal
filter_answer s x filter = answer (ask_number s.forest x) (filter_of filter (seen s) x)

-- a result as a number, in the order of src/filters.rs
unfoldable pub result_number : FilterResult → ℕ
result_number Include = 0
result_number ExcludeNode = 1
result_number ExcludeSubtree = 2
