-- Module 8, the sibling walk that the caller keeps and each call moves on: document 01, "Filter and walks". Assumes nothing.
use Rattle.std.specs.Prelude.{not, List, [], ◌∷◌, ℕ, zero, suc, Option, None, Some, slice_get}
use Rattle.base.specs.Tests.{◌and◌, is_some}
use Rattle.base.specs.Tables.{row, first}
use Rattle.ids.specs.declared.FullNodeId.{FullNodeId}
use Rattle.state.specs.State.{Forest, State, present}
use Rattle.state.specs.Sound.{sound}
use Rattle.questions.specs.declared.Side.{Side}
use Rattle.questions.specs.declared.Side.TheVariants.{Following, Preceding}
use Rattle.questions.specs.declared.Filter.{Filter}
use Rattle.questions.specs.declared.Filter.TheVariants.{Common, WithRootException, WithoutParentChecks}
use Rattle.questions.specs.declared.Walk.{Walk}
use Rattle.questions.specs.Links.{siblings}
use Rattle.questions.specs.Walks.{filtered_siblings}
use Rattle.questions.specs.Filters.{Seen, seen, filter_of}
use Rattle.questions.specs.Answers.{after}

-- ## What the numbers of a walk mean

-- its side; none for a number that is none of ours
unfoldable pub side_of : ℕ → Option Side
side_of zero = Some Following
side_of (suc zero) = Some Preceding
side_of (suc (suc k)) = None

-- its filter, or that it has none; none for a number that is none of ours
unfoldable pub filter_choice : ℕ → Option (Option Filter)
filter_choice zero = Some None
filter_choice (suc zero) = Some (Some Common)
filter_choice (suc (suc zero)) = Some (Some WithRootException)
filter_choice (suc (suc (suc zero))) = Some (Some WithoutParentChecks)
filter_choice (suc (suc (suc (suc k)))) = None

-- ## What a walk goes over

-- the siblings on a side, or with a filter the filtered siblings
unfoldable pub sibling_list : Seen → FullNodeId → Side → Option Filter → List FullNodeId
sibling_list s x side None = siblings side s.forest x
sibling_list s x side (Some filter) = filtered_siblings (filter_of filter s) side s.forest x

-- the walk's list, in what is seen of the state that it is given
unfoldable pub walk_list : Seen → Walk → List FullNodeId
walk_list s w =
    elim (side_of w.side) [
      | None ↦ []
      | Some side ↦ elim (filter_choice w.filter) [ None ↦ [] | Some choice ↦ sibling_list s w.node side choice ]
    ]

-- 1 where the state is not sound, then 2 where the side or the filter is none of ours, then 22 where the node is not there
unfoldable pub walk_number : Forest → Walk → ℕ
walk_number s w =
    first (
    row 1 (not (sound s))
    ∷ row 2 (not (is_some (side_of w.side) and is_some (filter_choice w.filter)))
    ∷ row 22 (not (present s.nodes w.node))
    ∷ []
    )

-- ## One call

-- What a call answers, and the walk after it.
pub record WalkStep : Type 0 where
  pub number : ℕ
  pub found : Option FullNodeId
  pub walk : Walk

-- one more was handed out
abbrev pub moved : Walk → Walk
moved w = record { node = w.node; side = w.side; filter = w.filter; count = suc w.count }

-- with an answer the walk moves on, else it stays as it was
unfoldable pub stepped : ℕ → Walk → Option FullNodeId → WalkStep
stepped number w None = record { number = number; found = None; walk = w }
stepped number w (Some x) = record { number = number; found = Some x; walk = moved w }

-- The next sibling in the state given, or none at the end: the count reaches past the list.
unfoldable pub next_of : State → Walk → WalkStep
next_of s w = let k = walk_number s.forest w in stepped k w (after k None (slice_get (walk_list (seen s) w) w.count))

-- the answers of calls one after another, all on one state
unfoldable pub answers : ℕ → State → Walk → List (Option FullNodeId)
answers zero s w = []
answers (suc k) s w = (next_of s w).found ∷ answers k s (next_of s w).walk
