-- Module 8, the kept walk by worked cases: each call's number, its answer and the walk after it, every field. Derived by hand from document 01,
-- "Filter and walks". Assumes nothing.
use Rattle.std.specs.Prelude.{List, [], ◌∷◌, ◌≡◌, ℕ, ◌+◌, None, Some}
use Rattle.ids.specs.declared.FullNodeId.{FullNodeId}
use Rattle.record.specs.ExampleNodes.{parent, leaf}
use Rattle.state.specs.State.{State}
use Rattle.state.specs.ExampleStates.{id, root}
use Rattle.questions.specs.declared.Walk.{Walk}
use Rattle.questions.specs.Kept.{WalkStep, next_of}
use Rattle.questions.specs.ExampleTrees.{below, alone}
use Rattle.questions.specs.WalkCases.{three_deep}

-- node, side, filter, count
abbrev walk : FullNodeId → ℕ → ℕ → ℕ → Walk
walk x side filter count = record { node = x; side = side; filter = filter; count = count }

-- a call on a state, and what it says
pub record KeptCase : Type 0 where
  pub state : State
  pub kept : Walk
  pub says : WalkStep

-- with an answer the count goes up by one; else the walk is as it was
abbrev hands_out : State → FullNodeId → ℕ → ℕ → ℕ → FullNodeId → KeptCase
hands_out s x side filter count y =
    record { state = s; kept = walk x side filter count; says = record { number = 0; found = Some y; walk = walk x side filter (count + 1) } }

abbrev stays : ℕ → State → FullNodeId → ℕ → ℕ → ℕ → KeptCase
stays number s x side filter count =
    record { state = s; kept = walk x side filter count; says = record { number = number; found = None; walk = walk x side filter count } }

-- 1 has [2, 3]: three_deep after 4 and what was below 3 went
unfoldable pub later : State
later = alone 1 (root 0 1 (parent (2 ∷ 3 ∷ [])) ∷ below 1 0 2 leaf ∷ below 1 1 3 leaf ∷ [])

-- no node and no tree
unfoldable pub nothing_there : State
nothing_there = record { forest = record { nodes = []; trees = [] }; host_focused = three_deep.state.host_focused }

-- under `common_filter`, following 2 in three_deep: 7, 8, 4, and then the end for good
unfoldable pub kept_cases : List KeptCase
kept_cases =
    let s = three_deep.state in
    hands_out s (id 0 2) 0 1 0 (id 0 7)
    ∷ hands_out s (id 0 2) 0 1 1 (id 0 8)
    ∷ hands_out s (id 0 2) 0 1 2 (id 0 4)
    ∷ stays 0 s (id 0 2) 0 1 3
    -- a count at the greatest number is past every list
    ∷ stays 0 s (id 0 2) 0 1 18446744073709551615
    -- preceding 4, nearest first
    ∷ hands_out s (id 0 4) 1 1 0 (id 0 8)
    -- without a filter the siblings themselves
    ∷ hands_out s (id 0 2) 0 0 0 (id 0 3)
    ∷ hands_out s (id 0 2) 0 0 1 (id 0 4)
    -- the same walk on a later state: its list is shorter, so it is at its end
    ∷ stays 0 later (id 0 2) 0 0 1
    -- its node went: 22
    ∷ stays 22 later (id 0 4) 1 1 0
    -- a side or a filter that is none of ours: 2, before 22 and after 1
    ∷ stays 2 s (id 0 2) 2 1 0
    ∷ stays 2 s (id 0 9) 0 4 0
    ∷ stays 1 nothing_there (id 0 2) 2 4 0
    ∷ []

abbrev pub KeptRight : List KeptCase → Type 0
KeptRight [] = Unit {0}
KeptRight (c ∷ cs) = (next_of c.state c.kept ≡ c.says) × KeptRight cs
