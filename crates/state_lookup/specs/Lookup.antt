-- What the searches answer: the slot of a node, the tree of a tree id. Assumes nothing.
use Rattle.std.specs.Prelude.{Bool, true, List, ◌≡◌, ℕ, ◌+◌, ◌-◌, ◌≤◌, ◌<◌, ltb, length, set, if◌then◌else◌}
use Rattle.base.specs.Tests.{◌and◌}
use Rattle.base.specs.Bytes.{all_below}
use Rattle.base.specs.Search.{First}
use Rattle.ids.specs.Ids.{same_id, before}
use Rattle.ids.specs.declared.FullNodeId.{FullNodeId}
use Rattle.state_array.specs.View.{id_in, slots_of}

-- the first n of a row of ids ascend, each before the next
unfoldable pub ascend : ℕ → (ℕ → FullNodeId) → Bool
ascend n id = all_below (n - 1) (λ i. before (id i) (id (i + 1)))

-- the ids of a state ascend
abbrev pub in_order : List ℕ → Bool
in_order s = ascend (slots_of s) (id_in s)

-- whether the id stands in a slot
abbrev pub stands_at : List ℕ → FullNodeId → ℕ → Bool
stands_at s x i = same_id x (id_in s i)

-- the id stands in slot i, one of the first n of a row
unfoldable pub in_slot : ℕ → (ℕ → FullNodeId) → FullNodeId → ℕ → Bool
in_slot n id x i = ltb i n and same_id x (id i)

-- What a search by bisection for x among the first n of a row answers: a slot where x stands, or n; and where the ids ascend, the slot of x.
pub record SlotAmong (n : ℕ) (id : ℕ → FullNodeId) (x : FullNodeId) (r : ℕ) : Type 0 where
  pub within : r ≤ n
  pub hit : r < n → same_id x (id r) ≡ true
  pub first : ascend n id ≡ true → First (λ i. same_id x (id i)) n r

abbrev pub SlotOf : List ℕ → FullNodeId → ℕ → Type 0
SlotOf s x r = SlotAmong (slots_of s) (id_in s) x r

-- a list of hints, two bytes each, with a hint for slot i, if the list is that long and the hint fits
unfoldable pub with_hint : List ℕ → ℕ → ℕ → List ℕ
with_hint hints i hint = if ltb i (length hints) and ltb hint 65536 then set hints i hint else hints
