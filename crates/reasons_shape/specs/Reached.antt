-- What the marks of slots and the links of a node say of the nodes reached. Assumes nothing.
use Rattle.std.specs.Prelude.{Bool, not, List, [], ◌∷◌, ◌≡◌, ℕ, min, ◌≤◌, ◌<◌, eqb, length, get_or, if◌then◌else◌, Option, None}
use Rattle.base.specs.Tests.{◌and◌, has}
use Rattle.base.specs.Bytes.{all_below}
use Rattle.ids.specs.Ids.{same_id}
use Rattle.ids.specs.declared.FullNodeId.{FullNodeId}
use Rattle.reasons.specs.Shape.{ids_below, reached}
use Rattle.state.specs.State.{ParentAndIndex}
use Rattle.state_array.specs.View.{view, slots_of, id_in, shape_in, node_in, link_of}
use Rattle.reasons_shape.specs.declared.reached.Links.{Links}

-- no node has more than 256 children
abbrev pub Few : List ℕ → Type 0
Few s = (p : ℕ) → p < slots_of s → (shape_in s p).child_count ≤ 256

-- the nodes reached, of the forest that the words show
abbrev pub reached_in : List ℕ → List FullNodeId
reached_in s = reached (view s).forest

-- ## Marks

-- the first n marks of slots are what a function says
pub record Marks (n : ℕ) (mark : ℕ → ℕ) (marks : List ℕ) : Type 0 where
  pub long : length marks ≡ 320
  pub each : (i : ℕ) → i < n → get_or marks i 0 ≡ mark i

-- a slot has a mark, 1 or 2, where its node is among xs
pub record Marked (s : List ℕ) (xs : List FullNodeId) (marks : List ℕ) : Type 0 where
  pub long : length marks ≡ 320
  pub says : (i : ℕ) → i < slots_of s → not (eqb (get_or marks i 0) 0) ≡ has same_id xs (id_in s i)

-- x stands one step below the node in slot p
unfoldable pub below_at : List ℕ → FullNodeId → ℕ → Bool
below_at s x p = has same_id (ids_below (view s).forest (node_in s p)) x

-- it does, and the mark of p is 2
unfoldable pub leads_to : List ℕ → List ℕ → FullNodeId → ℕ → Bool
leads_to s marks x p = eqb (get_or marks p 0) 2 and below_at s x p

-- it does so for no slot
unfoldable pub none_leads : List ℕ → List ℕ → FullNodeId → Bool
none_leads s marks x = all_below (slots_of s) (λ p. not (leads_to s marks x p))

-- the mark of slot i one step further
unfoldable pub next_mark : List ℕ → List ℕ → ℕ → ℕ
next_mark s marks i = if eqb (get_or marks i 0) 0 then (if none_leads s marks (id_in s i) then 0 else 2) else 1

-- its mark before the first step
unfoldable pub root_mark : List ℕ → FullNodeId → ℕ → ℕ
root_mark s root i = if same_id (id_in s i) root then 2 else 0

-- ## Links

-- the first of some links, none where there is none
unfoldable pub first_link : List (Option ParentAndIndex) → Option ParentAndIndex
first_link [] = None
first_link (l ∷ ls) = l

-- how many links there are, up to 2, and the first
pub record Tells (ls : List (Option ParentAndIndex)) (r : Links) : Type 0 where
  pub count : r.count ≡ min (length ls) 2
  pub first : link_of r.first ≡ first_link ls
