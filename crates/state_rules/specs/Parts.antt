-- What the rules answer, over the words of a state. Assumes nothing.
use Rattle.std.specs.Prelude.{Bool, true, not, ◌||◌, List, [], ◌∷◌, ◌≡◌, ℕ, ◌+◌, ◌%◌, ◌<◌, eqb, drop, get_or, Option, None, Some}
use Rattle.base.specs.Tests.{◌and◌, any}
use Rattle.base.specs.Bytes.{bit, all_below, list_of}
use Rattle.ids.specs.Ids.{same_tree, same_id}
use Rattle.ids.specs.declared.TreeId.{TreeId}
use Rattle.ids.specs.declared.FullNodeId.{FullNodeId}
use Rattle.state.specs.Down.{Met, met_under, below}
use Rattle.state_array.specs.View.{id_in, shape_in, tree_in, node_in, slots_of, view}

-- ## Grafts

-- the node is no graft, or has no children
unfoldable pub bare_in : List ℕ → ℕ → Bool
bare_in s i = not (bit 8 (shape_in s i).flags) || eqb (shape_in s i).child_count 0

-- the node in slot i grafts t
unfoldable pub grafts_tree : List ℕ → TreeId → ℕ → Bool
grafts_tree s t i = bit 8 (shape_in s i).flags and same_tree t (shape_in s i).graft

-- none of the first n does
unfoldable pub none_grafts : List ℕ → TreeId → ℕ → Bool
none_grafts s t n = all_below n (λ i. not (grafts_tree s t i))

-- the place of a tree's mark, by its low half
abbrev pub mark_of : TreeId → ℕ
mark_of t = t.low % 4096

-- each tree that the first n nodes graft has its mark
abbrev pub Marked : List ℕ → List ℕ → ℕ → Type 0
Marked seen s n = (i : ℕ) → i < n → bit 8 (shape_in s i).flags ≡ true → get_or seen (mark_of (shape_in s i).graft) 0 ≡ 1

-- ## Trees

-- tree k, if it exists, has its root among the ids and, but for ROOT, a graft among the nodes
unfoldable pub rooted_in : List ℕ → ℕ → Bool
rooted_in s k =
    eqb (tree_in s k).exists 0
    || (any (same_id (record { tree = record { 0 = k }; node = (tree_in s k).root })) (list_of (slots_of s) (id_in s))
    and (eqb k 0 || not (none_grafts s (tree_in s k).id (slots_of s))))

-- so do the first m trees
unfoldable pub all_rooted : List ℕ → ℕ → Bool
all_rooted s m = all_below m (rooted_in s)

-- ## The way down

-- what is met one step below the node in slot p
abbrev pub below_in : List ℕ → ℕ → List Met
below_in s p = below (view s).forest (node_in s p)

-- what is met at place j
unfoldable pub KidSays : List Met → ℕ → FullNodeId → Option FullNodeId → Type 0
KidSays ms j p (Some x) = drop j ms ≡ met_under p j x ∷ drop (j + 1) ms
KidSays ms j p None = drop j ms ≡ []
