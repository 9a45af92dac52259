-- What each writer leaves in the array: the words of a row in their places. Past the last slot, tree and entry nothing is changed.
-- Assumes nothing.
use Rattle.std.specs.Prelude.{List, ℕ, zero, suc, ◌+◌, ltb, length, get_or, set, if◌then◌else◌}
use Rattle.base.specs.Bytes.{list_of}
use Rattle.ids.specs.declared.NodeId.{NodeId}
use Rattle.ids.specs.declared.FullNodeId.{FullNodeId}
use Rattle.state_array.specs.declared.LinkRow.{LinkRow}
use Rattle.state_array.specs.declared.Body.{Body}
use Rattle.state_array.specs.declared.TreeRow.{TreeRow}
use Rattle.state_array.specs.Layout.{SLOTS, TREES, ENTRIES, HOST, TREE, PARENT_TREE, GRAFT_HIGH, FIRST_CHILD, CHILD_COUNT, place, entry_place, child_place}
use Rattle.state_array.specs.Stored.{id_pair, link_words, graft_words, data_words, tree_words, head_words}

-- ## Words

-- the first n of a list of words, each in the place that `at` names
unfoldable pub puts : (ℕ → ℕ) → List ℕ → ℕ → List ℕ → List ℕ
puts at ws zero s = s
puts at ws (suc n) s = set (puts at ws n s) (at n) (get_or ws n 0)

-- words as the fields from f on of slot i
abbrev pub words_put : ℕ → ℕ → List ℕ → List ℕ → List ℕ
words_put f i ws s = puts (λ k. place (f + k) i) ws (length ws) s

-- ## Rows

-- the id of slot i
abbrev pub id_put : ℕ → FullNodeId → List ℕ → List ℕ
id_put i x s = if ltb i SLOTS then words_put TREE i (id_pair x) s else s

-- its link
abbrev pub link_put : ℕ → LinkRow → List ℕ → List ℕ
link_put i l s = if ltb i SLOTS then words_put PARENT_TREE i (link_words l) s else s

-- its data, the children aside
abbrev pub body_put : ℕ → Body → List ℕ → List ℕ
body_put i d s = if ltb i SLOTS then words_put CHILD_COUNT i (data_words d) (words_put GRAFT_HIGH i (graft_words d) s) else s

-- where its children start
abbrev pub first_child_put : ℕ → ℕ → List ℕ → List ℕ
first_child_put i first s = if ltb i SLOTS then set s (place FIRST_CHILD i) first else s

-- child entry j
abbrev pub child_put : ℕ → NodeId → List ℕ → List ℕ
child_put j x s = if ltb j ENTRIES then set s (child_place j) x.0 else s

-- the row of tree k
abbrev pub tree_put : ℕ → TreeRow → List ℕ → List ℕ
tree_put k t s = if ltb k TREES then puts (λ j. entry_place j k) (tree_words t) (length (tree_words t)) s else s

-- the head, and of it the host flag
abbrev pub head_put : ℕ → ℕ → ℕ → List ℕ → List ℕ
head_put nodes trees host s = puts (λ k. k) (head_words nodes trees host) (length (head_words nodes trees host)) s

abbrev pub host_put : ℕ → List ℕ → List ℕ
host_put host s = set s HOST host

-- ## The child entries as a part of the array

abbrev pub child_entries : List ℕ → List ℕ
child_entries s = list_of ENTRIES (λ j. get_or s (child_place j) 0)
