-- The parent links after a batch, as words, and what the functions that work them out answer. Assumes nothing.
use Rattle.std.specs.Prelude.{false, List, ◌≡◌, ℕ, ◌+◌, ◌-◌, ◌≤◌, ◌<◌, length, get_or, take, if◌then◌else◌, Option, None, Some}
use Rattle.ids.specs.declared.TreeId.{TreeId}
use Rattle.ids.specs.declared.FullNodeId.{FullNodeId}
use Rattle.record.specs.Batch.{Batch, named_ids}
use Rattle.record_reader.specs.Reader.{listed_at}
use Rattle.state.specs.State.{ParentAndIndex, Forest, holder}
use Rattle.state_array.specs.Stored.{link_row}
use Rattle.state_array.specs.declared.LinkRow.{LinkRow}
use Rattle.update.specs.Words.{here, old}
use Rattle.update.specs.Outcome.{under_graft, link_here, link_elsewhere, link_after}
use Rattle.calls.specs.declared.notes.Scope.{Scope}
use Rattle.calls.specs.Setting.{asked, forest}
use Rattle.calls.specs.Codes.{node_at, id_at, code_id, code_link}
use Rattle.calls.specs.Says.{turn_mark, slot_above}

-- ## The parts

-- how many children the listed nodes before node i name
abbrev pub named_before : Batch → ℕ → ℕ
named_before b i = length (named_ids (take i b.nodes))

-- the n words from `from` on never fall
abbrev pub Rises : List ℕ → ℕ → ℕ → Type 0
Rises notes from n = (i l : ℕ) → i ≤ l → l < n → get_or notes (from + i) 0 ≤ get_or notes (from + l) 0

-- entry j of the named children does not stand before those of listed node i
pub record Owns (b : Batch) (i j : ℕ) : Type 0 where
  pub listed : i < length b.nodes
  pub start : named_before b i ≤ j

module _ (s : Forest) (b : Batch) where
  -- the link of the child at entry j, which listed node i names
  unfoldable pub named_link : ℕ → ℕ → ParentAndIndex
  named_link i j = record { parent = here s b (listed_at b i).id; index = j - named_before b i }

  -- one more than an old node's turn, at which its link may be cut; 0 where it is not listed or is new
  unfoldable pub cut_mark : FullNodeId → ℕ
  cut_mark x = if old s b x then turn_mark s b x else 0

-- the link under the graft holder of a tree
unfoldable pub graft_link : Forest → TreeId → Option ParentAndIndex
graft_link s t = elim (holder s.nodes t) [ None ↦ None | Some g ↦ under_graft g ]

module _ (state bytes : List ℕ) (c : Scope) where
  -- listed node i is there, and was not before
  pub record NewListed (i : ℕ) : Type 0 where
    pub listed : i < length (asked bytes c).nodes
    pub new : old (forest state) (asked bytes c) (here (forest state) (asked bytes c) (listed_at (asked bytes c) i).id) ≡ false

  -- the words of a named child's link
  abbrev pub named_row : ℕ → ℕ → LinkRow
  named_row i j = link_row (Some (named_link (forest state) (asked bytes c) i j))

  -- r is the link after of a node x of the batch's tree, whose words before were `was`
  abbrev pub LinkHereIs : FullNodeId → LinkRow → ℕ → LinkRow → Type 0
  LinkHereIs x was turn r =
      (o : Option ParentAndIndex) → was ≡ link_row o → turn ≡ cut_mark (forest state) (asked bytes c) x
      → (old (forest state) (asked bytes c) x ≡ false → o ≡ None)
      → r ≡ link_row (link_here (forest state) (asked bytes c) x o)

  -- r is the link after of a node x of another tree, whose parent stands in a slot
  abbrev pub LinkElsewhereIs : ℕ → FullNodeId → LinkRow → LinkRow → Type 0
  LinkElsewhereIs slot x was r =
      (o : Option ParentAndIndex) → was ≡ link_row o → slot ≡ slot_above state o → r ≡ link_row (link_elsewhere (forest state) (asked bytes c) x o)

  -- ## The words of the links after

  -- of the old node in slot i
  abbrev pub old_row : ℕ → LinkRow
  old_row i = link_row (link_after (forest state) (asked bytes c) (id_at (forest state) i) (node_at (forest state) i).parent_and_index)

  -- of listed node i, which is new
  abbrev pub new_row : ℕ → LinkRow
  new_row i = link_row (link_after (forest state) (asked bytes c) (here (forest state) (asked bytes c) (listed_at (asked bytes c) i).id) None)

  -- of a code's node
  unfoldable pub link_word : ℕ → LinkRow
  link_word code = link_row (link_after (forest state) (asked bytes c) (code_id (forest state) (asked bytes c) code) (code_link (forest state) (asked bytes c) code))
