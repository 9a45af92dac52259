-- Codes of nodes: below 320 the slot of an old node, from 320 on a listed node. So the outcome's nodes, and where their data comes from,
-- are told by one number each. Assumes nothing.
use Rattle.std.specs.Prelude.{Bool, false, not, ◌≡◌, ℕ, ◌+◌, ◌-◌, ◌*◌, ◌≤◌, ◌<◌, ltb, length, get_or, if◌then◌else◌, Option, None, Some}
use Rattle.base.specs.Tests.{◌and◌, position}
use Rattle.ids.specs.Ids.{same_id}
use Rattle.ids.specs.declared.FullNodeId.{FullNodeId}
use Rattle.record.specs.Batch.{NodeData, same_data, Listed, Batch}
use Rattle.record_reader.specs.Reader.{listed_at}
use Rattle.state.specs.State.{ParentAndIndex, NodeState, ids_of, Forest, find}
use Rattle.state_array.specs.Layout.{SLOTS}
use Rattle.state_array.specs.Stored.{no_state}
use Rattle.update.specs.Words.{here, old, listed, turn}
use Rattle.update.specs.Gone.{gone}
use Rattle.update.specs.Outcome.{pane_root, outcome}
use Rattle.update.specs.Reports.{is_updated, is_relinked}

-- ## Places

-- the node in slot i, and its id
abbrev pub node_at : Forest → ℕ → NodeState
node_at s i = get_or s.nodes i no_state

abbrev pub id_at : Forest → ℕ → FullNodeId
id_at s i = (node_at s i).id

-- the slot of an id, the number of nodes where it is absent
abbrev pub slot_at : Forest → FullNodeId → ℕ
slot_at s x = position same_id (ids_of s.nodes) x

-- 1 where a test holds, else 0
abbrev pub flag : Bool → ℕ
flag t = if t then 1 else 0

module _ (s : Forest) (b : Batch) where
  -- a listed node that is old, and whose data is other than before
  unfoldable pub differs : Listed → Bool
  differs l = elim (find (here s b l.id) s.nodes) [ None ↦ false | Some n ↦ not (same_data n.body l.body) ]

  -- ## What a code says

  -- the id of a code
  unfoldable pub code_id : ℕ → FullNodeId
  code_id code = if ltb code SLOTS then id_at s code else here s b (listed_at b (code - SLOTS)).id

  -- the link that its node recorded; a listed node that is new has none
  unfoldable pub code_link : ℕ → Option ParentAndIndex
  code_link code = if ltb code SLOTS then (node_at s code).parent_and_index else None

  -- a code of an old node that stays, or of a listed node that is new
  pub record Coded (code : ℕ) : Type 0 where
    pub stays : code < SLOTS → (code < length s.nodes) × (gone s b (id_at s code) ≡ false)
    pub new : SLOTS ≤ code → (code - SLOTS < length b.nodes) × (old s b (code_id code) ≡ false)

  -- data comes from a code's node, old or listed
  pub record SourceOf (code : ℕ) (body : NodeData) : Type 0 where
    pub kept : code < SLOTS → (code < length s.nodes) × ((node_at s code).body ≡ body)
    pub read : SLOTS ≤ code → (code - SLOTS < length b.nodes) × ((listed_at b (code - SLOTS)).body ≡ body)

  -- ## The codes of the outcome's nodes

  -- an old node's slot, else 320 and the node's turn
  unfoldable pub code_of : FullNodeId → ℕ
  code_of x = if old s b x then slot_at s x else SLOTS + turn s b x

  -- where its data comes from: the batch where it is new or differs, else the old node
  unfoldable pub source_of : FullNodeId → ℕ
  source_of x = if old s b x and not (listed s b x and differs (listed_at b (turn s b x))) then slot_at s x else SLOTS + turn s b x

  -- what changed: 1 added, 2 updated, 4 relinked
  unfoldable pub change_of : FullNodeId → ℕ
  change_of x =
      if old s b x
      then 2 * flag (is_updated s (outcome s b) (pane_root s b) (node_at s (slot_at s x))) + 4 * flag (is_relinked s (outcome s b) x)
      else 1
