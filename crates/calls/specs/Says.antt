-- What the notes of an update say of a forest s and a batch b: the table of their columns, and which of them are written. Assumes nothing.
use Rattle.std.specs.Prelude.{List, [], ◌∷◌, ◌≡◌, ℕ, suc, ◌+◌, ◌<◌, eqb, ltb, length, get_or, take, if◌then◌else◌, Option, None, Some}
use Rattle.base.specs.Tests.{◌and◌, is_some, same_option, has, position}
use Rattle.base.specs.Search.{First}
use Rattle.ids.specs.Ids.{same_tree, same_node}
use Rattle.ids.specs.declared.TreeId.{TreeId}
use Rattle.ids.specs.declared.FullNodeId.{FullNodeId}
use Rattle.record.specs.Batch.{Batch, named_ids}
use Rattle.record_reader.specs.Reader.{no_node, listed_at}
use Rattle.state.specs.State.{ParentAndIndex, Forest, State}
use Rattle.state_array.specs.Layout.{SLOTS}
use Rattle.state_array.specs.Stored.{stored}
use Rattle.state_array.specs.View.{graft_in, slots_of, view}
use Rattle.update.specs.Words.{here, mine, listed, turn, claim}
use Rattle.update.specs.Gone.{gone}
use Rattle.update.specs.Outcome.{outcome}
use Rattle.calls.specs.Layout.{WORDS, CLAIMS}
use Rattle.base.specs.Regions.{Part, part}
use Rattle.calls.specs.Columns.{Column}
use Rattle.calls.specs.declared.notes.Scope.{Scope}
use Rattle.calls.specs.Setting.{asked, forest, Given}
use Rattle.calls.specs.Codes.{id_at, slot_at, node_at, flag, differs, code_of, source_of, change_of}

-- ## Marks

-- one more than a node's turn, 0 where it is not listed
unfoldable pub turn_mark : Forest → Batch → FullNodeId → ℕ
turn_mark s b x = if listed s b x then suc (turn s b x) else 0

-- one more than the place where a node is first named, 0 where it is not
unfoldable pub naming_mark : Forest → Batch → FullNodeId → ℕ
naming_mark s b x =
    if mine s b x and has same_node (named_ids b.nodes) x.node then suc (position same_node (named_ids b.nodes) x.node) else 0

-- ## Grafts in a state

-- the tree that the node in slot i grafts; none past the last node
unfoldable pub graft_below : List ℕ → ℕ → Option TreeId
graft_below state i = if ltb i (slots_of state) then graft_in state i else None

-- the first of k listed nodes that claims the tree t, or k
abbrev pub ClaimerIs : Batch → List ℕ → ℕ → TreeId → ℕ → Type 0
ClaimerIs b notes k t r = First (λ i. eqb (get_or notes (CLAIMS + i) 0) 1 and same_tree (listed_at b i).body.graft t) k r

-- the first of k listed nodes that claims the tree that a node grafted, or k
pub record ClaimedFromIs (b : Batch) (notes : List ℕ) (k : ℕ) (graft : Option TreeId) (r : ℕ) : Type 0 where
  pub ungrafted : graft ≡ None → r ≡ k
  pub of_graft : (t : TreeId) → graft ≡ Some t → ClaimerIs b notes k t r

-- ## Searches

-- the first of the n words from `from` on that is x, or n
abbrev pub PositionIn : List ℕ → ℕ → ℕ → ℕ → ℕ → Type 0
PositionIn notes from n x r = First (λ i. eqb (get_or notes (from + i) 0) x) n r

-- the first slot whose node grafts t, or the number of slots
abbrev pub HolderIs : List ℕ → TreeId → ℕ → Type 0
HolderIs state t r = First (λ i. same_option same_tree (graft_in state i) (Some t)) (slots_of state) r

-- ## The words of the columns

-- the slot of a link's parent, the number of nodes without one
unfoldable pub slot_above : List ℕ → Option ParentAndIndex → ℕ
slot_above state o = elim o [ None ↦ slots_of state | Some l ↦ slot_at (forest state) l.parent ]

module _ (state bytes : List ℕ) (c : Scope) where
  -- the number of listed node i; child j of those that they name; where the children of listed node i end among these
  unfoldable pub listed_word : ℕ → ℕ
  listed_word i = (listed_at (asked bytes c) i).id.0

  unfoldable pub named_word : ℕ → ℕ
  named_word j = (get_or (named_ids (asked bytes c).nodes) j no_node).0

  unfoldable pub end_word : ℕ → ℕ
  end_word i = length (named_ids (take (i + 1) (asked bytes c).nodes))

  -- their slots
  unfoldable pub listed_slot : ℕ → ℕ
  listed_slot i = slot_at (forest state) (here (forest state) (asked bytes c) (listed_at (asked bytes c) i).id)

  unfoldable pub named_slot : ℕ → ℕ
  named_slot j = slot_at (forest state) (here (forest state) (asked bytes c) (get_or (named_ids (asked bytes c).nodes) j no_node))

  -- the turn and the naming of the node in slot i; whether listed node i claims a tree
  unfoldable pub turn_word : ℕ → ℕ
  turn_word i = turn_mark (forest state) (asked bytes c) (id_at (forest state) i)

  unfoldable pub naming_word : ℕ → ℕ
  naming_word i = naming_mark (forest state) (asked bytes c) (id_at (forest state) i)

  unfoldable pub claim_word : ℕ → ℕ
  claim_word i = flag (is_some (claim (forest state) (asked bytes c) (listed_at (asked bytes c) i)))

  -- the slot of the parent of the node in slot i; whether that node goes
  unfoldable pub above_word : ℕ → ℕ
  above_word i = slot_above state (node_at (forest state) i).parent_and_index

  unfoldable pub goes_word : ℕ → ℕ
  goes_word i = flag (gone (forest state) (asked bytes c) (id_at (forest state) i))

  -- whether listed node i is old and differs
  unfoldable pub differ_word : ℕ → ℕ
  differ_word i = flag (differs (forest state) (asked bytes c) (listed_at (asked bytes c) i))

  -- how many nodes the outcome has
  abbrev pub outcome_count : ℕ
  outcome_count = length (outcome (forest state) (asked bytes c)).nodes

  -- the code of the outcome's node r, where its data comes from, what changed of it
  unfoldable pub code_word : ℕ → ℕ
  code_word r = code_of (forest state) (asked bytes c) (id_at (outcome (forest state) (asked bytes c)) r)

  unfoldable pub source_word : ℕ → ℕ
  source_word r = source_of (forest state) (asked bytes c) (id_at (outcome (forest state) (asked bytes c)) r)

  unfoldable pub changed_word : ℕ → ℕ
  changed_word r = change_of (forest state) (asked bytes c) (id_at (outcome (forest state) (asked bytes c)) r)

-- the state after the batch: its outcome, with the host flag as it was
abbrev pub outcome_state : List ℕ → List ℕ → Scope → State
outcome_state state bytes c = record { forest = outcome (forest state) (asked bytes c); host_focused = (view state).host_focused }

-- ## The table of columns, in the order in which the phases write them, and where they stand in the notes

abbrev pub columns : List ℕ → List ℕ → Scope → List Part
columns state bytes c =
    part 64 c.listed (listed_word state bytes c)
    ∷ part 256 c.named (named_word state bytes c)
    ∷ part 64 c.listed (end_word state bytes c)
    ∷ part 64 c.listed (listed_slot state bytes c)
    ∷ part 256 c.named (named_slot state bytes c)
    ∷ part SLOTS (slots_of state) (turn_word state bytes c)
    ∷ part SLOTS (slots_of state) (naming_word state bytes c)
    ∷ part 64 c.listed (claim_word state bytes c)
    ∷ part SLOTS (slots_of state) (above_word state bytes c)
    ∷ part SLOTS (slots_of state) (goes_word state bytes c)
    ∷ part 64 c.listed (differ_word state bytes c)
    ∷ part 1 1 (λ r. outcome_count state bytes c)
    ∷ part SLOTS (outcome_count state bytes c) (code_word state bytes c)
    ∷ part SLOTS (outcome_count state bytes c) (source_word state bytes c)
    ∷ part SLOTS (outcome_count state bytes c) (changed_word state bytes c)
    ∷ []

-- how many columns are written after each phase
abbrev pub READ : ℕ
READ = 8

abbrev pub GONE : ℕ
GONE = 10

abbrev pub COMPARED : ℕ
COMPARED = 11

abbrev pub PLANNED : ℕ
PLANNED = 14

abbrev pub REPORTED : ℕ
REPORTED = 15

-- THE PREMISE OF A PHASE: what it is given, and that the notes' first k columns are written.
pub record Told (k : ℕ) (state bytes : List ℕ) (c : Scope) (notes : List ℕ) : Type 0 where
  pub given : Given state bytes c
  pub long : length notes ≡ WORDS
  pub written : (j : ℕ) → j < k → Column (columns state bytes c) notes j

-- the outcome stands in `next`, and the notes have the plan
pub record Written (state bytes : List ℕ) (c : Scope) (notes next : List ℕ) : Type 0 where
  pub told : Told PLANNED state bytes c notes
  pub words : next ≡ stored (outcome_state state bytes c)
  pub shows : view next ≡ outcome_state state bytes c
