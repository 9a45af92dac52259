-- What the phases of an update are given: a forest that passed number 1, or a start's, a batch that passed number 2, and its scope.
-- Assumes nothing.
use Rattle.std.specs.Prelude.{true, ◌||◌, List, ◌≡◌, ℕ, ◌≤◌, ltb, length, if◌then◌else◌, Option, None, Some, option_map}
use Rattle.base.specs.Tests.{all, distinct}
use Rattle.ids.specs.Ids.{ROOT, same_tree, same_node}
use Rattle.ids.specs.declared.FullNodeId.{FullNodeId}
use Rattle.record.specs.Batch.{fields_ok, Batch, listed_ids, named_ids}
use Rattle.record.specs.Parse.{well_formed, batch_of}
use Rattle.state.specs.State.{ParentAndIndex, Forest, present, link_at}
use Rattle.state.specs.Sound as sound
use Rattle.state_array.specs.Stored.{entries_of}
use Rattle.state_array.specs.View.{view}
use Rattle.update.specs.Words.{known, tree_number, with_tree_data, root_after}
use Rattle.update.specs.Gone.{fares, fate, gone}
use Rattle.calls.specs.declared.notes.Refusal.{Refusal}
use Rattle.calls.specs.declared.notes.Scope.{Scope}

-- The bytes are a record, and b lists its nodes. (A start's b is the record's batch with its tree data taken.)
pub record Batched (bytes : List ℕ) (b : Batch) : Type 0 where
  pub formed : well_formed bytes ≡ true
  pub nodes : b.nodes ≡ (batch_of bytes).nodes

-- the root that a scope names
unfoldable pub root_in : Scope → Option FullNodeId
root_in c = option_map (λ x. record { tree = c.tree; node = x }) c.root

-- c is the scope of b over s
pub record Scoped (s : Forest) (b : Batch) (c : Scope) : Type 0 where
  pub tree : c.tree ≡ tree_number s b
  pub root_tree : c.is_root_tree ≡ same_tree b.tree ROOT
  pub listed : c.listed ≡ length b.nodes
  pub named : c.named ≡ length (named_ids b.nodes)
  pub tree_data : c.with_tree_data ≡ with_tree_data s b
  pub root : root_in c ≡ root_after s b

-- The batch that a record and a scope say: without tree data where the scope has none. (A start takes its record's tree data.)
unfoldable pub asked : List ℕ → Scope → Batch
asked bytes c = record {
  tree = (batch_of bytes).tree;
  root = if c.with_tree_data then (batch_of bytes).root else None;
  focus = (batch_of bytes).focus;
  nodes = (batch_of bytes).nodes;
}

-- the forest that the words of a state show
abbrev pub forest : List ℕ → Forest
forest state = (view state).forest

-- what holds of a sound forest, and of the forest that a start begins with
pub record KeptForest (s : Forest) : Type 0 where
  pub ascending : sound.ascending s.nodes ≡ true
  pub few_nodes : length s.nodes ≤ 256
  pub few_trees : length s.trees ≤ 32
  pub few_children : length (entries_of s.nodes) ≤ 256
  pub fields : all (λ n. fields_ok n.body) s.nodes ≡ true
  pub parent_present : (x : FullNodeId) (l : ParentAndIndex) → link_at s.nodes x ≡ Some l → present s.nodes l.parent ≡ true
  pub gone_parent : (b : Batch) (x : FullNodeId) (l : ParentAndIndex) → link_at s.nodes x ≡ Some l
      → gone s b x ≡ fares (fate s b x l) (gone s b l.parent)

-- What every phase is given: the words of a state that is kept, the bytes of a record that passed rows 5 to 8, and its scope.
pub record Given (state bytes : List ℕ) (c : Scope) : Type 0 where
  pub kept : KeptForest (forest state)
  pub formed : well_formed bytes ≡ true
  pub scoped : Scoped (forest state) (asked bytes c) c
  pub once : distinct same_node (listed_ids (asked bytes c).nodes) ≡ true
  pub numbered : (known (forest state) (asked bytes c) || ltb (length (forest state).trees) 32) ≡ true

-- what a number of document 01's table is as a phase answers it; no number fills the place for a node's id yet
abbrev pub refusal : ℕ → Refusal
refusal k = record { number = k; node = record { tree = record { 0 = 0 }; node = record { 0 = 0 } } }
