-- What a question about a node's own data answers. Document 01 has no rule for reading a node: what stands here was added, so that a program can speak
-- a node's line from the state alone. Assumes nothing.
use Rattle.std.specs.Prelude.{List, [], ℕ, length, None, Some, Result, Err}
use Rattle.ids.specs.declared.FullNodeId.{FullNodeId}
use Rattle.record.specs.Batch.{NodeData, hidden, clips_children, active_descendant?, graft?, bounds?, transform?}
use Rattle.state.specs.State.{Forest, find}
use Rattle.questions.specs.Answers.{ask_number}
use Rattle.questions.specs.Links.{child_ids}
use Rattle.node_answers.specs.declared.NodeReading.{NodeReading}
use Rattle.node_answers.specs.declared.Refusal.{Refusal}
use Rattle.node_answers.specs.Answers.{refusal, answer, Lists}

-- ## A node

-- what a node with this data says of itself; its children are those of module 6, of a graft its tree's root
unfoldable pub reading_of : Forest → FullNodeId → NodeData → NodeReading
reading_of s x d = record {
  role = d.role;
  hidden = hidden d;
  clips_children = clips_children d;
  label_length = length d.label;
  child_count = length (child_ids s x);
  bounds = bounds? d;
  transform = transform? d;
  active_descendant = active_descendant? d;
  graft = graft? d;
}

-- what the node x says of itself
unfoldable pub reading : Forest → FullNodeId → Result NodeReading Refusal
reading s x =
    let k = ask_number s x in
    elim (find x s.nodes) [ None ↦ Err (refusal k) | Some n ↦ answer k (reading_of s x n.body) ]

-- ## A label

-- the bytes of a node's label
unfoldable pub label_at : Forest → FullNodeId → List ℕ
label_at s x = elim (find x s.nodes) [ None ↦ [] | Some n ↦ n.body.label ]

-- a question for it
abbrev pub Labels : Forest → FullNodeId → List ℕ → Result ℕ Refusal → List ℕ → Type 0
Labels s x lent r slice = Lists s x (length (label_at s x)) (label_at s x) lent r slice
