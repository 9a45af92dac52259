-- What a question about a node's links and boxes answers: module 6, of a node by its id. Assumes nothing.
use Rattle.std.specs.Prelude.{Bool, List, ℕ, length, Option, Result}
use Rattle.ids.specs.Ids.{id_words}
use Rattle.ids.specs.declared.FullNodeId.{FullNodeId}
use Rattle.geometry.specs.declared.Affine.{Affine}
use Rattle.geometry_box.specs.declared.BoundingBox.{BoundingBox}
use Rattle.state.specs.State.{Forest, parent_at}
use Rattle.questions.specs.Answers.{ask_number}
use Rattle.questions.specs.Links.{child_ids, is_hidden}
use Rattle.questions.specs.Boxes.{transform, bounding_box}
use Rattle.node_answers.specs.declared.Refusal.{Refusal}
use Rattle.node_answers.specs.Answers.{answer, Lists}

-- the parent; of a pane's root its graft node, of ROOT's root none
unfoldable pub parent_answer : Forest → FullNodeId → Result (Option FullNodeId) Refusal
parent_answer s x = answer (ask_number s x) (parent_at s.nodes x)

-- the children, in order, two u64 each; of a graft its tree's root, if that tree exists
abbrev pub Children : Forest → FullNodeId → List ℕ → Result ℕ Refusal → List ℕ → Type 0
Children s x lent r slice = Lists s x (length (child_ids s x)) (id_words (child_ids s x)) lent r slice

-- the inherited hidden flag
unfoldable pub hidden_answer : Forest → FullNodeId → Result Bool Refusal
hidden_answer s x = answer (ask_number s x) (is_hidden s x)

-- the transform
unfoldable pub transform_answer : Forest → FullNodeId → Result Affine Refusal
transform_answer s x = answer (ask_number s x) (transform s x)

-- the bounding box
unfoldable pub box_answer : Forest → FullNodeId → Result BoundingBox Refusal
box_answer s x = answer (ask_number s x) (bounding_box s x)
