-- Document 01's book: ids, each with its children and graft, and a root and a focus per tree number; what each call enters in it.
-- Assumes nothing.
use Rattle.std.specs.Prelude.{Bool, not, List, [], ◌∷◌, ◌++◌, map, ℕ, zero, suc, eqb, if◌then◌else◌, Option, None, Some}
use Rattle.base.specs.Tests.{any, keep, has, position}
use Rattle.ids.specs.Ids.{ROOT, same_tree, same_id, before}
use Rattle.ids.specs.declared.TreeId.{TreeId}
use Rattle.ids.specs.declared.TreeIndex.{TreeIndex}
use Rattle.ids.specs.declared.NodeId.{NodeId}
use Rattle.ids.specs.declared.FullNodeId.{FullNodeId}
use Rattle.record.specs.Batch.{NodeData, graft?, Listed, Batch}
use Rattle.record.specs.Parse.{parse}
use Rattle.state.specs.State.{NodeState, TreeEntry, State}
use Rattle.update.specs.Calls.{Answer, update, host_focus}

-- ## The book

-- a node's entry
pub record Entry : Type 0 where
  pub id : FullNodeId
  pub children : List NodeId
  pub graft : Option TreeId

-- a tree number's line; its number is its place. A line whose tree never had tree data has no root.
pub record Line : Type 0 where
  pub id : TreeId
  pub root : Option NodeId
  pub focus : NodeId

-- document 01: "It holds ids, each with its children and graft, and a root and a focus per tree number"
pub record Book : Type 0 where
  pub nodes : List Entry
  pub trees : List Line

-- ## Entering and striking

-- what the book holds of a node
unfoldable pub entry_of : FullNodeId → NodeData → Entry
entry_of x d = record { id = x; children = d.children; graft = graft? d }

-- an entry, in its place by id, over what stood there
unfoldable pub enter : FullNodeId → NodeData → List Entry → List Entry
enter x d [] = entry_of x d ∷ []
enter x d (k ∷ ks) =
    if same_id x k.id then entry_of x d ∷ ks
    else if before x k.id then entry_of x d ∷ k ∷ ks
    else k ∷ enter x d ks

-- all listed nodes of tree number t
unfoldable pub enter_all : TreeIndex → List Listed → List Entry → List Entry
enter_all t [] ks = ks
enter_all t (l ∷ ls) ks = enter_all t ls (enter (record { tree = t; node = l.id }) l.body ks)

-- the ids struck
unfoldable pub strike : List FullNodeId → List Entry → List Entry
strike xs ks = keep (λ k. not (has same_id xs k.id)) ks

-- the tree's focus and, with tree data, root; i is the line's number, t the batch's
unfoldable pub line_after : Batch → ℕ → ℕ → Line → Line
line_after b t i l =
    if eqb i t
    then record { id = l.id; root = elim b.root [ Some r ↦ Some r | None ↦ l.root ]; focus = b.focus }
    else l

-- all lines; i is the number of the first
unfoldable pub lines_after : Batch → ℕ → ℕ → List Line → List Line
lines_after b t i [] = []
lines_after b t i (l ∷ ls) = line_after b t i l ∷ lines_after b t (suc i) ls

-- numbers go to tree ids as in module 1: an id without one takes the next
unfoldable pub number_in : Batch → List Line → ℕ
number_in b ls = position same_tree (map (λ l. l.id) ls) b.tree

-- the line of a tree id that takes a number
unfoldable pub new_line : Batch → List Line → List Line
new_line b ls =
    if has same_tree (map (λ l. l.id) ls) b.tree then [] else record { id = b.tree; root = b.root; focus = b.focus } ∷ []

-- an accepted batch: its nodes are written over what stood there, its tree's focus and root are set, then the removed ids are struck
unfoldable pub enter_batch : Book → Batch → List FullNodeId → Book
enter_batch k b removed = record {
  nodes = strike removed (enter_all (record { 0 = number_in b k.trees }) b.nodes k.nodes);
  trees = lines_after b (number_in b k.trees) 0 k.trees ++ new_line b k.trees;
}

-- the start enters its nodes, root and focus under 0
unfoldable pub opened_by : Batch → Book
opened_by b = record {
  nodes = enter_all (record { 0 = 0 }) b.nodes [];
  trees = record { id = ROOT; root = b.root; focus = b.focus } ∷ [];
}

-- the book of a start
unfoldable pub opened : List ℕ → Book
opened bytes = elim (parse bytes) [ None ↦ record { nodes = []; trees = [] } | Some b ↦ opened_by b ]

-- ## Calls

-- a batch: the bytes of its record, and the lent slice; a host focus change
pub data Call : Type 0 where
  batch : List ℕ → List ℕ → Call
  host : Bool → Call

-- what the definitions answer
unfoldable pub answer_to : State → Call → Answer
answer_to s (batch bytes slice) = update s bytes slice
answer_to s (host h) = host_focus s h

-- The book is fed the call's arguments, with the number and the removed list that were answered. Any other call changes nothing.
unfoldable pub entered : Book → Call → ℕ → List FullNodeId → Book
entered k (batch bytes slice) zero removed = elim (parse bytes) [ None ↦ k | Some b ↦ enter_batch k b removed ]
entered k (batch bytes slice) (suc n) removed = k
entered k (host h) n removed = k

-- ## What the book says of a state

-- an id is in the book
unfoldable pub is_entered : List Entry → FullNodeId → Bool
is_entered ks x = any (λ k. same_id x k.id) ks

-- a tree exists while its root is entered
unfoldable pub tree_of_line : List Entry → ℕ → Line → TreeEntry
tree_of_line ks i l = record {
  id = l.id;
  subtree = elim l.root [
    | None ↦ None
    | Some r ↦ if is_entered ks (record { tree = record { 0 = i }; node = r }) then Some (record { root = r; focus = l.focus }) else None
  ];
}

-- the table of trees, as the book says it; i is the first number
unfoldable pub trees_of_lines : List Entry → ℕ → List Line → List TreeEntry
trees_of_lines ks i [] = []
trees_of_lines ks i (l ∷ ls) = tree_of_line ks i l ∷ trees_of_lines ks (suc i) ls

-- a state's node, as the book holds it
unfoldable pub entry_of_node : NodeState → Entry
entry_of_node n = entry_of n.id n.body
