-- The forest after a batch: nodes written and removed, parent links, the table of trees. Document 01, "The update".
-- Assumes nothing.
use Rattle.std.specs.Prelude.{Bool, true, not, List, [], ◌∷◌, ◌++◌, map, ℕ, suc, eqb, leb, if◌then◌else◌, Option, None, Some}
use Rattle.base.specs.Tests.{◌and◌, keep}
use Rattle.ids.specs.Ids.{ROOT, same_tree, same_index, same_id, before}
use Rattle.ids.specs.declared.TreeIndex.{TreeIndex}
use Rattle.ids.specs.declared.FullNodeId.{FullNodeId}
use Rattle.record.specs.Batch.{NodeData, same_data, Listed, Batch}
use Rattle.state.specs.State.{ParentAndIndex, NodeState, Subtree, TreeEntry, Forest, holder}
use Rattle.update.specs.Words.{known, tree_number, mine, old, listed, turn, naming, with_tree_data, is_root, claimed_from}
use Rattle.update.specs.Gone.{gone}

-- ## Writing

-- data that is equal by value leaves the old bits
unfoldable pub renewed : NodeData → NodeData → NodeData
renewed body new = if same_data body new then body else new

-- a node is written in its place by id, over the data that stood there
unfoldable pub write : FullNodeId → NodeData → List NodeState → List NodeState
write x d [] = record { id = x; parent_and_index = None; body = d } ∷ []
write x d (n ∷ ns) =
    if same_id x n.id then record { id = n.id; parent_and_index = n.parent_and_index; body = renewed n.body d } ∷ ns
    else if before x n.id then record { id = x; parent_and_index = None; body = d } ∷ n ∷ ns
    else n ∷ write x d ns

-- all listed nodes, of tree number t
unfoldable pub write_all : TreeIndex → List Listed → List NodeState → List NodeState
write_all t [] ns = ns
write_all t (l ∷ ls) ns = write_all t ls (write (record { tree = t; node = l.id }) l.body ns)

-- the link of a tree's root under its graft holder
unfoldable pub under_graft : FullNodeId → Option ParentAndIndex
under_graft g = Some (record { parent = g; index = 0 })

module _ (s : Forest) (b : Batch) where
  -- the old nodes and the listed ones
  unfoldable pub written : List NodeState
  written = write_all (tree_number s b) b.nodes s.nodes

  -- ## Links

  -- the root that tree data gives a tree other than ROOT
  unfoldable pub pane_root : FullNodeId → Bool
  pane_root x = is_root s b x and with_tree_data s b and not (same_tree b.tree ROOT)

  -- a link cut at x's turn stays cut: no node names x, or x is old and is named no later than its turn
  unfoldable pub cut_lasts : FullNodeId → Bool
  cut_lasts x = elim (naming s b x) [ None ↦ true | Some l ↦ old s b x and leb (turn s b l.parent) (turn s b x) ]

  -- ROOT's root, if it is listed: the crate cuts its link at its turn. Where the cut does not last, the root has the link under which
  -- it is named, and is not accepted (18, 19).
  unfoldable pub link_is_cut : FullNodeId → Bool
  link_is_cut x = is_root s b x and same_tree b.tree ROOT and listed s b x and cut_lasts x

  -- A node of the batch's tree that recorded `was`: the root that tree data gives a pane stands under the graft holder, a cut root under none,
  -- any other node where it is named or else where it stood. So a pane's root that is listed without tree data keeps its link (added).
  -- Any other root that is named has a link to the node that names it. It never shows: the root is met twice, or that node goes (19 at the latest).
  unfoldable pub link_here : FullNodeId → Option ParentAndIndex → Option ParentAndIndex
  link_here x was =
      if pane_root x then elim (holder s.nodes b.tree) [ None ↦ None | Some g ↦ under_graft g ]
      else if link_is_cut x then None
      else elim (naming s b x) [ None ↦ was | Some l ↦ Some l ]

  -- A node of another tree: as it was, but the root of a claimed tree stands under the claimer.
  unfoldable pub link_elsewhere : FullNodeId → Option ParentAndIndex → Option ParentAndIndex
  link_elsewhere x None = None
  link_elsewhere x (Some l) =
      if same_index l.parent.tree x.tree then Some l
      else elim (claimed_from s b l.parent) [ None ↦ Some l | Some g ↦ under_graft g ]

  -- of the batch's tree or of another
  unfoldable pub link_after : FullNodeId → Option ParentAndIndex → Option ParentAndIndex
  link_after x was = if mine s b x then link_here x was else link_elsewhere x was

  -- a node with the link that it then records
  unfoldable pub relink : NodeState → NodeState
  relink n = record { id = n.id; parent_and_index = link_after n.id n.parent_and_index; body = n.body }

  -- ## Trees

  -- the batch's tree: the root of the tree data or, without, the root that it had; and the batch's focus
  unfoldable pub subtree_here : Option Subtree → Option Subtree
  subtree_here subtree =
      elim b.root [
        | Some r ↦ Some (record { root = r; focus = b.focus })
        | None ↦ elim subtree [ None ↦ None | Some u ↦ Some (record { root = u.root; focus = b.focus }) ]
      ]

  -- any other tree, of number k, stays while its root does
  unfoldable pub subtree_elsewhere : ℕ → Option Subtree → Option Subtree
  subtree_elsewhere k None = None
  subtree_elsewhere k (Some u) = if gone s b (record { tree = record { 0 = k }; node = u.root }) then None else Some u

  -- of the batch's tree or of another; k is the tree's number
  unfoldable pub entry_after : ℕ → TreeEntry → TreeEntry
  entry_after k e =
      record { id = e.id; subtree = if eqb k (tree_number s b).0 then subtree_here e.subtree else subtree_elsewhere k e.subtree }

  -- the trees that have a number already; k is the first number
  unfoldable pub entries_after : ℕ → List TreeEntry → List TreeEntry
  entries_after k [] = []
  entries_after k (e ∷ es) = entry_after k e ∷ entries_after (suc k) es

  -- a tree id without a number takes the next one
  unfoldable pub new_entry : List TreeEntry
  new_entry = if known s b then [] else record { id = b.tree; subtree = subtree_here None } ∷ []

  -- ## The outcome

  -- the forest after the batch
  unfoldable pub outcome : Forest
  outcome = record {
    nodes = map relink (keep (λ n. not (gone s b n.id)) written);
    trees = entries_after 0 s.trees ++ new_entry;
  }
