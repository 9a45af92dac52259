-- The state that an image stands for is the one that it is the image of. Assumes nothing.
use mathlib.Core.Bool.{not}
use mathlib.Core.Path.{◌≡◌, refl, ap, ◌∙◌}
use Prim.Native.Nat.{ℕ, zero, suc, ◌+◌, ◌*◌, ◌/◌, ◌%◌, ◌<◌, min}
use native.Mathlib.Omega.{arith}
use lib.Dec.{eqb}
use lib.Ieee.{fits, of_bits, to_bits, binary64}
use lib.ListN.{length, get_or}
use borrow.Author.Tests.{lt-ltb}
use Rattle.std.specs.Prelude.{if◌then◌else◌, Option, None, Some}
use Rattle.base.specs.Bytes.{list_of}
use Rattle.base.proofs.Tests.{bit_set}
use Rattle.base.proofs.Lists.{all_at}
use Rattle.base.proofs.Columns.{list_of_each}
use Rattle.ids.specs.declared.NodeId.{NodeId}
use Rattle.record.proofs.Batch.{field_rules}
use Rattle.state.specs.State.{ParentAndIndex, NodeState, Subtree, TreeEntry, State}
use Rattle.state_array.specs.Layout.{SLOTS, TREES, TREE_FIELDS, NODE_FIELDS, TREE_HIGH, TREE_LOW, TREE_ROOT, TREE_FOCUS, TREE_EXISTS, TREE, NODE, PARENT_TREE, PARENT_NODE, INDEX, LINKED, GRAFT_HIGH, GRAFT_LOW, FLAGS, FIRST_CHILD, CHILD_COUNT, ACTIVE, ROLE, LABEL_LENGTH, LABEL, FLOATS, count_of, tree_count_of, word, child, entry}
use Rattle.state_array.specs.View.{id_in, link_in, link_of, shape_in, children_in, label_byte, label_in, float_in, bounds_in, transform_in, body_in, node_in, tree_in, entry_in, view}
use Rattle.state_array.specs.Stored.{no_node, no_state, no_tree, link_row, label_word, floats_of, body_of, children_before, row_of, node_word, tree_row, tree_word, stored, Fits}
use Rattle.state_array.proofs.Labels.{float_forth, le_byte}
use Rattle.state_array.proofs.Entries.{entries_within, entries_at}
use Rattle.state_array.proofs.Stored.{stored_count, stored_trees, stored_host, stored_word, stored_entry, stored_child}

-- ## A link and a tree, read from their words

link_back : (o : Option ParentAndIndex) → link_of (link_row o) ≡ o
unfolding link_of link_row
link_back None = refl
link_back (Some l) = refl

link_below : (o : Option ParentAndIndex) → ((l : ParentAndIndex) → o ≡ Some l → l.parent.tree.0 < 4294967296) → (link_row o).parent.tree.0 < 4294967296
unfolding link_row
link_below None h = omega arith
link_below (Some l) h = h l refl

tree_back : (o : Option Subtree) (e : TreeEntry) → e.subtree ≡ o
    → (if eqb (tree_row e).exists 0 then None else Some (record { root = (tree_row e).root; focus = (tree_row e).focus })) ≡ o
unfolding tree_row
tree_back None e q = rw q
tree_back (Some u) e q = rw q

tree_id : (o : Option Subtree) (e : TreeEntry) → e.subtree ≡ o → (tree_row e).id ≡ e.id
unfolding tree_row
tree_id None e q = rw q
tree_id (Some u) e q = rw q

module _ (a : State) (fit : Fits a) where
  -- ## A node

  module _ (i : ℕ) (l : i < length a.forest.nodes) where
    abbrev n : NodeState
    n = get_or a.forest.nodes i no_state

    at : (f : ℕ) → f < NODE_FIELDS → word (stored a) f i ≡ node_word a.forest.nodes f i
    at f h = stored_word a fit.nodes f i h l

    id_stored : id_in (stored a) i ≡ n.id
    unfolding id_in node_word row_of
    id_stored =
        let cut : min (word (stored a) TREE i) 4294967295 ≡ n.id.tree.0 = omega (arith, at TREE (omega arith), (fit.each i l).tree) in
        λ z. record { tree = record { 0 = cut z }; node = record { 0 = at NODE (omega arith) z } }

    link_stored : link_of (link_in (stored a) i) ≡ n.parent_and_index
    unfolding link_in node_word row_of
    link_stored = ap link_of row ∙ link_back n.parent_and_index
      where
        cut : min (word (stored a) PARENT_TREE i) 4294967295 ≡ (link_row n.parent_and_index).parent.tree.0
        cut = omega (arith, at PARENT_TREE (omega arith), link_below n.parent_and_index (fit.each i l).parent)

        row : link_in (stored a) i ≡ link_row n.parent_and_index
        row = λ z. record {
          parent = record { tree = record { 0 = cut z }; node = record { 0 = at PARENT_NODE (omega arith) z } };
          index = at INDEX (omega arith) z;
          linked = at LINKED (omega arith) z;
        }

    children_stored : (own : NodeId) → children_in (stored a) own (shape_in (stored a) i) ≡ n.body.children
    unfolding children_in shape_in node_word row_of body_of
    children_stored own =
        ap (λ m. list_of m (λ j. record { 0 = child (stored a) own.0 (word (stored a) FIRST_CHILD i + j) })) (at CHILD_COUNT (omega arith))
        ∙ ap (λ m. list_of (length n.body.children) (λ j. record { 0 = child (stored a) own.0 (m + j) })) (at FIRST_CHILD (omega arith))
        ∙ list_of_each no_node n.body.children _ each
      where
        each : (j : ℕ) → j < length n.body.children
            → ◌≡◌ {A = NodeId} (record { 0 = child (stored a) own.0 (children_before a.forest.nodes i + j) }) (get_or n.body.children j no_node)
        each j h =
            let w = entries_within a.forest.nodes i l in
            ap {B = NodeId} (λ m. record { 0 = m }) (stored_child a fit.entries own.0 (children_before a.forest.nodes i + j) (omega arith))
            ∙ entries_at a.forest.nodes i j l h

    -- word k of the label
    label_word_lem : (k : ℕ) → k < 4 → node_word a.forest.nodes (LABEL + k) i ≡ label_word n.body.label k
    unfolding node_word row_of body_of list_of
    label_word_lem zero h = refl
    label_word_lem (suc zero) h = refl
    label_word_lem (suc (suc zero)) h = refl
    label_word_lem (suc (suc (suc zero))) h = refl
    label_word_lem (suc (suc (suc (suc k)))) h = absurd (omega arith)

    label_stored : label_in (stored a) i ≡ n.body.label
    unfolding label_in node_word row_of body_of label_byte
    label_stored = ap (λ m. list_of m (label_byte (stored a) i)) (at LABEL_LENGTH (omega arith)) ∙ list_of_each 0 n.body.label (label_byte (stored a) i) each
      where
        each : (j : ℕ) → j < length n.body.label → label_byte (stored a) i j ≡ get_or n.body.label j 0
        each j h =
            let short = (field_rules n.body (fit.each i l).body.fields).label_limit in
            let e : 8 * (j / 8) + j % 8 ≡ j = omega arith in
            rw (lt-ltb j 32 (omega arith), at (LABEL + j / 8) (omega arith), label_word_lem (j / 8) (omega arith))
            (le_byte 8 (j % 8) (8 * (j / 8)) n.body.label (fit.each i l).body.bytes (omega arith) ∙ ap (λ m. get_or n.body.label m 0) e)

    float_stored : (k : ℕ) → k < 10 → node_word a.forest.nodes (FLOATS + k) i ≡ to_bits binary64 (get_or (floats_of n.body) k (of_bits binary64 0))
        → float_in (stored a) i k ≡ get_or (floats_of n.body) k (of_bits binary64 0)
    unfolding floats_of
    float_stored k h e =
        ap (of_bits binary64) (at (FLOATS + k) (omega arith) ∙ e)
        ∙ float_forth (get_or (floats_of n.body) k (of_bits binary64 0)) (all_at (fits binary64) (floats_of n.body) (of_bits binary64 0) (fit.each i l).body.floats k h)

    node_stored : node_in (stored a) i ≡ n
    unfolding node_in body_in bounds_in transform_in shape_in node_word row_of body_of floats_of list_of
    node_stored = λ z. record {
      id = id_stored z;
      parent_and_index = link_stored z;
      body = record {
        active_descendant = record { 0 = at ACTIVE (omega arith) z };
        graft = record { high = at GRAFT_HIGH (omega arith) z; low = at GRAFT_LOW (omega arith) z };
        children = children_stored (id_in (stored a) i).node z;
        label = label_stored z;
        role = at ROLE (omega arith) z;
        flags = at FLAGS (omega arith) z;
        bounds = record {
          x0 = float_stored 0 (omega arith) refl z;
          y0 = float_stored 1 (omega arith) refl z;
          x1 = float_stored 2 (omega arith) refl z;
          y1 = float_stored 3 (omega arith) refl z;
        };
        transform = record {
          a = float_stored 4 (omega arith) refl z;
          b = float_stored 5 (omega arith) refl z;
          c = float_stored 6 (omega arith) refl z;
          d = float_stored 7 (omega arith) refl z;
          e = float_stored 8 (omega arith) refl z;
          f = float_stored 9 (omega arith) refl z;
        };
      };
    }

  -- ## A tree

  entry_stored : (k : ℕ) → k < length a.forest.trees → entry_in (stored a) k ≡ get_or a.forest.trees k no_tree
  unfolding entry_in tree_in tree_word
  entry_stored k l = λ z. record {
    id = (ap (λ r. r.id) row ∙ tree_id (get_or a.forest.trees k no_tree).subtree (get_or a.forest.trees k no_tree) refl) z;
    subtree = (ap {B = Option Subtree} (λ r. if eqb r.exists 0 then None else Some (record { root = r.root; focus = r.focus })) row ∙ tree_back (get_or a.forest.trees k no_tree).subtree (get_or a.forest.trees k no_tree) refl) z;
  }
    where
      at : (j : ℕ) → j < TREE_FIELDS → entry (stored a) j k ≡ tree_word (get_or a.forest.trees k no_tree) j
      at j h = stored_entry a fit.trees j k h l

      row : tree_in (stored a) k ≡ tree_row (get_or a.forest.trees k no_tree)
      row = λ z. record {
        id = record { high = at TREE_HIGH (omega arith) z; low = at TREE_LOW (omega arith) z };
        root = record { 0 = at TREE_ROOT (omega arith) z };
        focus = record { 0 = at TREE_FOCUS (omega arith) z };
        exists = at TREE_EXISTS (omega arith) z;
      }

  -- nothing of a state is lost in its image
  pub view_stored : view (stored a) ≡ a
  unfolding view
  view_stored =
      let nodes : min (count_of (stored a)) SLOTS ≡ length a.forest.nodes = omega (arith, stored_count a, fit.nodes) in
      let trees : min (tree_count_of (stored a)) (TREES + 1) ≡ length a.forest.trees = omega (arith, stored_trees a, fit.trees) in
      λ z. record {
        forest = record {
          nodes = (ap (λ m. list_of m (node_in (stored a))) nodes ∙ list_of_each no_state a.forest.nodes (node_in (stored a)) node_stored) z;
          trees = (ap (λ m. list_of m (entry_in (stored a))) trees ∙ list_of_each no_tree a.forest.trees (entry_in (stored a)) entry_stored) z;
        };
        host_focused = (ap (λ w. not (eqb w 0)) (stored_host a) ∙ bit_set a.host_focused) z;
      }
