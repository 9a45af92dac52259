-- Laws of the view: the ids that it shows, the view without nodes and trees, and with another host flag. Assumes nothing.
use mathlib.Core.Bool.{not}
use mathlib.Core.List.{List}
use mathlib.Core.Path.{◌≡◌, ap}
use Prim.Native.Nat.{ℕ, ◌<◌, ◌+◌, ◌*◌, ◌/◌, ◌%◌, ◌^◌, min}
use native.Mathlib.Omega.{arith}
use lib.Dec.{eqb, ltb}
use lib.ListN.{length, get_or}
use lib.Seq.{get_or-set_same, get_or-set_other}
use lib.Ieee.{of_bits, binary64}
use Rattle.std.specs.Prelude.{if◌then◌else◌}
use Rattle.base.specs.Tests.{◌and◌}
use Rattle.base.specs.Bytes.{list_of}
use Rattle.base.proofs.Bytes.{map_list_of}
use Rattle.base.proofs.Indexed.{list_of_cong}
use Rattle.state.specs.State.{ids_of}
use Rattle.state_array.specs.Layout.{WORDS, SLOTS, TREES, ENTRIES, TREE_FIELDS, NODE_FIELDS, COUNT, TREE_COUNT, HOST, entry_place, entry, place, word, child_place, child, TREE_HIGH, TREE_LOW, TREE_ROOT, TREE_FOCUS, TREE_EXISTS, TREE, NODE, PARENT_TREE, PARENT_NODE, INDEX, LINKED, GRAFT_HIGH, GRAFT_LOW, FLAGS, FIRST_CHILD, CHILD_COUNT, ACTIVE, ROLE, LABEL_LENGTH, LABEL, FLOATS}
use Rattle.state_array.specs.View.{slots_of, trees_of, view, tree_in, entry_in, id_in, link_in, link_of, shape_in, label_byte, label_in, bounds_in, transform_in, children_in, body_in, node_in}
use Rattle.state_array.specs.Put.{host_put}

-- the ids of a state's nodes
pub view_ids : (s : List ℕ) → ids_of (view s).forest.nodes ≡ list_of (slots_of s) (id_in s)
unfolding view ids_of node_in
view_ids s = map_list_of (λ k. k.id) (slots_of s) (node_in s)

-- ## The host flag

-- a node is what its words and the child entries say
node_same : (s t : List ℕ) (i j : ℕ) → ((f : ℕ) → word s f i ≡ word t f j) → ((own k : ℕ) → child s own k ≡ child t own k) → node_in s i ≡ node_in t j
unfolding id_in link_in shape_in label_byte label_in bounds_in transform_in children_in body_in node_in
node_same s t i j same kids = λ z. record {
  id = record { tree = record { 0 = min (same TREE z) 4294967295 }; node = record { 0 = same NODE z } };
  parent_and_index = link_of (record {
    parent = record { tree = record { 0 = min (same PARENT_TREE z) 4294967295 }; node = record { 0 = same PARENT_NODE z } };
    index = same INDEX z;
    linked = same LINKED z;
  });
  body = record {
    active_descendant = record { 0 = same ACTIVE z };
    graft = record { high = same GRAFT_HIGH z; low = same GRAFT_LOW z };
    children = list_of (same CHILD_COUNT z) (λ k. record { 0 = kids (same NODE z) (same FIRST_CHILD z + k) z });
    label = list_of (same LABEL_LENGTH z) (λ b. if ltb b 32 then same (LABEL + b / 8) z / 2 ^ (8 * (b % 8)) % 256 else 0);
    role = same ROLE z;
    flags = same FLAGS z;
    bounds = record {
      x0 = of_bits binary64 (same (FLOATS + 0) z);
      y0 = of_bits binary64 (same (FLOATS + 1) z);
      x1 = of_bits binary64 (same (FLOATS + 2) z);
      y1 = of_bits binary64 (same (FLOATS + 3) z);
    };
    transform = record {
      a = of_bits binary64 (same (FLOATS + 4) z);
      b = of_bits binary64 (same (FLOATS + 5) z);
      c = of_bits binary64 (same (FLOATS + 6) z);
      d = of_bits binary64 (same (FLOATS + 7) z);
      e = of_bits binary64 (same (FLOATS + 8) z);
      f = of_bits binary64 (same (FLOATS + 9) z);
    };
  };
}

-- so of a tree
entry_same : (s t : List ℕ) (k : ℕ) → ((j : ℕ) → entry s j k ≡ entry t j k) → entry_in s k ≡ entry_in t k
unfolding tree_in entry_in
entry_same s t k same = rw (same TREE_HIGH, same TREE_LOW, same TREE_ROOT, same TREE_FOCUS, same TREE_EXISTS)

module _ (s : List ℕ) (v : ℕ) where
  -- no word of a node, of a tree or of the children is the flag
  apart : (k : ℕ) → HOST < k → get_or (host_put v s) k 0 ≡ get_or s k 0
  apart k h = get_or-set_other s HOST k v 0 (λ e. omega arith)

  word_apart : (f i : ℕ) → word (host_put v s) f i ≡ word s f i
  unfolding word
  word_apart f i = ap (λ w. if ltb f NODE_FIELDS and ltb i SLOTS then w else 0) (apart (place f i) (omega arith))

  entry_apart : (j k : ℕ) → entry (host_put v s) j k ≡ entry s j k
  unfolding entry
  entry_apart j k = ap (λ w. if ltb j TREE_FIELDS and ltb k TREES then w else 0) (apart (entry_place j k) (omega arith))

  child_apart : (own j : ℕ) → child (host_put v s) own j ≡ child s own j
  unfolding child
  child_apart own j = ap (λ w. if ltb j ENTRIES then w else own) (apart (child_place j) (omega arith))

  -- what the words show then
  pub view_host : length s ≡ WORDS → view (host_put v s) ≡ record { forest = (view s).forest; host_focused = not (eqb v 0) }
  unfolding view
  view_host long =
      let nodes = list_of_cong (slots_of s) (node_in (host_put v s)) (node_in s) (λ i l. node_same (host_put v s) s i i (λ f. word_apart f i) child_apart) in
      let trees = list_of_cong (trees_of s) (entry_in (host_put v s)) (entry_in s) (λ k l. entry_same (host_put v s) s k (λ j. entry_apart j k)) in
      let count = get_or-set_other s HOST COUNT v 0 (λ e. omega arith) in
      let tree-count = get_or-set_other s HOST TREE_COUNT v 0 (λ e. omega arith) in
      let flag = get_or-set_same s HOST v 0 (omega arith) in
      rw (count, tree-count, flag, nodes, trees)
