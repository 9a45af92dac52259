-- Laws of what the accessors answer. Assumes nothing.
use mathlib.Core.Bool.{true, false, true≢false, false≢true}
use mathlib.Core.List.{List}
use mathlib.Core.Path.{◌≡◌, refl, sym, ap, ◌∙◌}
use Prim.Native.Nat.{ℕ, ◌+◌, ◌-◌, min, ◌≤◌, ◌<◌}
use native.Mathlib.Omega.{arith}
use lib.Ieee.{Float, of_bits, binary64}
use lib.ListN.{length, get_or, take, drop, get_or-eq_default}
use borrow.Author.Tests.{lt-ltb, le-ltb}
use Rattle.base.specs.Tests.{is_some}
use Rattle.base.specs.Bytes.{le}
use Rattle.base.proofs.Cases.{by_test, by_order}
use Rattle.base.proofs.Tests.{is_some_if}
use Rattle.base.proofs.Bytes.{length_list_of, list_of_at, part_cut}
use Rattle.record.specs.Batch.{Listed, named_ids}
use Rattle.record.specs.Layout.{node_count, entry_count, has_tree_data, tree_root, record_at, entry_at, labels_at, child_count, label_start, label_length}
use Rattle.record.specs.Parse.{node_of, well_formed, batch_of}
use Rattle.record.proofs.Batch.{named_at}
use Rattle.record.proofs.Parse.{nodes_length, entries_named, first_child_named}
use Rattle.record_reader.specs.Reader.{no_node, no_listed, listed_at, field_at, entries_of, root_or_zero}

-- ## The batch

pub node_count_is : (s : List ℕ) → node_count s ≡ length (batch_of s).nodes
unfolding batch_of
node_count_is s = sym (nodes_length s)

-- ## The tree root

pub root_there : (s : List ℕ) → has_tree_data s ≡ is_some (batch_of s).root
unfolding batch_of
root_there s = sym (is_some_if (has_tree_data s) _)

module _ (s : List ℕ) where
  pub root_given : is_some (batch_of s).root ≡ true → root_or_zero (batch_of s).root ≡ record { 0 = tree_root s }
  unfolding batch_of
  root_given h = by_test (has_tree_data s) (λ t. rw t) (λ t. absurd (false≢true (rw t at h)))

  pub root_missing : is_some (batch_of s).root ≡ false → root_or_zero (batch_of s).root ≡ no_node
  unfolding batch_of
  root_missing h = by_test (has_tree_data s) (λ t. absurd (true≢false (rw t at h))) (λ t. rw t)

-- ## Nodes

module _ (s : List ℕ) (i : ℕ) where
  -- the node listed at a position is the one that its record says
  pub listed_here : i < node_count s → listed_at (batch_of s) i ≡ node_of s i
  unfolding batch_of listed_at
  listed_here h = list_of_at (node_count s) i (node_of s) no_listed h

  pub listed_past : node_count s ≤ i → listed_at (batch_of s) i ≡ no_listed
  unfolding batch_of listed_at
  listed_past h = get_or-eq_default (batch_of s).nodes no_listed (rw (length_list_of (node_count s) (node_of s)) h)

  -- a number of its record, where as many nodes are counted
  pub field_here : {n : ℕ} (w offset : ℕ) → n ≡ node_count s → i < n → field_at w s i offset ≡ le w s (record_at i + offset)
  unfolding field_at
  field_here w offset e h = rw (← e, lt-ltb i _ h)

  pub field_past : {n : ℕ} (w offset : ℕ) → n ≡ node_count s → n ≤ i → field_at w s i offset ≡ 0
  unfolding field_at
  field_past w offset e h = rw (← e, le-ltb i _ h)

  -- the node's field that the number stands for
  pub field_is : {A : Type 0} (w offset : ℕ) (g : ℕ → A) (f : Listed → A) → g 0 ≡ f no_listed → g (le w s (record_at i + offset)) ≡ f (node_of s i)
      → g (field_at w s i offset) ≡ f (listed_at (batch_of s) i)
  unfolding field_at
  field_is w offset g f z e =
      by_order i (node_count s) (λ l. rw (lt-ltb i (node_count s) l) (e ∙ sym (ap f (listed_here l))))
      (λ l. rw (le-ltb i (node_count s) l) (z ∙ sym (ap f (listed_past l))))

  -- so of a float
  pub float_is : {w : ℕ} {r : Float} (offset : ℕ) (f : Listed → Float) → w ≡ field_at 8 s i offset → r ≡ of_bits binary64 w
      → of_bits binary64 0 ≡ f no_listed → of_bits binary64 (le 8 s (record_at i + offset)) ≡ f (node_of s i) → r ≡ f (listed_at (batch_of s) i)
  float_is offset f word read z e = read ∙ ap (of_bits binary64) word ∙ field_is 8 offset (of_bits binary64) f z e

  -- ## Children and labels

  pub children_count : field_at 2 s i 34 ≡ length (listed_at (batch_of s) i).body.children
  children_count = field_is 2 34 (λ n. n) (λ l. length l.body.children) refl (sym (length_list_of (child_count s (record_at i)) _))

  pub child_here : (k : ℕ) → k < field_at 2 s i 34
      → record { 0 = le 8 s (entry_at s (field_at 2 s i 32 + k)) } ≡ get_or (listed_at (batch_of s) i).body.children k no_node
  child_here k h =
      by_order i (node_count s)
      (λ l. let in-node : k < child_count s (record_at i) = rw (field_here 2 34 refl l) at h in
      rw (listed_here l, field_here 2 32 refl l) (sym (list_of_at (child_count s (record_at i)) k _ no_node in-node)))
      (λ l. absurd (omega (arith, field_past 2 34 refl l)))

  pub child_past : (k : ℕ) → field_at 2 s i 34 ≤ k → no_node ≡ get_or (listed_at (batch_of s) i).body.children k no_node
  child_past k h = sym (get_or-eq_default (listed_at (batch_of s) i).body.children no_node (rw (← children_count) h))

  -- a label whose start and end are cut at the end of the bytes
  pub label_is : (start stop : ℕ) → i < node_count s → start ≡ min (labels_at s + label_start s (record_at i)) (length s)
      → stop ≡ min (start + label_length s (record_at i)) (length s) → take (stop - start) (drop start s) ≡ (listed_at (batch_of s) i).body.label
  label_is start stop h s-is e-is =
      rw (listed_here h) (part_cut s (labels_at s + label_start s (record_at i)) (label_length s (record_at i)) start stop s-is e-is)

-- ## Child entries

module _ (s : List ℕ) (j : ℕ) where
  pub entry_here : j < entry_count s → get_or (entries_of s) j no_node ≡ record { 0 = le 8 s (entry_at s j) }
  unfolding entries_of
  entry_here h = list_of_at (entry_count s) j _ no_node h

  pub entry_past : entry_count s ≤ j → get_or (entries_of s) j no_node ≡ no_node
  unfolding entries_of
  entry_past h = get_or-eq_default (entries_of s) no_node (rw (length_list_of (entry_count s) _) h)

-- ## On a record

module _ (s : List ℕ) (h : well_formed s ≡ true) where
  -- all child entries are the children that the nodes name
  pub entries_are : entries_of s ≡ named_ids (batch_of s).nodes
  unfolding batch_of entries_of
  entries_are = entries_named s h

  -- the children of a node stand after those that the nodes before it name
  pub first_child_is : (i : ℕ) → i < length (batch_of s).nodes → field_at 2 s i 32 ≡ length (named_ids (take i (batch_of s).nodes))
  unfolding batch_of
  first_child_is i l =
      let within : i < node_count s = rw (nodes_length s) at l in
      field_here s i 2 32 refl within ∙ first_child_named s h i within

  -- so entry `first + k` is child k
  pub entry_is_child : (i k : ℕ) → i < length (batch_of s).nodes → k < length (listed_at (batch_of s) i).body.children
      → get_or (entries_of s) (field_at 2 s i 32 + k) no_node ≡ get_or (listed_at (batch_of s) i).body.children k no_node
  unfolding listed_at
  entry_is_child i k l m = rw (entries_are, first_child_is i l) (named_at (batch_of s).nodes i k no_node no_listed l m)
