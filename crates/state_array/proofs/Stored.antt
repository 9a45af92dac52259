-- Laws of the image of a state: where each word of it stands, and that an array that holds its words is the image. Assumes nothing.
use mathlib.Core.List.{List, [], ◌∷◌, ◌++◌}
use mathlib.Core.Path.{◌≡◌, ap, ◌∙◌}
use Prim.Native.Nat.{ℕ, zero, suc, ◌+◌, ◌*◌, ◌≤◌, ◌<◌}
use native.Mathlib.Nat.{mul-zero, mul-suc, zero-add}
use native.Mathlib.Omega.{arith}
use lib.ListN.{length, get_or, get_or-append}
use lib.Seq.{get_or-append-add}
use Rattle.std.specs.Prelude.{if◌then◌else◌}
use Rattle.base.specs.Bytes.{list_of}
use Rattle.base.specs.Regions.{Part, part, words_of, image}
use Rattle.base.proofs.Regions.{part_length, part_at}
use Rattle.state.specs.State.{State}
use Rattle.state_array.specs.Layout.{SLOTS, TREES, ENTRIES, HEAD, HEAD_FIELDS, TREE_FIELDS, NODE_FIELDS, TABLE, NODES, COUNT, TREE_COUNT, HOST, count_of, tree_count_of, host_of, entry_place, entry, place, word, child_place, child}
use Rattle.state_array.specs.Stored.{no_node, no_tree, node_word, tree_word, entries_of, head_word, stored}
use Rattle.state_array.proofs.Words.{word_there, entry_there, child_there}

-- ## Tables of one size that stand first

module _ (size used : ℕ) (ps : List Part) where
  -- place i of table f
  table_at : (n : ℕ) (w : ℕ → ℕ → ℕ) (f i : ℕ) → f < n → i < size
      → get_or (image (list_of n (λ j. part size used (w j)) ++ ps)) (size * f + i) 0 ≡ get_or (words_of (part size used (w f))) i 0
  unfolding list_of image
  table_at zero w f i h l = absurd (omega arith)
  table_at (suc n) w zero i h l =
      let z : size * 0 + i ≡ i = rw (mul-zero size) (zero-add i) in
      ap (λ k. get_or (words_of (part size used (w 0)) ++ image (list_of n (λ j. part size used (w (suc j))) ++ ps)) k 0) z
      ∙ get_or-append (words_of (part size used (w 0))) (image (list_of n (λ j. part size used (w (suc j))) ++ ps)) 0 i (rw (part_length (part size used (w 0))) l)
  table_at (suc n) w (suc f) i h l =
      let e : size * suc f + i ≡ length (words_of (part size used (w 0))) + (size * f + i) = omega (arith, mul-suc size f, part_length (part size used (w 0))) in
      ap (λ k. get_or (words_of (part size used (w 0)) ++ image (list_of n (λ j. part size used (w (suc j))) ++ ps)) k 0) e
      ∙ get_or-append-add (words_of (part size used (w 0))) (image (list_of n (λ j. part size used (w (suc j))) ++ ps)) (size * f + i) 0
      ∙ table_at n (λ j. w (suc j)) f i (omega arith) l

  -- what stands after n tables
  table_past : (n : ℕ) (w : ℕ → ℕ → ℕ) (k : ℕ) → get_or (image (list_of n (λ j. part size used (w j)) ++ ps)) (size * n + k) 0 ≡ get_or (image ps) k 0
  unfolding list_of image
  table_past zero w k = let z : size * 0 + k ≡ k = rw (mul-zero size) (zero-add k) in ap (λ m. get_or (image ps) m 0) z
  table_past (suc n) w k =
      let e : size * suc n + k ≡ length (words_of (part size used (w 0))) + (size * n + k) = omega (arith, mul-suc size n, part_length (part size used (w 0))) in
      ap (λ m. get_or (words_of (part size used (w 0)) ++ image (list_of n (λ j. part size used (w (suc j))) ++ ps)) m 0) e
      ∙ get_or-append-add (words_of (part size used (w 0))) (image (list_of n (λ j. part size used (w (suc j))) ++ ps)) (size * n + k) 0
      ∙ table_past n (λ j. w (suc j)) k

module _ (a : State) where
  -- ## The four regions

  abbrev entry_parts : List Part
  entry_parts = part ENTRIES (length (entries_of a.forest.nodes)) (λ j. (get_or (entries_of a.forest.nodes) j no_node).0) ∷ []

  abbrev node_parts : List Part
  node_parts = list_of NODE_FIELDS (λ f. part SLOTS (length a.forest.nodes) (node_word a.forest.nodes f)) ++ entry_parts

  abbrev tree_parts : List Part
  tree_parts = list_of TREE_FIELDS (λ j. part TREES (length a.forest.trees) (λ k. tree_word (get_or a.forest.trees k no_tree) j)) ++ node_parts

  -- the words after the head
  past_head : (k : ℕ) → get_or (stored a) (TABLE + k) 0 ≡ get_or (image tree_parts) k 0
  unfolding stored image
  past_head k =
      let e : TABLE + k ≡ length (words_of (part HEAD HEAD_FIELDS (head_word a))) + k = omega (arith, part_length (part HEAD HEAD_FIELDS (head_word a))) in
      ap (λ m. get_or (words_of (part HEAD HEAD_FIELDS (head_word a)) ++ image tree_parts) m 0) e ∙ get_or-append-add (words_of (part HEAD HEAD_FIELDS (head_word a))) (image tree_parts) k 0

  -- and after the table of trees
  past_trees : (k : ℕ) → get_or (stored a) (NODES + k) 0 ≡ get_or (image node_parts) k 0
  past_trees k =
      let e : NODES + k ≡ TABLE + (TREES * TREE_FIELDS + k) = omega arith in
      ap (λ m. get_or (stored a) m 0) e ∙ past_head (TREES * TREE_FIELDS + k)
      ∙ table_past TREES (length a.forest.trees) node_parts TREE_FIELDS (λ j k. tree_word (get_or a.forest.trees k no_tree) j) k

  pub head_place : (k : ℕ) → k < HEAD → get_or (stored a) k 0 ≡ get_or (words_of (part HEAD HEAD_FIELDS (head_word a))) k 0
  unfolding stored image
  head_place k h = get_or-append (words_of (part HEAD HEAD_FIELDS (head_word a))) (image tree_parts) 0 k (rw (part_length (part HEAD HEAD_FIELDS (head_word a))) h)

  pub tree_place : (j k : ℕ) → j < TREE_FIELDS → k < TREES
      → get_or (stored a) (entry_place j k) 0 ≡ get_or (words_of (part TREES (length a.forest.trees) (λ k. tree_word (get_or a.forest.trees k no_tree) j))) k 0
  tree_place j k h l =
      let e : entry_place j k ≡ TABLE + (TREES * j + k) = omega arith in
      ap (λ m. get_or (stored a) m 0) e ∙ past_head (TREES * j + k)
      ∙ table_at TREES (length a.forest.trees) node_parts TREE_FIELDS (λ j k. tree_word (get_or a.forest.trees k no_tree) j) j k h l

  pub node_place : (f i : ℕ) → f < NODE_FIELDS → i < SLOTS
      → get_or (stored a) (place f i) 0 ≡ get_or (words_of (part SLOTS (length a.forest.nodes) (node_word a.forest.nodes f))) i 0
  node_place f i h l =
      let e : place f i ≡ NODES + (SLOTS * f + i) = omega arith in
      ap (λ m. get_or (stored a) m 0) e ∙ past_trees (SLOTS * f + i)
      ∙ table_at SLOTS (length a.forest.nodes) entry_parts NODE_FIELDS (node_word a.forest.nodes) f i h l

  pub child_place_lem : (j : ℕ) → j < ENTRIES
      → get_or (stored a) (child_place j) 0 ≡ get_or (words_of (part ENTRIES (length (entries_of a.forest.nodes)) (λ j. (get_or (entries_of a.forest.nodes) j no_node).0))) j 0
  unfolding image
  child_place_lem j l =
      let e : child_place j ≡ NODES + (SLOTS * NODE_FIELDS + j) = omega arith in
      ap (λ m. get_or (stored a) m 0) e ∙ past_trees (SLOTS * NODE_FIELDS + j)
      ∙ table_past SLOTS (length a.forest.nodes) entry_parts NODE_FIELDS (node_word a.forest.nodes) j
      ∙ get_or-append (words_of (part ENTRIES (length (entries_of a.forest.nodes)) (λ j. (get_or (entries_of a.forest.nodes) j no_node).0))) [] 0 j (rw part_length l)

  -- ## What is read

  pub stored_count : count_of (stored a) ≡ length a.forest.nodes
  unfolding head_word
  stored_count = head_place COUNT (omega arith) ∙ part_at (part HEAD HEAD_FIELDS (head_word a)) COUNT (omega arith) (omega arith)

  pub stored_trees : tree_count_of (stored a) ≡ length a.forest.trees
  unfolding head_word
  stored_trees = head_place TREE_COUNT (omega arith) ∙ part_at (part HEAD HEAD_FIELDS (head_word a)) TREE_COUNT (omega arith) (omega arith)

  pub stored_host : host_of (stored a) ≡ (if a.host_focused then 1 else 0)
  unfolding head_word
  stored_host = head_place HOST (omega arith) ∙ part_at (part HEAD HEAD_FIELDS (head_word a)) HOST (omega arith) (omega arith)

  module _ (few : length a.forest.nodes ≤ SLOTS) (f i : ℕ) (h : f < NODE_FIELDS) where
    pub stored_word : i < length a.forest.nodes → word (stored a) f i ≡ node_word a.forest.nodes f i
    stored_word l =
        word_there (stored a) f i h (omega arith) ∙ node_place f i h (omega arith)
        ∙ part_at (part SLOTS (length a.forest.nodes) (node_word a.forest.nodes f)) i (omega arith) l

  module _ (few : length a.forest.trees ≤ TREES) (j k : ℕ) (h : j < TREE_FIELDS) where
    pub stored_entry : k < length a.forest.trees → entry (stored a) j k ≡ tree_word (get_or a.forest.trees k no_tree) j
    stored_entry l =
        entry_there (stored a) j k h (omega arith) ∙ tree_place j k h (omega arith)
        ∙ part_at (part TREES (length a.forest.trees) (λ k. tree_word (get_or a.forest.trees k no_tree) j)) k (omega arith) l

  module _ (room : length (entries_of a.forest.nodes) ≤ ENTRIES) (own j : ℕ) where
    pub stored_child : j < length (entries_of a.forest.nodes) → child (stored a) own j ≡ (get_or (entries_of a.forest.nodes) j no_node).0
    stored_child l =
        child_there (stored a) own j (omega arith) ∙ child_place_lem j (omega arith)
        ∙ part_at (part ENTRIES (length (entries_of a.forest.nodes)) (λ j. (get_or (entries_of a.forest.nodes) j no_node).0)) j (omega arith) l
