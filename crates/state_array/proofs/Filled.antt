-- The image of a state by its writers: zeros, and each region filled once, in any order of the regions. Assumes nothing.
use mathlib.Core.Bool.{Bool, true}
use mathlib.Core.List.{List, [], ◌∷◌, ◌++◌, map}
use mathlib.Core.Path.{◌≡◌, refl, sym, ap, ◌∙◌}
use Prim.Native.Nat.{ℕ, zero, suc, ◌+◌, ◌≤◌, ◌<◌}
use native.Mathlib.Omega.{arith}
use lib.Dec.{eqb, leb, ltb}
use lib.ListN.{length, get_or, set}
use borrow.Author.Tests.{eqb-true, leb-true, le-leb, ltb-true, lt-ltb}
use Rattle.std.specs.Prelude.{if◌then◌else◌}
use Rattle.base.specs.Tests.{◌and◌, all}
use Rattle.base.specs.Bytes.{sum_of, list_of}
use Rattle.base.specs.Regions.{fill, fills, Part, image, part_start, with_part, part_of}
use Rattle.base.proofs.Tests.{both}
use Rattle.base.proofs.Bytes.{sum_more}
use Rattle.base.proofs.Regions.{fill_none, fill_more, fill_set, fill_cong, fill_add, row_stored, Free, image_filled, blanks, zeros_image}
use Rattle.ids.specs.declared.NodeId.{NodeId}
use Rattle.ids.specs.declared.FullNodeId.{FullNodeId}
use Rattle.state.specs.State.{NodeState, TreeEntry, State}
use Rattle.state_array.specs.declared.LinkRow.{LinkRow}
use Rattle.state_array.specs.declared.Body.{Body}
use Rattle.state_array.specs.declared.TreeRow.{TreeRow}
use Rattle.state_array.specs.Layout.{SLOTS, TREES, ENTRIES, TREE_FIELDS, NODE_FIELDS, FIRST_CHILD, place, child_place, blank_words}
use Rattle.state_array.specs.Stored.{no_node, no_state, no_tree, link_row, floats_of, body_of, children_before, row_of, node_word, tree_row, tree_word, entries_of, head_word, parts, stored}
use Rattle.state_array.specs.Put.{puts, id_put, link_put, body_put, first_child_put, child_put, tree_put, head_put}
use Rattle.state_array.specs.Filled.{OWN_FIELDS, nodes_regions, kid_word, run_written, children_written, trees_regions, head_written, filled}
use Rattle.state_array.proofs.Entries.{entries_length, entries_within, entries_at}

-- ## Parts filled in an order of their numbers

-- the regions of the parts js of qs, filled one after another
abbrev pub in_order : List Part → List ℕ → List ℕ → List ℕ
in_order qs [] s = s
in_order qs (j ∷ js) s = in_order qs js (fill (part_start qs j) (part_of qs j).used (part_of qs j).word s)

-- the parts then
abbrev pub used_in : List Part → List ℕ → List Part → List Part
used_in qs [] ps = ps
used_in qs (j ∷ js) ps = used_in qs js (with_part ps j (part_of qs j).used (part_of qs j).word)

-- whether each is there, and not filled before
abbrev pub each_once : List Part → List ℕ → List Part → Bool
each_once qs [] ps = true
each_once qs (j ∷ js) ps = ltb j (length ps) and eqb (part_of ps j).used 0 and each_once qs js (with_part ps j (part_of qs j).used (part_of qs j).word)

abbrev sizes : List Part → List ℕ
sizes [] = []
sizes (p ∷ ps) = p.size ∷ sizes ps

-- no part uses more than it has
abbrev pub fitting : List Part → Bool
fitting ps = all (λ p. leb p.used p.size) ps

sizes_with : (ps : List Part) (j n : ℕ) (f : ℕ → ℕ) → sizes (with_part ps j n f) ≡ sizes ps
sizes_with [] j n f = refl
sizes_with (p ∷ ps) zero n f = refl
sizes_with (p ∷ ps) (suc j) n f = rw (sizes_with ps j n f)

sizes_blanks : (ns : List ℕ) → sizes (blanks ns) ≡ ns
sizes_blanks [] = refl
sizes_blanks (n ∷ ns) = rw (sizes_blanks ns)

-- what the sizes settle: where a part starts, and that there is room for what is to be filled in
abbrev start_in : List ℕ → ℕ → ℕ
start_in [] j = 0
start_in (n ∷ ns) zero = 0
start_in (n ∷ ns) (suc j) = n + start_in ns j

start_in_lem : (ps : List Part) (j : ℕ) → part_start ps j ≡ start_in (sizes ps) j
start_in_lem [] j = refl
start_in_lem (p ∷ ps) zero = refl
start_in_lem (p ∷ ps) (suc j) = rw (start_in_lem ps j)

size_in : (ps : List Part) (j : ℕ) → (part_of ps j).size ≡ get_or (sizes ps) j 0
size_in [] j = refl
size_in (p ∷ ps) zero = refl
size_in (p ∷ ps) (suc j) = size_in ps j

fits_in : (qs : List Part) (j : ℕ) → fitting qs ≡ true → (part_of qs j).used ≤ (part_of qs j).size
fits_in [] j h = omega arith
fits_in (q ∷ qs) zero h = leb-true q.used q.size (both h).0
fits_in (q ∷ qs) (suc j) h = fits_in qs j (both h).1

free_in : (ps : List Part) (j n : ℕ) → j < length ps → (part_of ps j).used ≡ 0 → n ≤ (part_of ps j).size → Free ps j n
free_in [] j n h u l = absurd (omega arith)
free_in (p ∷ ps) zero n h u l = (u, l)
free_in (p ∷ ps) (suc j) n h u l = free_in ps j n (omega arith) u l

-- a fill for each, in any order
in_order_lem : (qs : List Part) → fitting qs ≡ true → (js : List ℕ) (ps : List Part) → sizes ps ≡ sizes qs → each_once qs js ps ≡ true
    → in_order qs js (image ps) ≡ image (used_in qs js ps)
in_order_lem qs fit [] ps e once = refl
in_order_lem qs fit (j ∷ js) ps e once =
    ap (in_order qs js)
    (ap (λ k. fill k (part_of qs j).used (part_of qs j).word (image ps)) (start_in_lem qs j ∙ ap (λ ns. start_in ns j) (sym e) ∙ sym (start_in_lem ps j))
    ∙ image_filled ps j (part_of qs j).used (part_of qs j).word
    (free_in ps j (part_of qs j).used (ltb-true j (length ps) (both (both once).0).0) (eqb-true (part_of ps j).used 0 (both (both once).0).1)
    (rw (size_in ps j, e, ← size_in qs j) (fits_in qs j fit))))
    ∙ in_order_lem qs fit js (with_part ps j (part_of qs j).used (part_of qs j).word) (sizes_with ps j (part_of qs j).used (part_of qs j).word ∙ e) (both once).1

-- ## Of a state

module _ (a : State) (few : length a.forest.nodes ≤ SLOTS) (fewTrees : length a.forest.trees ≤ TREES) (room : length (entries_of a.forest.nodes) ≤ ENTRIES) where
  parts_fit : fitting (parts a) ≡ true
  unfolding list_of ◌and◌
  parts_fit =
      let t : leb (length a.forest.trees) TREES ≡ true = le-leb _ TREES fewTrees in
      let n : leb (length a.forest.nodes) SLOTS ≡ true = le-leb _ SLOTS few in
      let e : leb (length (entries_of a.forest.nodes)) ENTRIES ≡ true = le-leb _ ENTRIES room in
      simp (t, n, e)

  -- the writers' order is any in which every region comes once
  pub filled_in_order : (js : List ℕ) → each_once (parts a) js (blanks (sizes (parts a))) ≡ true → used_in (parts a) js (blanks (sizes (parts a))) ≡ parts a
      → in_order (parts a) js blank_words ≡ stored a
  unfolding stored list_of
  filled_in_order js once all =
      ap (in_order (parts a) js) (zeros_image (sizes (parts a)))
      ∙ in_order_lem (parts a) parts_fit js (blanks (sizes (parts a))) (sizes_blanks (sizes (parts a))) once
      ∙ ap image all

-- ## In the order of the writers

-- the parts of the fields of the nodes, after which comes that of the child entries
abbrev node_parts : List ℕ → List ℕ
node_parts fs = map (λ f. 1 + TREE_FIELDS + f) fs

pub filled_stored : (a : State) → length a.forest.nodes ≤ SLOTS → length a.forest.trees ≤ TREES → length (entries_of a.forest.nodes) ≤ ENTRIES
    → filled a blank_words ≡ stored a
unfolding list_of ◌and◌
filled_stored a few fewTrees room =
    filled_in_order a few fewTrees room (node_parts OWN_FIELDS ++ (node_parts (FIRST_CHILD ∷ NODE_FIELDS ∷ []) ++ (list_of TREE_FIELDS suc ++ (0 ∷ [])))) refl refl

-- ## Row by row, as a loop stores them

module _ (ns : List NodeState) (r : ℕ) (few : r < SLOTS) (s : List ℕ) where
  -- a node's id, link and data
  node_stored : body_put r (body_of (get_or ns r no_state).body) (link_put r (link_row (get_or ns r no_state).parent_and_index) (id_put r (get_or ns r no_state).id (fills (nodes_regions ns) r s)))
      ≡ fills (nodes_regions ns) (r + 1) s
  unfolding ◌and◌ puts node_word row_of body_of list_of floats_of
  node_stored = rw (lt-ltb r SLOTS few) (row_stored (nodes_regions ns) 0 SLOTS r refl few s)

  -- one node more
  pub node_more : {start ids links end : List ℕ} {x : FullNodeId} {l : LinkRow} {d : Body}
      → start ≡ fills (nodes_regions ns) r s → x ≡ (get_or ns r no_state).id → l ≡ link_row (get_or ns r no_state).parent_and_index → d ≡ body_of (get_or ns r no_state).body
      → ids ≡ id_put r x start → links ≡ link_put r l ids → end ≡ body_put r d links → end ≡ fills (nodes_regions ns) (r + 1) s
  node_more begun id link body f g h = rw (h, g, f, begun, body, link, id) node_stored

-- one tree more
pub tree_more : (ts : List TreeEntry) (k : ℕ) → k < TREES → (s : List ℕ) {start end : List ℕ} {t : TreeRow}
    → start ≡ fills (trees_regions ts) k s → t ≡ tree_row (get_or ts k no_tree) → end ≡ tree_put k t start → end ≡ fills (trees_regions ts) (k + 1) s
unfolding ◌and◌ puts tree_word list_of
tree_more ts k few s begun t h = rw (h, begun, t, lt-ltb k TREES few) (row_stored (trees_regions ts) 0 TREES k refl few s)

-- the head
pub head_stored : (a : State) (s : List ℕ) → head_put (length a.forest.nodes) (length a.forest.trees) (if a.host_focused then 1 else 0) s ≡ head_written a s
unfolding puts fill head_word
head_stored a s = refl

-- ## Runs of children, one after another

-- child j of a run
pub child_stored : (first j : ℕ) (kids : List NodeId) (s : List ℕ) {x : NodeId} {t : List ℕ} → first + j < ENTRIES → x ≡ get_or kids j no_node → t ≡ child_put (first + j) x s
    → t ≡ set s (child_place first + j) (kid_word kids j)
child_stored first j kids s h x e =
    let at : child_place (first + j) ≡ child_place first + j = omega arith in
    e ∙ rw (lt-ltb (first + j) ENTRIES h, at, x)

-- the runs of the first r nodes, and where each starts
abbrev pub runs_to : List NodeState → ℕ → List ℕ → List ℕ
runs_to ns r s = fill (child_place 0) (children_before ns r) (kid_word (entries_of ns)) (fill (place FIRST_CHILD 0) r (node_word ns FIRST_CHILD) s)

-- a writer has come to node r
pub record RunsTo (ns : List NodeState) (r first : ℕ) (s t : List ℕ) : Type 0 where
  pub starts : first ≡ children_before ns r
  pub written : t ≡ runs_to ns r s

module _ (ns : List NodeState) where
  pub runs_none : (s : List ℕ) → RunsTo ns 0 0 s s
  unfolding sum_of
  runs_none s = record { starts = refl; written = sym (fill_none (child_place 0) (kid_word (entries_of ns)) (fill (place FIRST_CHILD 0) 0 (node_word ns FIRST_CHILD) s) ∙ fill_none (place FIRST_CHILD 0) (node_word ns FIRST_CHILD) s) }

  before_more : (r : ℕ) → children_before ns (r + 1) ≡ children_before ns r + length (get_or ns r no_state).body.children
  before_more r = sum_more (λ j. length (get_or ns j no_state).body.children) r

  -- the first child of node r
  first_stored : (r : ℕ) → r < SLOTS → (s : List ℕ)
      → set (runs_to ns r s) (place FIRST_CHILD r) (children_before ns r) ≡ fill (child_place 0) (children_before ns r) (kid_word (entries_of ns)) (fill (place FIRST_CHILD 0) (r + 1) (node_word ns FIRST_CHILD) s)
  unfolding node_word row_of
  first_stored r l s =
      fill_set (child_place 0) (kid_word (entries_of ns)) (children_before ns r) (fill (place FIRST_CHILD 0) r (node_word ns FIRST_CHILD) s) (place FIRST_CHILD r) (children_before ns r) (λ p q. omega arith)
      ∙ ap (fill (child_place 0) (children_before ns r) (kid_word (entries_of ns))) (sym (fill_more (place FIRST_CHILD 0) (node_word ns FIRST_CHILD) r s))

  -- and its run
  run_stored : (r : ℕ) → r < length ns → r < SLOTS → (s : List ℕ)
      → run_written (get_or ns r no_state).body.children (children_before ns r) (set (runs_to ns r s) (place FIRST_CHILD r) (children_before ns r)) ≡ runs_to ns (r + 1) s
  run_stored r l few s =
      let kids = (get_or ns r no_state).body.children in
      let t = fill (place FIRST_CHILD 0) (r + 1) (node_word ns FIRST_CHILD) s in
      let m = children_before ns r in
      ap (run_written kids m) (first_stored r few s)
      ∙ fill_cong (child_place m) (length kids) (kid_word kids) (λ j. kid_word (entries_of ns) (m + j)) (fill (child_place 0) m (kid_word (entries_of ns)) t)
      (λ j h. sym (ap (λ (x : NodeId). x.0) (entries_at ns r j l h)))
      ∙ fill_add (child_place 0) (kid_word (entries_of ns)) m (length kids) t
      ∙ ap (λ n. fill (child_place 0) n (kid_word (entries_of ns)) t) (sym (before_more r))

  -- one node more
  pub runs_more : (r first : ℕ) (kids : List NodeId) (s t : List ℕ) → r < length ns → r < SLOTS → kids ≡ (get_or ns r no_state).body.children → RunsTo ns r first s t
      → RunsTo ns (r + 1) (first + length kids) s (run_written kids first (first_child_put r first t))
  runs_more r first kids s t l few e to = record {
    starts = rw (to.starts, e) (sym (before_more r));
    written = rw (to.starts, e, to.written, lt-ltb r SLOTS few) (run_stored r l few s);
  }

  -- the run of node r has room
  pub run_room : (r first : ℕ) (kids : List NodeId) (s t : List ℕ) → r < length ns → kids ≡ (get_or ns r no_state).body.children → RunsTo ns r first s t
      → length (entries_of ns) ≤ ENTRIES → first + length kids ≤ ENTRIES
  run_room r first kids s t l e to room = rw (to.starts, e) (omega (arith, entries_within ns r l))

  -- all nodes
  pub runs_all : (r first : ℕ) (s t : List ℕ) → r ≡ length ns → RunsTo ns r first s t → t ≡ children_written ns s
  runs_all r first s t e to = to.written ∙ rw (e, entries_length ns)
