-- Laws of the link of a node of the batch's tree: who names it, and whether it is cut. Assumes nothing.
use Rattle.state_array.specs.declared.LinkRow.{LinkRow}
use mathlib.Core.Bool.{Bool, true, false, not}
use mathlib.Core.Bool as bool
use mathlib.Core.List.{List, [], ◌∷◌}
use mathlib.Core.Path.{◌≡◌, refl, sym, ap, ap₂, ◌∙◌}
use Prim.Native.Nat.{ℕ, suc, ◌+◌, ◌≤◌, ◌<◌, ◌-◌, zero}
use native.Mathlib.Omega.{arith}
use lib.Dec.{eqb, ltb, leb, leb-suc-suc}
use lib.ListN.{length, get_or, take, length-append}
use borrow.Author.Tests.{eqb-true, eq-eqb, ne_eqb, lt-ltb, le-ltb, ltb-true, ltb-false}
use Rattle.std.specs.Prelude.{if◌then◌else◌, Option, None, Some}
use Rattle.base.specs.Tests.{◌and◌, same_option, distinct, position, has}
use Rattle.base.specs.Search.{First}
use Rattle.base.proofs.Tests.{iff, both, at_position}
use Rattle.ids.specs.Ids.{ROOT, same_tree, same_index, same_node, same_id}
use Rattle.ids.specs.declared.TreeId.{TreeId}
use Rattle.ids.specs.declared.TreeIndex.{TreeIndex}
use Rattle.ids.specs.declared.NodeId.{NodeId}
use Rattle.ids.specs.declared.FullNodeId.{FullNodeId}
use Rattle.record.specs.Batch.{graft?, Batch, listed_ids, named_ids, Listed}
use Rattle.record.specs.Parse.{batch_of}
use Rattle.record_reader.specs.Reader.{no_node, listed_at}
use Rattle.state.specs.State.{ParentAndIndex, NodeState, Forest, holder}
use Rattle.state_array.specs.Stored.{no_state, link_row}
use Rattle.state_array.specs.View.{id_in, graft_in, body_in, node_in, slots_of}
use Rattle.update.specs.Words.{here, mine, old, listed, turn, naming, is_root}
use Rattle.update.specs.Outcome.{under_graft, pane_root, cut_lasts, link_is_cut, link_here, link_elsewhere, link_after}
use Rattle.calls.specs.Layout.{LISTED, NAMED, ENDS}
use Rattle.calls.specs.declared.notes.Scope.{Scope}
use Rattle.calls.specs.Setting.{root_in, Scoped, asked, forest}
use Rattle.calls.specs.Codes.{node_at, id_at}
use Rattle.calls.specs.Says.{turn_mark, naming_mark, HolderIs, PositionIn, named_word, Told, COMPARED, end_word}
use Rattle.calls.proofs.notes.Positions.{first_unique, first_cong, position_first, has_position, first_given_at}
use Rattle.calls.proofs.notes.Places.{forest_node, forest_id}
use Rattle.update_focus.proofs.Numbers.{forest_length}
use Rattle.calls.proofs.notes.Marks.{here_mine, turn_self, naming_none, naming_link}
use Rattle.calls.proofs.notes.Told.{few_listed}
use Rattle.calls.proofs.notes.Noted.{listed_noted}
use Rattle.calls.specs.Noted.{id_noted, start_noted}
use Rattle.base.proofs.Cases.{by_test}
use Rattle.calls.specs.Links.{named_link, cut_mark, graft_link, LinkHereIs, named_row, named_before, Rises, Owns, NewListed, new_row}
use native.Mathlib.Decide.{dec_lt}
use native.Mathlib.Numerals.{add-one}
use lib.Seq.{take-length}

-- more listed nodes name no fewer children
named_rises : (ls : List Listed) (i l : ℕ) → i ≤ l → length (named_ids (take i ls)) ≤ length (named_ids (take l ls))
unfolding named_ids
named_rises ls zero l h = omega arith
named_rises ls (suc i) zero h = absurd (omega arith)
named_rises [] (suc i) (suc l) h = omega arith
named_rises (k ∷ ks) (suc i) (suc l) h =
    let below = named_rises ks i l (omega arith) in
    omega (arith, length-append k.body.children (named_ids (take i ks)), length-append k.body.children (named_ids (take l ks)))

module _ (b : Batch) where
  -- an entry that the children of the nodes before r do not reach
  past_start : (j r : ℕ) → ((i : ℕ) → i < r → ltb j (named_before b (i + 1)) ≡ false) → named_before b r ≤ j
  unfolding named_ids
  past_start j zero passed = omega arith
  past_start j (suc r) passed = rw (← add-one r) (ltb-false j (named_before b (r + 1)) (passed r (omega arith)))

  -- is one of r's, where those of r are the first that end after it
  owner_is : (j r k : ℕ) → k ≡ length b.nodes → j < length (named_ids b.nodes) → First (λ i. ltb j (named_before b (i + 1))) k r
      → Owns b r j × (j < named_before b (r + 1))
  owner_is j r k count h first = go (dec_lt r k)
    where
      low : named_before b r ≤ j
      low = past_start j r first.passed

      go : Dec (r < k) → Owns b r j × (j < named_before b (r + 1))
      go (yes l) = (record { listed = omega arith; start = low }, ltb-true j (named_before b (r + 1)) (first.hit l))
      go (no l) =
          let at : r ≡ length b.nodes = omega (arith, first.within) in
          let all : named_before b (length b.nodes) ≡ length (named_ids b.nodes) = rw (take-length b.nodes) in
          absurd (omega (arith, all, rw at at low))

  -- so a node with a mark is named by that one
  named_first : (s : Forest) (x : FullNodeId) (j r k : ℕ) → k ≡ length b.nodes → naming_mark s b x ≡ suc j
      → First (λ i. ltb j (named_before b (i + 1))) k r → Owns b r j × (naming s b x ≡ Some (named_link s b r j))
  unfolding naming_mark named_link
  named_first s x j r k count e first = go (mine s b x and has same_node (named_ids b.nodes) x.node) refl e
    where
      go : (c : Bool) → (mine s b x and has same_node (named_ids b.nodes) x.node) ≡ c
          → (if c then suc (position same_node (named_ids b.nodes) x.node) else 0) ≡ suc j
          → Owns b r j × (naming s b x ≡ Some (named_link s b r j))
      go true q f =
          let own = owner_is j r k count (omega (arith, (at_position same_node (named_ids b.nodes) x.node x.node (both q).1).0)) first in
          (own.0, naming_link s b x j r e own.0.listed own.0.start own.1)
      go false q f = absurd (omega arith)

module _ {state bytes : List ℕ} {c : Scope} {notes : List ℕ} (told : Told COMPARED state bytes c notes) where
  -- the column of ends never falls
  pub ends_rise : Rises notes ENDS c.listed
  unfolding end_word
  ends_rise i l h m =
      omega (arith, told.written 2 (omega arith) i (omega arith), told.written 2 (omega arith) l m, named_rises (asked bytes c).nodes (i + 1) (l + 1) (omega arith))

  -- where the children of listed node i start, if it is not the first: where those of the node before it end
  start_is : {i : ℕ} → 1 ≤ i → i < length (asked bytes c).nodes → get_or notes (ENDS + (i - 1)) 0 ≡ named_before (asked bytes c) i
  unfolding end_word
  start_is {i} h l =
      let at : (i - 1) + 1 ≡ i = omega arith in
      told.written 2 (omega arith) (i - 1) (omega (arith, told.given.scoped.listed)) ∙ ap (named_before (asked bytes c)) at

  -- who names a node with a mark, by a search of that column
  module _ (x : FullNodeId) {count owner : ℕ} (mark : count ≡ naming_mark (forest state) (asked bytes c) x) (some-mark : 1 ≤ count)
      (first : First (λ i. ltb (count - 1) (get_or notes (ENDS + i) 0)) c.listed owner) where
    owner_there : Owns (asked bytes c) owner (count - 1)
        × (naming (forest state) (asked bytes c) x ≡ Some (named_link (forest state) (asked bytes c) owner (count - 1)))
    unfolding end_word
    owner_there =
        named_first (asked bytes c) (forest state) x (count - 1) owner c.listed told.given.scoped.listed (omega arith)
        (first_cong _ _ c.listed owner (λ i l. ap (ltb (count - 1)) (told.written 2 (omega arith) i l)) first)

    pub owner_owns : Owns (asked bytes c) owner (count - 1)
    owner_owns = owner_there.0

    pub owner_names : naming (forest state) (asked bytes c) x ≡ Some (named_link (forest state) (asked bytes c) owner (count - 1))
    owner_names = owner_there.1

  -- the words of the link of child j of listed node i
  module _ {i j : ℕ} (own : Owns (asked bytes c) i j) where
    -- where its children start
    start_noted_lem : start_noted notes i ≡ named_before (asked bytes c) i
    unfolding start_noted named_ids
    start_noted_lem =
        by_test (ltb i 1) (λ t. let first : i ≡ 0 = omega (arith, ltb-true i 1 t) in rw (t, first))
        (λ t. rw t (start_is (omega (arith, ltb-false i 1 t)) own.listed))

    -- there is room for its words
    pub named_room : (i < 64) × (start_noted notes i ≤ j)
    named_room =
        (omega (arith, own.listed, told.given.scoped.listed, few_listed state bytes c told.given), omega (arith, start_noted_lem, own.start))

    -- and they are the definition's
    pub named_noted : {r : LinkRow} → r ≡ link_row (Some (record { parent = id_noted c notes (LISTED + i); index = j - start_noted notes i })) → r ≡ named_row state bytes c i j
    unfolding named_link
    named_noted e =
        e ∙ ap₂ (λ (q : FullNodeId) (k : ℕ). link_row (Some (record { parent = q; index = j - k })))
        (listed_noted (omega arith) told (omega (arith, own.listed, told.given.scoped.listed))) start_noted_lem

-- the words of a link whose place is counted from where the children of listed node i start
module _ (notes : List ℕ) {i : ℕ} (j : ℕ) (p : FullNodeId) {r : LinkRow} where
  -- of the first node
  pub under_first : i < 1 → r ≡ link_row (Some (record { parent = p; index = j })) → r ≡ link_row (Some (record { parent = p; index = j - start_noted notes i }))
  unfolding start_noted
  under_first h e = let all : j ≡ j - 0 = omega arith in rw (lt-ltb i 1 h, ← all) e

  -- of another
  pub under_later : 1 ≤ i → r ≡ link_row (Some (record { parent = p; index = j - get_or notes (ENDS + (i - 1)) 0 }))
      → r ≡ link_row (Some (record { parent = p; index = j - start_noted notes i }))
  unfolding start_noted
  under_later h e = rw (le-ltb i 1 h) e

-- where those of another than the first start
pub start_later : (notes : List ℕ) {i j : ℕ} → 1 ≤ i → start_noted notes i ≤ j → get_or notes (ENDS + (i - 1)) 0 ≤ j
unfolding start_noted
start_later notes {i} h l = rw (le-ltb i 1 h) at l

-- ## A cut

-- the test for the root that tree data gives a pane
abbrev pub pane_test : Scope → Bool → Bool
pane_test c root = bool.◌&&◌ (bool.◌&&◌ root c.with_tree_data) (not c.is_root_tree)

-- a node that is listed and not named is cut by its mark; a new one has no link before
cut_unnamed : (k : ℕ) (p z l u : Bool) (o : Option ParentAndIndex) → (u ≡ false → o ≡ None)
    → (if p and z and l and true then None else o)
    ≡ (if bool.◌&&◌ (bool.◌&&◌ p z) (ltb 0 (if u then (if l then suc k else 0) else 0)) then None else o)
unfolding ◌and◌
cut_unnamed k false z l u o new = refl
cut_unnamed k true false l u o new = refl
cut_unnamed k true true false true o new = refl
cut_unnamed k true true false false o new = refl
cut_unnamed k true true true true o new = rw (lt-ltb 0 (suc k) (omega arith))
cut_unnamed k true true true false o new = sym (new refl)

-- a listed node is cut at the turn r or later: by its turn k, and by its mark
cut_sides : (k r : ℕ) (p z l u : Bool)
    → (p and z and l and (u and leb r k)) ≡ bool.◌&&◌ (bool.◌&&◌ p z) (ltb r (if u then (if l then suc k else 0) else 0))
unfolding ◌and◌
cut_sides k r false z l u = refl
cut_sides k r true false l u = refl
cut_sides k r true true false false = sym (le-ltb r 0 (omega arith))
cut_sides k r true true false true = sym (le-ltb r 0 (omega arith))
cut_sides k r true true true false = sym (le-ltb r 0 (omega arith))
cut_sides k r true true true true = sym (leb-suc-suc r k)

module _ {s : Forest} {b : Batch} {c : Scope} (scoped : Scoped s b c) (x : FullNodeId) {root : Bool} (root_is : root ≡ same_option same_id (root_in c) (Some x)) where
  -- the root test of the scope is the batch's
  is_the_root : root ≡ is_root s b x
  unfolding is_root
  is_the_root = root_is ∙ ap (λ (o : Option FullNodeId). same_option same_id o (Some x)) scoped.root

  -- and so is the test for a pane's root
  pane_is : pane_test c root ≡ pane_root s b x
  unfolding pane_root ◌and◌
  pane_is = rw (is_the_root, scoped.tree_data, scoped.root_tree)

  module _ (o : Option ParentAndIndex) where
    -- the root that tree data gives a pane: under the graft holder
    link_here_pane : pane_test c root ≡ true → graft_link s b.tree ≡ link_here s b x o
    unfolding link_here graft_link
    link_here_pane e = rw (← pane_is, e)

    module _ (e : pane_test c root ≡ false) {mark : ℕ} (q : mark ≡ cut_mark s b x) where
      -- a node that is not named: where it stood, if it is not cut
      link_here_unnamed : (old s b x ≡ false → o ≡ None) → naming_mark s b x ≡ 0 → {t : Bool}
          → bool.◌&&◌ (bool.◌&&◌ root c.is_root_tree) (ltb 0 mark) ≡ t
          → (if t then None else o) ≡ link_here s b x o
      unfolding link_here cut_lasts link_is_cut cut_mark turn_mark
      link_here_unnamed new f is =
          rw (
            ← is,
            ← pane_is,
            e,
            cut_lasts,
            naming_none s b x f,
            q,
            is_the_root,
            scoped.root_tree,
          )
          (sym (cut_unnamed (turn s b x) (is_root s b x) (same_tree b.tree ROOT) (listed s b x) (old s b x) o new))

      -- a node that is named: under that name, if it is not cut after that
      link_here_named : distinct same_node (listed_ids b.nodes) ≡ true → (r j : ℕ) → r < length b.nodes
          → naming s b x ≡ Some (named_link s b r j) → {t : Bool}
          → bool.◌&&◌ (bool.◌&&◌ root c.is_root_tree) (ltb r mark) ≡ t
          → (if t then None else Some (named_link s b r j)) ≡ link_here s b x o
      unfolding link_here cut_lasts link_is_cut cut_mark turn_mark named_link
      link_here_named once r j h f is =
          rw (
            ← is,
            ← pane_is,
            e,
            cut_lasts,
            f,
            turn_self s b once r h,
            q,
            is_the_root,
            scoped.root_tree,
            cut_sides (turn s b x) r (is_root s b x) (same_tree b.tree ROOT) (listed s b x) (old s b x),
          )

-- ## The graft holder

module _ (state : List ℕ) (t : TreeId) {slot : ℕ} (held : HolderIs state t slot) where
  -- the first slot that grafts a tree has its holder
  holder_is : holder (forest state).nodes t ≡ (if ltb slot (slots_of state) then Some (id_at (forest state) slot) else None)
  unfolding holder node_in body_in graft? graft_in
  holder_is =
      let s = forest state in
      let test : (i : ℕ) → i < slots_of state → same_option same_tree (graft_in state i) (Some t) ≡ same_option same_tree (graft? (node_at s i).body) (Some t) =
      λ i l. ap (λ (k : NodeState). same_option same_tree (graft? k.body) (Some t)) (sym (forest_node state i l)) in
      first_given_at (λ k. same_option same_tree (graft? k.body) (Some t)) (λ k. k.id) no_state s.nodes slot
      (rw (forest_length state) (first_cong _ _ (slots_of state) slot test held))
      ∙ rw (forest_length state)

  module _ {n : ℕ} (count : n ≡ slots_of state) {r : LinkRow} where
    -- no node grafts the tree
    pub graft_link_none : n ≤ slot → r ≡ link_row None → r ≡ link_row (graft_link (forest state) t)
    unfolding graft_link
    graft_link_none h e = e ∙ ap link_row (rw (holder_is, graft_link, le-ltb slot (slots_of state) (rw count at h)))

    -- the first that does
    pub graft_link_some : {g : FullNodeId} → slot < n → g ≡ id_in state slot → r ≡ link_row (Some (record { parent = g; index = 0 })) → r ≡ link_row (graft_link (forest state) t)
    unfolding graft_link under_graft
    graft_link_some h id e =
        let there : slot < slots_of state = rw count at h in
        e ∙ ap (λ (g : FullNodeId). link_row (under_graft g)) id ∙ ap link_row (rw (holder_is, graft_link, lt-ltb slot (slots_of state) there, forest_id state slot there))

-- ## As the code finds it

module _ {state bytes : List ℕ} {c : Scope} {notes : List ℕ} (told : Told COMPARED state bytes c notes) (x : FullNodeId) {was : LinkRow} {turn : ℕ} {root : Bool}
    (root_is : root ≡ same_option same_id (root_in c) (Some x)) where
  -- the root that tree data gives a pane
  pub here_pane : {t : TreeId} {r : LinkRow} → pane_test c root ≡ true → t ≡ (batch_of bytes).tree → r ≡ link_row (graft_link (forest state) t)
      → LinkHereIs state bytes c x was turn r
  unfolding asked
  here_pane e tree q o is cut new =
      q ∙ ap (λ t. link_row (graft_link (forest state) t)) tree ∙ ap link_row (link_here_pane told.given.scoped x root_is o e)

  module _ (e : pane_test c root ≡ false) {naming : ℕ} (mark : naming ≡ naming_mark (forest state) (asked bytes c) x) where
    -- a node that is not named: cut, or as it was
    pub here_cut : {r : LinkRow} → naming < 1 → bool.◌&&◌ (bool.◌&&◌ root c.is_root_tree) (ltb 0 turn) ≡ true → r ≡ link_row None
        → LinkHereIs state bytes c x was turn r
    here_cut h t q o is cut new = q ∙ ap link_row (link_here_unnamed told.given.scoped x root_is o e cut new (omega arith) t)

    pub here_kept : naming < 1 → bool.◌&&◌ (bool.◌&&◌ root c.is_root_tree) (ltb 0 turn) ≡ false → LinkHereIs state bytes c x was turn was
    here_kept h t o is cut new = is ∙ ap link_row (link_here_unnamed told.given.scoped x root_is o e cut new (omega arith) t)

    -- a node that is: cut after that, or under that name
    module _ (h : 1 ≤ naming) {owner : ℕ} (first : First (λ i. ltb (naming - 1) (get_or notes (ENDS + i) 0)) c.listed owner) {r : LinkRow} where
      pub here_cut_after : bool.◌&&◌ (bool.◌&&◌ root c.is_root_tree) (ltb owner turn) ≡ true → r ≡ link_row None → LinkHereIs state bytes c x was turn r
      here_cut_after t q o is cut new =
          q ∙ ap link_row (link_here_named told.given.scoped x root_is o e cut told.given.once owner (naming - 1) (owner_owns told x mark h first).listed (owner_names told x mark h first) t)

      pub here_named : bool.◌&&◌ (bool.◌&&◌ root c.is_root_tree) (ltb owner turn) ≡ false
          → r ≡ link_row (Some (record { parent = id_noted c notes (LISTED + owner); index = naming - 1 - start_noted notes owner }))
          → LinkHereIs state bytes c x was turn r
      here_named t q o is cut new =
          named_noted told (owner_owns told x mark h first) q ∙ ap link_row (link_here_named told.given.scoped x root_is o e cut told.given.once owner (naming - 1) (owner_owns told x mark h first).listed (owner_names told x mark h first) t)

-- ## Of the batch's tree or of another

module _ {s : Forest} {b : Batch} {c : Scope} (scoped : Scoped s b c) (x : FullNodeId) (o : Option ParentAndIndex) where
  -- a node of the batch's tree
  pub link_after_here : x.tree.0 ≡ c.tree.0 → link_here s b x o ≡ link_after s b x o
  unfolding link_after mine same_index
  link_after_here e = rw (← scoped.tree, eq-eqb x.tree.0 c.tree.0 e)

  -- a node of another
  pub link_after_elsewhere : (x.tree.0 ≡ c.tree.0 → ⊥) → link_elsewhere s b x o ≡ link_after s b x o
  unfolding link_after mine same_index
  link_after_elsewhere h = rw (← scoped.tree, ne_eqb x.tree.0 c.tree.0 h)

-- ## Listed nodes

-- the naming of a number, from a search among the named children
naming_mark_here : (s : Forest) (b : Batch) (n : NodeId) (k r : ℕ) → k ≡ length (named_ids b.nodes)
    → First (λ i. eqb (get_or (named_ids b.nodes) i no_node).0 n.0) k r
    → (if ltb r k then suc r else 0) ≡ naming_mark s b (here s b n)
unfolding naming_mark here same_node ◌and◌
naming_mark_here s b n k r count first = rw (here_mine s b n, has_position same_node n ids, same, count)
  where
    ids : List NodeId
    ids = named_ids b.nodes

    turned : (y : ℕ) → eqb y n.0 ≡ eqb n.0 y
    turned y = iff (λ e. eq-eqb n.0 y (sym (eqb-true y n.0 e))) (λ e. eq-eqb y n.0 (sym (eqb-true n.0 y e)))

    same : position same_node ids n ≡ r
    same = first_unique _ (length ids) _ r (position_first same_node n no_node ids) (rw count at (first_cong _ _ k r (λ i _. turned (get_or ids i no_node).0) first))

module _ {state bytes : List ℕ} {c : Scope} {notes : List ℕ} (told : Told COMPARED state bytes c notes) where
  -- the naming of a number
  naming_is : (n : NodeId) (r : ℕ) → PositionIn notes NAMED c.named n.0 r
      → (if ltb r c.named then suc r else 0) ≡ naming_mark (forest state) (asked bytes c) (here (forest state) (asked bytes c) n)
  unfolding named_word
  naming_is n r first =
      naming_mark_here (forest state) (asked bytes c) n c.named r told.given.scoped.named
      (first_cong _ _ c.named r (λ i l. ap (λ w. eqb w n.0) (told.written 1 (omega arith) i l)) first)

  -- ## A listed node that is new

  module _ {i : ℕ} (new : NewListed state bytes c i) {x : FullNodeId} (noted : x ≡ id_noted c notes (LISTED + i)) where
    -- its id
    id : x ≡ here (forest state) (asked bytes c) (listed_at (asked bytes c) i).id
    id = noted ∙ listed_noted (omega arith) told (omega (arith, new.listed, told.given.scoped.listed))

    -- its naming, from a search
    pub new_naming : {j r : ℕ} → PositionIn notes NAMED c.named x.node.0 j → r ≡ (if ltb j c.named then suc j else 0)
        → r ≡ naming_mark (forest state) (asked bytes c) x
    unfolding here
    new_naming {j} found e = e ∙ rw id (naming_is (listed_at (asked bytes c) i).id j (rw id at found))

    -- its link
    pub new_row_lem : {was r : LinkRow} → was ≡ link_row None → LinkHereIs state bytes c x was 0 r → r ≡ new_row state bytes c i
    unfolding here cut_mark
    new_row_lem none_before f =
        (rw id at f) None none_before (rw new.new) (λ _. refl)
        ∙ ap link_row (link_after_here told.given.scoped _ None (ap (λ (t : TreeIndex). t.0) (sym told.given.scoped.tree)))
