-- Demand 3: any accepted start, any list of calls after it. Assumes nothing.
use mathlib.Core.Bool.{Bool, true, false, true≢false}
use mathlib.Core.List.{List, [], ◌∷◌, map}
use Rattle.std.specs.Prelude.{Option, None, Some}
use mathlib.Core.Path.{◌≡◌, refl, sym, ap, ◌∙◌, subst}
use Prim.Native.Nat.{ℕ, zero, suc}
use native.Mathlib.Omega.{arith}
use Rattle.base.specs.Tests.{◌and◌, is_none, all}
use Rattle.base.proofs.Tests.{both, not_false}
use Rattle.base.proofs.Tables.{first_zero, first_found_zero}
use Rattle.ids.specs.Ids.{ROOT, same_tree}
use Rattle.ids.proofs.Ids.{same_tree→≡}
use Rattle.ids.specs.declared.TreeIndex.{TreeIndex}
use Rattle.ids.specs.declared.NodeId.{NodeId}
use Rattle.record.specs.Batch.{fields_ok, Batch}
use Rattle.record.specs.Parse.{parse}
use Rattle.record.proofs.Parse.{batch_facts}
use Rattle.state.specs.State.{ids_of, TreeEntry, Forest, State, blank}
use Rattle.state.specs.Sound.{grafted, all_grafted}
use Rattle.state.proofs.Sound.{shape_parts, sound_parts, root_of_shape, focus_of_sound}
use Rattle.state.proofs.Down.{descent}
use Rattle.update.specs.Words.{known, tree_number}
use Rattle.update.specs.Outcome.{subtree_here, entry_after, entries_after, new_entry, outcome}
use Rattle.update.specs.Reports.{removed}
use Rattle.update.specs.Numbers.{batch_number}
use Rattle.update.specs.Calls.{Answer, refused, judged, seed, without_tree_data, start_number, started, start_batch, start}
use Rattle.update.proofs.Sound.{passed, outcome_sound}
use Rattle.book.specs.Book.{Entry, Book, enter_all, strike, opened_by, opened, Call, answer_to, entered, is_entered, tree_of_line, trees_of_lines, entry_of_node}
use Rattle.book.specs.Demand.{state_after, book_after, Agrees, Demand3}
use Rattle.book.proofs.Nodes.{nodes_after, entered_present}
use Rattle.book.proofs.Calls.{Held, leaves_call, counted_update}

-- ## What is carried says all the sentences

agrees : (s : Forest) (k : Book) → Held s k → Agrees s k
agrees s k i =
    let parts = sound_parts s i.is_sound in
    let shape = shape_parts s parts.shape in
    let r = root_of_shape s shape in
    let d = descent s shape r in
    let f = focus_of_sound s parts.focus in
    record {
      nodes_are_the_books = i.nodes;
      trees_are_the_books = i.trees;
      root = r.root;
      is_the_root = r.is_the_root;
      met_once = d.once;
      met_only = d.only;
      met_all = d.whole;
      root_keeps_none = d.parentless;
      parent_is_met_under = d.parented;
      climbs_to_root = d.climbs;
      root_present = r.there;
      focus = f.focus;
      is_focus = f.effective;
      focus_present = f.there;
      focus_no_graft = f.no_graft;
      is_sound = i.is_sound;
    }

held_after : (s : State) (k : Book) (cs : List Call) → Held s.forest k → Held (state_after s cs).forest (book_after s k cs)
unfolding state_after book_after
held_after s k [] i = i
held_after s k (c ∷ cs) i =
    held_after (answer_to s c).state (entered k c (answer_to s c).number (answer_to s c).changes.removed) cs (leaves_call s k c i)

-- ## A start

strike_none : (ks : List Entry) → strike [] ks ≡ ks
unfolding strike
strike_none [] = refl
strike_none (k ∷ ks) = ap {B = List Entry} (λ l. k ∷ l) (strike_none ks)

module _ (b : Batch) (for-ROOT : b.tree ≡ ROOT) (r : NodeId) (has-root : b.root ≡ Some r) where
  first_number : tree_number (seed b) (without_tree_data b) ≡ record { 0 = 0 }
  unfolding tree_number seed without_tree_data same_tree ◌and◌
  first_number = rw for-ROOT refl

  first_trees : (outcome (seed b) (without_tree_data b)).trees ≡ record { id = ROOT; subtree = Some (record { root = r; focus = b.focus }) } ∷ []
  unfolding outcome entries_after entry_after subtree_here new_entry known tree_number seed without_tree_data same_tree ◌and◌
  first_trees = rw (for-ROOT, has-root) refl

  none_removed : strike (removed (seed b) (outcome (seed b) (without_tree_data b))) (enter_all (record { 0 = 0 }) b.nodes []) ≡ enter_all (record { 0 = 0 }) b.nodes []
  unfolding removed seed ids_of
  none_removed = strike_none (enter_all (record { 0 = 0 }) b.nodes [])

  first_nodes : map entry_of_node (outcome (seed b) (without_tree_data b)).nodes ≡ (opened_by b).nodes
  unfolding opened_by seed without_tree_data
  first_nodes =
      nodes_after (seed b) (without_tree_data b)
      ∙ ap (λ (t : TreeIndex). strike (removed (seed b) (outcome (seed b) (without_tree_data b))) (enter_all t b.nodes [])) first_number
      ∙ none_removed

  -- the root is entered, since it is present
  root_entered : all_grafted (outcome (seed b) (without_tree_data b)).nodes 0 (outcome (seed b) (without_tree_data b)).trees ≡ true
      → is_entered (opened_by b).nodes (record { tree = record { 0 = 0 }; node = r }) ≡ true
  unfolding all_grafted grafted
  root_entered e =
      ap (λ (ks : List Entry). is_entered ks (record { tree = record { 0 = 0 }; node = r })) (sym first_nodes)
      ∙ entered_present (outcome (seed b) (without_tree_data b)).nodes (record { tree = record { 0 = 0 }; node = r })
      ∙ (both (both (subst (λ (ts : List TreeEntry). all_grafted (outcome (seed b) (without_tree_data b)).nodes 0 ts ≡ true) first_trees e)).0).0

  trees_opened : is_entered (opened_by b).nodes (record { tree = record { 0 = 0 }; node = r }) ≡ true
      → trees_of_lines (opened_by b).nodes 0 (opened_by b).trees ≡ record { id = ROOT; subtree = Some (record { root = r; focus = b.focus }) } ∷ []
  unfolding opened_by trees_of_lines tree_of_line
  trees_opened e = rw (has-root, e) refl

  first_standing : all_grafted (outcome (seed b) (without_tree_data b)).nodes 0 (outcome (seed b) (without_tree_data b)).trees ≡ true
      → (outcome (seed b) (without_tree_data b)).trees ≡ trees_of_lines (opened_by b).nodes 0 (opened_by b).trees
  first_standing e = first_trees ∙ sym (trees_opened (root_entered e))

  held_start : all (λ l. fields_ok l.body) b.nodes ≡ true → batch_number (seed b) (without_tree_data b) ≡ 0
      → Held (outcome (seed b) (without_tree_data b)) (opened_by b)
  unfolding seed without_tree_data
  held_start f v =
      let p = passed (seed b) (without_tree_data b) v in
      record {
        is_sound = outcome_sound (seed b) (without_tree_data b) (record { few_trees = refl; fields = refl }) f p;
        nodes = first_nodes;
        trees = first_standing (shape_parts (outcome (seed b) (without_tree_data b)) (not_false p.row19)).held;
      }

held_start_batch : (b : Batch) (h : Bool) → all (λ l. fields_ok l.body) b.nodes ≡ true → (start_batch b h).number ≡ 0
    → Held (start_batch b h).state.forest (opened_by b)
unfolding start_batch start_number judged refused started
held_start_batch b h f = go (start_number b) refl
  where
    begun : Answer
    begun = started (record { forest = outcome (seed b) (without_tree_data b); host_focused = h })

    rooted : same_tree b.tree ROOT ≡ true → batch_number (seed b) (without_tree_data b) ≡ 0 → (o : Option NodeId) → b.root ≡ o → is_none o ≡ false
        → Held (outcome (seed b) (without_tree_data b)) (opened_by b)
    rooted t v None e q = absurd (true≢false q)
    rooted t v (Some r) e q = held_start b (same_tree→≡ b.tree ROOT t) r e f v

    go : (n : ℕ) → start_number b ≡ n → (judged n blank [] begun).number ≡ 0 → Held (judged n blank [] begun).state.forest (opened_by b)
    go zero q z =
        let after3 = first_zero _ _ (λ t _. omega arith) q in
        let after4 = first_zero _ _ (λ t _. omega arith) after3.1 in
        let after20 = first_found_zero _ _ after4.1 in
        rooted (not_false after4.0) after20.0 b.root refl after3.0
    go (suc n) q z = absurd (omega arith)

held_started : (bytes : List ℕ) (h : Bool) → (start bytes h).number ≡ 0 → Held (start bytes h).state.forest (opened bytes)
unfolding start opened refused
held_started bytes h z = go (parse bytes) refl z
  where
    begun : Option Batch → Answer
    begun o = elim o [ None ↦ refused 2 blank [] | Some b ↦ start_batch b h ]

    book : Option Batch → Book
    book o = elim o [ None ↦ record { nodes = []; trees = [] } | Some b ↦ opened_by b ]

    go : (o : Option Batch) → parse bytes ≡ o → (begun o).number ≡ 0 → Held (begun o).state.forest (book o)
    go None e q = absurd (omega arith)
    go (Some b) e q = held_start_batch b h (batch_facts bytes b e).fields q

-- ## The demand

pub demand3 : Demand3
demand3 bytes host_focused accepted calls = record {
  after_the_list =
      agrees (state_after (start bytes host_focused).state calls).forest (book_after (start bytes host_focused).state (opened bytes) calls)
      (held_after (start bytes host_focused).state (opened bytes) calls (held_started bytes host_focused accepted));
  each_accepted_batch = λ earlier record-bytes slice later _.
      counted_update (state_after (start bytes host_focused).state earlier) record-bytes slice;
}
