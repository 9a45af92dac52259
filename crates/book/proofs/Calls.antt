-- What one call leaves: the state stays sound and the book's; an accepted batch's nodes are counted. Assumes nothing.
use mathlib.Core.Bool.{Bool, true, false, not, ◌||◌}
use mathlib.Core.List.{List, [], ◌++◌, map}
use Rattle.std.proofs.lemmas.Option.{none-some}
use mathlib.Core.Path.{◌≡◌, refl, sym, ap, ◌∙◌, subst}
use Prim.Native.Nat.{ℕ, zero, suc}
use native.Mathlib.Omega.{arith}
use Rattle.std.specs.Prelude.{if◌then◌else◌, Option, None, Some}
use Rattle.base.specs.Tests.{◌and◌, is_some, all, has}
use Rattle.base.proofs.Tests.{both, not_false, not_true}
use Rattle.base.specs.Tables.{first}
use Rattle.base.proofs.Tables.{first_zero, first_found_zero}
use Rattle.ids.specs.Ids.{ROOT, same_tree, same_id}
use Rattle.ids.proofs.Ids.{same_tree→≡}
use Rattle.ids.specs.declared.TreeId.{TreeId}
use Rattle.ids.specs.declared.NodeId.{NodeId}
use Rattle.ids.specs.declared.FullNodeId.{FullNodeId}
use Rattle.record.specs.Batch.{fields_ok, Batch}
use Rattle.record.specs.Parse.{parse}
use Rattle.record.proofs.Parse.{batch_facts}
use Rattle.state.specs.State.{Forest, State, present, subtree_of}
use Rattle.state.specs.declared.SubtreeState.{SubtreeState}
use Rattle.state.specs.Down.{root_of}
use Rattle.state.specs.Sound.{sound}
use Rattle.state.proofs.Sound.{shape_parts, Sound, sound_parts, Root, root_of_shape}
use Rattle.update.specs.Words.{tree_number, with_tree_data}
use Rattle.update.specs.Outcome.{outcome}
use Rattle.update.specs.Reports.{removed, added, no_changes, changes_with, changes_of}
use Rattle.update.specs.Numbers.{batch_number}
use Rattle.update.specs.Calls.{Answer, refused, accepted, judged, batch_rows, update_number, update_batch, update, with_host_focus, host_focus}
use Rattle.update.proofs.Sound.{Passed, passed, outcome_sound}
use Rattle.update.proofs.Reports.{has_added, has_removed}
use Rattle.update.proofs.Calls.{update_of, update_is}
use Rattle.book.specs.Book.{Entry, Book, enter_all, strike, lines_after, number_in, new_line, enter_batch, Call, batch, host, answer_to, entered, trees_of_lines, entry_of_node}
use Rattle.book.specs.Demand.{Counted}
use Rattle.book.proofs.Nodes.{nodes_after}
use Rattle.book.proofs.Trees.{same_number, trees_after}

-- what is carried from call to call
pub record Held (s : Forest) (k : Book) : Type 0 where
  pub is_sound : sound s ≡ true
  pub nodes : map entry_of_node s.nodes ≡ k.nodes
  pub trees : s.trees ≡ trees_of_lines k.nodes 0 k.trees

-- ## An accepted batch

-- without tree data the batch's tree exists: ROOT always, any other by row 7
tree_exists : (s : Forest) (b : Batch) → Passed s b → Root s → b.root ≡ None → is_some (subtree_of s b.tree) ≡ true
unfolding with_tree_data root_of ◌and◌
tree_exists s b p r e = go (same_tree b.tree ROOT) refl
  where
    root_exists : (o : Option SubtreeState) → (elim o as (λ _. Option FullNodeId) [ None ↦ None | Some u ↦ Some u.root ]) ≡ Some r.root → is_some o ≡ true
    root_exists None q = absurd (none-some r.root q)
    root_exists (Some u) q = refl

    go : (c : Bool) → same_tree b.tree ROOT ≡ c → is_some (subtree_of s b.tree) ≡ true
    go true q = ap (λ (t : TreeId). is_some (subtree_of s t)) (same_tree→≡ b.tree ROOT q) ∙ root_exists (subtree_of s ROOT) r.is_the_root
    go false q =
        not_false (subst (λ (c : Bool). not c and not (is_some (subtree_of s b.tree)) ≡ false) q
        (subst (λ (o : Option NodeId). not (is_some o) and not (same_tree b.tree ROOT) and not (is_some (subtree_of s b.tree)) ≡ false) e p.row7))

module _ (s : Forest) (b : Batch) where
  held_batch : (k : Book) → Held s k → all (λ l. fields_ok l.body) b.nodes ≡ true → batch_number s b ≡ 0
      → Held (outcome s b) (enter_batch k b (removed s (outcome s b)))
  unfolding enter_batch
  held_batch k i f v = record {
    is_sound = outcome_sound s b (record { few_trees = parts.few_trees; fields = parts.fields }) f p;
    nodes = same_nodes;
    trees =
        trees_after s b k.trees trees_in (shape_parts (outcome s b) (not_false p.row19)).held
        (tree_exists s b p (root_of_shape s (shape_parts s parts.shape)))
        ∙ ap (λ (ks : List Entry). trees_of_lines ks 0 (lines_after b (tree_number s b).0 0 k.trees ++ new_line b k.trees)) same_nodes
        ∙ ap (λ (t : ℕ). trees_of_lines (strike (removed s (outcome s b)) (enter_all (record { 0 = number_in b k.trees }) b.nodes k.nodes)) 0
        (lines_after b t 0 k.trees ++ new_line b k.trees))
        number_in_lem;
  }
    where
      parts : Sound s
      parts = sound_parts s i.is_sound

      p : Passed s b
      p = passed s b v

      trees_in : s.trees ≡ trees_of_lines (map entry_of_node s.nodes) 0 k.trees
      trees_in = i.trees ∙ ap (λ (ks : List Entry). trees_of_lines ks 0 k.trees) (sym i.nodes)

      number_in_lem : (tree_number s b).0 ≡ number_in b k.trees
      number_in_lem = same_number s b k.trees trees_in

      same_nodes : map entry_of_node (outcome s b).nodes ≡ strike (removed s (outcome s b)) (enter_all (record { 0 = number_in b k.trees }) b.nodes k.nodes)
      same_nodes =
          nodes_after s b
          ∙ ap (λ (t : ℕ). strike (removed s (outcome s b)) (enter_all (record { 0 = t }) b.nodes (map entry_of_node s.nodes))) number_in_lem
          ∙ ap (λ (ks : List Entry). strike (removed s (outcome s b)) (enter_all (record { 0 = number_in b k.trees }) b.nodes ks)) i.nodes

-- ## A batch as its bytes say it

entered_parsed : (k : Book) (bytes slice : List ℕ) (b : Batch) (xs : List FullNodeId) → parse bytes ≡ Some b
    → entered k (batch bytes slice) 0 xs ≡ enter_batch k b xs
unfolding entered
entered_parsed k bytes slice b xs e = ap (λ (o : Option Batch). elim o as (λ _. Book) [ None ↦ k | Some c ↦ enter_batch k c xs ]) e

-- what a call leaves of a state and its book
abbrev Leaves : Book → Call → Answer → Type 0
Leaves k c a = Held a.state.forest (entered k c a.number a.changes.removed)

leaves_batch : (s : State) (k : Book) (bytes slice : List ℕ) (b : Batch) → parse bytes ≡ Some b → Held s.forest k
    → Leaves k (batch bytes slice) (update_batch s b slice)
unfolding update_batch update_number batch_rows judged accepted refused changes_of changes_with entered
leaves_batch s k bytes slice b e i = go (update_number s (Some b) slice) refl
  where
    after : State
    after = record { forest = outcome s.forest b; host_focused = s.host_focused }

    go : (n : ℕ) → update_number s (Some b) slice ≡ n → Leaves k (batch bytes slice) (judged n s slice (accepted s after (changes_of s.forest b) slice))
    go zero q =
        let after1 = first_zero _ _ (λ z _. omega arith) q in
        let after2 = first_zero _ _ (λ z _. omega arith) after1.1 in
        let after20 = first_found_zero _ _ after2.1 in
        subst (λ (c : Book). Held (outcome s.forest b) c) (sym (entered_parsed k bytes slice b (removed s.forest (outcome s.forest b)) e))
        (held_batch s.forest b k i (batch_facts bytes b e).fields after20.0)
    go (suc n) q = i

entered_unparsed : (k : Book) (bytes slice : List ℕ) (n : ℕ) (xs : List FullNodeId) → parse bytes ≡ None → entered k (batch bytes slice) n xs ≡ k
unfolding entered
entered_unparsed k bytes slice zero xs e = ap (λ (o : Option Batch). elim o as (λ _. Book) [ None ↦ k | Some c ↦ enter_batch k c xs ]) e
entered_unparsed k bytes slice (suc n) xs e = refl

leaves_update : (s : State) (k : Book) (bytes slice : List ℕ) → Held s.forest k → Leaves k (batch bytes slice) (update s bytes slice)
unfolding refused no_changes
leaves_update s k bytes slice i = go (parse bytes) refl
  where
    go : (o : Option Batch) → parse bytes ≡ o → Leaves k (batch bytes slice) (update s bytes slice)
    go None e =
        subst (λ (a : Answer). Leaves k (batch bytes slice) a) (sym (update_is s bytes slice None e))
        (subst (λ (c : Book). Held s.forest c) (sym (entered_unparsed k bytes slice (update_of s slice None).number [] e)) i)
    go (Some b) e = subst (λ (a : Answer). Leaves k (batch bytes slice) a) (sym (update_is s bytes slice (Some b) e)) (leaves_batch s k bytes slice b e i)

-- ## A host focus change touches neither nodes nor trees

leaves_host : (s : State) (k : Book) (h : Bool) → Held s.forest k → Leaves k (host h) (host_focus s h)
unfolding host_focus accepted refused with_host_focus entered
leaves_host s k h i = go (sound s.forest)
  where
    go : (c : Bool) → Leaves k (host h) (if c then accepted s (with_host_focus s h) no_changes [] else refused 1 s [])
    go true = i
    go false = i

pub leaves_call : (s : State) (k : Book) (c : Call) → Held s.forest k → Leaves k c (answer_to s c)
unfolding answer_to
leaves_call s k (batch bytes slice) i = leaves_update s k bytes slice i
leaves_call s k (host h) i = leaves_host s k h i

-- ## An accepted batch's nodes are counted

both_ways : (before after : Bool) → after ≡ ((before || (after and not before)) and not (before and not after))
unfolding ◌and◌
both_ways true true = refl
both_ways true false = refl
both_ways false true = refl
both_ways false false = refl

counted_accepted : (s : State) (b : Batch) (slice : List ℕ) (s' : State) → s'.forest ≡ outcome s.forest b
    → Counted s.forest (accepted s s' (changes_of s.forest b) slice)
unfolding accepted changes_of changes_with
counted_accepted s b slice s' q = record {
  nodes_after = λ x.
      ap (λ (f : Forest). present f.nodes x) q
      ∙ both_ways (present s.forest.nodes x) (present (outcome s.forest b).nodes x)
      ∙ ap (λ (c : Bool). (present s.forest.nodes x || c) and not (present s.forest.nodes x and not (present (outcome s.forest b).nodes x)))
      (sym (has_added s.forest b x))
      ∙ ap (λ (c : Bool). (present s.forest.nodes x || has same_id (added s.forest (outcome s.forest b)) x) and not c) (sym (has_removed s.forest b x));
  added_new = λ x e. not_true (both (sym (has_added s.forest b x) ∙ e)).1;
  removed_old = λ x e. (both (sym (has_removed s.forest b x) ∙ e)).0;
}

-- what holds of every accepted answer holds of an update's that is accepted
pub accepted_update : (s : State) (bytes slice : List ℕ) (P : Answer → Type 0)
    → ((b : Batch) → P (accepted s (record { forest = outcome s.forest b; host_focused = s.host_focused }) (changes_of s.forest b) slice))
    → (update s bytes slice).number ≡ 0 → P (update s bytes slice)
unfolding update_batch update_number judged refused first
accepted_update s bytes slice P holds = go (parse bytes) refl
  where
    refusal : (c : Bool) → ◌≡◌ {A = ℕ} (if not c then 1 else 2) 0 → P (update_of s slice None)
    refusal true e = absurd (omega arith)
    refusal false e = absurd (omega arith)

    judging : (n : ℕ) (a : Answer) → P a → (judged n s slice a).number ≡ 0 → P (judged n s slice a)
    judging zero a p e = p
    judging (suc n) a p e = absurd (omega arith)

    by : (o : Option Batch) → (update_of s slice o).number ≡ 0 → P (update_of s slice o)
    by None e = refusal (sound s.forest) e
    by (Some b) e = judging (update_number s (Some b) slice) _ (holds b) e

    go : (o : Option Batch) → parse bytes ≡ o → (update s bytes slice).number ≡ 0 → P (update s bytes slice)
    go o e = subst (λ (a : Answer). a.number ≡ 0 → P a) (sym (update_is s bytes slice o e)) (by o)

pub counted_update : (s : State) (bytes slice : List ℕ) → (update s bytes slice).number ≡ 0 → Counted s.forest (update s bytes slice)
counted_update s bytes slice = accepted_update s bytes slice (Counted s.forest) (λ b. counted_accepted s b slice _ refl)
