-- Laws of the scope of a batch, and of what the phases are given. Assumes nothing.
use mathlib.Core.Bool.{Bool, true, false, not, false≢true}
use mathlib.Core.List.{List, [], ◌∷◌, ◌++◌, map, append-nil}
use Rattle.std.proofs.lemmas.Option.{none-some, same_Some}
use mathlib.Core.Path.{◌≡◌, refl, ap, ◌∙◌, sym}
use Prim.Native.Nat.{ℕ, zero, suc, ◌+◌, ◌<◌}
use native.Mathlib.Omega.{arith}
use lib.ListN.{length, get_or, take, length-append}
use Rattle.std.specs.Prelude.{if◌then◌else◌, Option, None, Some}
use Rattle.base.specs.Tests.{is_some, ◌and◌, is_none, position}
use Rattle.ids.specs.declared.NodeId.{NodeId}
use Rattle.record.specs.Batch.{Batch, Listed, named_ids}
use Rattle.record_reader.specs.Reader.{no_listed, listed_at, field_at, root_or_zero}
use Rattle.state.specs.State.{Forest, find, link_at, TreeEntry, subtree_state, subtree_from, subtree_of}
use Rattle.state.specs.declared.SubtreeState.{SubtreeState}
use Rattle.state.specs.Sound as sound
use Rattle.state_array.specs.Stored.{entries_of}
use Rattle.state_array.specs.View.{view}
use Rattle.update.specs.Words.{with_tree_data, tree_number, here, root_after}
use Rattle.update.specs.Calls.{seed, without_tree_data}
use Rattle.calls.specs.declared.notes.Scope.{Scope}
use Rattle.calls.specs.Setting.{Scoped, KeptForest, asked, Given}
use Rattle.calls.specs.Says.{Told}
use Rattle.calls.proofs.notes.Kept.{kept_sound}
use Rattle.calls.specs.Rows.{first_number, start_rows}
use Rattle.calls.proofs.rows.Numbers.{listable, first_passed, start_begun, start_listable}
use native.Mathlib.Nat.{add-zero, zero-add}
use native.Mathlib.Numerals.{add-one}
use lib.Seq.{take-suc, take-length}
use Rattle.base.proofs.Tests.{not_false}
use Rattle.base.proofs.Lists.{none_of, some_from}
use Rattle.ids.specs.Ids.{ROOT, same_tree}
use Rattle.ids.specs.declared.TreeId.{TreeId}
use Rattle.ids.specs.declared.FullNodeId.{FullNodeId}
use Rattle.ids.proofs.Ids.{same_tree→≡}
use Rattle.record.specs.Parse.{well_formed, batch_of}
use Rattle.record.proofs.Batch.{named_append}
use Rattle.record_reader.proofs.Reader.{first_child_is}

-- ## The children that are named

-- none without nodes
pub entries_none : (ls : List Listed) → length ls < 1 → 0 ≡ length (named_ids ls)
unfolding named_ids
entries_none [] h = refl
entries_none (l ∷ ls) h = absurd (omega arith)

-- they end where those of the last listed node end
pub entries_last : (bytes : List ℕ) → well_formed bytes ≡ true → (i : ℕ) → i + 1 ≡ length (batch_of bytes).nodes
    → field_at 2 bytes i 32 + length (listed_at (batch_of bytes) i).body.children ≡ length (named_ids (batch_of bytes).nodes)
unfolding listed_at named_ids
entries_last bytes formed i e =
    let ls = (batch_of bytes).nodes in
    let l : i < length ls = omega arith in
    let all : take (suc i) ls ≡ ls = rw (← add-one i, e) (take-length ls) in
    let split : named_ids ls ≡ named_ids (take i ls) ++ (get_or ls i no_listed).body.children =
    ap named_ids (sym all ∙ take-suc ls i no_listed l) ∙ named_append (take i ls) (get_or ls i no_listed ∷ []) ∙ ap (λ xs. named_ids (take i ls) ++ xs) (append-nil _) in
    rw (first_child_is bytes formed i l) (sym (ap length split ∙ length-append (named_ids (take i ls)) _))

-- ## The root as a batch leaves it

-- the number of a tree that exists is its place in the table
subtree_number : (k : ℕ) (ts : List TreeEntry) (t : TreeId) (u : SubtreeState) → subtree_from k ts t ≡ Some u
    → u.root.tree.0 ≡ k + position same_tree (map (λ e. e.id) ts) t
unfolding subtree_from subtree_state
subtree_number k [] t u e = absurd (none-some u e)
subtree_number k (r ∷ ts) t u e = go (same_tree t r.id) e (subtree_number (suc k) ts t u)
  where
    go : (c : Bool)
        → (if c then elim r.subtree as (λ _. Option SubtreeState) [ None ↦ None | Some v ↦ Some (subtree_state k v) ] else subtree_from (suc k) ts t) ≡ Some u
        → (subtree_from (suc k) ts t ≡ Some u → u.root.tree.0 ≡ suc k + position same_tree (map (λ e. e.id) ts) t)
        → u.root.tree.0 ≡ k + (if c then zero else suc (position same_tree (map (λ e. e.id) ts) t))
    go true f h =
        let z = some_from r.subtree (λ v. Some (subtree_state k v)) u f in
        sym (ap (λ (v : SubtreeState). v.root.tree.0) (same_Some (subtree_state k z.0) u z.2)) ∙ sym (add-zero k)
    go false f h = omega (arith, h f)

-- tree data has a root
root_there : (o : Option NodeId) → is_some o ≡ true → o ≡ Some (root_or_zero o)
root_there None e = absurd (false≢true e)
root_there (Some r) e = refl

module _ (s : Forest) (b : Batch) {v : Bool} (data_is : v ≡ is_some b.root) where
  -- that of the tree data
  pub root_given : {x : NodeId} → v ≡ true → x ≡ root_or_zero b.root → Some (here s b x) ≡ root_after s b
  unfolding root_after
  root_given e q = rw q (sym (rw (root_there b.root (sym data_is ∙ e))))

  module _ (without : v ≡ false) {t : TreeId} (tree_is : t ≡ b.tree) (f : Option SubtreeState) (ends : f ≡ subtree_of s t) where
    -- the tree's own
    own_root : root_after s b ≡ (elim f as (λ _. Option FullNodeId) [ None ↦ None | Some u ↦ Some u.root ])
    unfolding root_after
    own_root = rw (none_of b.root (ap not (sym data_is ∙ without)), ← tree_is, ends)

    -- the tree does not exist
    pub root_missing : f ≡ None → None ≡ root_after s b
    root_missing q = sym (own_root ∙ rw q)

    -- it exists
    pub root_own : {e : SubtreeState} → f ≡ Some e → Some (here s b e.root.node) ≡ root_after s b
    unfolding here tree_number subtree_of
    root_own {e} q =
        let u : SubtreeState = record { root = e.root; focus = e.focus } in
        let at : e.root.tree.0 ≡ position same_tree (map (λ t. t.id) s.trees) b.tree =
        subtree_number 0 s.trees b.tree u (rw tree_is at (sym ends ∙ q)) ∙ zero-add _ in
        sym (own_root ∙ rw q (ap (λ (k : ℕ). Some (record { tree = record { 0 = k }; node = e.root.node })) at))

-- ## A start

module _ (b : Batch) (root : same_tree b.tree ROOT ≡ true) where
  -- ROOT's number
  pub start_number_lem : record { 0 = 0 } ≡ tree_number (seed b) (without_tree_data b)
  unfolding tree_number seed without_tree_data
  start_number_lem = rw root

  -- ROOT's root
  pub start_root : is_none b.root ≡ false → root_after (seed b) (without_tree_data b) ≡ Some (record { tree = record { 0 = 0 }; node = root_or_zero b.root })
  unfolding root_after seed without_tree_data subtree_of subtree_from subtree_state same_tree ◌and◌
  start_root e = rw (same_tree→≡ b.tree ROOT root, root_there b.root (not_false e))

-- ## The batch that is asked

-- the record's batch with this root
abbrev with_root : Batch → Option NodeId → Batch
with_root b o = record { tree = b.tree; root = o; focus = b.focus; nodes = b.nodes }

root_kept : (o : Option NodeId) → (if is_some o then o else None) ≡ o
root_kept None = refl
root_kept (Some r) = refl

-- that of a batch on a state is the record's
pub asked_update : (s : Forest) (bytes : List ℕ) (c : Scope) → Scoped s (batch_of bytes) c → asked bytes c ≡ batch_of bytes
unfolding asked with_tree_data
asked_update s bytes c h =
    let b = batch_of bytes in
    ap (λ (t : Bool). with_root b (if t then b.root else None)) h.tree_data ∙ ap (with_root b) (root_kept b.root)

-- that of a start is without tree data
pub asked_start : (s : Forest) (bytes : List ℕ) (c : Scope) → Scoped s (without_tree_data (batch_of bytes)) c → asked bytes c ≡ without_tree_data (batch_of bytes)
unfolding asked with_tree_data without_tree_data
asked_start s bytes c h = let b = batch_of bytes in ap (λ (t : Bool). with_root b (if t then b.root else None)) h.tree_data

-- ## What the phases are given

-- a start's forest, which has no node
kept_seed : (b : Batch) → KeptForest (seed b)
unfolding seed sound.ascending entries_of link_at find
kept_seed b = record {
  ascending = refl;
  few_nodes = omega arith;
  few_trees = omega arith;
  few_children = omega arith;
  fields = refl;
  parent_present = λ x l q. absurd (none-some l q);
  gone_parent = λ c x l q. absurd (none-some l q);
}

module _ (state bytes notes : List ℕ) (c : Scope) where
  -- before the first phase
  told_none : Given state bytes c → length notes ≡ 4096 → Told 0 state bytes c notes
  told_none g long = record { given = g; long = long; written = λ j h. absurd (omega arith) }

  -- a batch that passed rows 1, 2 and 5 to 8
  pub told_update : first_number (view state).forest bytes ≡ 0 → Scoped (view state).forest (batch_of bytes) c → length notes ≡ 4096 → Told 0 state bytes c notes
  told_update e h =
      let p = first_passed (view state).forest bytes e in
      let l = listable (view state).forest (batch_of bytes) p.before in
      let is = asked_update (view state).forest bytes c h in
      told_none (record { kept = kept_sound (view state).forest p.is_sound; formed = p.formed; scoped = rw is h; once = rw is l.once; numbered = rw is l.numbered })

  -- a start that passed rows 2 to 5
  pub told_start : start_rows bytes ≡ 0 → (view state).forest ≡ seed (batch_of bytes) → Scoped (seed (batch_of bytes)) (without_tree_data (batch_of bytes)) c
      → length notes ≡ 4096 → Told 0 state bytes c notes
  told_start e q h =
      let l = start_listable bytes e in
      let is = asked_start (seed (batch_of bytes)) bytes c h in
      told_none
      (record {
        kept = rw q (kept_seed (batch_of bytes));
        formed = (start_begun bytes e).formed;
        scoped = rw (q, is) h;
        once = rw is l.once;
        numbered = rw (q, is) l.numbered;
      })
