-- The outcome's nodes by their codes: their links, and where their data comes from. Assumes nothing.
use mathlib.Core.Bool.{true, false, not, true≢false}
use Rattle.std.proofs.lemmas.Option.{same_Some}
use mathlib.Core.Path.{◌≡◌, refl, sym, ap, ◌∙◌}
use Prim.Native.Nat.{ℕ, suc, ◌+◌, ◌-◌, ◌≤◌, ◌<◌}
use native.Mathlib.Omega.{arith}
use lib.Dec.{ltb}
use lib.ListN.{length}
use borrow.Author.Tests.{lt-ltb, le-ltb}
use Rattle.base.proofs.Cases.{by_test, by_option, by_order}
use Rattle.std.specs.Prelude.{if◌then◌else◌, Some}
use Rattle.base.specs.Tests.{◌and◌, is_some, distinct}
use Rattle.base.proofs.Lists.{none_of}
use Rattle.ids.specs.Ids.{same_node}
use Rattle.ids.specs.declared.FullNodeId.{FullNodeId}
use Rattle.record.specs.Batch.{NodeData, same_data, Batch, listed_ids}
use Rattle.record_reader.specs.Reader.{listed_at}
use Rattle.state.specs.State.{NodeState, Forest, find, present}
use Rattle.update.specs.Words.{listing, here, mine, old, listed, turn}
use Rattle.update.specs.Outcome.{renewed, link_after, relink, outcome}
use Rattle.update.proofs.Write.{merged, fresh, listing_some}
use Rattle.update.proofs.Outcome.{found_written, found_after, find_outcome, body_after, node_after, find_old_outcome, ascending_outcome}
use Rattle.calls.specs.Setting.{KeptForest}
use Rattle.calls.specs.Codes.{node_at, id_at, slot_at, code_id, code_link, Coded, SourceOf, code_of, source_of, differs}
use Rattle.calls.specs.Says.{turn_mark}
use Rattle.calls.proofs.notes.Places.{find_at, slot_id, present_at}
use Rattle.calls.proofs.notes.Marks.{turn_within, turn_here, turn_listing, turn_self, listed_self, here_mine}
use Rattle.calls.proofs.Outcome.Codes.{code_old, code_new, gone_absent, code_slot, code_turn, old_slot, listed_mark, new_mark, coded, code_id_lem}

module _ (s : Forest) (b : Batch) where
  -- a listed node that is new, before it is linked
  abbrev pub new_node : ℕ → NodeState
  new_node j = fresh (here s b (listed_at b j).id) (listed_at b j).body

  -- the node of a code, as the outcome holds it: an old node relinked, with its data renewed, or a new one linked
  unfoldable pub code_node : ℕ → NodeState
  code_node c = if ltb c 320 then node_after s b (node_at s c) else relink s b (new_node (c - 320))

  -- of an old node
  pub node_old : (c : ℕ) → c < 320 → code_node c ≡ node_after s b (node_at s c)
  unfolding code_node
  node_old c l = rw (lt-ltb c 320 l)

  -- of a new one
  pub node_new : (c : ℕ) → 320 ≤ c → code_node c ≡ relink s b (new_node (c - 320))
  unfolding code_node
  node_new c l = rw (le-ltb c 320 l)

  -- its link
  pub code_node_link : (c : ℕ) → (code_node c).parent_and_index ≡ link_after s b (code_id s b c) (code_link s b c)
  unfolding code_node code_id code_link node_after relink
  code_node_link c = by_test (ltb c 320) (λ t. rw t) (λ t. rw t)

  -- its data, of an old node
  pub old_node_body : (c : ℕ) → c < 320 → (code_node c).body ≡ body_after s b (node_at s c)
  unfolding node_after
  old_node_body c l = ap (λ (n : NodeState). n.body) (node_old c l)

  -- and of a new one
  pub new_node_body : (c : ℕ) → 320 ≤ c → (code_node c).body ≡ (listed_at b (c - 320)).body
  unfolding relink
  new_node_body c l = ap (λ (n : NodeState). n.body) (node_new c l)

  -- ## What is found in the outcome

  -- the data of listed node j
  listing_at : distinct same_node (listed_ids b.nodes) ≡ true → (j : ℕ) → j < length b.nodes → listing b.nodes (here s b (listed_at b j).id).node ≡ Some (listed_at b j).body
  unfolding turn_mark
  listing_at u j l =
      let x = here s b (listed_at b j).id in
      let mark : turn_mark s b x ≡ suc j = rw (listed_self s b j l, turn_self s b u j l) in
      turn_listing s b x j mark

  module _ (kept : KeptForest s) (u : distinct same_node (listed_ids b.nodes) ≡ true) where
    -- what is found of a new node
    find_new : (j : ℕ) → j < length b.nodes → present s.nodes (here s b (listed_at b j).id) ≡ false
        → find (here s b (listed_at b j).id) (outcome s b).nodes ≡ Some (relink s b (new_node j))
    unfolding found_after found_written merged present
    find_new j l e =
        let x = here s b (listed_at b j).id in
        find_outcome s b kept.ascending u x
        ∙ rw (gone_absent s b x e, here_mine s b (listed_at b j).id, listing_at u j l, none_of (find x s.nodes) (ap not e))

    -- what is found of a code's node
    pub code_found : (c : ℕ) → Coded s b c → find (code_id s b c) (outcome s b).nodes ≡ Some (code_node c)
    unfolding old
    code_found c h =
        by_order c 320
        (λ l. let p = h.stays l in
        rw (code_old s b c l, node_old c l) (find_old_outcome s b kept.ascending u (node_at s c) (find_at s kept.ascending c p.0) ∙ rw p.1))
        (λ m. let p = h.new m in
        rw (code_new s b c m, node_new c m) (find_new (c - 320) p.0 (ap (present s.nodes) (sym (code_new s b c m)) ∙ p.1)))

-- ## Data

module _ (s : Forest) (b : Batch) (n : NodeState) where
  -- the data of a node that is not listed stays
  body_unlisted : listed s b n.id ≡ false → body_after s b n ≡ n.body
  unfolding body_after listed ◌and◌
  body_unlisted e =
      by_test (mine s b n.id)
      (λ t. by_option (listing b.nodes n.id.node) (λ q. rw (t, q))
      (λ d q. absurd (true≢false (sym (ap is_some q) ∙ listing_some b.nodes n.id.node ∙ rw t at e))))
      (λ t. rw t)

  module _ (t : ℕ) (mark : turn_mark s b n.id ≡ suc t) where
    -- the data of a listed node is renewed
    body_listed : body_after s b n ≡ renewed n.body (listed_at b t).body
    unfolding body_after
    body_listed = rw (ap (mine s b) (sym (turn_here s b n.id t mark)) ∙ here_mine s b (listed_at b t).id, turn_listing s b n.id t mark)

    -- and differs by value or not
    differs_listed : find n.id s.nodes ≡ Some n → differs s b (listed_at b t) ≡ not (same_data n.body (listed_at b t).body)
    unfolding differs
    differs_listed f = rw (turn_here s b n.id t mark, f, differs)

module _ (s : Forest) (b : Batch) (kept : KeptForest s) where
  -- data that comes from the batch, and data that comes from a slot
  pub from_batch : (j : ℕ) → j < length b.nodes → (body : NodeData) → (listed_at b j).body ≡ body → SourceOf s b (320 + j) body
  from_batch j l body e =
      let first : 320 + j - 320 ≡ j = omega arith in
      record { kept = λ m. absurd (omega arith); read = λ _. (rw first l, rw first e) }

  pub from_slot : (c : ℕ) → c < length s.nodes → (body : NodeData) → (node_at s c).body ≡ body → SourceOf s b c body
  from_slot c l body e = record { kept = λ _. (l, e); read = λ m. absurd (omega (arith, kept.few_nodes)) }

  -- an old node's data
  old_source : (c : ℕ) → c < length s.nodes → (x : FullNodeId) → id_at s c ≡ x
      → SourceOf s b (if not (listed s b x and differs s b (listed_at b (turn s b x))) then c else 320 + turn s b x) (body_after s b (node_at s c))
  unfolding ◌and◌ renewed
  old_source c l x at =
      by_test (listed s b x)
      (λ q. let mark : turn_mark s b (node_at s c).id ≡ suc (turn s b x) = ap (turn_mark s b) at ∙ listed_mark s b x q in
      rw (q, differs_listed s b (node_at s c) (turn s b x) mark (find_at s kept.ascending c l), body_listed s b (node_at s c) (turn s b x) mark)
      (by_test (same_data (node_at s c).body (listed_at b (turn s b x)).body) (λ p. rw p (from_slot c l _ refl))
      (λ p. rw p (from_batch (turn s b x) (turn_within s b (node_at s c).id (turn s b x) mark) _ refl))))
      (λ q. rw q (from_slot c l _ (sym (body_unlisted s b (node_at s c) (ap (listed s b) at ∙ q)))))

-- ## The outcome's nodes, by index

module _ (s : Forest) (b : Batch) (kept : KeptForest s) (few : length b.nodes ≤ 64) (u : distinct same_node (listed_ids b.nodes) ≡ true) (r : ℕ) (l : r < length (outcome s b).nodes) where
  abbrev x : FullNodeId
  x = id_at (outcome s b) r

  -- the node of its code
  pub code_node_lem : node_at (outcome s b) r ≡ code_node s b (code_of s b (id_at (outcome s b) r))
  code_node_lem =
      same_Some (node_at (outcome s b) r) (code_node s b (code_of s b x))
      (sym (find_at (outcome s b) (ascending_outcome s b kept.ascending) r l)
      ∙ ap (λ (y : FullNodeId). find y (outcome s b).nodes) (sym (code_id_lem s b kept few u r l))
      ∙ code_found s b kept u (code_of s b x) (coded s b kept few u r l))

  -- its link
  pub code_link_lem : (node_at (outcome s b) r).parent_and_index ≡ link_after s b (code_id s b (code_of s b (id_at (outcome s b) r))) (code_link s b (code_of s b (id_at (outcome s b) r)))
  code_link_lem = ap (λ (n : NodeState). n.parent_and_index) code_node_lem ∙ code_node_link s b (code_of s b x)

  -- where its data comes from
  pub source_of_lem : SourceOf s b (source_of s b (id_at (outcome s b) r)) (node_at (outcome s b) r).body
  unfolding source_of ◌and◌
  source_of_lem =
      rw (ap (λ (n : NodeState). n.body) code_node_lem)
      (by_test (old s b x)
      (λ q. let m = old_slot s b x q in
      rw (q, code_slot s b x q, old_node_body s b (slot_at s x) (omega (arith, kept.few_nodes))) (old_source s b kept (slot_at s x) m x (slot_id s x m)))
      (λ q. let first : 320 + turn s b x - 320 ≡ turn s b x = omega arith in
      let mark = new_mark s b kept few u x (present_at (outcome s b) r l) q in
      rw (q, code_turn s b x q, new_node_body s b (320 + turn s b x) (omega arith), first)
      (from_batch s b kept (turn s b x) (turn_within s b x (turn s b x) mark) (listed_at b (turn s b x)).body refl)))
