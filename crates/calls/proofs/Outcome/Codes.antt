-- The codes of the outcome's nodes: old nodes that stay, and listed nodes that are new. Assumes nothing.
use mathlib.Core.Bool.{true, false, not, ◌||◌}
use mathlib.Core.Path.{◌≡◌, sym, ap, ◌∙◌}
use Prim.Native.Nat.{ℕ, suc, ◌+◌, ◌-◌, ◌≤◌, ◌<◌}
use native.Mathlib.Omega.{arith}
use lib.ListN.{length}
use borrow.Author.Tests.{lt-ltb, le-ltb, ltb-true}
use Rattle.base.specs.Tests.{◌and◌, distinct}
use Rattle.base.proofs.Cases.{by_test}
use Rattle.base.proofs.Tests.{both, not_true, clash, refuted}
use Rattle.ids.specs.Ids.{same_node}
use Rattle.ids.specs.declared.FullNodeId.{FullNodeId}
use Rattle.record.specs.Batch.{Batch, listed_ids}
use Rattle.record_reader.specs.Reader.{listed_at}
use Rattle.state.specs.State.{Forest, present}
use Rattle.update.specs.Words.{here, old, listed, turn}
use Rattle.update.specs.Gone.{gone}
use Rattle.update.specs.Outcome.{outcome}
use Rattle.update.proofs.Gone.{gone_old}
use Rattle.update.proofs.Outcome.{present_after}
use Rattle.calls.specs.Setting.{KeptForest}
use Rattle.calls.specs.Codes.{id_at, slot_at, code_id, Coded, code_of}
use Rattle.calls.specs.Says.{turn_mark}
use Rattle.calls.proofs.notes.Places.{slot_old, slot_id, present_at}
use Rattle.calls.proofs.notes.Marks.{turn_within, turn_here}

module _ (s : Forest) (b : Batch) where
  -- ## The ids of codes

  -- below 320 a slot's
  pub code_old : (c : ℕ) → c < 320 → code_id s b c ≡ id_at s c
  unfolding code_id
  code_old c l = rw (lt-ltb c 320 l)

  -- from 320 on a listed node's
  pub code_new : (c : ℕ) → 320 ≤ c → code_id s b c ≡ here s b (listed_at b (c - 320)).id
  unfolding code_id
  code_new c l = rw (le-ltb c 320 l)

  -- the code of listed node j
  pub code_listed : (j : ℕ) → code_id s b (320 + j) ≡ here s b (listed_at b j).id
  code_listed j = let first : 320 + j - 320 ≡ j = omega arith in code_new (320 + j) (omega arith) ∙ rw first

  -- a node that was not there does not go
  pub gone_absent : (x : FullNodeId) → present s.nodes x ≡ false → gone s b x ≡ false
  gone_absent x e = refuted (λ q. clash e (gone_old s b x q))

  -- ## The codes of ids

  -- of an old node
  pub code_slot : (x : FullNodeId) → old s b x ≡ true → code_of s b x ≡ slot_at s x
  unfolding code_of
  code_slot x q = rw q

  -- of any other
  pub code_turn : (x : FullNodeId) → old s b x ≡ false → code_of s b x ≡ 320 + turn s b x
  unfolding code_of
  code_turn x q = rw q

  -- an old node stands in its slot
  pub old_slot : (x : FullNodeId) → old s b x ≡ true → slot_at s x < length s.nodes
  old_slot x q = ltb-true (slot_at s x) (length s.nodes) (sym (slot_old s x b) ∙ q)

  -- a listed node has its turn
  pub listed_mark : (x : FullNodeId) → listed s b x ≡ true → turn_mark s b x ≡ suc (turn s b x)
  unfolding turn_mark
  listed_mark x q = rw q

module _ (s : Forest) (b : Batch) (kept : KeptForest s) (few : length b.nodes ≤ 64) (u : distinct same_node (listed_ids b.nodes) ≡ true) where
  -- ## A node of the outcome

  module _ (x : FullNodeId) (there : present (outcome s b).nodes x ≡ true) where
    -- it does not go, and is old or listed
    pub stands : (not (gone s b x) and (old s b x || listed s b x)) ≡ true
    unfolding old
    stands = sym (present_after s b kept.ascending u x) ∙ there

    -- an old one: in its slot
    pub stays_slot : old s b x ≡ true → Coded s b (slot_at s x)
    stays_slot q =
        let l = old_slot s b x q in
        record {
          stays = λ _. (l, ap (gone s b) (slot_id s x l) ∙ not_true (both stands).0);
          new = λ m. absurd (omega (arith, kept.few_nodes));
        }

    -- a new one: listed, at its turn
    pub new_mark : old s b x ≡ false → turn_mark s b x ≡ suc (turn s b x)
    new_mark q = listed_mark s b x (rw q at (both stands).1)

    pub new_id : old s b x ≡ false → code_id s b (320 + turn s b x) ≡ x
    new_id q = code_listed s b (turn s b x) ∙ turn_here s b x (turn s b x) (new_mark q)

    pub new_turn : old s b x ≡ false → Coded s b (320 + turn s b x)
    new_turn q =
        let first : 320 + turn s b x - 320 ≡ turn s b x = omega arith in
        record {
          stays = λ m. absurd (omega arith);
          new = λ _. (rw first (turn_within s b x (turn s b x) (new_mark q)), ap (old s b) (new_id q) ∙ q);
        }

    -- its code
    pub id_coded : Coded s b (code_of s b x)
    unfolding code_of
    id_coded = by_test (old s b x) (λ q. rw q (stays_slot q)) (λ q. rw q (new_turn q))

    -- which stands for it
    pub id_code : code_id s b (code_of s b x) ≡ x
    unfolding code_of
    id_code =
        by_test (old s b x)
        (λ q. let l = old_slot s b x q in rw q (code_old s b (slot_at s x) (omega (arith, kept.few_nodes)) ∙ slot_id s x l)) (λ q. rw q (new_id q))

  -- ## The outcome's nodes, by index

  module _ (r : ℕ) (l : r < length (outcome s b).nodes) where
    abbrev x : FullNodeId
    x = id_at (outcome s b) r

    pub coded : Coded s b (code_of s b (id_at (outcome s b) r))
    coded = id_coded x (present_at (outcome s b) r l)

    pub code_id_lem : code_id s b (code_of s b (id_at (outcome s b) r)) ≡ id_at (outcome s b) r
    code_id_lem = id_code x (present_at (outcome s b) r l)
