-- What a slot says of its node, and what the questions about it answer, one law for each way out. Assumes nothing.
use mathlib.Core.Bool.{Bool, true, false}
use mathlib.Core.List.{List, []}
use Rattle.std.specs.Prelude.{Option, None, Some, Result, Ok, Err, IsErrAnd}
use mathlib.Core.Path.{◌≡◌, refl, ap}
use Prim.Native.Nat.{ℕ, ◌<◌}
use lib.ListN.{length}
use Rattle.base.specs.Bytes.{bit}
use Rattle.base.proofs.Bytes.{length_list_of}
use Rattle.ids.specs.declared.NodeId.{NodeId}
use Rattle.ids.specs.declared.FullNodeId.{FullNodeId}
use Rattle.geometry.specs.declared.Rect.{Rect}
use Rattle.geometry.specs.declared.Affine.{Affine}
use Rattle.record.specs.Batch.{active_descendant?, graft?, bounds?, transform?}
use Rattle.record.proofs.Batch.{field_rules}
use Rattle.state.specs.State.{NodeState, Forest, find}
use Rattle.state.proofs.Sound.{sound_parts}
use Rattle.state.proofs.State.{all_find}
use Rattle.state_array.specs.Layout.{word, FLAGS, ACTIVE, ROLE, LABEL_LENGTH}
use Rattle.state_array.specs.View.{id_in, shape_in, bounds_in, transform_in, label_in, body_in, node_in, view}
use Rattle.state_array.specs.declared.ShapeRow.{ShapeRow}
use Rattle.questions.specs.Answers.{ask_number}
use Rattle.questions.specs.Links.{child_ids}
use Rattle.question_calls.specs.Asks.{NodeAt}
use Rattle.question_calls.proofs.node_asked.Asks.{asked_found}
use Rattle.ids.specs.declared.TreeId.{TreeId}
use Rattle.node_answers.specs.declared.NodeReading.{NodeReading}
use Rattle.node_answers.specs.declared.Refusal.{Refusal}
use Rattle.node_answers.specs.Answers.{refusal_number, refusal, answer}
use Rattle.node_answers.specs.Reading.{reading_of, reading, label_at}
use Rattle.node_answers.proofs.Answers.{refusal_is, answer_refused, answer_given}

-- ## What a slot says

module _ (s : List ℕ) (i : ℕ) where
  module _ (w : ℕ) (is : w ≡ word s FLAGS i) where
    pub no_bounds : bit 16 w ≡ false → None ≡ bounds? (body_in s i)
    unfolding bounds? body_in shape_in
    no_bounds b = rw (← is, b)

    pub own_bounds : bit 16 w ≡ true → (r : Rect) → r ≡ bounds_in s i → Some r ≡ bounds? (body_in s i)
    unfolding bounds? body_in shape_in
    own_bounds b r e = rw (← is, b, e)

    pub no_transform : bit 32 w ≡ false → None ≡ transform? (body_in s i)
    unfolding transform? body_in shape_in
    no_transform b = rw (← is, b)

    pub own_transform : bit 32 w ≡ true → (r : Affine) → r ≡ transform_in s i → Some r ≡ transform? (body_in s i)
    unfolding transform? body_in shape_in
    own_transform b r e = rw (← is, b, e)

    pub no_descendant : bit 4 w ≡ false → None ≡ active_descendant? (body_in s i)
    unfolding active_descendant? body_in shape_in
    no_descendant b = rw (← is, b)

    pub own_descendant : bit 4 w ≡ true → (r : NodeId) → r.0 ≡ word s ACTIVE i → Some r ≡ active_descendant? (body_in s i)
    unfolding active_descendant? body_in shape_in
    own_descendant b r e = rw (← is, b, ← e)

  module _ (d : ShapeRow) (is : d ≡ shape_in s i) where
    pub no_graft : bit 8 d.flags ≡ false → None ≡ graft? (body_in s i)
    unfolding graft? body_in
    no_graft b = rw (← is, b)

    pub own_graft : bit 8 d.flags ≡ true → Some d.graft ≡ graft? (body_in s i)
    unfolding graft? body_in
    own_graft b = rw (← is, b)

  -- how many bytes the label has
  pub label_long : length (label_in s i) ≡ word s LABEL_LENGTH i
  unfolding label_in
  label_long = length_list_of (word s LABEL_LENGTH i) _

  -- all of it
  pub read_is : (x : FullNodeId) (role long kids w : ℕ) (hid clips : Bool) (b : Option Rect) (t : Option Affine) (a : Option NodeId) (g : Option TreeId)
      → w ≡ word s FLAGS i → role ≡ word s ROLE i → hid ≡ bit 1 w → clips ≡ bit 2 w → long ≡ word s LABEL_LENGTH i
      → kids ≡ length (child_ids (view s).forest x) → b ≡ bounds? (body_in s i) → t ≡ transform? (body_in s i)
      → a ≡ active_descendant? (body_in s i) → g ≡ graft? (body_in s i)
      → record {
        role = role;
        hidden = hid;
        clips_children = clips;
        label_length = long;
        child_count = kids;
        bounds = b;
        transform = t;
        active_descendant = a;
        graft = g;
      } ≡ reading_of (view s).forest x (body_in s i)
  unfolding reading_of body_in shape_in
  read_is x role long kids w hid clips b t a g flags-are role-is hid-is clips-is long-is kids-are b-is t-is a-is g-is =
      rw (role-is, hid-is, clips-is, flags-are, long-is, kids-are, b-is, t-is, a-is, g-is, label_long)

  -- a role is a byte
  pub role_small : (x : FullNodeId) → NodeAt s x i → word s ROLE i < 256
  unfolding node_in body_in
  role_small x h =
      let f = (view s).forest in
      (field_rules (body_in s i) (all_find _ f.nodes x (node_in s i) (sound_parts f h.is_sound).fields (asked_found s x i h))).role_limit

-- ## What is answered

module _ (s : List ℕ) (x : FullNodeId) where
  abbrev f : Forest
  f = (view s).forest

  -- a node that cannot be read
  reading_refused : (r : Refusal) → refusal_number r ≡ ask_number f x → Err r ≡ reading f x
  unfolding reading
  reading_refused r e = go (find x f.nodes)
    where
      go : (o : Option NodeState) → Err r ≡ elim o as (λ _. Result NodeReading Refusal) [
        | None ↦ Err (refusal (ask_number f x))
        | Some n ↦ answer (ask_number f x) (reading_of f x n.body)
      ]
      go None = rw (← e, refusal_is r) refl
      go (Some n) = answer_refused _ r e

  pub reading_exit : (result : Result NodeReading Refusal) (r : Refusal) → IsErrAnd result (λ e. e ≡ r) → refusal_number r ≡ ask_number f x → result ≡ reading f x
  reading_exit (Ok d) r q e = absurd q
  reading_exit (Err d) r q e = rw q (reading_refused r e)

  -- one that is there
  pub reading_given : (i : ℕ) → 0 ≡ ask_number f x → NodeAt s x i → Ok (reading_of f (id_in s i) (body_in s i)) ≡ reading f x
  unfolding reading node_in
  reading_given i e h = rw (h.id_is, asked_found s x i h, reading) (answer_given _ _ e refl)

  -- its label
  pub label_is : (i : ℕ) → NodeAt s x i → label_at f x ≡ label_in s i
  unfolding label_at node_in body_in
  label_is i h = ap (λ (o : Option NodeState). elim o as (λ _. List ℕ) [ None ↦ [] | Some n ↦ n.body.label ]) (asked_found s x i h)
