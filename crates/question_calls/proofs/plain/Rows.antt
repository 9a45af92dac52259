-- What the words of a slot say of its node: its flags, its role, whether it is focused. Assumes nothing.
use mathlib.Core.Bool.{Bool, true, false, ◌||◌}
use mathlib.Core.List.{List}
use mathlib.Core.Path.{◌≡◌, refl, sym, ◌∙◌}
use Prim.Native.Nat.{ℕ, ◌<◌}
use lib.Dec.{eqb}
use Rattle.base.specs.Tests.{is_some}
use Rattle.base.specs.Bytes.{bit}
use Rattle.base.proofs.Tests.{is_some_if, or_assoc}
use Rattle.ids.specs.declared.FullNodeId.{FullNodeId}
use Rattle.record.specs.Batch.{graft?}
use Rattle.state.specs.State.{Forest, graft_at}
use Rattle.state_array.specs.Layout.{word, FLAGS, ROLE}
use Rattle.state_array.specs.View.{id_in, shape_in, body_in, node_in, slots_of, view}
use Rattle.questions.specs.declared.FilterResult.TheVariants.{Include, ExcludeNode, ExcludeSubtree}
use Rattle.questions.specs.Filters.{is_transparent}
use Rattle.question_calls.specs.Slots.{Sound}
use Rattle.question_calls.proofs.links.Slots.{slot_found}
use Rattle.question_calls.specs.Plain.{seen_at}
use Rattle.question_calls.proofs.plain.Own.{by_flag}
use Rattle.question_calls.proofs.plain.Focus.{focused_here, focused_not}

module _ (s : List ℕ) (h : Sound s) (i : ℕ) (there : i < slots_of s) where
  abbrev f : Forest
  f = (view s).forest

  abbrev x : FullNodeId
  x = id_in s i

  grafts_at : is_some (graft_at f.nodes x) ≡ bit 8 (word s FLAGS i)
  unfolding graft_at node_in body_in shape_in graft?
  grafts_at = rw (slot_found s h i there, graft_at) (is_some_if (bit 8 (word s FLAGS i)) (shape_in s i).graft)

  -- a graft, or one of two roles
  pub transparent_at : (flags role : ℕ) (graft : Bool) → flags ≡ word s FLAGS i → role ≡ word s ROLE i → graft ≡ bit 8 flags
      → ((graft || eqb role 0) || eqb role 1) ≡ is_transparent f x
  unfolding is_transparent node_in body_in
  transparent_at flags role graft p q g =
      sym (or_assoc graft (eqb role 0) (eqb role 1)) ∙ rw (slot_found s h i there, is_transparent, grafts_at, g, p, q) refl

-- ## By what is asked in turn: focused, hidden, transparent

module _ (s : List ℕ) (h : Sound s) (k i : ℕ) (there : i < slots_of s) (flag : Bool) where
  pub by_focused : i ≡ k → Include ≡ by_flag (seen_at s k) (id_in s i) flag
  unfolding by_flag
  by_focused e = sym (rw (focused_here s h k i there e, by_flag) refl)

  pub by_hidden : (i ≡ k → ⊥) → flag ≡ true → ExcludeSubtree ≡ by_flag (seen_at s k) (id_in s i) flag
  unfolding by_flag
  by_hidden e b = sym (rw (focused_not s h k i there e, b, by_flag) refl)

  pub by_transparent : (i ≡ k → ⊥) → flag ≡ false → is_transparent (view s).forest (id_in s i) ≡ true → ExcludeNode ≡ by_flag (seen_at s k) (id_in s i) flag
  unfolding by_flag
  by_transparent e b t = sym (rw (focused_not s h k i there e, b, t, by_flag) refl)

  pub by_plain : (i ≡ k → ⊥) → flag ≡ false → is_transparent (view s).forest (id_in s i) ≡ false → Include ≡ by_flag (seen_at s k) (id_in s i) flag
  unfolding by_flag
  by_plain e b t = sym (rw (focused_not s h k i there e, b, t, by_flag) refl)
