-- What a node has from its ancestors, one climb at a time: the hidden flag, the transform, the box. Assumes nothing.
use mathlib.Core.Bool.{true, false}
use mathlib.Core.List.{List, [], ◌∷◌}
use Rattle.std.specs.Prelude.{None, Some}
use mathlib.Core.Path.{◌≡◌, refl, sym, ap, ◌∙◌}
use Prim.Native.Nat.{ℕ, ◌-◌, ◌/◌, ◌%◌, ◌≤◌, ◌<◌}
use native.Mathlib.Nat.{div-one}
use native.Mathlib.Decide.{dec_lt}
use native.Mathlib.Omega.{arith}
use lib.Dec.{eqb}
use lib.ListN.{length}
use borrow.Author.Tests.{eq-eqb, ne_eqb}
use Rattle.base.proofs.Bytes.{length_list_of}
use Rattle.ids.specs.declared.FullNodeId.{FullNodeId}
use Rattle.geometry.specs.declared.Affine.{Affine}
use Rattle.geometry_box.specs.declared.BoundingBox.TheVariants as box
use Rattle.geometry_box.specs.Boxes.{identity, product, chain, box_of}
use Rattle.geometry_box.proofs.Boxes.{box_under_lem}
use Rattle.record.specs.Batch.{bounds?, transform?}
use Rattle.state.specs.State.{Forest, parent_at}
use Rattle.state_array.specs.Layout.{word, FLAGS}
use Rattle.state_array.specs.View.{id_in, shape_in, bounds_in, transform_in, body_in, node_in, slots_of, view}
use Rattle.questions.specs.Links.{ancestors, hidden_at, is_hidden}
use Rattle.questions.specs.Boxes.{direct_transform, transforms_above, transform, raw_bounds, bounding_box}
use Rattle.questions.proofs.Links.{ancestors_end, ancestors_step, ancestors_few}
use Rattle.question_calls.specs.Slots.{Sound, slot_id}
use Rattle.question_calls.proofs.links.Slots.{slot_id_some, slot_id_none, slot_shape, slot_found, slot_present}
use Rattle.question_calls.proofs.links.Links.{unlinked, linked}

module _ (s : List ℕ) (h : Sound s) (i : ℕ) (there : i < slots_of s) where
  abbrev f : Forest
  f = (view s).forest

  abbrev x : FullNodeId
  x = id_in s i

  -- there are fewer ancestors than slots
  pub few_ancestors : length (ancestors f x) < 320
  unfolding view
  few_ancestors =
      omega (arith, ancestors_few f (slot_shape s h) x (slot_present s h i there), length_list_of (slots_of s) (node_in s))

  -- ## By the node's own words

  module _ (w : ℕ) (read : w ≡ word s FLAGS i) where
    -- its own hidden flag
    pub hidden_is : eqb (w % 2) 1 ≡ hidden_at f x
    unfolding hidden_at node_in body_in shape_in
    hidden_is = sym (rw (slot_found s h i there, hidden_at, ← read, div-one) refl)

    -- its own transform, or none
    pub direct_own : w / 32 % 2 ≡ 1 → direct_transform f x ≡ transform_in s i
    unfolding direct_transform node_in body_in shape_in transform?
    direct_own e = rw (slot_found s h i there, direct_transform, ← read, eq-eqb (w / 32 % 2) 1 e) refl

    pub direct_none : (w / 32 % 2 ≡ 1 → ⊥) → direct_transform f x ≡ identity
    unfolding direct_transform node_in body_in shape_in transform?
    direct_none e = rw (slot_found s h i there, direct_transform, ← read, ne_eqb (w / 32 % 2) 1 e) refl

    -- its box, or none
    pub box_own : w / 16 % 2 ≡ 1 → bounding_box f x ≡ box_of (transform f x) (bounds_in s i)
    unfolding bounding_box raw_bounds node_in body_in shape_in bounds? transform
    box_own e =
        rw (slot_found s h i there, bounding_box, ← read, eq-eqb (w / 16 % 2) 1 e) (box_under_lem (direct_transform f x) (transforms_above f x) (bounds_in s i))

    pub box_none : (w / 16 % 2 ≡ 1 → ⊥) → bounding_box f x ≡ box.None
    unfolding bounding_box raw_bounds node_in body_in shape_in bounds?
    box_none e = rw (slot_found s h i there, bounding_box, ← read, ne_eqb (w / 16 % 2) 1 e) refl

  -- ## By the parent's slot

  -- a hidden node is hidden
  pub hidden_own : hidden_at f x ≡ true → is_hidden f x ≡ true
  unfolding is_hidden
  hidden_own e = rw e refl

  module _ (p : ℕ) (up : slot_id s p ≡ parent_at f.nodes x) where
    -- the ancestors
    pub top : slots_of s ≤ p → ancestors f x ≡ []
    top m = ancestors_end f (slot_shape s h) x (unlinked s h i there p up m)

    pub more : p < slots_of s → ancestors f x ≡ id_in s p ∷ ancestors f (id_in s p)
    more m = ancestors_step f (slot_shape s h) x _ (linked s h i there p up m)

    -- the parent has one ancestor less
    pub fewer : (room : ℕ) → p < slots_of s → length (ancestors f x) < room → length (ancestors f (id_in s p)) < room - 1
    fewer room m l = omega (arith, ap length (more m))

    -- the hidden flag of a node that is not hidden itself
    pub hidden_top : slots_of s ≤ p → hidden_at f x ≡ false → is_hidden f x ≡ false
    unfolding is_hidden
    hidden_top m e = rw (e, top m) refl

    pub hidden_more : p < slots_of s → hidden_at f x ≡ false → is_hidden f x ≡ is_hidden f (id_in s p)
    unfolding is_hidden
    hidden_more m e = rw (e, more m) refl

    -- the transforms above
    pub chain_top : (t : Affine) → slots_of s ≤ p → chain t (transforms_above f x) ≡ t
    unfolding chain transforms_above
    chain_top t m = rw (top m) refl

    pub chain_more : (t : Affine) → p < slots_of s
        → chain t (transforms_above f x) ≡ chain (product (direct_transform f (id_in s p)) t) (transforms_above f (id_in s p))
    unfolding chain transforms_above
    chain_more t m = rw (more m) refl

-- ## From a slot up

-- a transform under those of the node in slot p and its ancestors
unfoldable pub chain_from : List ℕ → Affine → ℕ → Affine
chain_from s t p = elim (slot_id s p) [ None ↦ t | Some y ↦ chain (product (direct_transform (view s).forest y) t) (transforms_above (view s).forest y) ]

module _ (s : List ℕ) (t : Affine) where
  pub chain_past : (p : ℕ) → slots_of s ≤ p → chain_from s t p ≡ t
  unfolding chain_from
  chain_past p l = rw (slot_id_none s p l, chain_from) refl

  chain_here : (p : ℕ) → p < slots_of s → chain_from s t p ≡ chain (product (direct_transform (view s).forest (id_in s p)) t) (transforms_above (view s).forest (id_in s p))
  unfolding chain_from
  chain_here p l = rw (slot_id_some s p l, chain_from) refl

  -- from the parent of a node
  pub chain_above : Sound s → (i p : ℕ) → i < slots_of s → slot_id s p ≡ parent_at (view s).forest.nodes (id_in s i)
      → chain_from s t p ≡ chain t (transforms_above (view s).forest (id_in s i))
  chain_above h i p there up = go (dec_lt p (slots_of s))
    where
      go : Dec (p < slots_of s) → chain_from s t p ≡ chain t (transforms_above (view s).forest (id_in s i))
      go (yes l) = chain_here p l ∙ sym (chain_more s h i there p up t l)
      go (no l) = chain_past p (omega arith) ∙ sym (chain_top s h i there p up t (omega arith))

-- one climb
pub chain_on : (s : List ℕ) → Sound s → (t : Affine) (p q : ℕ) → p < slots_of s → slot_id s q ≡ parent_at (view s).forest.nodes (id_in s p)
    → chain_from s (product (direct_transform (view s).forest (id_in s p)) t) q ≡ chain_from s t p
chain_on s h t p q l up = chain_above s (product (direct_transform (view s).forest (id_in s p)) t) h p q l up ∙ sym (chain_here s t p l)
