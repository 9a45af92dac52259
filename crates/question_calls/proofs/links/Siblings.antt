-- The next sibling on a side, by its place among the parent's children, and the slots of children. Assumes nothing.
use mathlib.Core.List.{List, reverse}
use Rattle.base.specs.Tests.{head_of}
use Rattle.std.specs.Prelude.{Option, None, Some, slice_get}
use mathlib.Core.Path.{◌≡◌, refl, sym, ap, ◌∙◌}
use Prim.Native.Nat.{ℕ, suc, ◌+◌, ◌≤◌, ◌<◌}
use native.Mathlib.Numerals.{add-one}
use native.Mathlib.Omega.{arith}
use lib.ListN.{length, get_or, take}
use Rattle.ids.specs.declared.FullNodeId.{FullNodeId}
use Rattle.state.specs.State.{ParentAndIndex, Forest, link_at, parent_at}
use Rattle.state_array.specs.declared.LinkRow.{LinkRow}
use Rattle.state_array.specs.View.{id_in, link_in, slots_of, view}
use Rattle.state_lookup.specs.Lookup.{SlotOf}
use Rattle.questions.specs.Links.{child_ids, beside, siblings}
use Rattle.questions.specs.Walks.{turned}
use Rattle.questions.specs.declared.Side.{Side}
use Rattle.questions.specs.declared.Side.TheVariants.{Following, Preceding}
use Rattle.questions.proofs.Links.{link_child, child_present}
use Rattle.question_calls.specs.Slots.{Sound, slot_id}
use Rattle.std.proofs.lemmas.Option.{slice_get-get_or, slice_get_past}
use Rattle.base.proofs.Places.{head_drop, last_take, last_at, last_none}
use Rattle.question_calls.proofs.links.Slots.{slot_id_none, slot_shape, slot_present, slot_of_present}
use Rattle.question_calls.proofs.links.Links.{unlinked, linked}

-- ## Siblings by their place

module _ (f : Forest) (x : FullNodeId) where
  -- a node without a link has none
  pub siblings_none : (side : Side) → link_at f.nodes x ≡ None → head_of (siblings side f x) ≡ None
  unfolding siblings
  siblings_none side e = rw (e, siblings) refl

  module _ (l : ParentAndIndex) (e : link_at f.nodes x ≡ Some l) where
    -- the next in order stands at the next place
    pub siblings_next : head_of (siblings Following f x) ≡ slice_get (child_ids f l.parent) (suc l.index)
    unfolding siblings beside
    siblings_next = rw (e, siblings) (head_drop (child_ids f l.parent) (suc l.index))

    -- before the first there is none
    pub siblings_first : l.index ≡ 0 → head_of (siblings Preceding f x) ≡ None
    unfolding siblings beside
    siblings_first z = rw (e, siblings) (ap (λ (k : ℕ). head_of (reverse (take k (child_ids f l.parent)))) z)

    -- before any other the one at the place before
    pub siblings_before : (k : ℕ) (d : FullNodeId) → l.index ≡ suc k → k < length (child_ids f l.parent)
        → head_of (siblings Preceding f x) ≡ Some (get_or (child_ids f l.parent) k d)
    unfolding siblings beside
    siblings_before k d z h =
        rw (e, siblings)
        (ap (λ (j : ℕ). head_of (reverse (take j (child_ids f l.parent)))) z ∙ last_take (child_ids f l.parent) k d h)

-- ## Children by slots

-- y is the element at place k of a list, where there is one
abbrev Stands : List FullNodeId → FullNodeId → ℕ → FullNodeId → Type 0
Stands xs d k y = k < length xs → y ≡ get_or xs k d

module _ (s : List ℕ) (h : Sound s) where
  abbrev f : Forest
  f = (view s).forest

  abbrev kids : ℕ → List FullNodeId
  kids p = child_ids f (id_in s p)

  -- no node
  none_slot : (n : ℕ) (o : Option FullNodeId) → n ≡ slots_of s → o ≡ None → slot_id s n ≡ o
  none_slot n o q e = slot_id_none s n (omega arith) ∙ sym e

  module _ (p : ℕ) (there : p < slots_of s) where
    -- the slot of a child
    kid_slot : (k : ℕ) (y : FullNodeId) (r : ℕ) → k < length (kids p) → Stands (kids p) (id_in s p) k y → SlotOf s y r
        → slot_id s r ≡ Some (get_or (kids p) k (id_in s p))
    kid_slot k y r l is found =
        slot_of_present s h y r found (rw (is l) (child_present f (slot_shape s h) (id_in s p) k (id_in s p) (slot_present s h p there) l))
        ∙ ap Some (is l)

    module _ (count : ℕ) (counted : count ≡ length (kids p)) where
      -- past the last child, and a child
      pub kid_past : (k n : ℕ) → count ≤ k → n ≡ slots_of s → slot_id s n ≡ slice_get (kids p) k
      kid_past k n l q = none_slot n _ q (slice_get_past (kids p) k (omega arith))

      pub kid_at : (k : ℕ) (y : FullNodeId) (r : ℕ) → k < count → Stands (kids p) (id_in s p) k y → SlotOf s y r → slot_id s r ≡ slice_get (kids p) k
      kid_at k y r l is found =
          let within : k < length (kids p) = omega arith in
          kid_slot k y r within is found ∙ sym (slice_get-get_or (kids p) k (id_in s p) within)

      -- no last child, and the last child
      pub last_past : (n : ℕ) → count ≡ 0 → n ≡ slots_of s → slot_id s n ≡ head_of (turned Preceding (kids p))
      unfolding turned
      last_past n z q = none_slot n _ q (last_none (kids p) (sym counted ∙ z))

      pub last_kid : (k : ℕ) (y : FullNodeId) (r : ℕ) → count ≡ k + 1 → Stands (kids p) (id_in s p) k y → SlotOf s y r
          → slot_id s r ≡ head_of (turned Preceding (kids p))
      unfolding turned
      last_kid k y r z is found =
          let ends : length (kids p) ≡ suc k = sym counted ∙ z ∙ add-one k in
          kid_slot k y r (omega arith) is found ∙ sym (last_at (kids p) k (id_in s p) ends)

  -- the first child
  pub first_is : (p r : ℕ) → slot_id s r ≡ slice_get (kids p) 0 → slot_id s r ≡ head_of (turned Following (kids p))
  unfolding turned
  first_is p r e = e ∙ sym (head_drop (kids p) 0)

  -- ## Siblings by slots

  module _ (i : ℕ) (there : i < slots_of s) (l : LinkRow) (read : l ≡ link_in s i) (p : ℕ) (up : slot_id s p ≡ parent_at f.nodes (id_in s i)) where
    -- a node without a parent has no sibling
    pub sibling_none : (side : Side) (n : ℕ) → slots_of s ≤ p → n ≡ slots_of s → slot_id s n ≡ head_of (siblings side f (id_in s i))
    sibling_none side n m q = none_slot n _ q (siblings_none f (id_in s i) side (unlinked s h i there p up m))

    module _ (m : p < slots_of s) where
      link : link_at f.nodes (id_in s i) ≡ Some (record { parent = id_in s p; index = l.index })
      link = linked s h i there p up m ∙ ap (λ (k : LinkRow). Some (record { parent = id_in s p; index = k.index })) (sym read)

      -- the node's place is one among the parent's children
      within : l.index < length (kids p)
      within = (link_child f (slot_shape s h) (id_in s i) _ (id_in s p) link).0

      -- after the last child, and after another
      pub following_none : (count n : ℕ) → count ≡ length (kids p) → count ≤ l.index + 1 → n ≡ slots_of s
          → slot_id s n ≡ head_of (siblings Following f (id_in s i))
      following_none count n counted e q =
          none_slot n _ q (siblings_next f (id_in s i) _ link ∙ slice_get_past (kids p) (suc l.index) (omega arith))

      pub following_at : (count : ℕ) (y : FullNodeId) (r : ℕ) → count ≡ length (kids p) → l.index + 1 < count
          → Stands (kids p) (id_in s p) (l.index + 1) y → SlotOf s y r → slot_id s r ≡ head_of (siblings Following f (id_in s i))
      following_at count y r counted b is found =
          kid_at p m count counted (l.index + 1) y r b is found
          ∙ ap (slice_get (kids p)) (add-one l.index)
          ∙ sym (siblings_next f (id_in s i) _ link)

      -- before the first child, and before another
      pub preceding_none : (n : ℕ) → l.index ≡ 0 → n ≡ slots_of s → slot_id s n ≡ head_of (siblings Preceding f (id_in s i))
      preceding_none n e q = none_slot n _ q (siblings_first f (id_in s i) _ link e)

      pub preceding_at : (k : ℕ) (y : FullNodeId) (r : ℕ) → l.index ≡ k + 1 → Stands (kids p) (id_in s p) k y → SlotOf s y r
          → slot_id s r ≡ head_of (siblings Preceding f (id_in s i))
      preceding_at k y r e is found =
          let b = within in
          kid_slot p m k y r (omega arith) is found
          ∙ sym (siblings_before f (id_in s i) _ link k (id_in s p) (e ∙ add-one k) (omega arith))
