-- Laws of filtered runs in a sound shape: what stands for a node, by what the filter says of it; each level down is one nearer the leaves.
-- Assumes nothing.
use mathlib.Core.Bool.{true}
use mathlib.Core.List.Memᴰ
use mathlib.Core.List.{List, [], ◌∷◌, ◌++◌, flat_map, Memᴰ}
use mathlib.Core.Path.{◌≡◌, refl, sym, ap, ◌∙◌}
use Prim.Native.Nat.{ℕ, zero, suc, ◌+◌, ◌≤◌}
use native.Mathlib.Omega.{arith}
use lib.ListN.{length}
use Rattle.ids.specs.declared.FullNodeId.{FullNodeId}
use Rattle.state.specs.State.{Forest, present}
use Rattle.state.proofs.Sound.{Shape}
use Rattle.questions.specs.declared.Side.{Side}
use Rattle.questions.specs.declared.Side.TheVariants.{Following, Preceding}
use Rattle.questions.specs.declared.FilterResult.{FilterResult}
use Rattle.questions.specs.declared.FilterResult.TheVariants.{Include, ExcludeNode, ExcludeSubtree}
use Rattle.questions.specs.Links.{child_ids, ancestors}
use Rattle.questions.specs.Walks.{turned, shown_within, shown}
use Rattle.questions.proofs.Links.{member_child, ancestors_few}
use Rattle.questions.proofs.Flat.{flat_cong, member_reverse}

-- ## Going down level by level

-- what a node gives itself, and then what those next below it give, `room` levels deep
module _ (own next : FullNodeId → List FullNodeId) where
  unfoldable pub gather : ℕ → FullNodeId → List FullNodeId
  gather zero x = []
  gather (suc room) x = own x ++ flat_map (gather room) (next x)

-- those next below a present node are children of it
abbrev Below : Forest → (FullNodeId → List FullNodeId) → Type 0
Below s next = (x y : FullNodeId) → Memᴰ y (next x) → Memᴰ y (child_ids s x)

module _ (s : Forest) (h : Shape s) (own next : FullNodeId → List FullNodeId) (kids : Below s next) where
  -- with room for the levels that there are, one more changes nothing
  gather_more : (room : ℕ) (x : FullNodeId) → present s.nodes x ≡ true → length s.nodes ≤ room + length (ancestors s x)
      → gather own next (suc room) x ≡ gather own next room x
  unfolding gather
  gather_more zero x there l = absurd (omega (arith, ancestors_few s h x there))
  gather_more (suc room) x there l =
      ap (λ (ys : List FullNodeId). own x ++ ys)
      (flat_cong (gather own next (suc room)) (gather own next room) (next x) (λ y i.
      let c = member_child s h x y there (kids x y i) in
      gather_more room y c.0 (omega (arith, l, ap length c.1))))

  pub gather_step : (x : FullNodeId) → present s.nodes x ≡ true
      → gather own next (length s.nodes) x ≡ own x ++ flat_map (gather own next (length s.nodes)) (next x)
  unfolding gather
  gather_step x there = sym (gather_more (length s.nodes) x there (omega arith))

-- ## What stands for a node

pub turned_member : (side : Side) (xs : List FullNodeId) (y : FullNodeId) → Memᴰ y (turned side xs) → Memᴰ y xs
unfolding turned
turned_member Following xs y i = i
turned_member Preceding xs y i = member_reverse xs y i

module _ (filter : FullNodeId → FilterResult) (side : Side) (s : Forest) where
  -- what a node gives itself, and where it goes on below
  abbrev own_shown : FullNodeId → FilterResult → List FullNodeId
  own_shown x Include = x ∷ []
  own_shown x ExcludeNode = []
  own_shown x ExcludeSubtree = []

  abbrev next_shown : FullNodeId → FilterResult → List FullNodeId
  next_shown x Include = []
  next_shown x ExcludeNode = turned side (child_ids s x)
  next_shown x ExcludeSubtree = []

  abbrev gathered : ℕ → FullNodeId → List FullNodeId
  gathered room x = gather (λ y. own_shown y (filter y)) (λ y. next_shown y (filter y)) room x

  shown_gather : (room : ℕ) (x : FullNodeId) → shown_within filter room side s x ≡ gathered room x
  unfolding shown_within gather flat_map
  shown_gather zero x = refl
  shown_gather (suc room) x = go (filter x) refl (shown_gather room)
    where
      go : (r : FilterResult) → filter x ≡ r → ((y : FullNodeId) → shown_within filter room side s y ≡ gathered room y)
          → shown_within filter (suc room) side s x ≡ own_shown x (filter x) ++ flat_map (gathered room) (next_shown x (filter x))
      go Include e f = rw (e, shown_within) refl
      go ExcludeNode e f = rw (e, shown_within) (flat_cong (shown_within filter room side s) (gathered room) (turned side (child_ids s x)) (λ y _. f y))
      go ExcludeSubtree e f = rw (e, shown_within) refl

  next_below : Below s (λ y. next_shown y (filter y))
  next_below x y = go (filter x)
    where
      go : (r : FilterResult) → Memᴰ y (next_shown x r) → Memᴰ y (child_ids s x)
      go Include i = absurd (Memᴰ.not-nil i)
      go ExcludeNode i = turned_member side (child_ids s x) y i
      go ExcludeSubtree i = absurd (Memᴰ.not-nil i)

  module _ (h : Shape s) (x : FullNodeId) (there : present s.nodes x ≡ true) where
    shown_step : shown filter side s x ≡ own_shown x (filter x) ++ flat_map (shown filter side s) (next_shown x (filter x))
    unfolding shown
    shown_step =
        shown_gather (length s.nodes) x
        ∙ gather_step s h _ _ next_below x there
        ∙ ap (λ (ys : List FullNodeId). own_shown x (filter x) ++ ys)
        (flat_cong (gathered (length s.nodes)) (shown_within filter (length s.nodes) side s) (next_shown x (filter x))
        (λ y _. sym (shown_gather (length s.nodes) y)))

    -- an included node is listed
    pub shown_include : filter x ≡ Include → shown filter side s x ≡ x ∷ []
    unfolding flat_map
    shown_include e = rw e at shown_step

    -- ExcludeNode is replaced by its own filtered children
    pub shown_node : filter x ≡ ExcludeNode → shown filter side s x ≡ flat_map (shown filter side s) (turned side (child_ids s x))
    shown_node e = rw e at shown_step

    -- ExcludeSubtree is dropped
    pub shown_subtree : filter x ≡ ExcludeSubtree → shown filter side s x ≡ []
    unfolding flat_map
    shown_subtree e = rw e at shown_step
