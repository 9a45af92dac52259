-- Where no ancestor of a node is hidden, the filter without parent checks asks the node's own hidden flag alone, and so it is for all that
-- stands for the node and for what is ahead of it. Assumes nothing.
use mathlib.Core.Bool.{Bool, true, false, ◌||◌, true≢false, false≢true, or-false as or_nothing}
use mathlib.Core.List.Memᴰ
use mathlib.Core.List.{List, [], ◌∷◌, flat_map, Memᴰ, nil≢cons}
use mathlib.Core.Path.{◌≡◌, refl, sym, ap, ◌∙◌}
use Prim.Native.Nat.{ℕ, zero, suc}
use lib.ListN.{length, take, drop}
use Rattle.std.specs.Prelude.{if◌then◌else◌, Option, None, Some}
use Rattle.base.specs.Tests.{any}
use Rattle.base.proofs.Tests.{or_false}
use Rattle.ids.specs.declared.FullNodeId.{FullNodeId}
use Rattle.state.specs.State.{ParentAndIndex, Forest, present, link_at}
use Rattle.state.proofs.Sound.{Shape}
use Rattle.state.proofs.Family.{parent_present}
use Rattle.questions.specs.declared.Side.{Side}
use Rattle.questions.specs.declared.Side.TheVariants.{Following, Preceding}
use Rattle.questions.specs.declared.FilterResult.{FilterResult}
use Rattle.questions.specs.declared.FilterResult.TheVariants.{Include, ExcludeNode, ExcludeSubtree}
use Rattle.questions.specs.Links.{child_ids, beside, siblings, ancestors, hidden_at, is_hidden}
use Rattle.questions.specs.Walks.{turned, shown_within, shown}
use Rattle.questions.specs.Ahead.{ahead}
use Rattle.questions.specs.Filters.{Seen, is_focused, is_transparent, common_filter_base, without_parent_checks}
use Rattle.questions.proofs.Links.{member_child, ancestors_step, ancestors_end}
use Rattle.questions.proofs.Flat.{flat_cong, flat_member, member_reverse}
use Rattle.questions.proofs.Walks.{turned_member}
use Rattle.questions.proofs.Ahead.{siblings_of, siblings_none}
use Rattle.question_calls.specs.Plain.{own_filter, is_include}

-- no ancestor is hidden
abbrev pub Clear : Forest → FullNodeId → Type 0
Clear f x = any (hidden_at f) (ancestors f x) ≡ false

-- nor the node itself
pub clear_unhidden : (f : Forest) (x : FullNodeId) → is_hidden f x ≡ false → (hidden_at f x ≡ false) × Clear f x
unfolding is_hidden
clear_unhidden f x e = or_false (hidden_at f x) e

-- by the flag that is asked: focused, then hidden, then transparent
unfoldable pub by_flag : Seen → FullNodeId → Bool → FilterResult
by_flag v x flag =
    if is_focused v x then Include else if flag then ExcludeSubtree else if is_transparent v.forest x then ExcludeNode else Include

pub checks_by_flag : (v : Seen) (x : FullNodeId) → without_parent_checks v x ≡ by_flag v x (is_hidden v.forest x)
unfolding without_parent_checks common_filter_base by_flag
checks_by_flag v x = go (is_focused v x) (is_hidden v.forest x) (is_transparent v.forest x)
  where
    or_include : Option FilterResult → FilterResult
    or_include o = elim o [ None ↦ Include | Some r ↦ r ]

    go : (a b c : Bool)
        → or_include (if a then Some Include else if b then Some ExcludeSubtree else if c then Some ExcludeNode else None)
        ≡ (if a then Include else if b then ExcludeSubtree else if c then ExcludeNode else Include)
    go true b c = refl
    go false true c = refl
    go false false true = refl
    go false false false = refl

-- the first ancestor is the parent, and the others are the parent's
pub record Climbs (f : Forest) (x p : FullNodeId) (up : List FullNodeId) : Type 0 where
  pub link : ParentAndIndex
  pub linked : link_at f.nodes x ≡ Some link
  pub parent_is : link.parent ≡ p
  pub above : ancestors f p ≡ up

pub ancestors_cons : (f : Forest) → Shape f → (x p : FullNodeId) (up : List FullNodeId) → ancestors f x ≡ p ∷ up → Climbs f x p up
ancestors_cons f h x p up e = go (link_at f.nodes x) refl
  where
    go : (o : Option ParentAndIndex) → link_at f.nodes x ≡ o → Climbs f x p up
    go None q = absurd (nil≢cons (sym (ancestors_end f h x q) ∙ e))
    go (Some l) q =
        let same : l.parent ∷ ancestors f l.parent ≡ p ∷ up = sym (ancestors_step f h x l q) ∙ e in
        let parent_is : l.parent ≡ p = cc in
        let above : ancestors f l.parent ≡ up = cc in
        record { link = l; linked = q; parent_is = parent_is; above = rw (← parent_is) above }

pub own_by_flag : (v : Seen) (x : FullNodeId) → own_filter v x ≡ by_flag v x (hidden_at v.forest x)
unfolding own_filter by_flag
own_by_flag v x = refl

module _ (v : Seen) where
  abbrev f : Forest
  f = v.forest

  -- the two filters agree
  pub own_filter_lem : (x : FullNodeId) → Clear f x → without_parent_checks v x ≡ own_filter v x
  unfolding is_hidden
  own_filter_lem x clear = checks_by_flag v x ∙ ap (by_flag v x) (ap (λ (b : Bool). hidden_at f x || b) clear ∙ or_nothing (hidden_at f x)) ∙ sym (own_by_flag v x)

  -- a node whose children stand in its place is not hidden
  own_node : (x : FullNodeId) → own_filter v x ≡ ExcludeNode → hidden_at f x ≡ false
  unfolding own_filter
  own_node x e = go (is_focused v x) (hidden_at f x) (is_transparent f x) e
    where
      excludes_node : FilterResult → Bool
      excludes_node Include = false
      excludes_node ExcludeNode = true
      excludes_node ExcludeSubtree = false

      go : (a b c : Bool) → (if a then Include else if b then ExcludeSubtree else if c then ExcludeNode else Include) ≡ ExcludeNode → b ≡ false
      go true b c e = absurd (false≢true (ap excludes_node e))
      go false true c e = absurd (false≢true (ap excludes_node e))
      go false false c e = refl

  -- of a node that is not hidden: included, or its children stand in its place
  pub own_included : (x : FullNodeId) → hidden_at f x ≡ false → is_include (own_filter v x) ≡ false → own_filter v x ≡ ExcludeNode
  unfolding own_filter is_include
  own_included x own e = go (is_focused v x) (is_transparent f x) (rw own at e)
    where
      go : (a c : Bool) → is_include (if a then Include else if c then ExcludeNode else Include) ≡ false
          → (if a then Include else if hidden_at f x then ExcludeSubtree else if c then ExcludeNode else Include) ≡ ExcludeNode
      go true c e = absurd (true≢false e)
      go false true e = rw own refl
      go false false e = absurd (true≢false e)

  module _ (h : Shape f) where
    -- a child of a node that is not hidden, and that no ancestor of is
    clear_child : (x y : FullNodeId) → present f.nodes x ≡ true → hidden_at f x ≡ false → Clear f x → Memᴰ y (child_ids f x)
        → (present f.nodes y ≡ true) × Clear f y
    clear_child x y there own clear i = let c = member_child f h x y there i in (c.0, rw (c.1, own) clear)

    -- what stands for a node
    own_within : (side : Side) (room : ℕ) (x : FullNodeId) → present f.nodes x ≡ true → Clear f x
        → shown_within (without_parent_checks v) room side f x ≡ shown_within (own_filter v) room side f x
    unfolding shown_within
    own_within side zero x there clear = refl
    own_within side (suc room) x there clear = go (own_filter v x) refl (own_within side room)
      where
        go : (r : FilterResult) → own_filter v x ≡ r
            → ((y : FullNodeId) → present f.nodes y ≡ true → Clear f y → shown_within (without_parent_checks v) room side f y ≡ shown_within (own_filter v) room side f y)
            → shown_within (without_parent_checks v) (suc room) side f x ≡ shown_within (own_filter v) (suc room) side f x
        go Include e k = rw (own_filter_lem x clear, e, shown_within) refl
        go ExcludeNode e k =
            rw (own_filter_lem x clear, e, shown_within)
            (flat_cong _ _ (turned side (child_ids f x)) (λ y i.
            let c = clear_child x y there (own_node x e) clear (turned_member side (child_ids f x) y i) in k y c.0 c.1))
        go ExcludeSubtree e k = rw (own_filter_lem x clear, e, shown_within) refl

    -- ## What is ahead

    member_drop : (n : ℕ) (xs : List FullNodeId) (y : FullNodeId) → Memᴰ y (drop n xs) → Memᴰ y xs
    member_drop zero xs y i = i
    member_drop (suc n) [] y i = i
    member_drop (suc n) (x ∷ xs) y i = Memᴰ.tail (member_drop n xs y i)

    member_take : (n : ℕ) (xs : List FullNodeId) (y : FullNodeId) → Memᴰ y (take n xs) → Memᴰ y xs
    member_take zero xs y i = absurd (Memᴰ.not-nil i)
    member_take (suc n) [] y i = i
    member_take (suc n) (x ∷ xs) y (Memᴰ.head e) = Memᴰ.head e
    member_take (suc n) (x ∷ xs) y (Memᴰ.tail i) = Memᴰ.tail (member_take n xs y i)

    member_beside : (side : Side) (i : ℕ) (xs : List FullNodeId) (y : FullNodeId) → Memᴰ y (beside side i xs) → Memᴰ y xs
    unfolding beside
    member_beside Following i xs y m = member_drop (suc i) xs y m
    member_beside Preceding i xs y m = member_take i xs y (member_reverse (take i xs) y m)

    -- a sibling has the same ancestors
    clear_sibling : (side : Side) (x y : FullNodeId) → Clear f x → Memᴰ y (siblings side f x) → (present f.nodes y ≡ true) × Clear f y
    clear_sibling side x y clear i = go (link_at f.nodes x) refl
      where
        go : (o : Option ParentAndIndex) → link_at f.nodes x ≡ o → (present f.nodes y ≡ true) × Clear f y
        go None q = absurd (Memᴰ.not-nil (rw (siblings_none side f x q) at i))
        go (Some l) q =
            let m = member_beside side l.index (child_ids f l.parent) y (rw (siblings_of side f x l q) at i) in
            let c = member_child f h l.parent y (parent_present f h x l q) m in
            (c.0, rw (c.1 ∙ sym (ancestors_step f h x l q)) clear)

    -- an ancestor has some of the ancestors alone
    clear_above : (up : List FullNodeId) (x p : FullNodeId) → ancestors f x ≡ up → any (hidden_at f) up ≡ false → Memᴰ p up → Clear f p
    clear_above [] x p e c i = absurd (Memᴰ.not-nil i)
    clear_above (q ∷ up) x p e c i = go i (clear_above up q p (ancestors_cons f h x q up e).above (or_false (hidden_at f q) c).1)
      where
        go : Memᴰ p (q ∷ up) → (Memᴰ p up → Clear f p) → Clear f p
        go (Memᴰ.head w) k = rw (w, (ancestors_cons f h x q up e).above) (or_false (hidden_at f q) c).1
        go (Memᴰ.tail m) k = k m

    clear_ahead : (side : Side) (level : ℕ) (x y : FullNodeId) → Clear f x → Memᴰ y (ahead side f level x)
        → (present f.nodes y ≡ true) × Clear f y
    unfolding ahead
    clear_ahead side level x y clear i =
        let m = flat_member (siblings side f) (x ∷ take level (ancestors f x)) y i in
        clear_sibling side m.0 y (go m.0 m.1) m.2
      where
        go : (z : FullNodeId) → Memᴰ z (x ∷ take level (ancestors f x)) → Clear f z
        go z (Memᴰ.head e) = rw e clear
        go z (Memᴰ.tail i) = clear_above (ancestors f x) x z refl clear (member_take level (ancestors f x) z i)

    -- what is listed of what is ahead
    pub own_ahead : (side : Side) (level : ℕ) (x : FullNodeId) → Clear f x
        → flat_map (shown (without_parent_checks v) side f) (ahead side f level x) ≡ flat_map (shown (own_filter v) side f) (ahead side f level x)
    unfolding shown
    own_ahead side level x clear =
        flat_cong _ _ (ahead side f level x) (λ y i. let c = clear_ahead side level x y clear i in own_within side (length f.nodes) y c.0 c.1)
