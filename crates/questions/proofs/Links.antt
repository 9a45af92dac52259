-- Laws of links in a sound shape: a node's link and the children of its parent say the same, and each climb is one step nearer the root.
-- Assumes nothing.
use mathlib.Core.Bool.{true, ◌||◌, or-false}
use mathlib.Core.List.{List, [], ◌∷◌, map, Memᴰ}
use Rattle.std.specs.Prelude.{Option, None, Some}
use Rattle.std.proofs.lemmas.Option.{none-some, same_Some}
use mathlib.Core.Path.{◌≡◌, refl, sym, ap, ◌∙◌, subst}
use Prim.Native.Nat.{ℕ, zero, suc, ◌+◌, ◌≤◌, ◌<◌}
use native.Mathlib.Omega.{arith}
use lib.ListN.{length, get_or, length-map}
use Rattle.ids.specs.declared.FullNodeId.{FullNodeId}
use Rattle.ids.specs.declared.NodeId.{NodeId}
use Rattle.ids.specs.declared.TreeId.{TreeId}
use Rattle.record.specs.Batch.{graft?}
use Rattle.state.specs.State.{ParentAndIndex, NodeState, Forest, find, present, link_at, parent_at, subtree_of}
use Rattle.state.specs.declared.SubtreeState.{SubtreeState}
use Rattle.state.specs.Down.{Met, met_under, children_met, below, below_id, way_down, climb}
use Rattle.state.proofs.State.{find_id}
use Rattle.state.proofs.Sound.{Shape, Root, root_of_shape}
use Rattle.state.proofs.Down.{Descent, descent, some_met, below_met}
use Rattle.state.proofs.Family.{child, linked_present}
use Rattle.questions.specs.Links.{child_ids, ancestors_within, ancestors, hidden_at, is_hidden}

-- ## Places in lists

module _ {A : Type 0} where
  -- an element of a list has a place
  place_of : (xs : List A) (x d : A) → Memᴰ x xs → (i : ℕ) × (i < length xs) × (get_or xs i d ≡ x)
  place_of [] x d x3 = elim x3 [ ]
  place_of (y ∷ xs) x d (Memᴰ.head q) = (0, omega arith, sym q)
  place_of (y ∷ xs) x d (Memᴰ.tail i) = let z = place_of xs x d i in (suc z.0, omega (arith, z.1), z.2)

  -- what stands at a place is an element
  pub member_at : (xs : List A) (i : ℕ) (d : A) → i < length xs → Memᴰ (get_or xs i d) xs
  member_at [] i d h = absurd (omega arith)
  member_at (x ∷ xs) zero d h = Memᴰ.head refl
  member_at (x ∷ xs) (suc i) d h = Memᴰ.tail (member_at xs i d (omega arith))

get_map : {A B : Type 0} (f : A → B) (xs : List A) (i : ℕ) (d : B) (e : A) → i < length xs → get_or (map f xs) i d ≡ f (get_or xs i e)
get_map f [] i d e h = absurd (omega arith)
get_map f (x ∷ xs) zero d e h = refl
get_map f (x ∷ xs) (suc i) d e h = get_map f xs i d e (omega arith)

-- ## What is met below a node, by its place

-- each is met under p, at its place counted from k
abbrev Placed : FullNodeId → ℕ → List Met → Type 0
Placed p k ms = (i : ℕ) (d : Met) → i < length ms → (get_or ms i d).link ≡ Some (record { parent = p; index = k + i })

children_placed : (p : FullNodeId) (k : ℕ) (cs : List NodeId) → Placed p k (children_met p k cs)
unfolding children_met met_under
children_placed p k [] i d h = absurd (omega arith)
children_placed p k (c ∷ cs) zero d h = ap (λ (j : ℕ). Some (record { parent = p; index = j })) (omega arith)
children_placed p k (c ∷ cs) (suc i) d h =
    let further : suc k + i ≡ k + suc i = omega arith in
    children_placed p (suc k) cs i d (omega arith) ∙ ap (λ (j : ℕ). Some (record { parent = p; index = j })) further

one_placed : (p x : FullNodeId) → Placed p 0 (met_under p 0 x ∷ [])
unfolding met_under
one_placed p x zero d h = refl
one_placed p x (suc i) d h = absurd (omega arith)

below_placed : (s : Forest) (n : NodeState) → Placed n.id 0 (below s n)
unfolding below
below_placed s n = go (graft? n.body)
  where
    on : (o : Option SubtreeState) → Placed n.id 0 (elim o as (λ _. List Met) [ None ↦ [] | Some u ↦ met_under n.id 0 u.root ∷ [] ])
    on None = λ i d h. absurd (omega arith)
    on (Some u) = one_placed n.id u.root

    go : (o : Option TreeId)
        → Placed n.id 0 (elim o as (λ _. List Met) [
          | None ↦ children_met n.id 0 n.body.children
          | Some t ↦ elim (subtree_of s t) [ None ↦ [] | Some u ↦ met_under n.id 0 u.root ∷ [] ]
        ])
    go None = children_placed n.id 0 n.body.children
    go (Some t) = on (subtree_of s t)

below_id_placed : (s : Forest) (x : FullNodeId) → Placed x 0 (below_id s x)
unfolding below_id
below_id_placed s x = go (find x s.nodes) refl
  where
    go : (o : Option NodeState) → find x s.nodes ≡ o → Placed x 0 (elim o as (λ _. List Met) [ None ↦ [] | Some n ↦ below s n ])
    go None q = λ i d h. absurd (omega arith)
    go (Some n) q = subst (λ (y : FullNodeId). Placed y 0 (below s n)) (find_id s.nodes x n q) (below_placed s n)

-- ## Climbing with room

module _ (ns : List NodeState) where
  -- a climb by a link
  climb_link : (k : ℕ) (x : FullNodeId) (l : ParentAndIndex) → link_at ns x ≡ Some l → climb (suc k) ns x ≡ climb k ns l.parent
  unfolding climb
  climb_link k x l q = rw (q, climb) refl

  -- a node that has a link is not where climbing ends
  linked_ends : (x : FullNodeId) (l : ParentAndIndex) → link_at ns x ≡ Some l → link_at ns (climb zero ns x) ≡ None → ⊥
  unfolding climb
  linked_ends x l e q = none-some l (sym q ∙ e)

  -- the ancestors by the link
  abbrev above : ℕ → Option ParentAndIndex → List FullNodeId
  above room None = []
  above room (Some l) = l.parent ∷ ancestors_within room ns l.parent

  within_above : (room : ℕ) (x : FullNodeId) → ancestors_within (suc room) ns x ≡ above room (link_at ns x)
  unfolding ancestors_within parent_at
  within_above room x = go (link_at ns x) refl
    where
      go : (o : Option ParentAndIndex) → link_at ns x ≡ o → ancestors_within (suc room) ns x ≡ above room o
      go None q = rw (q, parent_at, ancestors_within) refl
      go (Some l) q = rw (q, parent_at, ancestors_within) refl

  -- where climbing ends in k steps, more room changes nothing
  within_more : (room k : ℕ) (x : FullNodeId) → k < room → link_at ns (climb k ns x) ≡ None → ancestors_within (suc room) ns x ≡ ancestors_within room ns x
  within_more zero k x h q = absurd (omega arith)
  within_more (suc room) k x h q = within_above (suc room) x ∙ go k (link_at ns x) refl h q (within_more room) ∙ sym (within_above room x)
    where
      go : (k : ℕ) (o : Option ParentAndIndex) → link_at ns x ≡ o → k < suc room → link_at ns (climb k ns x) ≡ None
          → ((j : ℕ) (p : FullNodeId) → j < room → link_at ns (climb j ns p) ≡ None → ancestors_within (suc room) ns p ≡ ancestors_within room ns p)
          → above (suc room) o ≡ above room o
      go k None e h q f = refl
      go zero (Some l) e h q f = absurd (linked_ends x l e q)
      go (suc k) (Some l) e h q f = ap (λ (up : List FullNodeId). l.parent ∷ up) (f k l.parent (omega arith) (rw (climb_link k x l e) at q))

  -- and there are at most k ancestors
  within_few : (room k : ℕ) (x : FullNodeId) → link_at ns (climb k ns x) ≡ None → length (ancestors_within room ns x) ≤ k
  unfolding ancestors_within
  within_few zero k x q = omega arith
  within_few (suc room) k x q = rw within_above (go k (link_at ns x) refl q (within_few room))
    where
      go : (k : ℕ) (o : Option ParentAndIndex) → link_at ns x ≡ o → link_at ns (climb k ns x) ≡ None
          → ((j : ℕ) (p : FullNodeId) → link_at ns (climb j ns p) ≡ None → length (ancestors_within room ns p) ≤ j) → length (above room o) ≤ k
      go k None e q f = omega arith
      go zero (Some l) e q f = absurd (linked_ends x l e q)
      go (suc k) (Some l) e q f = omega (arith, f k l.parent (rw (climb_link k x l e) at q))

  within_step : (room k : ℕ) (x : FullNodeId) (l : ParentAndIndex) → link_at ns x ≡ Some l → k < room → link_at ns (climb k ns x) ≡ None
      → ancestors_within room ns x ≡ l.parent ∷ ancestors_within room ns l.parent
  within_step zero k x l e h q = absurd (omega arith)
  within_step (suc room) zero x l e h q = absurd (linked_ends x l e q)
  within_step (suc room) (suc k) x l e h q =
      within_above room x
      ∙ ap (above room) e
      ∙ ap (λ (up : List FullNodeId). l.parent ∷ up) (sym (within_more room k l.parent (omega arith) (rw (climb_link k x l e) at q)))

  within_top : (room : ℕ) (x : FullNodeId) → link_at ns x ≡ None → ancestors_within room ns x ≡ []
  unfolding ancestors_within
  within_top zero x e = refl
  within_top (suc room) x e = within_above room x ∙ ap (above room) e

-- ## A parent is that of a link

pub parent_link : (ns : List NodeState) (x p : FullNodeId) → parent_at ns x ≡ Some p → (l : ParentAndIndex) × (link_at ns x ≡ Some l) × (l.parent ≡ p)
unfolding parent_at
parent_link ns x p = go (link_at ns x)
  where
    go : (o : Option ParentAndIndex) → (elim o as (λ _. Option FullNodeId) [ None ↦ None | Some l ↦ Some l.parent ]) ≡ Some p
        → (l : ParentAndIndex) × (o ≡ Some l) × (l.parent ≡ p)
    go None e = absurd (none-some p e)
    go (Some l) e = (l, refl, same_Some l.parent p e)

pub parentless_link : (ns : List NodeState) (x : FullNodeId) → parent_at ns x ≡ None → link_at ns x ≡ None
unfolding parent_at
parentless_link ns x = go (link_at ns x)
  where
    go : (o : Option ParentAndIndex) → ◌≡◌ {A = Option FullNodeId} (elim o as (λ _. Option FullNodeId) [ None ↦ None | Some l ↦ Some l.parent ]) None → o ≡ None
    go None e = refl
    go (Some l) e = absurd (none-some l.parent (sym e))

-- ## A link and the children of its parent say the same

module _ (s : Forest) (h : Shape s) where
  r : Root s
  r = root_of_shape s h

  d : Descent s r.root
  d = descent s h r

  -- a child records its parent and its place
  pub child_link : (x : FullNodeId) (i : ℕ) (e : FullNodeId) → present s.nodes x ≡ true → i < length (child_ids s x)
      → link_at s.nodes (get_or (child_ids s x) i e) ≡ Some (record { parent = x; index = i })
  unfolding child_ids
  child_link x i e there l =
      let none_met : Met = record { id = e; link = None } in
      let m : Met = get_or (below_id s x) i none_met in
      let k = some_met x (way_down s) 0 (d.once x there) in
      let within : i < length (below_id s x) = omega (arith, l, length-map (below_id s x) (λ (m : Met). m.id)) in
      let met = below_met s h r k.0 m k.1 (rw k.2 (member_at (below_id s x) i none_met within)) in
      ap (link_at s.nodes) (get_map (λ (m : Met). m.id) (below_id s x) i e none_met within)
      ∙ d.parented m met
      ∙ below_id_placed s x i none_met within
      ∙ ap (λ (j : ℕ). Some (record { parent = x; index = j })) (omega arith)

  -- and a node stands among the children of the parent that it records, at that place
  pub link_child : (x : FullNodeId) (l : ParentAndIndex) (e : FullNodeId) → link_at s.nodes x ≡ Some l
      → (l.index < length (child_ids s l.parent)) × (get_or (child_ids s l.parent) l.index e ≡ x)
  unfolding child_ids below_id
  link_child x l e q =
      let none_met : Met = record { id = e; link = None } in
      let c = child s h x l q in
      let ms : List Met = below_id s l.parent in
      let same : ms ≡ below s c.parent = rw (c.there, below_id) refl in
      let z = place_of ms (record { id = x; link = Some l }) none_met (rw same c.below) in
      let linked : Some l ≡ Some (record { parent = l.parent; index = 0 + z.0 }) =
      ap (λ (m : Met). m.link) (sym z.2) ∙ below_id_placed s l.parent z.0 none_met z.1 in
      let at : l.index ≡ z.0 = ap (λ (k : ParentAndIndex). k.index) (same_Some _ _ linked) ∙ omega arith in (
        rw (at, length-map) z.1,
        rw at (get_map (λ (m : Met). m.id) ms z.0 e none_met z.1 ∙ ap (λ (m : Met). m.id) z.2),
      )

  -- a child is present
  pub child_present : (x : FullNodeId) (i : ℕ) (e : FullNodeId) → present s.nodes x ≡ true → i < length (child_ids s x)
      → present s.nodes (get_or (child_ids s x) i e) ≡ true
  child_present x i e there l = linked_present s.nodes _ _ (child_link x i e there l)

  -- ## Climbing

  -- climbing from a present node comes, in fewer steps than there are nodes, to one that records no link
  climb_ends : (x : FullNodeId) → present s.nodes x ≡ true
      → (k : ℕ) × (k < length s.nodes) × (link_at s.nodes (climb k s.nodes x) ≡ None)
  climb_ends x there = let z = d.climbs x there in (z.0, z.1, ap (link_at s.nodes) z.2 ∙ d.parentless)

  -- a node without a link has no ancestors
  pub ancestors_end : (x : FullNodeId) → link_at s.nodes x ≡ None → ancestors s x ≡ []
  unfolding ancestors
  ancestors_end x q = within_top s.nodes (length s.nodes) x q

  -- the parent of a node, and then those of the parent
  pub ancestors_step : (x : FullNodeId) (l : ParentAndIndex) → link_at s.nodes x ≡ Some l → ancestors s x ≡ l.parent ∷ ancestors s l.parent
  unfolding ancestors
  ancestors_step x l q =
      let z = climb_ends x (linked_present s.nodes x l q) in
      within_step s.nodes (length s.nodes) z.0 x l q z.1 z.2

  -- there are fewer than nodes
  pub ancestors_few : (x : FullNodeId) → present s.nodes x ≡ true → length (ancestors s x) < length s.nodes
  unfolding ancestors
  ancestors_few x there =
      let z = climb_ends x there in
      omega (arith, z.1, within_few s.nodes (length s.nodes) z.0 x z.2)

  -- a child is present, and its ancestors are its parent and the parent's
  pub member_child : (x y : FullNodeId) → present s.nodes x ≡ true → Memᴰ y (child_ids s x)
      → (present s.nodes y ≡ true) × (ancestors s y ≡ x ∷ ancestors s x)
  member_child x y there i =
      let z = place_of (child_ids s x) y y i in
      let linked = ap (link_at s.nodes) (sym z.2) ∙ child_link x z.0 y there z.1 in
      (linked_present s.nodes y _ linked, ancestors_step y _ linked)

  -- ## The hidden flag

  -- a node is hidden if it is itself or its parent is
  pub hidden_parent : (x : FullNodeId) (l : ParentAndIndex) → link_at s.nodes x ≡ Some l → is_hidden s x ≡ (hidden_at s x || is_hidden s l.parent)
  unfolding is_hidden
  hidden_parent x l q = rw (ancestors_step x l q) refl

  pub hidden_top : (x : FullNodeId) → link_at s.nodes x ≡ None → is_hidden s x ≡ hidden_at s x
  unfolding is_hidden
  hidden_top x q = rw (ancestors_end x q) (or-false (hidden_at s x))
