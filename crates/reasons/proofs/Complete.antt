-- A state that is not sound breaks a rule that is found. Assumes nothing.
use mathlib.Core.Bool.{Bool, true, false, not, false≢true}
use mathlib.Core.List.Memᴰ
use mathlib.Core.List.{List, [], ◌∷◌, ◌++◌, Memᴰ}
use mathlib.Core.Logic.{⊎_elim}
use mathlib.Core.Path.{◌≡◌, refl, sym, ap, ◌∙◌, subst}
use Prim.Native.Nat.{ℕ, zero, suc, ◌+◌, ◌-◌, ◌≤◌, ◌<◌}
use native.Mathlib.Omega.{arith}
use lib.Dec.{leb}
use lib.ListN.{length}
use borrow.Author.Tests.{eq-eqb, leb-true, le-leb}
use Rattle.std.specs.Prelude.{if◌then◌else◌, Option, None, Some}
use Rattle.base.specs.Tests.{is_none, all, has, same_option}
use Rattle.base.proofs.Cases.{by_test, by_option}
use Rattle.base.proofs.Tests.{joined, clash, iff, not_false, all_member}
use Rattle.base.proofs.Lists.{none_of, all_of}
use Rattle.record.specs.Batch.{NodeData, fields_ok}
use Rattle.ids.specs.Ids.{same_id}
use Rattle.ids.proofs.Ids.{same_id→≡, same_id_refl}
use Rattle.ids.specs.declared.FullNodeId.{FullNodeId}
use Rattle.state.specs.State.{ParentAndIndex, NodeState, Forest, find, present}
use Rattle.state.specs.Down.{Met, below, below_id, down, root_of, way_down}
use Rattle.state.specs.Sound.{met_once, recorded, sound_links, sound_trees, way_ends, sound_shape, focus_present, sound}
use Rattle.state.proofs.State.{find_id, find_member, find_self}
use Rattle.state.proofs.Sound.{Root, root_of_tables, shape_parts, sound_of}
use Rattle.state.proofs.Down.{way_down_from, down_below, below_id_by}
use Rattle.state.proofs.Ends.{meets, total_all}
use Rattle.state.proofs.Once.{once, each_once}
use Rattle.reasons.specs.Reasons.{Broken, tooManyNodes, tooManyTrees, too_many_children, absent_below, met_twice, never_met, wrong_link}
use Rattle.reasons.specs.Reasons.{graft_with_children, grafted_twice, root_not_first, tree_twice, tree_unrooted, out_of_order, broken_field, no_focus}
use Rattle.reasons.specs.Breaks.{Breaks, rank, FirstOfState, FirstOfShape}
use Rattle.reasons.specs.Shape.{ids_below, widened, reached, met_links, met_link, broken_shape, broken_state, spot, at}
use Rattle.reasons.proofs.Lists.{has_member, member_map}
use Rattle.reasons.proofs.Broken.{spot_none, member_present}
use Rattle.reasons.proofs.Links.{root_links, links_below_lem, below_links, widened_more, widened_old, wider_old, wider_below, wider_cases}
use Rattle.reasons.proofs.Unbroken.{Unbroken, unbroken}
use Rattle.reasons.proofs.First.{none_each, none_made, none_unless}
use Rattle.reasons.proofs.Order.{shape_first, state_first}
use Rattle.reasons.proofs.Places.{at_member}
use Rattle.reasons.proofs.Unsound.{Beyond, breaks_beyond, state_broken}

-- a list with one element at most, which has this one
single : {A : Type 0} (xs : List A) (x : A) → length xs ≤ 1 → Memᴰ x xs → xs ≡ x ∷ []
single [] x l i = absurd (Memᴰ.not-nil i)
single (y ∷ []) x l i = rw (Memᴰ.eq_of_singleton i)
single (y ∷ z ∷ zs) x l i = absurd (omega arith)

module _ (s : Forest) (k : Unbroken s) where
  r : Root s
  r = root_of_tables s.nodes s.trees k.first k.held

  -- the nodes reached in d steps
  within : ℕ → List FullNodeId
  within d = widened d s (r.root ∷ [])

  reached_is : reached s ≡ within (length s.nodes)
  unfolding reached within
  reached_is = rw (r.is_the_root, reached)

  -- ## What is met is recorded so

  -- a node as it is met: present, reached in d steps, and under a link under which it is met going down once from each node
  record Going (d : ℕ) (m : Met) : Type 0 where
    there : present s.nodes m.id ≡ true
    steps : has same_id (within d) m.id ≡ true
    under : Memᴰ m.link (met_links s (reached s) m.id)

  going_recorded : (d : ℕ) (m : Met) → Going d m → recorded s.nodes m ≡ true
  unfolding recorded present met_link
  going_recorded d m g =
      by_option (find m.id s.nodes) (λ q. absurd (false≢true (rw q at g.there)))
      (λ n q. let i = find_member s.nodes m.id n q in
      let same = find_id s.nodes m.id n q in
      let one : met_links s (reached s) n.id ≡ m.link ∷ [] = single (met_links s (reached s) n.id) m.link (k.once n i) (rw same g.under) in
      let met : met_link s (reached s) n ≡ m.link = rw (one, met_link) in
      rw (q, recorded) (rw met at (k.agrees n i)))

  -- one step more
  going_later : (d : ℕ) (m : Met) → Going d m → Going (suc d) m
  unfolding within
  going_later d m g = record {
    there = g.there;
    steps = rw (widened_more d s (r.root ∷ [])) (wider_old s (within d) m.id g.there g.steps);
    under = g.under;
  }

  -- what is below a node that is so is so
  going_below : (d : ℕ) → d < suc (length s.nodes) → (m j : Met) → Going d m → Memᴰ j (below_id s m.id) → Going (suc d) j
  unfolding within ids_below met_links
  going_below d l m j g =
      below_id_by (λ ms. Memᴰ j ms → Going (suc d) j) s m.id (λ i. absurd (Memᴰ.not-nil i))
      (λ n q i. let member = find_member s.nodes m.id n q in
      let same = find_id s.nodes m.id n q in
      let there = k.there n j.id member (member_map (λ (z : Met). z.id) (below s n) j i) in
      let far : has same_id (within d) n.id ≡ true = rw same g.steps in
      let room : length s.nodes ≡ length s.nodes - d + d = omega arith in
      let known : has same_id (reached s) n.id ≡ true =
      rw (reached_is, room) (widened_old (length s.nodes - d) d s (r.root ∷ []) n.id (member_present s n member) far) in
      record {
        there = there;
        steps = rw (widened_more d s (r.root ∷ [])) (wider_below s (within d) j.id there n member far i);
        under = Memᴰ.append_right (root_links s j.id) (below_links s (reached s) s.nodes n j member known i);
      })

  down_recorded : (room d : ℕ) (ms : List Met) → d + room ≤ suc (length s.nodes) → ((m : Met) → Memᴰ m ms → Going d m)
      → (m : Met) → Memᴰ m (down room s ms) → recorded s.nodes m ≡ true
  unfolding down
  down_recorded zero d ms l h m i = absurd (Memᴰ.not-nil i)
  down_recorded (suc room) d [] l h m i = absurd (Memᴰ.not-nil i)
  down_recorded (suc room) d (n ∷ ms) l h m i =
      ⊎_elim (λ q. rw q (going_recorded d n (h n (Memᴰ.head refl))))
      (λ j. down_recorded room (suc d) (below_id s n.id ++ ms) (omega arith)
      (λ x p. ⊎_elim (λ b. going_below d (omega arith) n x (h n (Memᴰ.head refl)) b) (λ b. going_later d x (h x (Memᴰ.tail b)))
      (Memᴰ.append_cases (below_id s n.id) p)) m j)
      (Memᴰ.cases_cons i)

  start : Met
  start = record { id = r.root; link = None }

  going_start : Going 0 start
  unfolding within start met_links
  going_start = record {
    there = r.there;
    steps = unfold widened in (rw (same_id_refl r.root));
    under = rw (r.is_the_root, same_id_refl r.root) (Memᴰ.head refl);
  }

  way : way_down s ≡ down (suc (length s.nodes)) s (start ∷ [])
  unfolding start
  way = way_down_from s r.root r.is_the_root

  all_recorded : all (recorded s.nodes) (way_down s) ≡ true
  all_recorded =
      all_of (recorded s.nodes) (way_down s)
      (λ m i. down_recorded (suc (length s.nodes)) 0 (start ∷ []) (omega arith) (λ x p. rw (Memᴰ.eq_of_singleton p) going_start) m (rw way at i))

  -- ## Every node is met

  single_met : (x : FullNodeId) → meets x (way_down s) ≤ 1
  unfolding start
  single_met x = rw way (once s (suc (length s.nodes)) r.root (rw way at all_recorded) x)

  short : length (way_down s) ≤ length s.nodes
  short = omega (arith, total_all s.nodes k.ordered (way_down s) all_recorded, (each_once s.nodes (way_down s) single_met).0)

  -- a node is met
  abbrev IsMet : FullNodeId → Type 0
  IsMet x = (m : Met) × Memᴰ m (way_down s) × (m.id ≡ x)

  root_met : IsMet r.root
  unfolding down start
  root_met = (start, rw way (Memᴰ.head refl), refl)

  -- so is what is below a node that is met
  below_met : (n : NodeState) (m : Met) → Memᴰ n s.nodes → IsMet n.id → Memᴰ m (below s n) → IsMet m.id
  unfolding below_id
  below_met n m i z j =
      let found : below_id s z.0.id ≡ below s n = rw (z.2, find_self s.nodes n k.ordered i, below_id) in
      let ends : length (down (suc (length s.nodes)) s (start ∷ [])) < suc (length s.nodes) = rw (← way) (omega (arith, short)) in
      (m, rw way (down_below s (suc (length s.nodes)) (start ∷ []) ends z.0 m (rw way at z.1) (rw found j)), refl)

  -- and every node that is reached
  reached_met : (d : ℕ) (x : FullNodeId) → has same_id (within d) x ≡ true → IsMet x
  unfolding within
  reached_met zero x e = subst IsMet (sym (Memᴰ.eq_of_singleton (has_member (r.root ∷ []) x (unfold widened in e)))) root_met
  reached_met (suc d) x e =
      ⊎_elim (λ q. reached_met d x q)
      (λ z. subst IsMet z.4 (below_met z.0 z.2 z.1 (reached_met d z.0.id z.5) z.3))
      (wider_cases s (within d) x (rw (widened_more d s (r.root ∷ [])) at e))

  known_met : (x : FullNodeId) → has same_id (reached s) x ≡ true → IsMet x
  known_met x e = reached_met (length s.nodes) x (rw reached_is at e)

  node_met : (n : NodeState) → Memᴰ n s.nodes → IsMet n.id
  unfolding met_links
  node_met n i = go (met_links s (reached s) n.id) refl
    where
      on : (l : Option ParentAndIndex) → Memᴰ l (met_links s (reached s) n.id) → IsMet n.id
      on l j =
          ⊎_elim
          (λ p. by_test (same_option same_id (root_of s) (Some n.id))
          (λ t. subst IsMet (same_id→≡ r.root n.id (rw r.is_the_root at t)) root_met)
          (λ t. absurd (Memᴰ.not-nil (rw t at p))))
          (λ p. let z = links_below_lem s (reached s) n.id s.nodes l p in
          subst IsMet z.4 (below_met z.0 z.2 z.1 (known_met z.0.id z.6) z.3))
          (Memᴰ.append_cases (root_links s n.id) j)

      go : (ls : List (Option ParentAndIndex)) → met_links s (reached s) n.id ≡ ls → IsMet n.id
      go [] q = absurd (k.met n i q)
      go (l ∷ ls) q = on l (rw q (Memᴰ.head refl))

  -- and so exactly once
  met_count : (x : FullNodeId) (ms : List Met) (m : Met) → Memᴰ m ms → m.id ≡ x → 1 ≤ meets x ms
  unfolding meets
  met_count x [] m x3 e = elim x3 [ ]
  met_count x (n ∷ ms) m (Memᴰ.head q) e =
      let same : same_id x n.id ≡ true = rw (← e, q) (same_id_refl n.id) in rw same (omega arith)
  met_count x (n ∷ ms) m (Memᴰ.tail i) e = let h = met_count x ms m i e in by_test (same_id x n.id) (λ t. rw t (omega arith)) (λ t. rw t h)

  all_once : all (met_once (way_down s)) s.nodes ≡ true
  unfolding met_once meets
  all_once =
      all_of (met_once (way_down s)) s.nodes
      (λ n i. let z = node_met n i in eq-eqb (meets n.id (way_down s)) 1
      (omega (arith, single_met n.id, met_count n.id (way_down s) z.0 z.1 z.2)))

  pub unbroken_sound : sound_shape s ≡ true
  unfolding sound_shape sound_links sound_trees way_ends
  unbroken_sound =
      joined (joined (joined (joined (joined all_once all_recorded) k.bare)
      (joined (joined (joined k.differ k.first) k.one_id) k.held)) k.ordered)
      (le-leb (length (way_down s)) (length s.nodes) short)

-- where no rule is found broken, the shape is sound
pub shape_complete : (s : Forest) → broken_shape s ≡ None → sound_shape s ≡ true
shape_complete s e = unbroken_sound s (unbroken s e)

-- ## The answers

-- so where the shape is not sound, a broken rule is found, and it is the first that is broken
pub shape_found : (s : Forest) → sound_shape s ≡ false → (b : Broken) × (broken_shape s ≡ Some b) × FirstOfShape s b
shape_found s e =
    by_option (broken_shape s) (λ q. absurd (clash e (shape_complete s q))) (λ b q. (b, q, shape_first s b q))

-- few children
abbrev pub few_children : NodeData → Bool
few_children d = leb (length d.children) 256

-- where no node has more than 256 children, a rule is found broken where the shape is not sound, and only there
pub shape_exact : (s : Forest) → all (λ n. few_children n.body) s.nodes ≡ true → is_none (broken_shape s) ≡ sound_shape s
unfolding Beyond Breaks rank
shape_exact s few = iff (λ e. shape_complete s (none_of (broken_shape s) e)) back
  where
    never : sound_shape s ≡ true → (b : Broken) → FirstOfShape s b → Beyond s b → ⊥
    never e tooManyNodes h y = omega (arith, h.asked.0)
    never e tooManyTrees h y = omega (arith, h.asked.0)
    never e (too_many_children p) h y =
        let z = h.breaks in
        omega (arith, z.3, leb-true (length z.0.body.children) 256 (all_member (λ n. few_children n.body) s.nodes z.0 few (at_member z.1)))
    never e (absent_below p x) h y = y
    never e (met_twice p) h y = y
    never e (never_met p d) h y = y
    never e (wrong_link p recorded met) h y = y
    never e (graft_with_children p) h y = y
    never e (grafted_twice g) h y = y
    never e root_not_first h y = y
    never e (tree_twice k t) h y = y
    never e (tree_unrooted k t) h y = y
    never e (out_of_order p) h y = y
    never e (broken_field p) h y = omega (arith, h.asked.1)
    never e no_focus h y = omega (arith, h.asked.1)

    back : sound_shape s ≡ true → is_none (broken_shape s) ≡ true
    back e =
        by_option (broken_shape s) (λ q. rw q)
        (λ b q. let h = shape_first s b q in absurd (never e b h (breaks_beyond s (shape_parts s e) b h.breaks)))

-- no rule of a sound state is found broken where the state is sound, and only there
pub state_complete : (s : Forest) → is_none (broken_state s) ≡ sound s
unfolding broken_state
state_complete s = iff there back
  where
    there : is_none (broken_state s) ≡ true → sound s ≡ true
    there e =
        let z = none_each
        ((if leb (length s.nodes) 256 then None else Some tooManyNodes)
        ∷ (if leb (length s.trees) 32 then None else Some tooManyTrees)
        ∷ broken_shape s
        ∷ at broken_field (spot (λ n. not (fields_ok n.body)) s.nodes)
        ∷ (if focus_present s then None else Some no_focus)
        ∷ []) (none_of (broken_state s) e) in
        let fields = none_made broken_field (spot (λ n. not (fields_ok n.body)) s.nodes) z.1.1.1.0 in
        sound_of s (record {
          shape = shape_complete s z.1.1.0;
          few_nodes = (none_unless (leb (length s.nodes) 256) tooManyNodes None z.0).0;
          few_trees = (none_unless (leb (length s.trees) 32) tooManyTrees None z.1.0).0;
          fields = all_of (λ n. fields_ok n.body) s.nodes (λ n i. not_false (spot_none 0 (λ n. not (fields_ok n.body)) s.nodes fields n i));
          focus = (none_unless (focus_present s) no_focus None z.1.1.1.1.0).0;
        })

    back : sound s ≡ true → is_none (broken_state s) ≡ true
    back e = by_option (broken_state s) (λ q. rw q) (λ b q. absurd (clash (state_broken s b q) e))

pub state_found : (s : Forest) → sound s ≡ false → (b : Broken) × (broken_state s ≡ Some b) × FirstOfState s b
state_found s e =
    by_option (broken_state s) (λ q. absurd (clash e (sym (state_complete s) ∙ ap is_none q))) (λ b q. (b, q, state_first s b q))
