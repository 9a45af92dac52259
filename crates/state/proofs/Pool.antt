-- A sound shape names fewer children than it has nodes: the way down meets each node once, and all but the root below another. Assumes nothing.
use mathlib.Core.Bool.{true, false≢true}
use mathlib.Core.List.{List, [], ◌∷◌, ◌++◌, map, Memᴰ}
use Rattle.std.specs.Prelude.{None}
use mathlib.Core.Path.{◌≡◌, refl, ap, ◌∙◌, subst}
use Prim.Native.Nat.{ℕ, zero, suc, ◌+◌, ◌≤◌, ◌<◌}
use native.Mathlib.Nat.{not-suc-le-zero, le_of_suc-le-suc}
use native.Mathlib.Omega.{arith}
use lib.ListN.{length, length-append}
use borrow.Author.Tests.{eqb-true, leb-true}
use Rattle.base.specs.Tests.{is_nil, all, count, has}
use Rattle.base.proofs.Cases.{by_option}
use Rattle.base.proofs.Tests.{all_member}
use Rattle.base.proofs.Lists.{all_map, all_of, has_map}
use Rattle.base.proofs.Sums.{sum_over, sum_most, sum_among}
use Rattle.ids.specs.Ids.{same_id}
use Rattle.ids.proofs.Ids.{same_id→≡, same_id_refl}
use Rattle.ids.specs.declared.NodeId.{NodeId}
use Rattle.ids.specs.declared.FullNodeId.{FullNodeId}
use Rattle.record.specs.Batch.{graft?}
use Rattle.state.specs.State.{NodeState, ids_of, Forest}
use Rattle.state.specs.Down.{Met, children_met, below, below_id, down, way_down}
use Rattle.state.specs.Sound.{met_once, graft_is_bare}
use Rattle.state.proofs.State.{find_self}
use Rattle.state.proofs.Sound.{Shape, root_of_shape}
use Rattle.state.proofs.Down.{way_down_from, some_met}
use Rattle.state.proofs.Ends.{distinct_ids}

-- how many children the nodes name, all together
unfoldable pub child_total : List NodeState → ℕ
child_total ns = sum_over (λ n. length n.body.children) ns

-- ## One step down

-- as many children are met as are named
length_children_met : (p : FullNodeId) (i : ℕ) (cs : List NodeId) → length (children_met p i cs) ≡ length cs
unfolding children_met
length_children_met p i [] = refl
length_children_met p i (c ∷ cs) = ap suc (length_children_met p (suc i) cs)

-- as many are met below a node as it names children, or more
children_below : (s : Forest) (n : NodeState) → graft_is_bare n ≡ true → length n.body.children ≤ length (below s n)
unfolding graft_is_bare below
children_below s n e =
    by_option (graft? n.body) (λ q. rw (q, below) (omega (arith, length_children_met n.id 0 n.body.children)))
    (λ t q. let empty : length n.body.children ≡ 0 = no_children n.body.children (rw q at e) in omega arith)
  where
    no_children : (cs : List NodeId) → is_nil cs ≡ true → length cs ≡ 0
    no_children [] f = refl
    no_children (c ∷ cs) f = absurd (false≢true f)

module _ (s : Forest) where
  -- how many are met below an id
  below_count : FullNodeId → ℕ
  below_count x = length (below_id s x)

  -- the ids of what is met
  met_ids : List Met → List FullNodeId
  met_ids ms = map (λ m. m.id) ms

  -- a node that stands in order names no more children than are met below its id
  children_met_lem : (n : NodeState) → Shape s → Memᴰ n s.nodes → length n.body.children ≤ below_count n.id
  unfolding below_count below_id
  children_met_lem n h i = rw (find_self s.nodes n h.ordered i, below_id) (children_below s n (all_member graft_is_bare s.nodes n h.bare i))

  -- where room is left, all that is met was there at the start or is below what is met
  down_length : (room : ℕ) (ms : List Met) → length (down room s ms) < room
      → length (down room s ms) ≡ length ms + sum_over below_count (met_ids (down room s ms))
  unfolding down met_ids below_count
  down_length zero ms l = absurd (not-suc-le-zero l)
  down_length (suc room) [] l = refl
  down_length (suc room) (m ∷ ms) l =
      omega (arith, down_length room (below_id s m.id ++ ms) (le_of_suc-le-suc l), length-append (below_id s m.id) ms)

  -- all but the root are met below another
  way_length : Shape s → length (way_down s) ≡ 1 + sum_over below_count (met_ids (way_down s))
  way_length h =
      let r = root_of_shape s h in
      let way = way_down_from s r.root r.is_the_root in
      let start : List Met = record { id = r.root; link = None } ∷ [] in
      let short : length (down (suc (length s.nodes)) s start) < suc (length s.nodes) =
      rw (← way) (omega (arith, leb-true (length (way_down s)) (length s.nodes) h.ends)) in
      rw way (down_length (suc (length s.nodes)) start short)

  -- every node is met
  all_met : Shape s → all (has same_id (met_ids (way_down s))) (ids_of s.nodes) ≡ true
  unfolding ids_of met_ids met_once
  all_met h =
      all_map (has same_id (met_ids (way_down s))) (λ n. n.id) s.nodes
      ∙ all_of (λ n. has same_id (met_ids (way_down s)) n.id) s.nodes
      (λ n i.
      let once = eqb-true (count (λ m. same_id n.id m.id) (way_down s)) 1 (all_member (met_once (way_down s)) s.nodes n h.once i) in
      let met = some_met n.id (way_down s) 0 once in
      subst (λ (x : FullNodeId). has same_id (met_ids (way_down s)) x ≡ true) met.2 (has_map same_id same_id_refl (λ m. m.id) (way_down s) met.0 met.1))

-- a sum over the ids is one over the nodes
sum_ids : (f : FullNodeId → ℕ) (ns : List NodeState) → sum_over f (ids_of ns) ≡ sum_over (λ n. f n.id) ns
unfolding ids_of
sum_ids f [] = refl
sum_ids f (n ∷ ns) = rw (sum_ids f ns)

-- a sound shape names fewer children than it has nodes
pub children_few : (s : Forest) → Shape s → child_total s.nodes < length s.nodes
unfolding child_total
children_few s h =
    omega (
      arith,
      sum_most (λ n. length n.body.children) (λ n. below_count s n.id) s.nodes (λ n i. children_met_lem s n h i),
      sum_ids (below_count s) s.nodes,
      sum_among same_id same_id→≡ (below_count s) (ids_of s.nodes) (met_ids s (way_down s)) (distinct_ids s.nodes h.ordered) (all_met s h),
      way_length s h,
      leb-true (length (way_down s)) (length s.nodes) h.ends,
    )
