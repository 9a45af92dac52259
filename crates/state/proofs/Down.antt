-- Laws of going down and climbing: in a sound shape each node is met once, under the link that it records, and climbs to the root.
-- Assumes nothing.
use mathlib.Core.Bool.{true, false≢true}
use mathlib.Core.List.Memᴰ
use mathlib.Core.List.{List, [], ◌∷◌, ◌++◌, Memᴰ}
use mathlib.Core.Logic.{⊎_elim}
use Rattle.std.specs.Prelude.{None, Some}
use mathlib.Core.Path.{◌≡◌, refl, sym, ap, ◌∙◌, subst}
use Prim.Native.Nat.{ℕ, zero, suc, ◌+◌, ◌≤◌, ◌<◌}
use native.Mathlib.Omega.{arith}
use native.Mathlib.Nat.{suc-add, not-suc-le-zero, le_of_suc-le-suc}
use lib.ListN.{length}
use borrow.Author.Tests.{eqb-true, leb-true}
use Rattle.base.specs.Tests.{all, count}
use Rattle.base.proofs.Cases.{by_test, by_option}
use Rattle.base.proofs.Tests.{both, same_option→≡, all_member}
use Rattle.ids.specs.Ids.{same_id}
use Rattle.ids.proofs.Ids.{same_id→≡}
use Rattle.ids.specs.declared.NodeId.{NodeId}
use Rattle.ids.specs.declared.FullNodeId.{FullNodeId}
use Rattle.record.specs.Batch.{graft?}
use Rattle.state.specs.State.{same_link, NodeState, Forest, find, present, link_at, subtree_of}
use Rattle.state.specs.declared.SubtreeState.{SubtreeState}
use Rattle.state.specs.Down.{Met, met_under, children_met, below, below_id, down, root_of, way_down, climb}
use Rattle.state.specs.Sound.{met_once, recorded}
use Rattle.state.proofs.State.{same_link→≡, find_id, all_find}
use Rattle.state.proofs.Sound.{Shape, Root}

-- ## The way down begins at the root, and more room meets no more

pub way_down_from : (s : Forest) (r : FullNodeId) → root_of s ≡ Some r → way_down s ≡ down (suc (length s.nodes)) s (record { id = r; link = None } ∷ [])
unfolding way_down
way_down_from s r e = rw (e, way_down) refl

pub down_room : (s : Forest) (r more : ℕ) (ms : List Met) → length (down r s ms) < r → down (r + more) s ms ≡ down r s ms
unfolding down
down_room s zero more ms h = absurd (not-suc-le-zero h)
down_room s (suc r) more [] h = rw suc-add refl
down_room s (suc r) more (m ∷ ms) h =
    rw suc-add (ap {B = List Met} (λ l. m ∷ l) (down_room s r more (below_id s m.id ++ ms) (le_of_suc-le-suc h)))

-- ## A recorded node has the link under which it was met

pub recorded_link : (ns : List NodeState) (m : Met) → recorded ns m ≡ true → link_at ns m.id ≡ m.link
unfolding recorded link_at
recorded_link ns m e =
    by_option (find m.id ns) (λ q. absurd (false≢true (rw (q, recorded) at e)))
    (λ n q. rw (q, link_at) (same_option→≡ same_link same_link→≡ n.parent_and_index m.link (rw (q, recorded) at e)))

-- ## One step down

-- what holds of the children, of nothing, and of a tree's root, holds of what is below a node
pub below_by : (P : List Met → Type 0) (s : Forest) (n : NodeState)
    → P (children_met n.id 0 n.body.children) → P [] → ((u : SubtreeState) → P (met_under n.id 0 u.root ∷ [])) → P (below s n)
unfolding below
below_by P s n children empty root =
    by_option (graft? n.body) (λ q. rw (q, below) children)
    (λ t q. by_option (subtree_of s t) (λ r. rw (q, below, r) empty) (λ u r. rw (q, below, r) (root u)))

-- and of nothing and of what is below a node, of what is below its id
pub below_id_by : (P : List Met → Type 0) (s : Forest) (x : FullNodeId) → P [] → ((n : NodeState) → find x s.nodes ≡ Some n → P (below s n)) → P (below_id s x)
unfolding below_id
below_id_by P s x empty node = by_option (find x s.nodes) (λ q. rw (q, below_id) empty) (λ n q. rw (q, below_id) (node n q))

-- m is met under p
abbrev pub Under : FullNodeId → Met → Type 0
Under p m = (i : ℕ) × (m.link ≡ Some (record { parent = p; index = i }))

children_under : (p : FullNodeId) (i : ℕ) (cs : List NodeId) (m : Met) → Memᴰ m (children_met p i cs) → Under p m
unfolding children_met met_under
children_under p i [] m e = absurd (Memᴰ.not-nil e)
children_under p i (c ∷ cs) m (Memᴰ.head q) = (i, ap (λ k. k.link) q)
children_under p i (c ∷ cs) m (Memᴰ.tail e) = children_under p (suc i) cs m e

-- what is below a node is met under it
pub below_under : (s : Forest) (n : NodeState) (m : Met) → Memᴰ m (below s n) → Under n.id m
unfolding met_under
below_under s n m =
    below_by (λ ms. Memᴰ m ms → Under n.id m) s n (children_under n.id 0 n.body.children m)
    (λ e. absurd (Memᴰ.not-nil e)) (λ u e. (0, ap (λ k. k.link) (Memᴰ.eq_of_singleton e)))

below_id_under : (s : Forest) (x : FullNodeId) (m : Met) → Memᴰ m (below_id s x) → Under x m
below_id_under s x m =
    below_id_by (λ ms. Memᴰ m ms → Under x m) s x (λ e. absurd (Memᴰ.not-nil e))
    (λ n q e. subst (λ y. Under y m) (find_id s.nodes x n q) (below_under s n m e))

-- ## Climbing

-- climbing from x reaches r in at most d steps
abbrev Good : List NodeState → FullNodeId → ℕ → FullNodeId → Type 0
Good ns r d x = (k : ℕ) × (k ≤ d) × (climb k ns x ≡ r)

-- so it does, if the node is recorded as it was met
abbrev Wait : List NodeState → FullNodeId → ℕ → Met → Type 0
Wait ns r d m = recorded ns m ≡ true → Good ns r d m.id

-- the first in at most d steps, the next in at most d + 1, and so on
abbrev Goods : List NodeState → FullNodeId → ℕ → List Met → Type 0
Goods ns r d [] = Unit {0}
Goods ns r d (m ∷ ms) = Good ns r d m.id × Goods ns r (suc d) ms

-- a node met under p
under_waits : (ns : List NodeState) (r : FullNodeId) (d : ℕ) (p : FullNodeId) (m : Met) → Good ns r d p → Under p m → Wait ns r (suc d) m
unfolding climb
under_waits ns r d p m g u e = (suc g.0, omega (arith, g.1), rw (recorded_link ns m e ∙ u.1, climb) g.2)

all_good : (s : Forest) (r : FullNodeId) (room d : ℕ) (ms : List Met) → ((m : Met) → Memᴰ m ms → Wait s.nodes r d m)
    → all (recorded s.nodes) (down room s ms) ≡ true → Goods s.nodes r d (down room s ms)
unfolding down
all_good s r zero d ms w e = tt
all_good s r (suc room) d [] w e = tt
all_good s r (suc room) d (m ∷ ms) w e = (g, all_good s r room (suc d) (below_id s m.id ++ ms) next (both e).1)
  where
    g : Good s.nodes r d m.id
    g = w m (Memᴰ.head refl) (both e).0

    next : (k : Met) → Memᴰ k (below_id s m.id ++ ms) → Wait s.nodes r (suc d) k
    next k i =
        ⊎_elim (λ b. under_waits s.nodes r d m.id k g (below_id_under s m.id k b))
        (λ b f. let z = w k (Memᴰ.tail b) f in (z.0, omega (arith, z.1), z.2))
        (Memᴰ.append_cases (below_id s m.id) i)

-- a node that is met climbs to r in fewer steps than were met up to it
reaches : (ns : List NodeState) (r x : FullNodeId) (d : ℕ) (ms : List Met) (c : ℕ) → Goods ns r d ms → count (λ m. same_id x m.id) ms ≡ suc c
    → (k : ℕ) × (k < d + length ms) × (climb k ns x ≡ r)
reaches ns r x d [] c g e = absurd (omega arith)
reaches ns r x d (m ∷ ms) c g e =
    by_test (same_id x m.id) (λ t. (g.0.0, omega (arith, g.0.1), rw (same_id→≡ x m.id t) g.0.2))
    (λ t. let z = reaches ns r x (suc d) ms c g.1 (rw t at e) in (z.0, omega (arith, z.1), z.2))

pub recorded_present : (ns : List NodeState) (m : Met) → recorded ns m ≡ true → present ns m.id ≡ true
unfolding recorded present
recorded_present ns m e = by_option (find m.id ns) (λ q. absurd (false≢true (rw (q, recorded) at e))) (λ n q. rw q)

first_recorded : (s : Forest) (room : ℕ) (m : Met) → all (recorded s.nodes) (down (suc room) s (m ∷ [])) ≡ true → recorded s.nodes m ≡ true
unfolding down
first_recorded s room m e = (both e).0

pub record Descent (s : Forest) (root : FullNodeId) : Type 0 where
  -- every node is met exactly once
  pub once : (x : FullNodeId) → present s.nodes x ≡ true → count (λ m. same_id x m.id) (way_down s) ≡ 1
  -- and nothing else
  pub only : (m : Met) → Memᴰ m (way_down s) → present s.nodes m.id ≡ true
  -- more room would meet no more
  pub whole : (more : ℕ) → down (suc (length s.nodes) + more) s (record { id = root; link = None } ∷ []) ≡ way_down s
  -- the root records no parent, every other node the link under which it was met
  pub parentless : link_at s.nodes root ≡ None
  pub parented : (m : Met) → Memᴰ m (way_down s) → link_at s.nodes m.id ≡ m.link
  -- climbing reaches the root in fewer steps than there are nodes
  pub climbs : (x : FullNodeId) → present s.nodes x ≡ true → (k : ℕ) × (k < length s.nodes) × (climb k s.nodes x ≡ root)

pub descent : (s : Forest) (h : Shape s) (r : Root s) → Descent s r.root
unfolding climb present met_once
descent s h r = record {
  once = one;
  only = λ m i. recorded_present s.nodes m (all_member (recorded s.nodes) (way_down s) m h.only i);
  whole = λ more. down_room s (suc (length s.nodes)) more (start ∷ []) short ∙ sym way;
  parentless = recorded_link s.nodes start (first_recorded s (length s.nodes) start only);
  parented = λ m i. recorded_link s.nodes m (all_member (recorded s.nodes) (way_down s) m h.only i);
  climbs = λ x e.
      let z = reaches s.nodes r.root x 0 (down (suc (length s.nodes)) s (start ∷ [])) 0 goods (rw (← way) (one x e)) in
      (z.0, omega (arith, z.1, short), z.2);
}
  where
    start : Met
    start = record { id = r.root; link = None }

    way : way_down s ≡ down (suc (length s.nodes)) s (start ∷ [])
    way = way_down_from s r.root r.is_the_root

    short : length (down (suc (length s.nodes)) s (start ∷ [])) < suc (length s.nodes)
    short = rw (← way) (omega (arith, leb-true (length (way_down s)) (length s.nodes) h.ends))

    only : all (recorded s.nodes) (down (suc (length s.nodes)) s (start ∷ [])) ≡ true
    only = rw way at h.only

    goods : Goods s.nodes r.root 0 (down (suc (length s.nodes)) s (start ∷ []))
    goods = all_good s r.root (suc (length s.nodes)) 0 (start ∷ []) (λ m i e. (0, omega arith, ap (λ k. k.id) (Memᴰ.eq_of_singleton i))) only

    one : (x : FullNodeId) → present s.nodes x ≡ true → count (λ m. same_id x m.id) (way_down s) ≡ 1
    one x e =
        by_option (find x s.nodes) (λ q. absurd (false≢true (rw q at e)))
        (λ n q. rw (← find_id s.nodes x n q) (eqb-true _ 1 (all_find (met_once (way_down s)) s.nodes x n h.once q)))

-- ## What is below a node that is met is met

-- a node that is met once is met
pub some_met : (x : FullNodeId) (ms : List Met) (c : ℕ) → count (λ m. same_id x m.id) ms ≡ suc c → (m : Met) × Memᴰ m ms × (m.id ≡ x)
some_met x [] c e = absurd (omega arith)
some_met x (m ∷ ms) c e =
    by_test (same_id x m.id) (λ t. (m, Memᴰ.head refl, sym (same_id→≡ x m.id t)))
    (λ t. let z = some_met x ms c (rw t at e) in (z.0, Memᴰ.tail z.1, z.2))

-- where room is left, all of the nodes that the way starts from are met
down_starts : (s : Forest) (room : ℕ) (ms : List Met) → length (down room s ms) < room → (m : Met) → Memᴰ m ms → Memᴰ m (down room s ms)
unfolding down
down_starts s (suc room) [] l m i = elim i [ ]
down_starts s zero ms l m i = absurd (not-suc-le-zero l)
down_starts s (suc room) (k ∷ ms) l m (Memᴰ.head q) = Memᴰ.head q
down_starts s (suc room) (k ∷ ms) l m (Memᴰ.tail i) =
    Memᴰ.tail (down_starts s room (below_id s k.id ++ ms) (le_of_suc-le-suc l) m (Memᴰ.append_right (below_id s k.id) i))

-- and what is below them
pub down_below : (s : Forest) (room : ℕ) (ms : List Met) → length (down room s ms) < room
    → (k m : Met) → Memᴰ k (down room s ms) → Memᴰ m (below_id s k.id) → Memᴰ m (down room s ms)
unfolding down
down_below s zero ms l k m i j = absurd (not-suc-le-zero l)
down_below s (suc room) [] l k m i j = absurd (Memᴰ.not-nil i)
down_below s (suc room) (n ∷ ms) l k m (Memᴰ.head q) j =
    Memᴰ.tail (down_starts s room (below_id s n.id ++ ms) (le_of_suc-le-suc l) m
    (Memᴰ.append_left ms (subst (λ (x : Met). Memᴰ m (below_id s x.id)) q j)))
down_below s (suc room) (n ∷ ms) l k m (Memᴰ.tail i) j = Memᴰ.tail (down_below s room (below_id s n.id ++ ms) (le_of_suc-le-suc l) k m i j)

-- what holds of the nodes that the way starts from, and of what is below each of which it holds, holds of all that is met
pub down_each : (P : Met → Type 0) (s : Forest) → ((k m : Met) → P k → Memᴰ m (below_id s k.id) → P m)
    → (room : ℕ) (ms : List Met) → ((m : Met) → Memᴰ m ms → P m) → (m : Met) → Memᴰ m (down room s ms) → P m
unfolding down
down_each P s f zero ms h m e = absurd (Memᴰ.not-nil e)
down_each P s f (suc room) [] h m e = absurd (Memᴰ.not-nil e)
down_each P s f (suc room) (k ∷ ms) h m (Memᴰ.head q) = h m (Memᴰ.head q)
down_each P s f (suc room) (k ∷ ms) h m (Memᴰ.tail i) =
    down_each P s f room (below_id s k.id ++ ms)
    (λ j q. ⊎_elim (f k j (h k (Memᴰ.head refl))) (λ b. h j (Memᴰ.tail b)) (Memᴰ.append_cases (below_id s k.id) q)) m i

-- so of the whole way down, if it holds of the root
pub way_each : (P : Met → Type 0) (s : Forest) (r : Root s) → P (record { id = r.root; link = None })
    → ((k m : Met) → P k → Memᴰ m (below_id s k.id) → P m) → (m : Met) → Memᴰ m (way_down s) → P m
way_each P s r p f m i =
    let start : Met = record { id = r.root; link = None } in
    down_each P s f (suc (length s.nodes)) (start ∷ []) (λ j q. subst P (sym (Memᴰ.eq_of_singleton q)) p) m
    (rw (way_down_from s r.root r.is_the_root) at i)

-- in a sound shape, what is below a node that is met is met
pub below_met : (s : Forest) (h : Shape s) (r : Root s) (k m : Met) → Memᴰ k (way_down s) → Memᴰ m (below_id s k.id) → Memᴰ m (way_down s)
below_met s h r k m i j =
    let way = way_down_from s r.root r.is_the_root in
    let start : List Met = record { id = r.root; link = None } ∷ [] in
    let short : length (down (suc (length s.nodes)) s start) < suc (length s.nodes) =
    rw (← way) (omega (arith, leb-true (length (way_down s)) (length s.nodes) h.ends)) in
    rw way (down_below s (suc (length s.nodes)) start short k m (rw way at i) j)
