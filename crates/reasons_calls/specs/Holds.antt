-- What a reason says: for each row of document 01's table the fact that makes it hold; for a broken rule of a state see reasons/Breaks. Every
-- reason that a call gets holds: proofs/Truth. Two that hold have one number and agree in what they say of one node, child, tree or rule:
-- proofs/Only. Assumes nothing.
use Rattle.std.specs.Prelude.{Bool, true, false, not, ◌≡◌, ℕ, zero, suc, ◌≤◌, ◌<◌, leb, length, if◌then◌else◌, Option, None, Some}
use mathlib.Core.List.{List, [], ◌∷◌, Memᴰ}
use Rattle.base.specs.Tests.{◌and◌, is_some, is_none, is_nil, count}
use Rattle.ids.specs.Ids.{ROOT, same_tree, same_node, same_id}
use Rattle.ids.specs.declared.TreeId.{TreeId}
use Rattle.ids.specs.declared.NodeId.{NodeId}
use Rattle.ids.specs.declared.FullNodeId.{FullNodeId}
use Rattle.record.specs.Batch.{graft?, Listed, Batch, listed_ids}
use Rattle.record.specs.Layout.{node_count, record_at}
use Rattle.record.specs.Parse.{data_of, children_before, labels_before, parse}
use Rattle.record_rules.specs.declared.Offence.{Offence}
use Rattle.record_rules.specs.Rules.{first_broken, header_rules, record_rules, total_rules}
use Rattle.state.specs.State.{ParentAndIndex, NodeState, Forest, State, present, graft_at, link_at, holder, subtree_of}
use Rattle.state.specs.declared.SubtreeState.{SubtreeState}
use Rattle.state.specs.Down.{root_of}
use Rattle.state.specs.Focus.{effective_focus}
use Rattle.state.specs.Sound.{sound_shape, sound}
use Rattle.update.specs.Words.{known, here, listed, with_tree_data, claim}
use Rattle.update.specs.Pass.{places, events, pass}
use Rattle.update.specs.Gone.{goes, asParent, replaced, fate}
use Rattle.update.specs.Outcome.{outcome}
use Rattle.update.specs.Reports.{changes_of, change_words}
use Rattle.update.specs.Numbers.{absent, placeless, nowhere, updated_and_removed}
use Rattle.update.specs.Calls.{update, seed, without_tree_data, start}
use Rattle.reasons.specs.Reasons.{Dropped, Broken, Reason, accepted, unsound_state, broken_record, no_tree_data, not_root, listed_twice, notGrafted}
use Rattle.reasons.specs.Reasons.{notExisting, noNumberLeft, named_twice, graftOverChildren, graftOfRoot, claimed_twice, claimed_from_holder}
use Rattle.reasons.specs.Reasons.{without_place, child_nowhere, focus_into_nothing, root_absent, focus_absent, updated_and_gone, unsound_outcome, too_many}
use Rattle.reasons.specs.Reasons.{slice_too_short, number_of, last_of}
use Rattle.reasons.specs.Breaks.{At, Up, FirstOfState, FirstOfShape}

-- ## A batch

-- a node that the batch lists, with this id, is so
abbrev pub Lists : Forest → Batch → FullNodeId → (Listed → Type 0) → Type 0
Lists s b x P = (l : Listed) × Memᴰ l b.nodes × (here s b l.id ≡ x) × P l

-- x so many times, then xs
abbrev pub times : {A : Type 0} → ℕ → A → List A → List A
times zero x xs = xs
times (suc k) x xs = x ∷ times k x xs

-- the nodes among some listed that name n, in their order, each as often as it does
abbrev pub namers : Forest → Batch → NodeId → List Listed → List FullNodeId
namers s b n [] = []
namers s b n (l ∷ ls) = times (count (same_node n) l.body.children) (here s b l.id) (namers s b n ls)

-- a listed node that has a place claims the tree
abbrev pub Claims : Forest → Batch → FullNodeId → TreeId → Type 0
Claims s b x t = Lists s b x (λ l. (placeless s b l ≡ false) × (claim s b l ≡ Some t))

-- the listed node that is placed at this moment of the pass claims the tree
abbrev pub ClaimsWhen : Forest → Batch → ℕ → FullNodeId → TreeId → Type 0
ClaimsWhen s b i x t = (l : Listed) × At (places l) (events s b [] b.nodes) i × (here s b l.id ≡ x) × (claim s b l ≡ Some t)

-- a node of a forest grafts the tree
abbrev pub Grafts : Forest → FullNodeId → TreeId → Type 0
Grafts s x t = (n : NodeState) × Memᴰ n s.nodes × (n.id ≡ x) × (graft? n.body ≡ Some t)

-- The way through the grafts from x on: each next node is the focus of the tree that the one before it grafts.
pub data Way (s : Forest) : FullNodeId → List FullNodeId → Type 0 where
  ends : {x : FullNodeId} → Way s x (x ∷ [])
  on : {x : FullNodeId} {t : TreeId} {u : SubtreeState} {xs : List FullNodeId}
      → graft_at s.nodes x ≡ Some t → subtree_of s t ≡ Some u → Way s u.focus xs → Way s x (x ∷ xs)

-- from ROOT's focus on to a last node that is so
abbrev pub FocusWay : Forest → List FullNodeId → (FullNodeId → Type 0) → Type 0
FocusWay s way P =
    (u : SubtreeState) × (subtree_of s ROOT ≡ Some u) × Way s u.focus way × (x : FullNodeId) × (last_of way ≡ Some x) × P x

-- Why an old node goes by itself: it was the root, and is replaced; or it is its fate under the parent that it records, which is named if it is
-- listed.
pub data Goes (s : Forest) (b : Batch) (d : Dropped) : Type 0 where
  as_root : link_at s.nodes d.node ≡ None → replaced s b d.node ≡ true → d.by ≡ None → Goes s b d
  from : (l : ParentAndIndex) → link_at s.nodes d.node ≡ Some l → fate s b d.node l ≡ goes
      → d.by ≡ (if listed s b l.parent then Some l.parent else None) → Goes s b d

-- climbing from x by the old links reaches the node, which goes by itself; every node below it on the way fares as its parent does
pub record Drops (s : Forest) (b : Batch) (x : FullNodeId) (d : Dropped) : Type 0 where
  pub steps : ℕ
  pub above : Up s.nodes (λ z l. fate s b z l ≡ asParent) steps x d.node
  pub why : Goes s b d

unfoldable pub OfBatch : Forest → Batch → Reason → Type 0
-- 5: the node is listed at both places, and no node is listed twice before the second
OfBatch s b (listed_twice x i j) =
    (n : NodeId) × (here s b n ≡ x) × (i < j) × At n (listed_ids b.nodes) i × At n (listed_ids b.nodes) j
    × ((m : NodeId) (k l : ℕ) → At m (listed_ids b.nodes) k → At m (listed_ids b.nodes) l → k < l → l < j → ⊥)
-- 6: tree data for a tree other than ROOT that no node grafts
OfBatch s b (notGrafted t) = (b.tree ≡ t) × (with_tree_data s b and not (same_tree t ROOT) and is_none (holder s.nodes t) ≡ true)
-- 7: no tree data, for a tree that does not exist
OfBatch s b (notExisting t) = (b.tree ≡ t) × (not (with_tree_data s b) and not (same_tree t ROOT) and is_none (subtree_of s t) ≡ true)
-- 8: a new tree id, and all numbers taken
OfBatch s b (noNumberLeft t) = (b.tree ≡ t) × (not (known s b) and leb 32 (length s.trees) ≡ true)
-- 9: the child is named at least twice, by these nodes in this order
OfBatch s b (named_twice c by) = (n : NodeId) × (here s b n ≡ c) × (2 ≤ length by) × (namers s b n b.nodes ≡ by)
-- 10: the listed node has a place, a graft and children
OfBatch s b (graftOverChildren x) =
    Lists s b x (λ l. (placeless s b l ≡ false) × (is_some (graft? l.body) ≡ true) × (is_nil l.body.children ≡ false))
-- 11: it claims ROOT
OfBatch s b (graftOfRoot x) = Claims s b x ROOT
-- 12: one listed node claims the tree when it is placed, and the next to claim it is another
OfBatch s b (claimed_twice t x y) =
    (same_id x y ≡ false)
    × (i j : ℕ) × (i < j) × ClaimsWhen s b i x t × ClaimsWhen s b j y t
    × ((k : ℕ) (z : FullNodeId) → k < j → ClaimsWhen s b k z t → k ≡ i)
-- 12: the pass meets no row; two nodes of the outcome graft the tree; the one held it before, the other claims it
OfBatch s b (claimed_from_holder t x y) =
    (pass s b ≡ 0) × (same_id x y ≡ false)
    × Grafts (outcome s b) x t × Grafts (outcome s b) y t × (graft_at s.nodes x ≡ Some t) × Claims s b y t
-- 13: the node listed at this place is left without a place
OfBatch s b (without_place x i) = (l : Listed) × At l b.nodes i × (here s b l.id ≡ x) × (placeless s b l ≡ true)
-- 14: the listed node names the child, which is neither present nor listed
OfBatch s b (child_nowhere x c) =
    Lists s b x (λ l. (n : NodeId) × Memᴰ n l.body.children × (here s b n ≡ c) × (nowhere s b n ≡ true))
-- 15: ROOT does not exist, and there is no way; or the last node on the way grafts a tree that does not exist
OfBatch s b (focus_into_nothing None way) = (way ≡ []) × (subtree_of (outcome s b) ROOT ≡ None)
OfBatch s b (focus_into_nothing (Some t) way) =
    FocusWay (outcome s b) way (λ x. (graft_at (outcome s b).nodes x ≡ Some t) × (subtree_of (outcome s b) t ≡ None))
-- 16: ROOT's root is absent
OfBatch s b (root_absent r) = (root_of (outcome s b) ≡ r) × (absent (outcome s b).nodes r ≡ true)
-- 17: the effective focus, the last node on the way, is absent
OfBatch s b (focus_absent way) =
    FocusWay (outcome s b) way (λ x. (effective_focus (outcome s b) ≡ Some x) × (present (outcome s b).nodes x ≡ false))
-- 18: the listed node is updated and removed; the node above it, or itself, goes by itself
OfBatch s b (updated_and_gone x None) = ⊥
OfBatch s b (updated_and_gone x (Some d)) = Lists s b x (λ l. updated_and_removed s b l ≡ true) × Drops s b x d
-- 19: the outcome is not sound: of the rules for links, trees and the order of the nodes this is the first that it breaks
OfBatch s b (unsound_outcome None) = ⊥
OfBatch s b (unsound_outcome (Some broken)) = (sound_shape (outcome s b) ≡ false) × FirstOfShape (outcome s b) broken
-- 20: the outcome has so many nodes, more than 256
OfBatch s b (too_many n) = (length (outcome s b).nodes ≡ n) × (256 < n)
-- no other reason is a batch's
OfBatch s b accepted = ⊥
OfBatch s b (unsound_state broken) = ⊥
OfBatch s b (broken_record o) = ⊥
OfBatch s b no_tree_data = ⊥
OfBatch s b (not_root t) = ⊥
OfBatch s b (slice_too_short n room) = ⊥

-- ## A record

-- the first of some rules that is broken
pub data FirstOffence (o : Offence) : List (Option Offence) → Type 0 where
  this : {os : List (Option Offence)} → FirstOffence o (Some o ∷ os)
  later : {os : List (Option Offence)} → FirstOffence o os → FirstOffence o (None ∷ os)

-- the rules of node record i
abbrev pub rules_at : List ℕ → ℕ → List (Option Offence)
rules_at bytes i = record_rules bytes (record_at i) (data_of bytes (record_at i)) (children_before bytes i) (labels_before bytes i)

-- all of some rules are kept
abbrev pub Kept : List (Option Offence) → Type 0
Kept os = first_broken os ≡ None

-- those of the header and of the node records before i are kept
abbrev pub KeptBefore : List ℕ → ℕ → Type 0
KeptBefore bytes i = Kept (header_rules bytes) × ((j : ℕ) → j < i → Kept (rules_at bytes j))

-- the first rule that is broken, at this offset: of the header, of a node record, of the totals
pub data Offends (bytes : List ℕ) (o : Offence) : Type 0 where
  in_header : FirstOffence o (header_rules bytes) → Offends bytes o
  in_record : (i : ℕ) → i < node_count bytes → KeptBefore bytes i → FirstOffence o (rules_at bytes i) → Offends bytes o
  in_totals : KeptBefore bytes (node_count bytes) → FirstOffence o (total_rules bytes) → Offends bytes o

-- ## A call

-- what the reason of a batch on a state says, with so many elements lent
pub data Says (s : State) (bytes : List ℕ) (room : ℕ) : Reason → Type 0 where
  -- 0: no row holds, which is what the number says
  no_row : Says s bytes room accepted
  -- 1: the state is not sound: this is the first rule that it breaks
  row_1 : {broken : Broken} → sound s.forest ≡ false → FirstOfState s.forest broken → Says s bytes room (unsound_state (Some broken))
  -- 2: the bytes are no record: this is the first rule that they break
  row_2 : {o : Offence} → parse bytes ≡ None → Offends bytes o → Says s bytes room (broken_record o)
  -- 5 to 20
  of_batch : {r : Reason} (b : Batch) → parse bytes ≡ Some b → OfBatch s.forest b r → Says s bytes room r
  -- 21: the lists take so many elements, and fewer are lent
  row_21 : {n : ℕ} (b : Batch) → parse bytes ≡ Some b → length (change_words (changes_of s.forest b)) ≡ n → room < n
      → Says s bytes room (slice_too_short n room)

-- The reason holds: the call answers its number, whatever the elements lent, and what it says is so.
pub record Holds (s : State) (bytes : List ℕ) (room : ℕ) (r : Reason) : Type 0 where
  pub answers : (slice : List ℕ) → length slice ≡ room → (update s bytes slice).number ≡ number_of r
  pub says : Says s bytes room r

-- of a start
pub data StartSays (bytes : List ℕ) : Reason → Type 0 where
  no_start_row : StartSays bytes accepted
  start_row_2 : {o : Offence} → parse bytes ≡ None → Offends bytes o → StartSays bytes (broken_record o)
  -- 3: no tree data. 4: for a tree other than ROOT
  row_3 : (b : Batch) → parse bytes ≡ Some b → b.root ≡ None → StartSays bytes no_tree_data
  row_4 : (b : Batch) → parse bytes ≡ Some b → same_tree b.tree ROOT ≡ false → StartSays bytes (not_root b.tree)
  -- 5 to 20
  of_start : {r : Reason} (b : Batch) → parse bytes ≡ Some b → OfBatch (seed b) (without_tree_data b) r → StartSays bytes r

-- it holds: the start answers its number, whatever the host's flag
pub record StartHolds (bytes : List ℕ) (r : Reason) : Type 0 where
  pub answers : (host : Bool) → (start bytes host).number ≡ number_of r
  pub says : StartSays bytes r
