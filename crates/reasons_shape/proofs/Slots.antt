-- The nodes of a state one slot after another: what is left of them from slot i on, and the first node that passes a test. Assumes nothing.
use mathlib.Core.Bool.{Bool, true, false, not, true≢false}
use mathlib.Core.List.{List, [], ◌∷◌}
use mathlib.Core.Path.{◌≡◌, refl, sym, ap, ◌∙◌}
use Prim.Native.Nat.{ℕ, zero, suc, ◌+◌, ◌≤◌, ◌<◌}
use native.Mathlib.Nat.{add-zero, zero-add}
use native.Mathlib.Omega.{arith}
use lib.Dec.{ltb, leb}
use lib.ListN.{length, drop}
use borrow.Author.Tests.{lt-ltb, le-ltb, lt-leb, le-leb}
use Rattle.std.specs.Prelude.{if◌then◌else◌, None, Some, Option}
use Rattle.base.specs.Tests.{◌and◌, is_some, all}
use Rattle.base.specs.Bytes.{list_of}
use Rattle.base.specs.Search.{First}
use Rattle.base.proofs.Bytes.{length_list_of}
use Rattle.base.proofs.Cases.{by_test}
use Rattle.base.proofs.Rest.{list_from, list_past, Rest, rest_start, rest_more}
use Rattle.base.proofs.Search.{first_later, ltb_suc}
use Rattle.base.proofs.Tests.{call_true, call_false}
use Rattle.ids.specs.Ids.{before}
use Rattle.ids.specs.declared.FullNodeId.{FullNodeId}
use Rattle.record.specs.Batch.{fields_ok}
use Rattle.reasons.specs.Reasons.{Spot, Broken, tooManyNodes, tooManyTrees, broken_field}
use Rattle.reasons.specs.Shape.{spot_from, at, disorder_from}
use Rattle.reasons_why.specs.Why.{why_broken}
use Rattle.reasons_why.specs.declared.Why.{Why}
use Rattle.state.specs.State.{NodeState}
use Rattle.state_array.specs.View.{id_in, body_in, node_in, entry_in, slots_of, trees_of, view}
use Rattle.reasons_shape.specs.Rules.{rule_why, node_why}

module _ (s : List ℕ) where
  -- the nodes of a state
  abbrev pub nodes : List NodeState
  nodes = (view s).forest.nodes

  pub nodes_at : (i : ℕ) → i < slots_of s → drop i nodes ≡ node_in s i ∷ drop (i + 1) nodes
  unfolding view
  nodes_at i h = list_from (slots_of s) (node_in s) i h

  pub nodes_past : (i : ℕ) → slots_of s ≤ i → drop i nodes ≡ []
  unfolding view
  nodes_past i h = list_past (slots_of s) (node_in s) i h

  pub nodes_many : length nodes ≡ slots_of s
  unfolding view
  nodes_many = length_list_of (slots_of s) (node_in s)

  pub trees_many : length (view s).forest.trees ≡ trees_of s
  unfolding view
  trees_many = length_list_of (trees_of s) (entry_in s)

-- ## The first node that passes a test

-- no slot before i does
pub record Seeking (s : List ℕ) (q : NodeState → Bool) (i : ℕ) : Type 0 where
  pub rest : Rest (λ k. spot_from k q) (nodes s) i

pub seeking_start : {s : List ℕ} {q : NodeState → Bool} → Seeking s q 0
seeking_start = record { rest = rest_start }

module _ {s : List ℕ} {q : NodeState → Bool} {i n : ℕ} (g : Seeking s q i) (slots : n ≡ slots_of s) where
  seeking_end : n ≤ i → spot_from 0 q (nodes s) ≡ None
  unfolding spot_from
  seeking_end h = sym g.rest.same ∙ rw (nodes_past s i (rw slots at h))

  module _ (l : i < n) where
    pub seeking_more : q (node_in s i) ≡ false → Seeking s q (i + 1)
    unfolding spot_from
    seeking_more e = record { rest = rest_more g.rest (nodes_at s i (rw slots at l)) (rw e) }

    pub seeking_here : q (node_in s i) ≡ true → spot_from 0 q (nodes s) ≡ Some (record { slot = i; id = id_in s i })
    unfolding spot_from node_in
    seeking_here e = sym g.rest.same ∙ rw (nodes_at s i (rw slots at l), e)

  -- a rule that names the first such node, in a reason of number k
  module _ (f : Spot → Broken) {k : ℕ} {w : Why} where
    pub spot_kept : n ≤ i → w ≡ rule_why k 0 → w ≡ why_broken k (at f (spot_from 0 q (view s).forest.nodes))
    unfolding why_broken
    spot_kept h e = e ∙ rw (seeking_end h)

    pub spot_broken : {rule : ℕ} → ((x : Spot) → why_broken k (Some (f x)) ≡ node_why k rule x.slot (Some x.id) None None)
        → i < n → q (node_in s i) ≡ true → {y : Option FullNodeId} → y ≡ Some (id_in s i)
        → w ≡ node_why k rule i y None None → w ≡ why_broken k (at f (spot_from 0 q (view s).forest.nodes))
    spot_broken says l e is t = t ∙ rw (seeking_here l e, is) (sym (says (record { slot = i; id = id_in s i })))

-- what a search by index finds
spot_from_lem : (q : NodeState → Bool) (k n : ℕ) (f : ℕ → NodeState) (r : ℕ) → First (λ i. q (f i)) n r
    → spot_from k q (list_of n f) ≡ (if ltb r n then Some (record { slot = k + r; id = (f r).id }) else None)
unfolding spot_from list_of
spot_from_lem q k zero f r h = rw (le-ltb r zero (omega arith))
spot_from_lem q k (suc n) f zero h = rw (lt-ltb zero (suc n) (omega arith), h.hit (omega arith), add-zero k)
spot_from_lem q k (suc n) f (suc r) h =
    let next : suc k + r ≡ k + suc r = omega arith in
    rw (ltb_suc r n, h.passed zero (omega arith), ← next) (spot_from_lem q (suc k) n (λ i. f (suc i)) r (first_later (λ i. q (f i)) n r h))

module _ (s : List ℕ) (q : NodeState → Bool) {n r : ℕ} (slots : n ≡ slots_of s) (first : First (λ i. q (node_in s i)) (slots_of s) r) where
  pub spot_there : r < n → spot_from 0 q (view s).forest.nodes ≡ Some (record { slot = r; id = id_in s r })
  unfolding view node_in
  spot_there h = spot_from_lem q 0 (slots_of s) (node_in s) r first ∙ rw (lt-ltb r (slots_of s) (rw slots at h), zero-add r)

  pub spot_nowhere : n ≤ r → spot_from 0 q (view s).forest.nodes ≡ None
  unfolding view
  spot_nowhere h = spot_from_lem q 0 (slots_of s) (node_in s) r first ∙ rw (le-ltb r (slots_of s) (rw slots at h))

-- where there is none, each node fails
spot_none : (q : NodeState → Bool) (k n : ℕ) (f : ℕ → NodeState) → spot_from k q (list_of n f) ≡ None → (i : ℕ) → i < n → q (f i) ≡ false
unfolding spot_from list_of
spot_none q k zero f e i h = absurd (omega arith)
spot_none q k (suc n) f e zero h = by_test (q (f 0)) (λ t. absurd (true≢false (ap (λ o. is_some o) (rw t at e)))) (λ t. t)
spot_none q k (suc n) f e (suc i) h =
    by_test (q (f 0)) (λ t. absurd (true≢false (ap (λ o. is_some o) (rw t at e))))
    (λ t. spot_none q (suc k) n (λ j. f (suc j)) (rw t at e) i (omega arith))

pub none_passes : (s : List ℕ) (q : NodeState → Bool) → spot_from 0 q (view s).forest.nodes ≡ None → (i : ℕ) → i < slots_of s → q (node_in s i) ≡ false
unfolding view
none_passes s q e = spot_none q 0 (slots_of s) (node_in s) e

-- ## Rules 1, 2 and 14

-- how many nodes and trees there are
module _ (s : List ℕ) {k n : ℕ} {w : Why} where
  pub few_nodes : n ≡ slots_of s → n ≤ 256 → w ≡ rule_why k 0 → w ≡ why_broken k (if leb (length (view s).forest.nodes) 256 then None else Some tooManyNodes)
  unfolding why_broken
  few_nodes slots h e = e ∙ rw (nodes_many s, le-leb (slots_of s) 256 (rw slots at h))

  pub many_nodes : n ≡ slots_of s → 256 < n → w ≡ rule_why k 1 → w ≡ why_broken k (if leb (length (view s).forest.nodes) 256 then None else Some tooManyNodes)
  unfolding why_broken
  many_nodes slots h e = e ∙ rw (nodes_many s, lt-leb (slots_of s) 256 (rw slots at h))

  pub few_trees : n ≡ trees_of s → n ≤ 32 → w ≡ rule_why k 0 → w ≡ why_broken k (if leb (length (view s).forest.trees) 32 then None else Some tooManyTrees)
  unfolding why_broken
  few_trees trees h e = e ∙ rw (trees_many s, le-leb (trees_of s) 32 (rw trees at h))

  pub many_trees : n ≡ trees_of s → 32 < n → w ≡ rule_why k 2 → w ≡ why_broken k (if leb (length (view s).forest.trees) 32 then None else Some tooManyTrees)
  unfolding why_broken
  many_trees trees h e = e ∙ rw (trees_many s, lt-leb (trees_of s) 32 (rw trees at h))

-- the fields of the node in slot i
pub fields_at : (s : List ℕ) (i : ℕ) {r b : Bool} → r ≡ fields_ok (body_in s i) → not r ≡ b → not (fields_ok (node_in s i).body) ≡ b
unfolding node_in
fields_at s i test h = ap not (sym test) ∙ h

pub field_says : (k : ℕ) (x : Spot) → why_broken k (Some (broken_field x)) ≡ node_why k 14 x.slot (Some x.id) None None
unfolding why_broken
field_says k x = refl

-- ## Rule 13

-- the nodes from slot j on come after x where those from slot i on do
pub record Ahead (s : List ℕ) (x : FullNodeId) (i j : ℕ) : Type 0 where
  pub same : all (λ m. before x m.id) (drop j (nodes s)) ≡ all (λ m. before x m.id) (drop i (nodes s))

pub ahead_start : {s : List ℕ} {x : FullNodeId} {i : ℕ} → Ahead s x i i
ahead_start = record { same = refl }

module _ {s : List ℕ} (i : ℕ) {j n : ℕ} {x : FullNodeId} (g : Ahead s x (i + 1) j) (slots : n ≡ slots_of s) (own : x ≡ id_in s i) where
  pub ahead_end : n ≤ j → true ≡ all (λ m. before (id_in s i) m.id) (drop (i + 1) (view s).forest.nodes)
  ahead_end h = rw (← own) (rw (nodes_past s j (rw slots at h)) at g.same)

  module _ (l : j < n) {y : FullNodeId} (is : y ≡ id_in s j) {r : Bool} (test : r ≡ before x y) where
    pub ahead_fails : r ≡ false → false ≡ all (λ m. before (id_in s i) m.id) (drop (i + 1) (view s).forest.nodes)
    unfolding node_in ◌and◌
    ahead_fails h = rw (← own) (rw (nodes_at s j (rw slots at l), rw is at (call_false test h)) at g.same)

    pub ahead_more : r ≡ true → Ahead s x (i + 1) (j + 1)
    unfolding node_in ◌and◌
    ahead_more h = record { same = rw (nodes_at s j (rw slots at l), rw is at (call_true test h)) at g.same }

-- the ids of the slots before i come before all that follow
pub record Ascending (s : List ℕ) (i : ℕ) : Type 0 where
  pub rest : Rest disorder_from (nodes s) i

pub ascending_start : {s : List ℕ} → Ascending s 0
ascending_start = record { rest = rest_start }

module _ {s : List ℕ} {i n : ℕ} (g : Ascending s i) (slots : n ≡ slots_of s) where
  pub ascending_end : {k : ℕ} {w : Why} → n ≤ i → w ≡ rule_why k 0 → w ≡ why_broken k (disorder_from 0 (view s).forest.nodes)
  unfolding why_broken disorder_from
  ascending_end {k} h e = e ∙ ap (why_broken k) (rw (nodes_past s i (rw slots at h)) at g.rest.same)

  module _ (l : i < n) {r : Bool} (test : r ≡ all (λ m. before (id_in s i) m.id) (drop (i + 1) (view s).forest.nodes)) where
    pub ascending_more : r ≡ true → Ascending s (i + 1)
    unfolding disorder_from node_in
    ascending_more h = record { rest = rest_more g.rest (nodes_at s i (rw slots at l)) (rw (call_true test h)) }

    pub ascending_fails : {k : ℕ} {w : Why} → r ≡ false → {y : Option FullNodeId} → y ≡ Some (id_in s i) → w ≡ node_why k 13 i y None None
        → w ≡ why_broken k (disorder_from 0 (view s).forest.nodes)
    unfolding why_broken disorder_from node_in
    ascending_fails {k} h is e = e ∙ rw is (ap (why_broken k) (rw (nodes_at s i (rw slots at l), call_false test h) at g.rest.same))
