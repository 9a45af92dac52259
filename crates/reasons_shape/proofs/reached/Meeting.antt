-- The links under which a node is met, gathered place by place and node by node. Assumes nothing.
use mathlib.Core.Bool.{Bool, true, false, not}
use mathlib.Core.List.{List, [], ◌∷◌, ◌++◌, map, append_assoc, append-nil}
use mathlib.Core.Path.{◌≡◌, refl, sym, ap, ◌∙◌}
use Prim.Native.Nat.{ℕ, ◌+◌, ◌≤◌, ◌<◌}
use native.Mathlib.Omega.{arith}
use lib.ListN.{get_or, drop, length-append}
use borrow.Author.Tests.{eq-eqb, ne_eqb}
use Rattle.std.specs.Prelude.{if◌then◌else◌, Option, None, Some}
use Rattle.base.specs.Tests.{keep, same_option, has}
use Rattle.base.specs.Bytes.{list_of}
use Rattle.base.proofs.Bytes.{list_of_more}
use Rattle.base.proofs.Tests.{call_true, call_false}
use Rattle.ids.specs.Ids.{ROOT, same_id}
use Rattle.ids.specs.declared.FullNodeId.{FullNodeId}
use Rattle.reasons.specs.Shape.{links_below, links_from, met_links}
use Rattle.state.specs.State.{ParentAndIndex, NodeState, Forest, subtree_of}
use Rattle.state.specs.declared.SubtreeState.{SubtreeState}
use Rattle.state.specs.Down.{Met, met_under, root_of}
use Rattle.state_array.specs.View.{id_in, node_in, link_of, slots_of, view}
use Rattle.state_array.specs.declared.LinkRow.{LinkRow}
use Rattle.state_rules.specs.Parts.{below_in, KidSays}
use Rattle.reasons_shape.specs.declared.reached.Links.{Links}
use Rattle.reasons_shape.specs.Reached.{Few, reached_in, Marked, first_link, Tells}
use Rattle.reasons_shape.proofs.reached.Below.{below_end}
use Rattle.base.proofs.Gathering.{Gathered, gathered_start, gathered_more, gathered_end}

-- ## One link more

-- the first of them, where there were none, and one of several
pub link_first : (l : LinkRow) (ls : List (Option ParentAndIndex)) (r : Links) → r.count ≡ 0 → Tells ls r
    → Tells (ls ++ link_of l ∷ []) (record { count = 1; first = l })
unfolding first_link
link_first l [] r e t = record { count = refl; first = refl }
link_first l (k ∷ ls) r e t = absurd (omega (arith, t.count))

pub link_later : (l : LinkRow) (ls : List (Option ParentAndIndex)) (r : Links) → (r.count ≡ 0 → ⊥) → Tells ls r
    → Tells (ls ++ link_of l ∷ []) (record { count = 2; first = r.first })
unfolding first_link
link_later l [] r e t = absurd (e t.count)
link_later l (k ∷ ls) r e t = record { count = rw (length-append ls (link_of l ∷ [])) (omega arith); first = t.first }

-- ## As the root

-- the links of the root
abbrev pub as_root : Forest → FullNodeId → List (Option ParentAndIndex)
as_root f x = if same_option same_id (root_of f) (Some x) then None ∷ [] else []

module _ (s : List ℕ) (x : FullNodeId) {o : Option SubtreeState} (ends : o ≡ subtree_of (view s).forest ROOT) {r : Links} where
  pub root_nowhere : o ≡ None → (r.count ≡ 0) × (link_of r.first ≡ None) → Tells (as_root (view s).forest x) r
  unfolding root_of first_link
  root_nowhere q t = rw (sym ends ∙ q, root_of) (record { count = t.0; first = t.1 })

  module _ {e : SubtreeState} (q : o ≡ Some e) {z : Bool} (test : z ≡ same_id e.root x) where
    pub root_here : z ≡ true → (r.count ≡ 1) × (link_of r.first ≡ None) → Tells (as_root (view s).forest x) r
    unfolding root_of first_link
    root_here h t = rw (sym ends ∙ q, root_of, sym test ∙ h) (record { count = t.0; first = t.1 })

    pub root_other : z ≡ false → (r.count ≡ 0) × (link_of r.first ≡ None) → Tells (as_root (view s).forest x) r
    unfolding root_of first_link
    root_other h t = rw (sym ends ∙ q, root_of, sym test ∙ h) (record { count = t.0; first = t.1 })

-- ## Below one node

-- the links under which x is among those met
abbrev pub links_in : FullNodeId → List Met → List (Option ParentAndIndex)
links_in x ms = map (λ m. m.link) (keep (λ m. same_id x m.id) ms)

-- the places before j have been looked at, from the links r₀ on
pub record Adding (s : List ℕ) (x : FullNodeId) (p : ℕ) (r₀ : Links) (j : ℕ) (r : Links) : Type 0 where
  pub all : Gathered Tells r₀ (links_in x (below_in s p)) (links_in x (drop j (below_in s p))) r

pub adding_start : {s : List ℕ} {x : FullNodeId} {p : ℕ} {r : Links} → Adding s x p r 0 r
adding_start = record { all = gathered_start }

module _ {s : List ℕ} {x : FullNodeId} {p j : ℕ} {r₀ r : Links} (g : Adding s x p r₀ j r) where
  -- past the last place
  pub adding_end : Few s → p < slots_of s → 256 ≤ j → j ≤ 256 → (ls : List (Option ParentAndIndex)) → Tells ls r₀
      → Tells (ls ++ links_below (view s).forest x (node_in s p)) r
  unfolding links_below
  adding_end few l h b = let e : j ≡ 256 = omega arith in gathered_end (rw (e, below_end s p few l) at g.all)

  -- what is met at the next place
  module _ {k : Option FullNodeId} (says : KidSays (below_in s p) j (id_in s p) k) where
    pub adding_none : k ≡ None → (ls : List (Option ParentAndIndex)) → Tells ls r₀ → Tells (ls ++ links_below (view s).forest x (node_in s p)) r
    unfolding KidSays links_below
    adding_none q = gathered_end (rw (rw q at says) at g.all)

    module _ {y : FullNodeId} (q : k ≡ Some y) {t : Bool} (test : t ≡ same_id x y) where
      pub adding_other : t ≡ false → Adding s x p r₀ (j + 1) r
      unfolding KidSays met_under
      adding_other h = let differs : same_id x y ≡ false = call_false test h in record { all = rw (rw q at says, differs) at g.all }

      pub adding_more : t ≡ true → {own : FullNodeId} → own ≡ id_in s p → {z : Links}
          → ((ls : List (Option ParentAndIndex)) → Tells ls r → Tells (ls ++ link_of (record { parent = own; index = j; linked = 1 }) ∷ []) z)
          → Adding s x p r₀ (j + 1) z
      unfolding KidSays met_under link_of
      adding_more h {own} e step =
          let same : same_id x y ≡ true = call_true test h in
          record { all = gathered_more (rw (rw q at says, same, ← e) at g.all) step }

-- ## Below the nodes reached

-- one node more
links_more : (f : Forest) (xs : List FullNodeId) (x : FullNodeId) (ns : List NodeState) (n : NodeState)
    → links_from f xs x (ns ++ n ∷ []) ≡ links_from f xs x ns ++ (if has same_id xs n.id then links_below f x n else [])
unfolding links_from
links_more f xs x [] n = append-nil (if has same_id xs n.id then links_below f x n else [])
links_more f xs x (k ∷ ns) n =
    rw (links_more f xs x ns n) (sym (append_assoc (if has same_id xs k.id then links_below f x k else []) (links_from f xs x ns) _))

-- the nodes before i have been gone down from
pub record Meeting (s : List ℕ) (x : FullNodeId) (i : ℕ) (r : Links) : Type 0 where
  pub told : Tells (as_root (view s).forest x ++ links_from (view s).forest (reached_in s) x (list_of i (node_in s))) r

pub meeting_start : {s : List ℕ} {x : FullNodeId} {r : Links} → Tells (as_root (view s).forest x) r → Meeting s x 0 r
unfolding links_from list_of
meeting_start {s} {x} t = record { told = rw (append-nil (as_root (view s).forest x)) t }

module _ {s : List ℕ} {x : FullNodeId} {i : ℕ} {r : Links} (g : Meeting s x i r) where
  pub meeting_end : {n : ℕ} → n ≡ slots_of s → n ≤ i → i ≤ n → Tells (met_links (view s).forest (reached_in s) x) r
  unfolding met_links view
  meeting_end e h b = let last : i ≡ slots_of s = omega arith in rw last at g.told

  module _ {marks : List ℕ} (marked : Marked s (reached_in s) marks) {n : ℕ} (slots : n ≡ slots_of s) (l : i < n) where
    -- a node that is not reached
    pub meeting_skips : get_or marks i 0 ≡ 0 → Meeting s x (i + 1) r
    unfolding node_in
    meeting_skips e =
        let out : has same_id (reached_in s) (id_in s i) ≡ false = sym (marked.says i (omega arith)) ∙ ap not (eq-eqb _ 0 e) in
        record {
          told =
              rw (
                list_of_more i (node_in s),
                links_more (view s).forest (reached_in s) x (list_of i (node_in s)) (node_in s i),
                out,
                append-nil (links_from (view s).forest (reached_in s) x (list_of i (node_in s))),
              ) g.told;
        }

    -- one that is
    pub meeting_more : (get_or marks i 0 ≡ 0 → ⊥) → {z : Links}
        → ((ls : List (Option ParentAndIndex)) → Tells ls r → Tells (ls ++ links_below (view s).forest x (node_in s i)) z) → Meeting s x (i + 1) z
    unfolding node_in
    meeting_more e step =
        let inside : has same_id (reached_in s) (id_in s i) ≡ true = sym (marked.says i (omega arith)) ∙ ap not (ne_eqb _ 0 e) in
        record {
          told =
              rw (list_of_more i (node_in s), links_more (view s).forest (reached_in s) x (list_of i (node_in s)) (node_in s i), inside)
              (rw append_assoc at (step _ g.told));
        }
