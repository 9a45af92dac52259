-- Laws of the child entries of all nodes, run after run. Assumes nothing.
use mathlib.Core.List.{List, [], ◌∷◌, ◌++◌}
use mathlib.Core.Path.{◌≡◌, refl, sym, ap, ◌∙◌}
use Prim.Native.Nat.{ℕ, zero, suc, ◌+◌, ◌≤◌, ◌<◌}
use native.Mathlib.Omega.{arith}
use lib.ListN.{length, get_or, length-append, get_or-append}
use lib.Seq.{get_or-append-add}
use Rattle.base.specs.Bytes.{sum_of}
use Rattle.base.proofs.Bytes.{sum_within}
use Rattle.state.specs.State.{NodeState}
use Rattle.state_array.specs.Stored.{no_node, no_state, children_before, entries_of}

-- a sum from the front
pub sum_front : (n : ℕ) (f : ℕ → ℕ) → sum_of (suc n) f ≡ f 0 + sum_of n (λ k. f (suc k))
unfolding sum_of
sum_front zero f = omega arith
sum_front (suc n) f = let h = sum_front n f in omega arith

pub entries_length : (ns : List NodeState) → length (entries_of ns) ≡ children_before ns (length ns)
unfolding entries_of sum_of
entries_length [] = refl
entries_length (n ∷ ns) =
    length-append n.body.children (entries_of ns)
    ∙ ap (λ m. length n.body.children + m) (entries_length ns)
    ∙ sym (sum_front (length ns) (λ j. length (get_or (n ∷ ns) j no_state).body.children))

-- the run of node i lies within the entries
pub entries_within : (ns : List NodeState) (i : ℕ) → i < length ns → children_before ns i + length (get_or ns i no_state).body.children ≤ length (entries_of ns)
entries_within ns i l = rw (entries_length ns) (sum_within (λ j. length (get_or ns j no_state).body.children) (length ns) i l)

-- child j of node i
pub entries_at : (ns : List NodeState) (i j : ℕ) → i < length ns → j < length (get_or ns i no_state).body.children
    → get_or (entries_of ns) (children_before ns i + j) no_node ≡ get_or (get_or ns i no_state).body.children j no_node
unfolding entries_of sum_of
entries_at [] i j l h = absurd (omega arith)
entries_at (n ∷ ns) zero j l h =
    let z : 0 + j ≡ j = omega arith in
    ap (λ k. get_or (n.body.children ++ entries_of ns) k no_node) z ∙ get_or-append n.body.children (entries_of ns) no_node j h
entries_at (n ∷ ns) (suc i) j l h =
    let e : children_before (n ∷ ns) (suc i) + j ≡ length n.body.children + (children_before ns i + j)
    = omega (arith, sum_front i (λ k. length (get_or (n ∷ ns) k no_state).body.children)) in
    ap (λ k. get_or (n.body.children ++ entries_of ns) k no_node) e
    ∙ get_or-append-add n.body.children (entries_of ns) (children_before ns i + j) no_node
    ∙ entries_at ns i j (omega arith) h
