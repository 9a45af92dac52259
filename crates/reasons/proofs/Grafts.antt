-- Where a tree is held by some nodes, and where two graft one. Assumes nothing.
use mathlib.Core.Bool.{not}
use mathlib.Core.List.{List, [], ◌∷◌}
use Rattle.std.specs.Prelude.{Option, Some}
use mathlib.Core.Path.{◌≡◌, refl, ◌∙◌}
use Prim.Native.Nat.{ℕ, suc}
use Rattle.base.specs.Tests.{◌and◌, is_some, any, same_option, has, given}
use Rattle.base.proofs.Cases.{by_option}
use Rattle.base.proofs.Lists.{first_given_some}
use Rattle.ids.specs.Ids.{same_tree}
use Rattle.ids.proofs.Ids.{same_tree_sym}
use Rattle.ids.specs.declared.TreeId.{TreeId}
use Rattle.record.specs.Batch.{graft?}
use Rattle.state.specs.State.{NodeState, holder}
use Rattle.state.specs.Sound.{grafts_differ}
use Rattle.reasons.specs.Shape.{graft_twice_from}

-- t is among the trees that some give where one of them gives it
pub has_tree : {A : Type 0} (f : A → Option TreeId) (xs : List A) (t : TreeId) → any (λ x. same_option same_tree (f x) (Some t)) xs ≡ has same_tree (given f xs) t
has_tree f [] t = refl
has_tree f (x ∷ xs) t =
    by_option (f x) (λ q. rw (q, given) (has_tree f xs t)) (λ u q. rw (q, given, same_tree_sym u t, has_tree f xs t))

-- some node holds t
pub holder_some : (ns : List NodeState) (t : TreeId) → is_some (holder ns t) ≡ has same_tree (given (λ n. graft? n.body) ns) t
unfolding holder
holder_some ns t = first_given_some (λ n. same_option same_tree (graft? n.body) (Some t)) (λ n. n.id) ns ∙ has_tree (λ n. graft? n.body) ns t

-- two of the nodes graft one tree
pub grafts_some : (k : ℕ) (ns : List NodeState) → is_some (graft_twice_from k ns) ≡ not (grafts_differ ns)
unfolding graft_twice_from grafts_differ ◌and◌
grafts_some k [] = refl
grafts_some k (n ∷ ns) =
    let rest = grafts_some (suc k) ns in
    by_option (graft? n.body) (λ q. rw (q, graft_twice_from, given) rest)
    (λ t q. let some? = holder_some ns t in
    by_option (holder ns t) (λ h. rw (q, graft_twice_from, given, h) (rw (← some?, h) rest)) (λ y h. rw (q, graft_twice_from, given, h) (rw (← some?, h))))
