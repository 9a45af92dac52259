-- Laws of finding and keeping nodes. Assumes nothing.
use mathlib.Core.Bool.{Bool, true}
use mathlib.Core.List.{List, [], ◌∷◌, Memᴰ}
use Rattle.std.specs.Prelude.{Some}
use Rattle.std.proofs.lemmas.Option.{none-some, same_Some}
use mathlib.Core.Path.{◌≡◌, refl, sym, ap, ◌∙◌}
use borrow.Author.Tests.{eqb-true}
use Rattle.base.specs.Tests.{◌and◌, all, keep, has}
use Rattle.base.proofs.Cases.{by_test}
use Rattle.base.proofs.Tests.{both, all_member, map_keep, has_keep}
use Rattle.ids.specs.Ids.{same_id, before}
use Rattle.ids.proofs.Ids.{same_id→≡, same_id_refl, before_apart}
use Rattle.ids.specs.declared.FullNodeId.{FullNodeId}
use Rattle.state.specs.State.{ParentAndIndex, same_link, NodeState, ids_of, find, present}
use Rattle.state.specs.Sound.{ascending}

pub same_link→≡ : (k l : ParentAndIndex) → same_link k l ≡ true → k ≡ l
unfolding same_link
same_link→≡ k l e =
    let p : k.parent ≡ l.parent = same_id→≡ k.parent l.parent (both e).0 in
    let q : k.index ≡ l.index = eqb-true k.index l.index (both e).1 in
    λ i. record { parent = p i; index = q i }

-- a node is present if and only if its id is among the ids
pub present_has : (ns : List NodeState) (x : FullNodeId) → present ns x ≡ has same_id (ids_of ns) x
unfolding present find ids_of
present_has [] x = refl
present_has (n ∷ ns) x = by_test (same_id x n.id) (λ t. rw t) (λ t. rw t (present_has ns x))

pub present_keep : (q : FullNodeId → Bool) (ns : List NodeState) (x : FullNodeId) → present (keep (λ n. q n.id) ns) x ≡ (present ns x and q x)
unfolding ids_of
present_keep q ns x =
    present_has (keep (λ n. q n.id) ns) x
    ∙ ap (λ (xs : List FullNodeId). has same_id xs x) (map_keep (λ n. n.id) q ns)
    ∙ has_keep same_id same_id→≡ q (ids_of ns) x
    ∙ ap (λ (c : Bool). c and q x) (sym (present_has ns x))

-- what is found is what was looked for
pub find_id : (ns : List NodeState) (x : FullNodeId) (n : NodeState) → find x ns ≡ Some n → n.id ≡ x
unfolding find
find_id [] x n e = absurd (none-some n e)
find_id (m ∷ ns) x n e =
    by_test (same_id x m.id) (λ t. rw (← same_Some m n (rw t at e)) (sym (same_id→≡ x m.id t))) (λ t. find_id ns x n (rw t at e))

-- and is one of the nodes
pub find_member : (ns : List NodeState) (x : FullNodeId) (n : NodeState) → find x ns ≡ Some n → Memᴰ n ns
unfolding find
find_member [] x n e = absurd (none-some n e)
find_member (m ∷ ns) x n e =
    by_test (same_id x m.id) (λ t. Memᴰ.head (sym (same_Some m n (rw t at e)))) (λ t. Memᴰ.tail (find_member ns x n (rw t at e)))

-- and passes every test that all nodes pass
pub all_find : (p : NodeState → Bool) (ns : List NodeState) (x : FullNodeId) (n : NodeState) → all p ns ≡ true → find x ns ≡ Some n → p n ≡ true
all_find p ns x n e f = all_member p ns n e (find_member ns x n f)

-- a node that stands in order is found by its id
pub find_self : (ns : List NodeState) (n : NodeState) → ascending ns ≡ true → Memᴰ n ns → find n.id ns ≡ Some n
unfolding find ascending
find_self [] n e x'' = elim x'' [ ]
find_self (m ∷ ns) n e (Memᴰ.head q) = rw (q, same_id_refl m.id)
find_self (m ∷ ns) n e (Memᴰ.tail i) =
    rw (before_apart m.id n.id (all_member (λ k. before m.id k.id) ns n (both e).0 i)) (find_self ns n (both e).1 i)
