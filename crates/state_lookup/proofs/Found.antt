-- What a search of the ids says of the nodes that a state shows. Assumes nothing.
use mathlib.Core.List.{List}
use mathlib.Core.Path.{◌≡◌, ap, ◌∙◌}
use Prim.Native.Nat.{ℕ, zero, suc, ◌≤◌, ◌<◌}
use native.Mathlib.Omega.{arith}
use lib.Dec.{ltb}
use borrow.Author.Tests.{lt-ltb, le-ltb}
use Rattle.std.specs.Prelude.{if◌then◌else◌, None, Some}
use Rattle.base.specs.Tests.{is_some}
use Rattle.base.specs.Bytes.{list_of}
use Rattle.base.specs.Search.{First}
use Rattle.base.proofs.Search.{first_later, ltb_suc}
use Rattle.base.proofs.Tests.{is_some_if}
use Rattle.ids.specs.Ids.{same_id}
use Rattle.ids.specs.declared.FullNodeId.{FullNodeId}
use Rattle.state.specs.State.{NodeState, find, present}
use Rattle.state_array.specs.View.{node_in, slots_of, view}
use Rattle.state_lookup.specs.Lookup.{stands_at}

-- the first node of a list that has the id is found, and none is where none has it
find_first : (x : FullNodeId) (n : ℕ) (f : ℕ → NodeState) (r : ℕ) → First (λ i. same_id x (f i).id) n r
    → find x (list_of n f) ≡ (if ltb r n then Some (f r) else None)
unfolding find list_of
find_first x zero f r h = rw (le-ltb r zero (omega arith))
find_first x (suc n) f zero h = rw (lt-ltb zero (suc n) (omega arith), h.hit (omega arith))
find_first x (suc n) f (suc r) h =
    rw (ltb_suc r n, h.passed zero (omega arith)) (find_first x n (λ i. f (suc i)) r (first_later (λ i. same_id x (f i).id) n r h))

module _ (s : List ℕ) (x : FullNodeId) (r : ℕ) (found : First (stands_at s x) (slots_of s) r) where
  pub find_slot : find x (view s).forest.nodes ≡ (if ltb r (slots_of s) then Some (node_in s r) else None)
  unfolding view node_in
  find_slot = find_first x (slots_of s) (node_in s) r found

  -- the node of the slot that a search found, and no node where it found none
  pub find_there : r < slots_of s → find x (view s).forest.nodes ≡ Some (node_in s r)
  find_there h = find_slot ∙ rw (lt-ltb r (slots_of s) h)

  pub find_absent : slots_of s ≤ r → find x (view s).forest.nodes ≡ None
  find_absent h = find_slot ∙ rw (le-ltb r (slots_of s) h)

  -- a node is present if and only if a search finds a slot
  pub present_slot : present (view s).forest.nodes x ≡ ltb r (slots_of s)
  unfolding present
  present_slot = ap (λ o. is_some o) find_slot ∙ is_some_if (ltb r (slots_of s)) (node_in s r)
