-- Laws of room: the nodes, the trees and the child entries of an outcome. Assumes nothing.
use mathlib.Core.Bool.{Bool, true, not, ◌||◌}
use mathlib.Core.List.{List, [], ◌∷◌, map}
use mathlib.Core.Path.{◌≡◌, refl}
use Prim.Native.Nat.{◌+◌, ◌≤◌}
use native.Mathlib.Omega.{arith}
use lib.Dec.{ltb}
use lib.ListN.{length, length-append}
use borrow.Author.Tests.{ltb-true}
use Rattle.base.proofs.Cases.{by_test}
use Rattle.base.specs.Tests.{keep}
use Rattle.ids.specs.Ids.{same_id, before}
use Rattle.ids.specs.declared.TreeIndex.{TreeIndex}
use Rattle.ids.specs.declared.FullNodeId.{FullNodeId}
use Rattle.record.specs.Batch.{NodeData, same_data, Listed, Batch, named_ids}
use Rattle.state.specs.State.{NodeState, Forest}
use Rattle.state.proofs.Pool.{child_total}
use Rattle.state_array.specs.Stored.{entries_of}
use Rattle.update.specs.Words.{known, tree_number}
use Rattle.update.specs.Gone.{gone}
use Rattle.update.specs.Outcome.{renewed, write, write_all, written, relink, entries_after, new_entry, outcome}
use Rattle.update.proofs.Outcome.{length_outcome}
use Rattle.update.proofs.Sound.{length_entries_after}
use Rattle.calls.specs.Setting.{KeptForest}

-- ## Child entries

-- data written over other data has the children of one of the two
length_renewed : (body new : NodeData) → length (renewed body new).children ≤ length body.children + length new.children
unfolding renewed
length_renewed body new = by_test (same_data body new) (λ t. rw t (omega arith)) (λ t. rw t (omega arith))

-- one node written
child_count_write : (x : FullNodeId) (d : NodeData) (ns : List NodeState) → child_total (write x d ns) ≤ length d.children + child_total ns
unfolding write child_total
child_count_write x d [] = omega arith
child_count_write x d (n ∷ ns) =
    let h = child_count_write x d ns in
    by_test (same_id x n.id) (λ t. rw t (omega (arith, length_renewed n.body d)))
    (λ t. by_test (before x n.id) (λ k. rw (t, k) (omega arith)) (λ k. rw (t, k) (omega arith)))

-- all listed nodes written
child_count_write_all : (t : TreeIndex) (ls : List Listed) (ns : List NodeState) → child_total (write_all t ls ns) ≤ length (named_ids ls) + child_total ns
unfolding write_all named_ids
child_count_write_all t [] ns = omega arith
child_count_write_all t (l ∷ ls) ns =
    let y : FullNodeId = record { tree = t; node = l.id } in
    omega (
      arith,
      child_count_write_all t ls (write y l.body ns),
      child_count_write y l.body ns,
      length-append l.body.children (named_ids ls),
    )

-- some nodes kept
child_count_keep : (p : NodeState → Bool) (ns : List NodeState) → child_total (keep p ns) ≤ child_total ns
unfolding child_total
child_count_keep p [] = omega arith
child_count_keep p (n ∷ ns) = let h = child_count_keep p ns in by_test (p n) (λ t. rw t (omega arith)) (λ t. rw t (omega arith))

-- nodes with other links
child_count_relink : (s : Forest) (b : Batch) (ns : List NodeState) → child_total (map (relink s b) ns) ≡ child_total ns
unfolding child_total relink
child_count_relink s b [] = refl
child_count_relink s b (n ∷ ns) = rw (child_count_relink s b ns)

-- the outcome names at most what was named before and what the batch names
pub child_count_outcome : (s : Forest) (b : Batch) → child_total (outcome s b).nodes ≤ child_total s.nodes + length (named_ids b.nodes)
unfolding outcome written
child_count_outcome s b =
    omega (
      arith,
      child_count_relink s b (keep (λ n. not (gone s b n.id)) (written s b)),
      child_count_keep (λ n. not (gone s b n.id)) (written s b),
      child_count_write_all (tree_number s b) b.nodes s.nodes,
    )

-- as many entries as children
pub length_entries : (ns : List NodeState) → length (entries_of ns) ≡ child_total ns
unfolding entries_of child_total
length_entries [] = refl
length_entries (n ∷ ns) = rw (length-append n.body.children (entries_of ns), length_entries ns)

module _ (s : Forest) (b : Batch) (kept : KeptForest s) where
  pub entries_few : length (named_ids b.nodes) ≤ 256 → length (entries_of (outcome s b).nodes) ≤ 512
  entries_few few = omega (arith, length_entries (outcome s b).nodes, length_entries s.nodes, child_count_outcome s b, kept.few_children)

  -- ## Nodes and trees

  pub nodes_few : length b.nodes ≤ 64 → length (outcome s b).nodes ≤ 320
  nodes_few few = omega (arith, length_outcome s b, kept.few_nodes)

  pub trees_few : (known s b || ltb (length s.trees) 32) ≡ true → length (outcome s b).trees ≤ 32
  unfolding outcome new_entry
  trees_few numbered =
      by_test (known s b)
      (λ t. rw (t, length-append (entries_after s b 0 s.trees) [], length_entries_after s b 0 s.trees) (omega (arith, kept.few_trees)))
      (λ t. rw (t, length-append, length_entries_after s b 0 s.trees) (omega (arith, ltb-true (length s.trees) 32 (rw t at numbered))))
