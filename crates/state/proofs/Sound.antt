-- What soundness says, part by part, and back; the root; the effective focus is never a graft. Assumes nothing.
use mathlib.Core.Bool.{true, false≢true}
use mathlib.Core.List.{List, [], ◌∷◌}
use Rattle.std.specs.Prelude.{None, Some}
use Rattle.std.proofs.lemmas.Option.{none-some, same_Some}
use mathlib.Core.Path.{◌≡◌, refl}
use Prim.Native.Nat.{ℕ, zero, suc}
use lib.Dec.{leb}
use lib.ListN.{length}
use Rattle.base.specs.Tests.{◌and◌, all}
use Rattle.base.proofs.Cases.{by_option}
use Rattle.base.proofs.Lists.{some_from}
use Rattle.base.proofs.Tests.{both, joined, and_true}
use Rattle.ids.specs.Ids.{ROOT, same_tree}
use Rattle.ids.proofs.Ids.{same_tree→≡}
use Rattle.ids.specs.declared.FullNodeId.{FullNodeId}
use Rattle.record.specs.Batch.{fields_ok}
use Rattle.state.specs.State.{NodeState, Subtree, TreeEntry, Forest, present, graft_at, subtree_state, subtree_from, subtree_of}
use Rattle.state.specs.Down.{root_of, way_down}
use Rattle.state.specs.Focus.{through_grafts, effective_focus}
use Rattle.state.specs.Sound.{met_once, recorded, graft_is_bare, sound_links, grafts_differ, grafted, all_grafted, root_first, one_id_each, sound_trees}
use Rattle.state.specs.Sound.{ascending, way_ends, sound_shape, focus_present, sound}

-- ## The parts

pub record Shape (s : Forest) : Type 0 where
  pub once : all (met_once (way_down s)) s.nodes ≡ true
  pub only : all (recorded s.nodes) (way_down s) ≡ true
  pub bare : all graft_is_bare s.nodes ≡ true
  pub differ : grafts_differ s.nodes ≡ true
  pub first : root_first s.trees ≡ true
  pub one_id : one_id_each s.trees ≡ true
  pub held : all_grafted s.nodes 0 s.trees ≡ true
  pub ordered : ascending s.nodes ≡ true
  pub ends : leb (length (way_down s)) (length s.nodes) ≡ true

pub shape_parts : (s : Forest) → sound_shape s ≡ true → Shape s
unfolding sound_shape sound_links sound_trees way_ends
shape_parts s e = let parts = simp and_true at e in search

pub record Sound (s : Forest) : Type 0 where
  pub shape : sound_shape s ≡ true
  pub few_nodes : leb (length s.nodes) 256 ≡ true
  pub few_trees : leb (length s.trees) 32 ≡ true
  pub fields : all (λ n. fields_ok n.body) s.nodes ≡ true
  pub focus : focus_present s ≡ true

pub sound_parts : (s : Forest) → sound s ≡ true → Sound s
unfolding sound
sound_parts s e = let parts = simp and_true at e in search

pub sound_of : (s : Forest) → Sound s → sound s ≡ true
unfolding sound
sound_of s p = joined (joined (joined (joined p.shape p.few_nodes) p.few_trees) p.fields) p.focus

-- ## The root

pub record Root (s : Forest) : Type 0 where
  pub root : FullNodeId
  pub is_the_root : root_of s ≡ Some root
  pub there : present s.nodes root ≡ true

root_of_first : (ns : List NodeState) (t : TreeEntry) (ts : List TreeEntry) (u : Subtree) → t.id ≡ ROOT → t.subtree ≡ Some u
    → root_of (record { nodes = ns; trees = t ∷ ts }) ≡ Some (record { tree = record { 0 = 0 }; node = u.root })
unfolding root_of subtree_of subtree_from subtree_state same_tree ◌and◌
root_of_first ns t ts u p q = rw (p, q) refl

pub root_of_tables : (ns : List NodeState) (es : List TreeEntry) → root_first es ≡ true → all_grafted ns 0 es ≡ true → Root (record { nodes = ns; trees = es })
unfolding root_first all_grafted grafted
root_of_tables ns [] e f = absurd (false≢true e)
root_of_tables ns (t ∷ ts) e f =
    by_option t.subtree (λ q. absurd (false≢true (rw q at (both e).1)))
    (λ u q. record {
      root = record { tree = record { 0 = 0 }; node = u.root };
      is_the_root = root_of_first ns t ts u (same_tree→≡ t.id ROOT (both e).0) q;
      there = (both (rw q at (both f).0)).0;
    })

pub root_of_shape : (s : Forest) → Shape s → Root s
root_of_shape s h = root_of_tables s.nodes s.trees h.first h.held

-- ## The effective focus

-- a way through the grafts ends at no graft
pub through_grafts_end : (s : Forest) (room : ℕ) (x y : FullNodeId) → through_grafts room s x ≡ Some y → graft_at s.nodes y ≡ None
unfolding through_grafts
through_grafts_end s zero x y e = absurd (none-some y e)
through_grafts_end s (suc room) x y e =
    by_option (graft_at s.nodes x) (λ q. rw (← same_Some x y (rw (q, through_grafts) at e)) q)
    (λ t q. let u = some_from (subtree_of s t) (λ v. through_grafts room s v.focus) y (rw (q, through_grafts) at e) in
    through_grafts_end s room u.0.focus y u.2)

pub record Focus (s : Forest) : Type 0 where
  pub focus : FullNodeId
  pub effective : effective_focus s ≡ Some focus
  pub there : present s.nodes focus ≡ true
  pub no_graft : graft_at s.nodes focus ≡ None

pub focus_of_sound : (s : Forest) → focus_present s ≡ true → Focus s
unfolding focus_present
focus_of_sound s e =
    by_option (effective_focus s) (λ q. absurd (false≢true (rw (q, focus_present) at e)))
    (λ x q. let u = some_from (subtree_of s ROOT) (λ v. through_grafts (suc (length s.trees)) s v.focus) x (unfold effective_focus in q) in
    record {
      focus = x;
      effective = q;
      there = rw (q, focus_present) at e;
      no_graft = through_grafts_end s (suc (length s.trees)) u.0.focus x u.2;
    })
