-- What the phases are given holds of every sound forest. Assumes nothing.
use mathlib.Core.Bool.{true}
use mathlib.Core.Path.{◌≡◌}
use native.Mathlib.Omega.{arith}
use lib.ListN.{length}
use borrow.Author.Tests.{leb-true}
use Rattle.state.specs.State.{Forest}
use Rattle.state.specs.Sound as sound
use Rattle.state.proofs.Sound.{shape_parts, sound_parts}
use Rattle.state.proofs.Family.{parent_present}
use Rattle.state.proofs.Pool.{children_few}
use Rattle.update.proofs.Gone.{gone_parent}
use Rattle.calls.specs.Setting.{KeptForest}
use Rattle.calls.proofs.Outcome.Room.{length_entries}

-- a sound forest
pub kept_sound : (s : Forest) → sound.sound s ≡ true → KeptForest s
kept_sound s e =
    let p = sound_parts s e in
    let h = shape_parts s p.shape in
    let nodes = leb-true (length s.nodes) 256 p.few_nodes in
    record {
      ascending = h.ordered;
      few_nodes = nodes;
      few_trees = leb-true (length s.trees) 32 p.few_trees;
      few_children = omega (arith, children_few s h, length_entries s.nodes);
      fields = p.fields;
      parent_present = parent_present s h;
      gone_parent = λ b x l q. gone_parent s b h x l q;
    }
