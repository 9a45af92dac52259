-- The box of a node of a sound state is exact where transforms only shift, and bounds and shifts are whole and small. Assumes nothing.
use mathlib.Core.Bool.{true}
use mathlib.Core.Path.{◌≡◌}
use Prim.Native.Nat.{◌<◌}
use native.Mathlib.Omega.{arith}
use lib.IntN.{ℤ}
use lib.ListN.{length, length-map}
use borrow.Author.Tests.{leb-true}
use Rattle.ids.specs.declared.FullNodeId.{FullNodeId}
use Rattle.geometry_box.specs.Exact.{exact_box}
use Rattle.geometry_box.proofs.Exact.{exact_box_lem}
use Rattle.state.specs.State.{Forest, present}
use Rattle.state.specs.Sound.{sound}
use Rattle.state.proofs.Sound.{Sound, sound_parts, shape_parts}
use Rattle.questions.specs.Boxes.{direct_transform, transforms_above, bounding_box}
use Rattle.questions.specs.Exact.{OnlyShifted}
use Rattle.questions.proofs.Links.{ancestors_few}

-- a node of a sound state has fewer than 256 ancestors
transforms_few : (s : Forest) → sound s ≡ true → (x : FullNodeId) → present s.nodes x ≡ true → length (transforms_above s x) < 256
unfolding transforms_above
transforms_few s e x there =
    let p : Sound s = sound_parts s e in
    rw length-map
    (omega (arith, ancestors_few s (shape_parts s p.shape) x there, leb-true (length s.nodes) 256 p.few_nodes))

-- each coordinate is the exact sum
pub exact_bounding_box : (s : Forest) → sound s ≡ true → (x : FullNodeId) → present s.nodes x ≡ true
    → (x0 y0 x1 y1 u v : ℤ) → OnlyShifted s x x0 y0 x1 y1 u v → bounding_box s x ≡ exact_box x0 y0 x1 y1 u v
unfolding bounding_box
exact_bounding_box s e x there x0 y0 x1 y1 u v o =
    rw (o.given, bounding_box) (exact_box_lem (direct_transform s x) (transforms_above s x) o.bounds o.shifts (transforms_few s e x there) o.whole)
