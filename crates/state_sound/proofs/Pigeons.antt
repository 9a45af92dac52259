-- Counting the nodes met: over ascending ids, a way down that meets as many as there are, each by its own link, meets each once; and back.
-- So the one pass of `counted` decides what `sound_links` and `way_ends` say of the way down. Assumes nothing.
use mathlib.Core.Bool.{true}
use mathlib.Core.List.{List, [], ◌∷◌, ◌++◌}
use Rattle.std.specs.Prelude.{None, Some}
use mathlib.Core.Path.{◌≡◌, refl, sym, ◌∙◌}
use Prim.Native.Nat.{ℕ, zero, suc}
use native.Mathlib.Omega.{arith}
use lib.Dec.{eqb, leb, eqb-zero-suc, eqb-suc-zero, eqb-suc-suc}
use lib.ListN.{length}
use borrow.Author.Tests.{eqb-true, eq-eqb, le-leb}
use Rattle.base.specs.Tests.{◌and◌, all}
use Rattle.base.proofs.Tests.{both, joined, and_false, iff, and_assoc}
use Rattle.ids.specs.declared.FullNodeId.{FullNodeId}
use Rattle.state.specs.State.{Forest}
use Rattle.state.specs.Down.{Met, below_id, down, root_of, way_down}
use Rattle.state.specs.Sound.{met_once, recorded, ascending, way_ends}
use Rattle.state.proofs.Down.{way_down_from}
use Rattle.state_sound.specs.Counted.{counted}
use Rattle.state.proofs.Ends.{total_all, once_total}
use Rattle.state.proofs.Once.{once, each_once}

-- ## The one pass

down_counted : (s : Forest) (room : ℕ) (ms : List Met)
    → counted room s ms ≡ all (recorded s.nodes) (down (suc room) s ms) and eqb (length (down (suc room) s ms)) room
unfolding counted down ◌and◌
down_counted s zero [] = refl
down_counted s zero (m ∷ ms) = rw (eqb-suc-zero 0) (sym (and_false (recorded s.nodes m and true)))
down_counted s (suc room) [] = sym (eqb-zero-suc room)
down_counted s (suc room) (m ∷ ms) =
    let rest = down (suc room) s (below_id s m.id ++ ms) in
    rw (down_counted s room (below_id s m.id ++ ms), eqb-suc-suc (length rest) room)
    (sym (and_assoc (recorded s.nodes m) (all (recorded s.nodes) rest) (eqb (length rest) room)))

-- every node is met once, every one met is recorded so, and the way ends by itself: what one pass from the root finds, over ids that ascend
pub links_counted : (s : Forest) (r : FullNodeId) → root_of s ≡ Some r → ascending s.nodes ≡ true
    → (all (met_once (way_down s)) s.nodes and all (recorded s.nodes) (way_down s) and way_ends s) ≡ counted (length s.nodes) s (record { id = r; link = None } ∷ [])
unfolding way_ends
links_counted s r q up = rw (way_down_from s r q) (iff there back ∙ sym (down_counted s (length s.nodes) start))
  where
    start : List Met
    start = record { id = r; link = None } ∷ []

    way : List Met
    way = down (suc (length s.nodes)) s start

    there : all (met_once way) s.nodes and all (recorded s.nodes) way and leb (length way) (length s.nodes) ≡ true
        → all (recorded s.nodes) way and eqb (length way) (length s.nodes) ≡ true
    there h =
        let many = once_total s.nodes way (both (both h).0).0 in
        joined (both (both h).0).1 (eq-eqb (length way) (length s.nodes) (omega (arith, total_all s.nodes up way (both (both h).0).1)))

    back : all (recorded s.nodes) way and eqb (length way) (length s.nodes) ≡ true
        → all (met_once way) s.nodes and all (recorded s.nodes) way and leb (length way) (length s.nodes) ≡ true
    back h =
        let All-there = (both h).0 in
        let long = eqb-true (length way) (length s.nodes) (both h).1 in
        let single = once s (suc (length s.nodes)) r All-there in
        let sum = total_all s.nodes up way All-there in
        joined (joined ((each_once s.nodes way single).1 (omega arith)) All-there) (le-leb (length way) (length s.nodes) (omega arith))
