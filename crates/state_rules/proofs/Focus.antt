-- The focus is present where the code finds it. Assumes nothing.
use Rattle.std.specs.Prelude.{Option, None, Some}
use mathlib.Core.Bool.{false}
use mathlib.Core.List.{List}
use mathlib.Core.Path.{◌≡◌, sym, ◌∙◌}
use Prim.Native.Nat.{ℕ}
use lib.Dec.{ltb}
use Rattle.base.specs.Search.{First}
use Rattle.ids.specs.declared.FullNodeId.{FullNodeId}
use Rattle.state.specs.State.{Forest}
use Rattle.state.specs.Focus.{effective_focus}
use Rattle.state.specs.Sound.{focus_present}
use Rattle.state_array.specs.View.{slots_of, view}
use Rattle.state_lookup.specs.Lookup.{stands_at}
use Rattle.state_lookup.proofs.Found.{present_slot}

module _ (s : List ℕ) where
  -- the forest that the state shows
  abbrev f : Forest
  f = (view s).forest

  -- no effective focus, and one with its slot
  module _ {r : Option FullNodeId} (e : r ≡ effective_focus f) where
    pub focus_nowhere : r ≡ None → false ≡ focus_present f
    unfolding focus_present
    focus_nowhere q = rw (sym e ∙ q, focus_present)

    pub focus_found : {x : FullNodeId} → r ≡ Some x → {i n : ℕ} → First (stands_at s x) (slots_of s) i → n ≡ slots_of s → ltb i n ≡ focus_present f
    unfolding focus_present
    focus_found {x} q {i} found slots = rw (slots, sym e ∙ q, focus_present) (sym (present_slot s x i found))
