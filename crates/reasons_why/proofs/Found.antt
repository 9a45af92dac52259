-- Laws of an id that was found, or none. Assumes nothing.
use Rattle.std.specs.Prelude.{Option, None, Some}
use mathlib.Core.Path.{◌≡◌, refl}
use Rattle.ids.specs.declared.FullNodeId.{FullNodeId}

-- there is none
pub found_none : (o : Option FullNodeId) {r : Option FullNodeId} → r ≡ o → r ≡ None → o ≡ None
found_none None e q = refl
found_none (Some x) e q = cc

-- there is one
pub found_some : (o : Option FullNodeId) {r : Option FullNodeId} {x : FullNodeId} → r ≡ o → r ≡ Some x → o ≡ Some x
found_some None e q = cc
found_some (Some y) e q = cc
