-- Laws of reading a word that has a place. Assumes nothing.
use mathlib.Core.List.{List}
use mathlib.Core.Path.{◌≡◌}
use Prim.Native.Nat.{ℕ, ◌<◌}
use lib.ListN.{get_or}
use borrow.Author.Tests.{lt-ltb}
use Rattle.base.specs.Tests.{◌and◌}
use Rattle.state_array.specs.Layout.{SLOTS, TREES, ENTRIES, TREE_FIELDS, NODE_FIELDS, entry_place, entry, place, word, child_place, child}

module _ (s : List ℕ) where
  pub word_there : (f i : ℕ) → f < NODE_FIELDS → i < SLOTS → word s f i ≡ get_or s (place f i) 0
  unfolding word ◌and◌
  word_there f i g h = rw (lt-ltb f NODE_FIELDS g, lt-ltb i SLOTS h)

  pub entry_there : (j k : ℕ) → j < TREE_FIELDS → k < TREES → entry s j k ≡ get_or s (entry_place j k) 0
  unfolding entry ◌and◌
  entry_there j k g h = rw (lt-ltb j TREE_FIELDS g, lt-ltb k TREES h)

  pub child_there : (own j : ℕ) → j < ENTRIES → child s own j ≡ get_or s (child_place j) 0
  unfolding child
  child_there own j h = rw (lt-ltb j ENTRIES h)
