-- The crate's pass over the nodes, which meets 9 to 12 in its own order: document 01, "The update".
-- Assumes nothing.
use Rattle.std.specs.Prelude.{Bool, not, ◌||◌, List, [], ◌∷◌, ◌++◌, ℕ, if◌then◌else◌, None, Some}
use Rattle.base.specs.Tests.{◌and◌, is_some, is_nil, any, has, given}
use Rattle.base.specs.Tables.{row, found, first}
use Rattle.ids.specs.Ids.{ROOT, same_tree, same_node}
use Rattle.ids.specs.declared.TreeId.{TreeId}
use Rattle.ids.specs.declared.NodeId.{NodeId}
use Rattle.record.specs.Batch.{graft?, Listed, Batch, named_ids}
use Rattle.state.specs.State.{Forest}
use Rattle.update.specs.Words.{listing, here, old, is_root, claim}

-- What the pass does: a child is named; a listed node is placed.
pub data Event : Type 0 where
  names : NodeId → Event
  places : Listed → Event

module _ (s : Forest) (b : Batch) where
  -- an old node, or the root: it is placed at its turn, whether or not it is named
  unfoldable pub placed_at_turn : NodeId → Bool
  placed_at_turn n = old s b (here s b n) || is_root s b (here s b n)

  -- Each child is named, and then placed if it was listed earlier and waited for that.
  unfoldable pub namings : List Listed → List NodeId → List Event
  namings earlier [] = []
  namings earlier (c ∷ cs) =
      let rest = namings earlier cs in
      names c ∷ elim (listing earlier c) [
        | None ↦ rest
        | Some d ↦ if placed_at_turn c then rest else places (record { id = c; body = d }) ∷ rest
      ]

  -- After its children a node is placed itself, unless it has to wait until it is named.
  unfoldable pub events : List Listed → List Listed → List Event
  events earlier [] = []
  events earlier (l ∷ ls) =
      namings earlier l.body.children
      ++ (if placed_at_turn l.id || has same_node (named_ids earlier ++ l.body.children) l.id then places l ∷ [] else [])
      ++ events (earlier ++ l ∷ []) ls

  -- The first number that the pass meets, 0 if none. `seen` are the children named so far, `claimed` the trees claimed so far.
  -- Row 9: a child named twice. Row 10: a graft node with children. Row 11: a graft of ROOT. Row 12: a second graft of one tree.
  unfoldable pub fault : List NodeId → List TreeId → List Event → ℕ
  fault seen claimed [] = 0
  fault seen claimed (names c ∷ es) =
      let rest = fault (c ∷ seen) claimed es in
      first (row 9 (has same_node seen c) ∷ found rest ∷ [])
  fault seen claimed (places l ∷ es) =
      let new = given (claim s b) (l ∷ []) in
      let rest = fault seen (new ++ claimed) es in
      first
      (row 10 (is_some (graft? l.body) and not (is_nil l.body.children))
      ∷ row 11 (has same_tree new ROOT)
      ∷ row 12 (any (has same_tree claimed) new)
      ∷ found rest
      ∷ [])

  -- the whole pass
  unfoldable pub pass : ℕ
  pass = fault [] [] (events [] b.nodes)
