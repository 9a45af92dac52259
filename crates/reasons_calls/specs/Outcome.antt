-- Numbers 12 and 15 to 19 of an outcome: what makes each row hold. Assumes nothing.
use Rattle.std.specs.Prelude.{Bool, false, List, [], ◌∷◌, ℕ, zero, suc, length, if◌then◌else◌, Option, None, Some}
use Rattle.base.specs.Tests.{◌and◌, is_some, is_none, first_given}
use Rattle.ids.specs.Ids.{ROOT}
use Rattle.ids.specs.declared.TreeId.{TreeId}
use Rattle.ids.specs.declared.FullNodeId.{FullNodeId}
use Rattle.record.specs.Batch.{Batch}
use Rattle.state.specs.State.{Forest, find, graft_at, subtree_of}
use Rattle.state.specs.Down.{root_of}
use Rattle.state.specs.Focus.{effective_focus}
use Rattle.state.specs.Sound.{sound_shape}
use Rattle.update.specs.Words.{here, listing, listed, claim}
use Rattle.update.specs.Gone.{stays, goes, asParent, fate}
use Rattle.update.specs.Numbers.{absent, updated_and_removed}
use Rattle.reasons.specs.Reasons.{last_of, Dropped, Reason, claimed_from_holder, focus_into_nothing, root_absent, focus_absent, updated_and_gone, unsound_outcome}
use Rattle.reasons.specs.Shape.{graft_twice_from, broken_shape}

-- ## The way through the grafts

-- the nodes looked at from x on, at most `room`
unfoldable pub way_through : ℕ → Forest → FullNodeId → List FullNodeId
way_through zero s x = []
way_through (suc room) s x =
    x ∷ elim (graft_at s.nodes x) [
      | None ↦ []
      | Some t ↦ elim (subtree_of s t) [ None ↦ [] | Some u ↦ way_through room s u.focus ]
    ]

-- from ROOT's focus on
unfoldable pub focus_way : Forest → List FullNodeId
focus_way s = elim (subtree_of s ROOT) [ None ↦ [] | Some u ↦ way_through (suc (length s.trees)) s u.focus ]

-- the tree that the last node of a way grafts
unfoldable pub last_graft : Forest → List FullNodeId → Option TreeId
last_graft s way = elim (last_of way) [ None ↦ None | Some x ↦ graft_at s.nodes x ]

-- 15, 16 and 17 of an outcome
unfoldable pub focus_reason : Forest → Option Reason
focus_reason o =
    if is_none (effective_focus o) then Some (focus_into_nothing (last_graft o (focus_way o)) (focus_way o))
    else if absent o.nodes (root_of o) then Some (root_absent (root_of o))
    else if absent o.nodes (effective_focus o) then Some (focus_absent (focus_way o))
    else None

-- ## Nodes that lost their place

module _ (s : Forest) (b : Batch) where
  -- the listed node p lets a node below it go; any other only goes itself
  unfoldable pub dropper : FullNodeId → Option FullNodeId
  dropper p = if listed s b p then Some p else None

  -- Climbing from x by the old links, at most `room` steps: the node whose own fate it is to go.
  unfoldable pub dropped_within : ℕ → FullNodeId → Option Dropped
  dropped_within zero x = None
  dropped_within (suc room) x =
      elim (find x s.nodes) [
        | None ↦ None
        | Some n ↦
            elim n.parent_and_index [
              | None ↦ Some (record { node = x; by = None })
              | Some l ↦
                  let above = dropped_within room l.parent in
                  elim (fate s b x l) [ stays ↦ None | goes ↦ Some (record { node = x; by = dropper l.parent }) | asParent ↦ above ]
            ]
      ]

  -- 18: the first listed node that is updated and removed
  unfoldable pub removed_reason : Option Reason
  removed_reason =
      first_given
      (λ l. if updated_and_removed s b l
      then Some (updated_and_gone (here s b l.id) (dropped_within (length s.nodes) (here s b l.id)))
      else None)
      b.nodes

  -- the node is listed and claims a tree
  unfoldable pub claims : FullNodeId → Bool
  claims x =
      listed s b x
      and elim (listing b.nodes x.node) [ None ↦ false | Some d ↦ is_some (claim s b (record { id = x.node; body = d })) ]

  -- 12's second part: two nodes of the outcome graft one tree, the one that claims it and another
  unfoldable pub clash_reason : Forest → Option Reason
  clash_reason o =
      elim (graft_twice_from 0 o.nodes) [
        | None ↦ None
        | Some g ↦
            Some (if claims g.node.id then claimed_from_holder g.tree g.other g.node.id else claimed_from_holder g.tree g.node.id g.other)
      ]

-- 19 of an outcome
unfoldable pub outcome_reason : Forest → Option Reason
outcome_reason o = if sound_shape o then None else Some (unsound_outcome (broken_shape o))
