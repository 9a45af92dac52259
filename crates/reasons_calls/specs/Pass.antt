-- Numbers 5 to 14: the event that the pass over the nodes meets first, and what stands around it. Assumes nothing.
use Rattle.std.specs.Prelude.{not, List, [], ◌∷◌, ◌++◌, map, ℕ, suc, length, if◌then◌else◌, Option, None, Some}
use Rattle.base.specs.Tests.{◌and◌, is_some, is_nil, keep, same_option, has, position, first_given}
use Rattle.ids.specs.Ids.{ROOT, same_tree, same_node}
use Rattle.ids.specs.declared.TreeId.{TreeId}
use Rattle.ids.specs.declared.NodeId.{NodeId}
use Rattle.ids.specs.declared.FullNodeId.{FullNodeId}
use Rattle.record.specs.Batch.{graft?, Listed, Batch, listed_ids}
use Rattle.state.specs.State.{Forest}
use Rattle.update.specs.Words.{here, claim}
use Rattle.update.specs.Pass.{Event, names, places, events}
use Rattle.update.specs.Numbers.{placeless, nowhere}
use Rattle.reasons.specs.Reasons.{Reason, listed_twice, named_twice, graftOverChildren, graftOfRoot, claimed_twice, without_place, child_nowhere}

module _ (s : Forest) (b : Batch) where
  -- 5: the first listed node that was listed before; `earlier` are those before it
  unfoldable pub repeated_after : List NodeId → List NodeId → Option Reason
  repeated_after earlier [] = None
  repeated_after earlier (x ∷ xs) =
      if has same_node earlier x
      then Some (listed_twice (here s b x) (position same_node (listed_ids b.nodes) x) (length earlier))
      else repeated_after (earlier ++ x ∷ []) xs

  -- the nodes that name c, in their order, each as often as it does
  unfoldable pub namers_among : List Listed → NodeId → List FullNodeId
  namers_among [] c = []
  namers_among (l ∷ ls) c = map (λ k. here s b l.id) (keep (same_node c) l.body.children) ++ namers_among ls c

  -- of all listed nodes
  unfoldable pub namers_of : NodeId → List FullNodeId
  namers_of c = namers_among b.nodes c

  -- the one of some placed nodes that claims a tree
  unfoldable pub claimer_among : List Listed → TreeId → Option Listed
  claimer_among placed t = first_given (λ l. if same_option same_tree (claim s b l) (Some t) then Some l else None) placed

  -- 12: the claim of l, where one of the nodes placed before claims the same tree
  unfoldable pub second_claim : List Listed → Listed → Option Reason
  second_claim placed l =
      elim (claim s b l) [
        | None ↦ None
        | Some t ↦ elim (claimer_among placed t) [ None ↦ None | Some k ↦ Some (claimed_twice t (here s b k.id) (here s b l.id)) ]
      ]

  -- 10 to 12: what placing l meets
  unfoldable pub placing : List Listed → Listed → Option Reason
  placing placed l =
      if is_some (graft? l.body) and not (is_nil l.body.children) then Some (graftOverChildren (here s b l.id))
      else if same_option same_tree (claim s b l) (Some ROOT) then Some (graftOfRoot (here s b l.id))
      else second_claim placed l

  -- The first event of the pass that meets 9 to 12. `seen` are the children named so far, `placed` the nodes placed so far.
  unfoldable pub pass_reason : List NodeId → List Listed → List Event → Option Reason
  pass_reason seen placed [] = None
  pass_reason seen placed (names c ∷ es) =
      if has same_node seen c then Some (named_twice (here s b c) (namers_of c)) else pass_reason (c ∷ seen) placed es
  pass_reason seen placed (places l ∷ es) =
      elim (placing placed l) [ Some r ↦ Some r | None ↦ pass_reason seen (l ∷ placed) es ]

  -- the whole pass
  unfoldable pub pass_fault : Option Reason
  pass_fault = pass_reason [] [] (events s b [] b.nodes)

  -- 13: the first listed node left without a place, from place i on
  unfoldable pub placeless_from : ℕ → List Listed → Option Reason
  placeless_from i [] = None
  placeless_from i (l ∷ ls) = if placeless s b l then Some (without_place (here s b l.id) i) else placeless_from (suc i) ls

  -- 14: the first child that is nowhere, of the first node that names one
  unfoldable pub nowhere_under : Listed → Option Reason
  nowhere_under l = first_given (λ c. if nowhere s b c then Some (child_nowhere (here s b l.id) (here s b c)) else None) l.body.children

  unfoldable pub nowhere_fault : Option Reason
  nowhere_fault = first_given nowhere_under b.nodes
