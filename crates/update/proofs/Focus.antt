-- After the rows before 15 the room of the focus chain suffices: no node of the outcome grafts ROOT.
-- Assumes nothing.
use mathlib.Core.Bool.{Bool, true, false}
use mathlib.Core.Path.{◌≡◌, refl, sym, ◌∙◌}
use Prim.Native.Nat.{ℕ, suc, ◌+◌}
use lib.ListN.{length}
use Rattle.std.specs.Prelude.{if◌then◌else◌, None, Some}
use Rattle.base.specs.Tests.{any, all, same_option, distinct}
use Rattle.base.proofs.Tests.{same_option→≡}
use Rattle.base.proofs.Lists.{none_of, all_of}
use Rattle.ids.specs.Ids.{ROOT, same_tree, same_node}
use Rattle.ids.proofs.Ids.{same_tree→≡}
use Rattle.record.specs.Batch.{graft?, Listed, Batch, listed_ids}
use Rattle.state.specs.State.{Forest, graft_at, holder, subtree_of}
use Rattle.state.specs.declared.SubtreeState.{SubtreeState}
use Rattle.state.specs.Focus.{through_grafts, effective_focus}
use Rattle.state.specs.Sound.{grafts_differ, sound}
use Rattle.state.proofs.Sound.{shape_parts, sound_parts}
use Rattle.state.proofs.Grafts.{spares, not_spares, holder_spared, graft_spared, root_spared}
use Rattle.state.proofs.Focus.{room_enough}
use Rattle.update.specs.Words.{here, claim}
use Rattle.update.specs.Pass.{pass}
use Rattle.update.specs.Outcome.{outcome}
use Rattle.update.specs.Numbers.{placeless}
use Rattle.update.specs.Calls.{seed, without_tree_data}
use Rattle.update.proofs.Outcome.{all_outcome}
use Rattle.update.proofs.Pass.{none_claims_root}

module _ (s : Forest) (b : Batch) (spared : all (λ n. spares ROOT n.body) s.nodes ≡ true) where
  -- where no old node grafts ROOT, a listed node that grafts it claims it
  claims_root : (l : Listed) → graft? l.body ≡ Some ROOT → claim s b l ≡ Some ROOT
  unfolding claim
  claims_root l q = go (same_option same_tree (graft? l.body) (graft_at s.nodes (here s b l.id))) refl
    where
      go : (c : Bool) → same_option same_tree (graft? l.body) (graft_at s.nodes (here s b l.id)) ≡ c → (if c then None else graft? l.body) ≡ Some ROOT
      go true e =
          let same = same_option→≡ same_tree same_tree→≡ (graft? l.body) (graft_at s.nodes (here s b l.id)) e in
          absurd (graft_spared s.nodes (here s b l.id) ROOT spared (sym same ∙ q))
      go false e = q

  module _ (once : distinct same_node (listed_ids b.nodes) ≡ true) (passed : pass s b ≡ 0) (placed : any (placeless s b) b.nodes ≡ false) where
    -- so no node of the outcome grafts it
    pub outcome_root : holder (outcome s b).nodes ROOT ≡ None
    outcome_root = none_of (holder (outcome s b).nodes ROOT) (holder_spared (outcome s b).nodes ROOT ∙ all_outcome (spares ROOT) s b spared listed)
      where
        listed : all (λ l. spares ROOT l.body) b.nodes ≡ true
        listed = all_of (λ l. spares ROOT l.body) b.nodes
            (λ l i. not_spares ROOT l.body (λ q. none_claims_root s b once passed placed l i (claims_root l q)))

    -- and the room suffices
    outcome_room : grafts_differ (outcome s b).nodes ≡ true → (u : SubtreeState) → subtree_of (outcome s b) ROOT ≡ Some u → (more : ℕ)
        → through_grafts (suc (length (outcome s b).trees) + more) (outcome s b) u.focus ≡ effective_focus (outcome s b)
    outcome_room differ u is more = room_enough (outcome s b) differ outcome_root u is more

-- after the rows before 15 the room of the focus chain suffices: 15 is returned only where a graft is met whose tree does not exist
pub focus_room : (s : Forest) (b : Batch) → sound s ≡ true
    → distinct same_node (listed_ids b.nodes) ≡ true  -- row 5 does not hold
    → pass s b ≡ 0  -- nor 9 to 12 in the pass
    → any (placeless s b) b.nodes ≡ false  -- nor 13
    → grafts_differ (outcome s b).nodes ≡ true  -- nor 12's clash with a graft already held
    → (u : SubtreeState) → subtree_of (outcome s b) ROOT ≡ Some u → (more : ℕ)
    → through_grafts (suc (length (outcome s b).trees) + more) (outcome s b) u.focus ≡ effective_focus (outcome s b)
focus_room s b e = outcome_room s b (root_spared s (shape_parts s (sound_parts s e).shape))

-- the same for a start
pub start_focus_room : (b : Batch)
    → distinct same_node (listed_ids (without_tree_data b).nodes) ≡ true
    → pass (seed b) (without_tree_data b) ≡ 0
    → any (placeless (seed b) (without_tree_data b)) (without_tree_data b).nodes ≡ false
    → grafts_differ (outcome (seed b) (without_tree_data b)).nodes ≡ true
    → (u : SubtreeState) → subtree_of (outcome (seed b) (without_tree_data b)) ROOT ≡ Some u → (more : ℕ)
    → through_grafts (suc (length (outcome (seed b) (without_tree_data b)).trees) + more) (outcome (seed b) (without_tree_data b)) u.focus
    ≡ effective_focus (outcome (seed b) (without_tree_data b))
unfolding seed
start_focus_room b = outcome_room (seed b) (without_tree_data b) refl
