-- What makes the first of rows 9 to 14 hold, by places among the listed nodes and the child entries: the reason that it is. Assumes nothing.
use Rattle.std.specs.Prelude.{List, [], ◌∷◌, ◌++◌, map, ◌≡◌, ℕ, ◌<◌, length, get_or, Option, IfSome, option_map}
use Rattle.ids.specs.declared.NodeId.{NodeId}
use Rattle.ids.specs.declared.FullNodeId.{FullNodeId}
use Rattle.record.specs.Batch.{Listed, Batch, named_ids}
use Rattle.record_reader.specs.Reader.{no_node, listed_at}
use Rattle.state.specs.State.{Forest}
use Rattle.update.specs.Words.{here}
use Rattle.reasons.specs.Reasons.{Reason, named_twice, graftOverChildren, graftOfRoot, claimed_twice, without_place, child_nowhere}
use Rattle.reasons_calls.specs.Pass.{namers_of}
use Rattle.calls.specs.declared.pass.Cause.{Cause}
use Rattle.calls.specs.declared.pass.Cause.TheVariants.{NamedTwice, GraftOverChildren, GraftOfRoot, ClaimedTwice, WithoutPlace, ChildNowhere}

-- ## Child entries

-- an entry: a listed node and a child that it names
pub record Entry : Type 0 where
  pub by : NodeId
  pub child : NodeId

-- all of them, in the order of the listed nodes and of their children
unfoldable pub entries : List Listed → List Entry
entries [] = []
entries (l ∷ ls) = map (λ c. record { by = l.id; child = c }) l.body.children ++ entries ls

-- no entry
abbrev pub no_entry : Entry
no_entry = record { by = no_node; child = no_node }

-- ## Causes

-- the id of listed node i, and of the child of entry j
abbrev pub listed_id : Forest → Batch → ℕ → FullNodeId
listed_id s b i = here s b (listed_at b i).id

abbrev pub child_id : Forest → Batch → ℕ → FullNodeId
child_id s b j = here s b (get_or (named_ids b.nodes) j no_node)

-- the reason that a cause is
unfoldable pub cause_reason : Forest → Batch → Cause → Reason
cause_reason s b (NamedTwice j) = named_twice (child_id s b j) (namers_of s b (get_or (named_ids b.nodes) j no_node))
cause_reason s b (GraftOverChildren i) = graftOverChildren (listed_id s b i)
cause_reason s b (GraftOfRoot i) = graftOfRoot (listed_id s b i)
cause_reason s b (ClaimedTwice i m) = claimed_twice (listed_at b i).body.graft (listed_id s b m) (listed_id s b i)
cause_reason s b (WithoutPlace i) = without_place (listed_id s b i) i
cause_reason s b (ChildNowhere j) = child_nowhere (here s b (get_or (entries b.nodes) j no_entry).by) (child_id s b j)

-- its number
unfoldable pub cause_number : Cause → ℕ
cause_number (NamedTwice j) = 9
cause_number (GraftOverChildren i) = 10
cause_number (GraftOfRoot i) = 11
cause_number (ClaimedTwice i m) = 12
cause_number (WithoutPlace i) = 13
cause_number (ChildNowhere j) = 14

-- its nodes are listed, its entry is one
unfoldable pub Within : Batch → Cause → Type 0
Within b (NamedTwice j) = j < length (named_ids b.nodes)
Within b (GraftOverChildren i) = i < length b.nodes
Within b (GraftOfRoot i) = i < length b.nodes
Within b (ClaimedTwice i m) = (i < length b.nodes) × (m < length b.nodes)
Within b (WithoutPlace i) = i < length b.nodes
Within b (ChildNowhere j) = j < length (named_ids b.nodes)

-- a cause explains a reason, and none explains that there is none
pub record Explains (s : Forest) (b : Batch) (o : Option Reason) (r : Option Cause) : Type 0 where
  pub within : IfSome r (Within b)
  pub is : o ≡ option_map (cause_reason s b) r
