-- The pass a step at a time: where it stands, what is left of it, and what each step does. Assumes nothing.
use Rattle.std.specs.Prelude.{Bool, true, false, ◌||◌, List, [], ◌∷◌, ◌++◌, ◌≡◌, ℕ, zero, suc, ◌+◌, ◌-◌, ◌≤◌, ◌<◌, eqb, ltb, length, get_or, take, drop, set, if◌then◌else◌, Option, None, Some, IfSome}
use Rattle.base.specs.Tests.{◌and◌, has, position}
use Rattle.ids.specs.Ids.{same_tree, same_node}
use Rattle.ids.specs.declared.TreeId.{TreeId}
use Rattle.ids.specs.declared.NodeId.{NodeId}
use Rattle.record.specs.Batch.{Listed, Batch, named_ids}
use Rattle.record_reader.specs.Reader.{no_node, listed_at}
use Rattle.state.specs.State.{Forest}
use Rattle.update.specs.Words.{listing}
use Rattle.update.specs.Pass.{Event, places, placed_at_turn, namings, events}
use Rattle.reasons_calls.specs.Pass.{claimer_among, pass_reason}
use Rattle.calls.specs.Layout.{CLAIMS}
use Rattle.calls.specs.declared.notes.Scope.{Scope}
use Rattle.calls.specs.Setting.{asked, forest}
use Rattle.calls.specs.Says.{Told, READ}
use Rattle.calls.specs.declared.pass.Cause.{Cause}
use Rattle.calls.specs.declared.pass.Cause.TheVariants.{NamedTwice}
use Rattle.calls.specs.declared.pass.Step.{Step}
use Rattle.calls.specs.declared.pass.Naming.{Naming}
use Rattle.calls.specs.Causes.{cause_reason, Within}

-- ## When a node is placed at its turn

-- the number of named children from which on listed node i is: 0 where it is old or the root, else one more than where it is first named
unfoldable pub due_of : Forest → Batch → ℕ → ℕ
due_of s b i = if placed_at_turn s b (listed_at b i).id then 0 else suc (position same_node (named_ids b.nodes) (listed_at b i).id)

-- the column of these
abbrev pub Due : Forest → Batch → List ℕ → Type 0
Due s b due = (i : ℕ) → i < length b.nodes → get_or due i 0 ≡ due_of s b i

-- at most 64 nodes, and of each at most 257
pub record DueRoom (k : ℕ) (due : List ℕ) : Type 0 where
  pub few : k ≤ 64
  pub low : (m : ℕ) → m < k → get_or due m 0 < 258

-- for each number of named children a node that is placed from there on, 64 where there is none
pub record Firsts (k : ℕ) (due firsts : List ℕ) : Type 0 where
  pub right : (d : ℕ) → d < 258 → get_or firsts d 0 < 64 → (get_or firsts d 0 < k) × (get_or due (get_or firsts d 0) 0 ≡ d)
  pub each : (m : ℕ) → m < k → get_or firsts (get_or due m 0) 0 < 64

-- what the pass is told: the notes, and these two columns
pub record Prepared (state bytes : List ℕ) (c : Scope) (notes due firsts : List ℕ) : Type 0 where
  pub told : Told READ state bytes c notes
  pub dues : Due (forest state) (asked bytes c) due
  pub firsts_are : Firsts c.listed due firsts

-- ## Where the pass stands

-- how many children the listed nodes before node i name
abbrev pub entries_before : Batch → ℕ → ℕ
entries_before b i = length (named_ids (take i b.nodes))

-- child entry j is one of listed node i, or the one after them
pub record At (b : Batch) (i j : ℕ) : Type 0 where
  pub begun : entries_before b i ≤ j
  pub within : i < length b.nodes → j ≤ entries_before b (i + 1)

-- THE PREMISE OF A STEP: what the pass is told, and that it stands at child entry j of listed node i
pub record Standing (state bytes : List ℕ) (c : Scope) (notes due firsts : List ℕ) (i j : ℕ) : Type 0 where
  pub prepared : Prepared state bytes c notes due firsts
  pub here : At (asked bytes c) i j
  pub listed : i < c.listed

-- what is left of the pass over listed nodes from child m of the first on
unfoldable pub rest_over : Forest → Batch → List Listed → ℕ → List Listed → List Event
rest_over s b earlier m [] = []
rest_over s b earlier m (l ∷ ls) =
    namings s b earlier (drop m l.body.children)
    ++ (if placed_at_turn s b l.id || has same_node (named_ids earlier ++ l.body.children) l.id then places l ∷ [] else [])
    ++ events s b (earlier ++ l ∷ []) ls

-- what is left of it at child entry j of listed node i
unfoldable pub rest : Forest → Batch → ℕ → ℕ → List Event
rest s b i j = rest_over s b (take i b.nodes) (j - entries_before b i) (drop i b.nodes)

-- the first j of some children, the last first
unfoldable pub seen : List NodeId → ℕ → List NodeId
seen cs zero = []
seen cs (suc j) = get_or cs j no_node ∷ seen cs j

-- ## A step

-- the placing of listed node i, nothing past the last
unfoldable pub placing : Batch → ℕ → List Event
placing b i = if ltb i (length b.nodes) then places (listed_at b i) ∷ [] else []

-- the placing of a listed node, if there is one
abbrev pub placing_if : Batch → Option ℕ → List Event
placing_if b None = []
placing_if b (Some i) = placing b i

-- the placing of a child that was listed earlier and waits to be named
unfoldable pub waits : Forest → Batch → List Listed → NodeId → List Event
waits s b earlier c =
    elim (listing earlier c) [ None ↦ [] | Some d ↦ if placed_at_turn s b c then [] else places (record { id = c; body = d }) ∷ [] ]

-- what a step at child entry j of listed node i does
pub record Moves (s : Forest) (b : Batch) (i j : ℕ) (r : Step) : Type 0 where
  pub there : At b r.i r.j
  pub listed : r.i ≤ length b.nodes
  pub at_within : IfSome r.at (λ p. p < length b.nodes)
  pub one_more : r.i + r.j ≡ i + j + 1
  pub entry : r.twice ≡ true → j < length (named_ids b.nodes)
  pub twice : (placed : List Listed) → r.twice ≡ true → pass_reason s b (seen (named_ids b.nodes) j) placed (rest s b i j) ≡ Some (cause_reason s b (NamedTwice j))
  pub once : (placed : List Listed) → r.twice ≡ false
      → pass_reason s b (seen (named_ids b.nodes) j) placed (rest s b i j)
      ≡ pass_reason s b (seen (named_ids b.nodes) r.j) placed (placing_if b r.at ++ rest s b r.i r.j)

-- what naming child entry j of listed node i does
abbrev pub Names : Forest → Batch → ℕ → ℕ → Naming → Type 0
Names s b i j r = Moves s b i j (record { i = i; j = j + 1; twice = r.twice; at = r.at })

-- ## Placing a node

-- listed node m is done and claims the tree t
unfoldable pub is_taken : Batch → List ℕ → List ℕ → TreeId → ℕ → Bool
is_taken b notes done t m = eqb (get_or done m 0) 1 and eqb (get_or notes (CLAIMS + m) 0) 1 and same_tree (listed_at b m).body.graft t

-- the nodes that are done are those placed so far, as far as claims go: each tree has the same claimer among both
pub record Claimed (s : Forest) (b : Batch) (notes done : List ℕ) (placed : List Listed) : Type 0 where
  pub free : (t : TreeId) → ((m : ℕ) → m < length b.nodes → is_taken b notes done t m ≡ false) → claimer_among s b placed t ≡ None
  pub held : (t : TreeId) (m : ℕ) → m < length b.nodes → is_taken b notes done t m ≡ true → claimer_among s b placed t ≡ Some (listed_at b m)

-- the pass goes on after the placing of listed node i, and these nodes are placed then
pub record GoesOn (s : Forest) (b : Batch) (notes done : List ℕ) (i : ℕ) (placed : List Listed) : Type 0 where
  pub after : List Listed
  pub claimed_after : Claimed s b notes (set done i 1) after
  pub left : (seen : List NodeId) (es : List Event) → pass_reason s b seen placed (placing b i ++ es) ≡ pass_reason s b seen after es

-- what placing listed node i meets
pub record PlacedIs (s : Forest) (b : Batch) (notes done : List ℕ) (i : ℕ) (r : Option Cause) : Type 0 where
  pub within : IfSome r (Within b)
  pub goes : r ≡ None → i < length done → (placed : List Listed) → Claimed s b notes done placed → GoesOn s b notes done i placed
  pub meets : (met : Cause) → r ≡ Some met → (placed : List Listed) → Claimed s b notes done placed
      → (seen : List NodeId) (es : List Event) → pass_reason s b seen placed (placing b i ++ es) ≡ Some (cause_reason s b met)
