-- What the notes say to the writer, of node r its code, its id, its link, its data; and the whole outcome. Assumes nothing.
use mathlib.Core.Bool.{true}
use mathlib.Core.List.{List}
use mathlib.Core.Path.{◌≡◌, sym, ◌∙◌, ap}
use Prim.Native.Nat.{ℕ, ◌+◌, ◌-◌, ◌≤◌, ◌<◌}
use native.Mathlib.Omega.{arith}
use lib.ListN.{length, get_or}
use Rattle.record.specs.Batch.{Batch, NodeData, fields_ok}
use Rattle.state.specs.State.{Forest, NodeState}
use Rattle.state_array.specs.View.{node_in}
use Rattle.state_array.specs.Stored.{no_state, entries_of, body_of, stored}
use Rattle.update.specs.Outcome.{link_after, outcome}
use Rattle.calls.specs.declared.notes.Scope.{Scope}
use Rattle.calls.specs.Layout.{COUNT, CODES, SOURCES}
use Rattle.calls.specs.Setting.{asked, forest}
use Rattle.calls.specs.Codes.{id_at, code_id, code_link, Coded, SourceOf, code_of, source_of, node_at}
use Rattle.calls.specs.Says.{Told, COMPARED, PLANNED, code_word, source_word, outcome_state}
use Rattle.calls.specs.Noted.{code_noted}
use Rattle.calls.specs.Plan.{Valid}
use Rattle.calls.proofs.notes.Places.{forest_node}
use Rattle.calls.proofs.notes.Noted.{code_noted_lem, code_room}
use Rattle.update_focus.proofs.Numbers.{forest_length}
use Rattle.calls.proofs.notes.Told.{few_listed, few_named, few_after, batched}
use Rattle.calls.proofs.Outcome.Codes.{coded, code_id_lem}
use Rattle.calls.proofs.Outcome.Nodes.{code_link_lem, source_of_lem}
use Rattle.calls.proofs.Outcome.Room.{entries_few, trees_few}
use Rattle.calls.specs.Written.{nodes_after, host_word}
use Rattle.state_array.specs.Layout.{blank_words}
use Rattle.state_array.specs.Filled.{nodes_written, children_written, trees_written, head_written}
use native.Mathlib.Decide.{dec_lt}
use Rattle.state_array.specs.declared.Body.{Body}
use Rattle.calls.proofs.notes.Setting.{batched_at}
use Rattle.base.proofs.Lists.{all_at}
use Rattle.state_array.proofs.Labels.{are_bytes}
use Rattle.state_array.proofs.Bodies.{are_words}
use Rattle.update_bodies.specs.Bodies.{code_body}
use Rattle.update_bodies.proofs.Bodies.{code_kept, code_listed}
use Rattle.state_array.specs.Put.{head_put}
use Rattle.state_array.proofs.Filled.{filled_stored, head_stored}
use Rattle.calls.specs.Trees.{trees_after, trees_counted}
use Rattle.calls.proofs.trees.Entries.{trees_count}

module _ {state bytes : List ℕ} {c : Scope} {notes : List ℕ} (told : Told PLANNED state bytes c notes) where
  abbrev s : Forest
  s = forest state

  abbrev b : Batch
  b = asked bytes c

  -- ## Limits

  -- how many nodes there are, and that they have room
  pub count_told : get_or notes COUNT 0 ≡ length (nodes_after state bytes c)
  count_told = told.written 11 (omega arith) 0 (omega arith)

  pub nodes_room : length (nodes_after state bytes c) ≤ 320
  nodes_room = few_after state bytes c told.given

  -- a node before the count is one of them
  pub node_among : {r : ℕ} → r < get_or notes COUNT 0 → r < length (nodes_after state bytes c)
  node_among h = omega (arith, count_told)

  listed_room : length (asked bytes c).nodes ≤ 64
  listed_room = omega (arith, few_listed state bytes c told.given, told.given.scoped.listed)

  -- so have their children
  pub entries_room : length (entries_of (nodes_after state bytes c)) ≤ 512
  entries_room = entries_few s b told.given.kept (rw told.given.scoped.named at (few_named state bytes c told.given))

  -- what the links were worked out from
  pub told_compared : Told COMPARED state bytes c notes
  told_compared = record { given = told.given; long = told.long; written = λ j h. told.written j (omega arith) }

  -- ## Node r

  module _ {r : ℕ} (l : r < length (nodes_after state bytes c)) where
    code_told : get_or notes (CODES + r) 0 ≡ code_of s b (id_at (outcome s b) r)
    unfolding code_word
    code_told = told.written 12 (omega arith) r l

    source_told : get_or notes (SOURCES + r) 0 ≡ source_of s b (id_at (outcome s b) r)
    unfolding source_word
    source_told = told.written 13 (omega arith) r l

    -- its code, its id and its link
    pub code_there : Coded (forest state) (asked bytes c) (get_or notes (CODES + r) 0)
    code_there = rw code_told (coded s b told.given.kept listed_room told.given.once r l)

    code_valid : Valid state c (get_or notes (CODES + r) 0)
    code_valid = (
      λ h. omega (arith, (code_there.stays h).0, forest_length state),
      λ h. omega (arith, (code_there.new h).0, told.given.scoped.listed),
    )

    pub code_few : get_or notes (CODES + r) 0 < 384
    code_few = code_room (omega arith) told code_valid

    pub id_there : code_noted state c notes (get_or notes (CODES + r) 0) ≡ (get_or (nodes_after state bytes c) r no_state).id
    id_there = code_noted_lem (omega arith) told code_valid ∙ rw code_told (code_id_lem s b told.given.kept listed_room told.given.once r l)

    pub link_there : link_after (forest state) (asked bytes c) (code_id (forest state) (asked bytes c) (get_or notes (CODES + r) 0)) (code_link (forest state) (asked bytes c) (get_or notes (CODES + r) 0))
        ≡ (get_or (nodes_after state bytes c) r no_state).parent_and_index
    link_there = rw code_told (sym (code_link_lem s b told.given.kept listed_room told.given.once r l))

    -- where its data comes from
    pub source_there : SourceOf (forest state) (asked bytes c) (get_or notes (SOURCES + r) 0) (get_or (nodes_after state bytes c) r no_state).body
    source_there = rw source_told (source_of_lem s b told.given.kept listed_room told.given.once r l)

module _ {state bytes : List ℕ} {c : Scope} {notes : List ℕ} (told : Told PLANNED state bytes c notes) {r : ℕ} (l : r < length (nodes_after state bytes c)) where
  pub body_there : {d : Body} → d ≡ code_body state bytes (get_or notes (SOURCES + r) 0) → are_words d.floats ≡ true → are_bytes bytes ≡ true
      → d ≡ body_of (get_or (nodes_after state bytes c) r no_state).body
  body_there {d} is words byte = go (dec_lt source 320)
    where
      source : ℕ
      source = get_or notes (SOURCES + r) 0

      body : NodeData
      body = (get_or (nodes_after state bytes c) r no_state).body

      go : Dec (source < 320) → d ≡ body_of body
      go (yes h) =
          let from = (source_there told l).kept h in
          let node : node_at (forest state) source ≡ node_in state source = forest_node state source (rw (forest_length state) at from.0) in
          let fields = all_at (λ n. fields_ok n.body) (forest state).nodes no_state told.given.kept.fields source from.0 in
          (code_kept state bytes source is words h (rw node at fields)).is ∙ ap (λ (n : NodeState). body_of n.body) (sym node) ∙ ap body_of from.1
      go (no h) =
          let past : 320 ≤ source = omega arith in
          let from = (source_there told l).read past in
          let record_of = batched state bytes c told.given in
          (code_listed state bytes source is byte past told.given.formed (rw record_of.nodes at from.0)).is
          ∙ rw (batched_at bytes (asked bytes c) record_of (source - 320)) (ap body_of from.1)

pub outcome_written : {state bytes : List ℕ} {c : Scope} {notes : List ℕ} → Told PLANNED state bytes c notes → {blank nodes children trees end : List ℕ}
    → blank ≡ blank_words → nodes ≡ nodes_written (nodes_after state bytes c) blank → children ≡ children_written (nodes_after state bytes c) nodes
    → trees ≡ trees_written (trees_after state bytes c) children → end ≡ head_written (outcome_state state bytes c) trees → end ≡ stored (outcome_state state bytes c)
outcome_written {state} {bytes} {c} told z n k t h =
    rw (h, t, k, n, z)
    (filled_stored (outcome_state state bytes c) (nodes_room told)
    (trees_few (forest state) (asked bytes c) told.given.kept told.given.numbered) (entries_room told))

-- the head, as the code finds its words
pub head_told : {state bytes : List ℕ} {c : Scope} {notes : List ℕ} → Told PLANNED state bytes c notes → (s : List ℕ) {trees host : ℕ} {t : List ℕ}
    → trees ≡ trees_counted state c.tree → host ≡ host_word state → t ≡ head_put (get_or notes COUNT 0) trees host s → t ≡ head_written (outcome_state state bytes c) s
head_told {state} {bytes} {c} told s n h e =
    e ∙ rw (n, h, count_told told, ← trees_count told.given) (head_stored (outcome_state state bytes c) s)
