-- A start: the state that its batch is applied to, and what each way out answers. Assumes nothing.
use mathlib.Core.Bool.{true≢false}
use mathlib.Core.List.{List, []}
use mathlib.Core.Path.{◌≡◌, refl, sym, ap, ◌∙◌}
use Prim.Native.Nat.{ℕ}
use Rattle.std.specs.Prelude.{if◌then◌else◌, Option, None, Some}
use Rattle.base.specs.Tests.{◌and◌, is_none}
use Rattle.base.specs.Bytes.{list_of}
use Rattle.base.proofs.Tests.{bit_set}
use Rattle.ids.specs.Ids.{ROOT}
use Rattle.ids.specs.declared.NodeId.{NodeId}
use Rattle.record.specs.Parse.{batch_of}
use Rattle.record_reader.specs.Reader.{root_or_zero}
use Rattle.state.specs.State.{State, blank}
use Rattle.state.specs.Focus.{state_focus}
use Rattle.state_array.specs.Layout.{entry}
use Rattle.state_array.specs.Stored.{stored}
use Rattle.state_array.specs.Put.{puts, tree_put, head_put}
use Rattle.state_array.specs.View.{tree_in, entry_in, view}
use Rattle.update.specs.Outcome.{outcome}
use Rattle.update.specs.Calls as definition
use Rattle.update.specs.Calls.{seed, without_tree_data}
use Rattle.calls.specs.declared.notes.Refusal.{Refusal}
use Rattle.calls.specs.declared.notes.Scope.{Scope}
use Rattle.calls.specs.Setting.{Scoped, asked, forest, refusal}
use Rattle.calls.specs.Says.{outcome_state}
use Rattle.state_array.specs.Layout.{blank_words}
use Rattle.calls.specs.Says.{Written}
use Rattle.calls.specs.declared.reports.Report as reports
use Rattle.calls.specs.Reported.{OnlyAfter}
use Rattle.calls.specs.Rows.{start_rows}
use Rattle.calls.proofs.rows.Given.{asked_start}
use Rattle.calls.specs.Rows.{later_rows}
use Rattle.calls.proofs.rows.Numbers.{start_begun}
use Rattle.calls.proofs.rows.Calls.{start_state, start_first, start_later, start_done}
use Rattle.replies.specs.declared.Reply.{Reply}
use Rattle.replies.specs.Replies.{is_set, Starts}
use Rattle.replies.specs.Plain.{lengths_are, refused_reply}
use Rattle.calls.specs.Plain.{accepted_reply, seeded}
use Rattle.calls.proofs.answers.Answers.{refused_answers, started_answers}

-- the forest that a start's batch is applied to
pub seed_forest : (bytes : List ℕ) (host : ℕ) → (seeded bytes host).forest ≡ seed (batch_of bytes)
unfolding seeded
seed_forest bytes host = refl

-- the words that a start's batch is applied to
abbrev seed_words : ℕ → NodeId → NodeId → List ℕ
seed_words flag root focus = head_put 0 1 flag (tree_put 0 (record { id = ROOT; root = root; focus = focus; exists = 1 }) blank_words)

-- show ROOT alone
pub seed_shows : (bytes : List ℕ) (host flag : ℕ) (root focus : NodeId) → start_rows bytes ≡ 0 → flag ≡ (if is_set host then 1 else 0)
    → root ≡ root_or_zero (batch_of bytes).root → focus ≡ (batch_of bytes).focus → view (seed_words flag root focus) ≡ seeded bytes host
unfolding view tree_in entry_in entry list_of puts ◌and◌ seeded seed
seed_shows bytes host flag root focus passed f r o = go (batch_of bytes).root refl
  where
    go : (p : Option NodeId) → (batch_of bytes).root ≡ p → view (seed_words flag root focus) ≡ seeded bytes host
    go None e = absurd (true≢false (sym (ap is_none e) ∙ (start_begun bytes passed).rooted))
    go (Some x) e = rw (f, r, o, e, bit_set (is_set host))

-- the blank words show the blank state
pub blank_shows : view blank_words ≡ blank
unfolding view list_of blank
blank_shows = refl

-- a number of rows 2 to 5
pub first_refused : (bytes : List ℕ) (host : ℕ) (t : List ℕ) → t ≡ blank_words → (k : Refusal) → k ≡ refusal (start_rows bytes) → (k.number ≡ 0 → ⊥)
    → (r : Reply) → r ≡ refused_reply k.number → Starts bytes host t r
first_refused bytes host t b k e more r q =
    let n : k.number ≡ start_rows bytes = ap (λ (j : Refusal). j.number) e in
    rw b (refused_answers k.number more blank blank_words _ [] blank_shows _
    (start_first bytes (is_set host) (λ z. more (n ∙ z)) ∙ ap (λ j. definition.refused j blank []) (sym n)) r q)

module _ (s bytes : List ℕ) (host : ℕ) (c : Scope) (passed : start_rows bytes ≡ 0) (begun : view s ≡ seeded bytes host)
    (scoped : Scoped (seed (batch_of bytes)) (without_tree_data (batch_of bytes)) c) (k : Refusal) (e : k ≡ refusal (later_rows (forest s) (asked bytes c))) where
  is : asked bytes c ≡ without_tree_data (batch_of bytes)
  is = asked_start (seed (batch_of bytes)) bytes c scoped

  from : forest s ≡ seed (batch_of bytes)
  unfolding seeded
  from = ap (λ (a : State). a.forest) begun

  number : k.number ≡ later_rows (seed (batch_of bytes)) (without_tree_data (batch_of bytes))
  number = ap (λ (j : Refusal). j.number) e ∙ rw (from, is)

  -- a number of rows 9 to 20
  pub later_refused : (k.number ≡ 0 → ⊥) → (t : List ℕ) → t ≡ blank_words → (r : Reply) → r ≡ refused_reply k.number → Starts bytes host t r
  later_refused more t b r q =
      rw b (refused_answers k.number more blank blank_words _ [] blank_shows _
      (start_later bytes (is_set host) passed (λ z. more (number ∙ z)) ∙ ap (λ j. definition.refused j blank []) (sym number)) r q)

  -- no number
  pub start_accepted_lem : k.number ≡ 0 → (notes next : List ℕ) → Written s bytes c notes next → (p : reports.Report) → OnlyAfter (state_focus (view next)) p
      → (r : Reply) → r ≡ accepted_reply (lengths_are 0 0 0 0) p → Starts bytes host next r
  unfolding definition.started seeded
  start_accepted_lem zero notes next o p said r q =
      let d = start_done bytes (is_set host) passed (sym number ∙ zero) in
      let made : outcome_state s bytes c ≡ start_state bytes (is_set host) = λ z. record { forest = outcome (from z) (is z); host_focused = (begun z).host_focused } in
      let after : view next ≡ start_state bytes (is_set host) = o.shows ∙ made in
      started_answers (start_state bytes (is_set host)) blank_words _ next
      (o.words ∙ ap stored (made ∙ sym (ap (λ (a : definition.Answer). a.state) d)))
      after _ d p (rw after at said) r q
