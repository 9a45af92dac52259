-- Laws of the link of a node of another tree, and of an old node by its slot. Assumes nothing.
use Rattle.calls.specs.Links.{LinkElsewhereIs, cut_mark, LinkHereIs, old_row}
use mathlib.Core.Bool.{Bool, true, false, ◌||◌, true≢false}
use mathlib.Core.List.{List}
use mathlib.Core.Path.{◌≡◌, refl, ap, ◌∙◌, sym}
use Prim.Native.Nat.{ℕ, ◌≤◌, ◌<◌, ◌+◌}
use native.Mathlib.Omega.{arith}
use lib.Dec.{eqb, ltb}
use borrow.Author.Tests.{eq-eqb, ne_eqb, lt-ltb, le-ltb}
use Rattle.std.specs.Prelude.{if◌then◌else◌, Option, None, Some}
use Rattle.ids.specs.Ids.{same_index}
use Rattle.ids.specs.declared.FullNodeId.{FullNodeId}
use Rattle.record.specs.Parse.{batch_of}
use Rattle.record_reader.specs.Reader.{listed_at}
use Rattle.record.specs.Batch.{Batch}
use Rattle.state.specs.State.{ParentAndIndex, Forest}
use Rattle.state_array.specs.Stored.{link_row}
use Rattle.state_array.specs.View.{link_of, slots_of, id_in, link_in}
use Rattle.state_array.specs.declared.LinkRow.{LinkRow}
use Rattle.update.specs.Words.{here, old}
use Rattle.update.specs.Outcome.{under_graft, link_elsewhere}
use Rattle.calls.specs.declared.notes.Scope.{Scope}
use Rattle.calls.specs.Setting.{asked, forest}
use Rattle.calls.specs.Says.{graft_below, ClaimedFromIs, slot_above, claim_word, Told, COMPARED, naming_mark, turn_word, naming_word, above_word}
use Rattle.calls.proofs.notes.Grafts.{graft_slot, claimed_from_is}
use Rattle.calls.proofs.notes.Told.{batched}
use Rattle.calls.proofs.links.Here.{link_after_here, link_after_elsewhere}
use lib.ListN.{get_or}
use Rattle.calls.specs.Layout.{LISTED, TURNS, NAMINGS, ABOVE}
use Rattle.calls.specs.Noted.{id_noted}
use Rattle.calls.proofs.notes.Noted.{listed_noted}
use Rattle.calls.specs.Codes.{node_at, id_at}
use Rattle.calls.proofs.notes.Places.{present_at, forest_id, forest_link}
use Rattle.update_focus.proofs.Numbers.{forest_length}

-- ## A link's words

module _ (l : LinkRow) {r : LinkRow} where
  -- without a link
  pub no_link : l.linked ≡ 0 → r ≡ link_row None → r ≡ link_row (link_of l)
  unfolding link_of
  no_link e q = q ∙ rw (eq-eqb l.linked 0 e)

  -- with one
  pub a_link : (l.linked ≡ 0 → ⊥) → r ≡ link_row (Some (record { parent = l.parent; index = l.index })) → r ≡ link_row (link_of l)
  unfolding link_of
  a_link h q = q ∙ rw (ne_eqb l.linked 0 h)

-- ## Another tree

-- the test for a node that has no parent, or one of its own tree
abbrev pub own_test : FullNodeId → LinkRow → Bool
own_test x was = eqb was.linked 0 || eqb was.parent.tree.0 x.tree.0

module _ (x : FullNodeId) {was : LinkRow} where
  -- such a node keeps its link
  link_elsewhere_own : (s : Forest) (b : Batch) (o : Option ParentAndIndex) → was ≡ link_row o → own_test x was ≡ true
      → was ≡ link_row (link_elsewhere s b x o)
  unfolding link_elsewhere link_row same_index
  link_elsewhere_own s b None e own = e
  link_elsewhere_own s b (Some l) e own = let same : eqb l.parent.tree.0 x.tree.0 ≡ true = rw e at own in rw same e

  module _ {state bytes : List ℕ} {c : Scope} {notes : List ℕ} (told : Told COMPARED state bytes c notes) where
    -- any other stands under the claimer of the tree that its parent grafted
    link_elsewhere_claimed : {slot r : ℕ} → ClaimedFromIs (batch_of bytes) notes c.listed (graft_below state slot) r
        → (o : Option ParentAndIndex) → was ≡ link_row o → slot ≡ slot_above state o → own_test x was ≡ false
        → {t : Bool} → ltb r c.listed ≡ t
        → (if t then under_graft (here (forest state) (asked bytes c) (listed_at (asked bytes c) r).id) else o)
        ≡ link_elsewhere (forest state) (asked bytes c) x o
    unfolding link_elsewhere link_row same_index slot_above claim_word
    link_elsewhere_claimed found None e at other is = absurd (true≢false (rw e at other))
    link_elsewhere_claimed {slot} {r} found (Some l) e at other {t} is =
        let apart : eqb l.parent.tree.0 x.tree.0 ≡ false = rw e at other in
        rw (
          apart,
          claimed_from_is (forest state) (asked bytes c) bytes (batched state bytes c told.given) notes c.listed told.given.scoped.listed
              (λ j h. told.written 7 (omega arith) j h) l.parent r (rw (graft_slot state l.parent, ← at) found),
          is,
        )
        (go t)
      where
        g : FullNodeId
        g = here (forest state) (asked bytes c) (listed_at (asked bytes c) r).id

        claimed : Bool → Option FullNodeId
        claimed t = if t then Some g else None

        go : (t : Bool) → (if t then under_graft g else Some l) ≡ elim (claimed t) as (λ _. Option ParentAndIndex) [ None ↦ Some l | Some y ↦ under_graft y ]
        go true = refl
        go false = refl

-- ## As the code finds it

module _ {state bytes : List ℕ} {c : Scope} {notes : List ℕ} (told : Told COMPARED state bytes c notes) {slot : ℕ} (x : FullNodeId) {was : LinkRow} where
  -- as it was
  pub elsewhere_own : own_test x was ≡ true → LinkElsewhereIs state bytes c slot x was was
  elsewhere_own own o e above = link_elsewhere_own x (forest state) (asked bytes c) o e own

  module _ (other : own_test x was ≡ false) {i : ℕ} (found : ClaimedFromIs (batch_of bytes) notes c.listed (graft_below state slot) i) where
    pub elsewhere_kept : c.listed ≤ i → LinkElsewhereIs state bytes c slot x was was
    elsewhere_kept h o e above = e ∙ ap link_row (link_elsewhere_claimed x told found o e above other (le-ltb i c.listed h))

    -- under the claimer
    pub elsewhere_claimed : {g : FullNodeId} {r : LinkRow} → i < c.listed → g ≡ id_noted c notes (LISTED + i)
        → r ≡ link_row (Some (record { parent = g; index = 0 })) → LinkElsewhereIs state bytes c slot x was r
    unfolding under_graft
    elsewhere_claimed h id q o e above =
        q ∙ ap (λ (g : FullNodeId). link_row (under_graft g)) (id ∙ listed_noted (omega arith) told h) ∙ ap link_row (link_elsewhere_claimed x told found o e above other (lt-ltb i c.listed h))

module _ {state bytes : List ℕ} {c : Scope} {notes : List ℕ} (told : Told COMPARED state bytes c notes) {i : ℕ} (h : i < slots_of state) where
  -- it is old
  is_old : old (forest state) (asked bytes c) (id_at (forest state) i) ≡ true
  unfolding old
  is_old = present_at (forest state) i (omega (arith, forest_length state))

  old_at : (o : Option ParentAndIndex) → old (forest state) (asked bytes c) (id_at (forest state) i) ≡ false → o ≡ None
  old_at o e = absurd (true≢false (sym is_old ∙ e))

  -- its marks
  turn_at : get_or notes (TURNS + i) 0 ≡ cut_mark (forest state) (asked bytes c) (id_at (forest state) i)
  unfolding turn_word cut_mark
  turn_at = rw is_old (told.written 5 (omega arith) i h)

  naming_at : get_or notes (NAMINGS + i) 0 ≡ naming_mark (forest state) (asked bytes c) (id_at (forest state) i)
  unfolding naming_word
  naming_at = told.written 6 (omega arith) i h

  -- the slot of its parent
  above_at : get_or notes (ABOVE + i) 0 ≡ slot_above state (node_at (forest state) i).parent_and_index
  unfolding above_word
  above_at = told.written 8 (omega arith) i h

  -- ## As the code finds its id and its link

  module _ {x : FullNodeId} (id : x ≡ id_in state i) {l was : LinkRow} (link : l ≡ link_in state i) (words : was ≡ link_row (link_of l)) where
    id_is : x ≡ id_at (forest state) i
    id_is = id ∙ sym (forest_id state i h)

    link_is : was ≡ link_row (node_at (forest state) i).parent_and_index
    link_is = words ∙ ap link_row (ap link_of link ∙ sym (forest_link state i h))

    -- in another tree than the batch's
    pub old_elsewhere : {r : LinkRow} → (x.tree.0 ≡ c.tree.0 → ⊥) → LinkElsewhereIs state bytes c (get_or notes (ABOVE + i) 0) x was r → r ≡ old_row state bytes c i
    old_elsewhere other f =
        (rw id_is at f) _ link_is above_at ∙ ap link_row (link_after_elsewhere told.given.scoped _ _ (rw id_is at other))

    -- in it
    pub old_here : {r : LinkRow} → x.tree.0 ≡ c.tree.0 → LinkHereIs state bytes c x was (get_or notes (TURNS + i) 0) r → r ≡ old_row state bytes c i
    old_here e f = (rw id_is at f) _ link_is turn_at (old_at _) ∙ ap link_row (link_after_here told.given.scoped _ _ (rw id_is at e))

  pub named_at : {x : FullNodeId} → x ≡ id_in state i → get_or notes (NAMINGS + i) 0 ≡ naming_mark (forest state) (asked bytes c) x
  named_at id = rw (id ∙ sym (forest_id state i h)) naming_at
