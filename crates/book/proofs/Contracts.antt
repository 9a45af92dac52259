-- Demand 3 over the contracts of the linked functions: the words of a chain show the definitions' states, and the lists that stand in the slice are
-- the definition's. Assumes nothing.
use mathlib.Core.List.{List, [], ◌∷◌, ◌++◌, map, append_assoc}
use mathlib.Core.Path.{◌≡◌, refl, sym, ap, ◌∙◌, subst}
use Prim.Native.Nat.{ℕ, zero, suc, ◌+◌, ◌*◌, ◌<◌}
use native.Mathlib.Omega.{arith}
use lib.ListN.{length, drop, get_or, length-append}
use lib.Seq.{get_or-append-add}
use Rattle.base.proofs.Columns.{list_of_each}
use Rattle.ids.specs.Ids.{id_words}
use Rattle.ids.specs.declared.FullNodeId.{FullNodeId}
use Rattle.ids.proofs.Ids.{id_words_length, id_words_append}
use Rattle.state.specs.State.{State}
use Rattle.state_array.specs.View.{view}
use Rattle.update.specs.Reports.{Changes, lengths_of, change_words, slice_after}
use Rattle.update.specs.Calls as definition
use Rattle.update.specs.Calls.{update}
use Rattle.replies.specs.declared.Reply.{Reply}
use Rattle.replies.specs.Replies.{reply_to, is_set, Answers}
use Rattle.book.specs.Book as book
use Rattle.book.specs.Book.{answer_to}
use Rattle.book.specs.Demand.{state_after, book_after, Agrees}
use Rattle.book.specs.Promises.{Call, batch, host, meant, Allows, Chain, ids_in, added_in, removed_in, CountedInSlice, Demand3OfCode}
use Rattle.book.proofs.Calls.{accepted_update, counted_update}
use Rattle.book.proofs.Theorem.{demand3}

-- ## Chains

-- what a call leaves shows the definition's state
allows_view : (s : List ℕ) (c : Call) (t : List ℕ) (r : Reply) (slice : List ℕ) → Allows s c t r slice → view t ≡ (answer_to (view s) (meant c)).state
unfolding Allows meant answer_to
allows_view s (batch bytes l) t r slice a = a.state_is
allows_view s (host flag) t r slice a = a.state_is

-- and so does the end of a chain
chain_view : (s : List ℕ) (cs : List Call) (t : List ℕ) → Chain s cs t → state_after (view s) (map meant cs) ≡ view t
unfolding Chain state_after
chain_view s [] t e = ap view e
chain_view s (c ∷ cs) t (u, r, slice, allowed, rest) =
    ap (λ (v : State). state_after v (map meant cs)) (sym (allows_view s c u r slice allowed)) ∙ chain_view u cs t rest

-- ## Lists in the slice

-- an id that is not looked at
none : FullNodeId
none = record { tree = record { 0 = 0 }; node = record { 0 = 0 } }

-- the id of two words of a slice
abbrev id_of : List ℕ → ℕ → FullNodeId
id_of slice k = record { tree = record { 0 = get_or slice k 0 }; node = record { 0 = get_or slice (k + 1) 0 } }

-- the words of a list say its ids
words_at : (xs : List FullNodeId) (rest : List ℕ) (i : ℕ) → i < length xs → id_of (id_words xs ++ rest) (2 * i) ≡ get_or xs i none
unfolding id_words
words_at [] rest i h = absurd (omega arith)
words_at (x ∷ xs) rest zero h = refl
words_at (x ∷ xs) rest (suc i) h =
    let tree : 2 * suc i ≡ suc (suc (2 * i)) = omega arith in
    let node : 2 * suc i + 1 ≡ suc (suc (2 * i + 1)) = omega arith in
    rw (node, tree) (words_at xs rest i (omega arith))

-- a list that stands in a slice behind other words
ids_in_lem : (ws : List ℕ) (xs : List FullNodeId) (rest : List ℕ) → ids_in (ws ++ (id_words xs ++ rest)) (length ws) (length xs) ≡ xs
unfolding ids_in
ids_in_lem ws xs rest = list_of_each none xs _ at
  where
    at : (i : ℕ) → i < length xs → id_of (ws ++ (id_words xs ++ rest)) (length ws + 2 * i) ≡ get_or xs i none
    at i h =
        let e : length ws + 2 * i + 1 ≡ length ws + (2 * i + 1) = omega arith in
        let tree = get_or-append-add ws (id_words xs ++ rest) (2 * i) 0 in
        let node = ap (λ k. get_or (ws ++ (id_words xs ++ rest)) k 0) e ∙ get_or-append-add ws (id_words xs ++ rest) (2 * i + 1) 0 in
        rw (tree, node) (words_at xs rest i h)

-- the slice of four lists: the added ids, and the removed ids
module _ (c : Changes) (lent : List ℕ) where
  abbrev rest : List ℕ
  rest = drop (length (change_words c)) lent

  -- what stands before the removed list, and behind it
  abbrev ahead : List ℕ
  ahead = id_words c.added ++ id_words c.updated

  abbrev behind : List ℕ
  behind = id_words c.relinked ++ rest

  split : slice_after lent c ≡ ahead ++ (id_words c.removed ++ behind)
  unfolding slice_after change_words
  split =
      ap (λ (l : List ℕ). l ++ rest)
      (id_words_append (c.added ++ c.updated ++ c.removed) c.relinked
      ∙ ap (λ (l : List ℕ). l ++ id_words c.relinked)
      (id_words_append (c.added ++ c.updated) c.removed ∙ ap (λ (l : List ℕ). l ++ id_words c.removed) (id_words_append c.added c.updated)))
      ∙ append_assoc (ahead ++ id_words c.removed) (id_words c.relinked) rest
      ∙ append_assoc ahead (id_words c.removed) behind

  slice_after_added : ids_in (slice_after lent c) 0 (length c.added) ≡ c.added
  slice_after_added =
      ap (λ (l : List ℕ). ids_in l 0 (length c.added)) (split ∙ append_assoc (id_words c.added) (id_words c.updated) (id_words c.removed ++ behind))
      ∙ ids_in_lem [] c.added (id_words c.updated ++ (id_words c.removed ++ behind))

  slice_after_removed : ids_in (slice_after lent c) (2 * (length c.added + length c.updated)) (length c.removed) ≡ c.removed
  slice_after_removed =
      let from : 2 * (length c.added + length c.updated) ≡ length ahead =
      omega (arith, length-append (id_words c.added) (id_words c.updated), id_words_length c.added, id_words_length c.updated) in
      rw (split, from) (ids_in_lem ahead c.removed behind)

-- ## Each accepted batch

-- an accepted batch's slice has its lists, and its lengths are theirs
record Listed (a : definition.Answer) (lent : List ℕ) : Type 0 where
  slice_is : a.slice ≡ slice_after lent a.changes
  added_is : a.lengths.added ≡ length a.changes.added
  updated_is : a.lengths.updated ≡ length a.changes.updated
  removed_is : a.lengths.removed ≡ length a.changes.removed

listed_update : (s : State) (bytes lent : List ℕ) → (update s bytes lent).number ≡ 0 → Listed (update s bytes lent) lent
unfolding definition.accepted lengths_of
listed_update s bytes lent =
    accepted_update s bytes lent (λ a. Listed a lent) (λ b. record { slice_is = refl; added_is = refl; updated_is = refl; removed_is = refl })

-- what holds of the definition's answer holds of the words and of the ids that stand in the slice
counted_code : (u bytes lent kept v : List ℕ) (r : Reply) (slice : List ℕ) → Answers (update (view u) bytes lent) u kept v r slice → r.number ≡ 0
    → CountedInSlice (view u).forest (view v).forest r slice
unfolding reply_to
counted_code u bytes lent kept v r slice a accepted =
    let d = update (view u) bytes lent in
    let zero : d.number ≡ 0 = sym (ap (λ (q : Reply). q.number) a.reply_is) ∙ accepted in
    let l = listed_update (view u) bytes lent zero in
    let n = counted_update (view u) bytes lent zero in
    let joined : added_in r slice ≡ d.changes.added = rw (a.reply_is, a.slice_is, l.slice_is, l.added_is) (slice_after_added d.changes lent) in
    let taken : removed_in r slice ≡ d.changes.removed =
    rw (a.reply_is, a.slice_is, l.slice_is, l.added_is, l.updated_is, l.removed_is) (slice_after_removed d.changes lent) in
    record {
      nodes_after = λ x. rw (a.state_is, joined, taken) (n.nodes_after x);
      added_new = λ x e. n.added_new x (rw joined at e);
      removed_old = λ x e. n.removed_old x (rw taken at e);
    }

pub demand3_code : Demand3OfCode
unfolding reply_to Allows
demand3_code bytes flag s r said accepted calls t chain = record {
  after_the_list = subst (λ (u : State). Agrees u.forest (book_after (view s) (book.opened bytes) (map meant calls))) (chain_view s calls t chain)
      (subst (λ (u : State). Agrees (state_after u (map meant calls)).forest (book_after u (book.opened bytes) (map meant calls))) (sym said.state_is)
      (demand3 bytes (is_set flag) (sym (ap (λ (q : Reply). q.number) said.reply_is) ∙ accepted) (map meant calls)).after_the_list);
  each_accepted_batch = λ earlier record-bytes lent later _ u _ v q slice allowed zero.
      counted_code u record-bytes lent _ v q slice allowed zero;
}
