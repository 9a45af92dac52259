-- Row 5's reason by the places of the first node that is listed again. Assumes nothing.
use mathlib.Core.Bool.{false}
use mathlib.Core.List.{List, []}
use Rattle.std.specs.Prelude.{Option, None, Some}
use mathlib.Core.Path.{◌≡◌, refl, sym, ap, ◌∙◌}
use Prim.Native.Nat.{ℕ, zero, suc, ◌+◌, ◌≤◌, ◌<◌}
use native.Mathlib.Omega.{arith}
use lib.ListN.{length}
use Rattle.base.specs.Tests.{has}
use Rattle.base.specs.Bytes.{list_of}
use Rattle.base.specs.Search.{First}
use Rattle.base.proofs.Bytes.{list_of_more, length_list_of}
use Rattle.base.proofs.Cases.{by_order}
use Rattle.base.proofs.Indexed.{list_of_cong}
use Rattle.base.proofs.Search.{first_any, first_position}
use Rattle.ids.specs.Ids.{ROOT, same_node}
use Rattle.ids.specs.declared.NodeId.{NodeId}
use Rattle.ids.proofs.Ids.{same_node_sym}
use borrow.Author.Tests.{lt-ltb, le-ltb}
use Rattle.record.specs.Batch.{Batch, listed_ids}
use Rattle.record_reader.specs.Reader.{listed_at}
use Rattle.record.specs.Parse.{batch_of}
use Rattle.state.specs.State.{Forest}
use Rattle.update.specs.Words.{here}
use Rattle.calls.specs.Parts.{Apart, AgainAt, ListedAgain}
use Rattle.calls.specs.declared.rows.Again.{Again}
use Rattle.calls.proofs.rows.Clashes.{listed_id, listed_ids_lem}
use Rattle.reasons.specs.Reasons.{Reason, accepted, listed_twice}
use Rattle.reasons_calls.specs.Pass.{repeated_after}
use Rattle.reasons_why.specs.declared.Why.{Why}
use Rattle.reasons_why.specs.Why.{why, why_of, why_for}
use Rattle.ids.specs.declared.TreeIndex.{TreeIndex}
use Rattle.calls.specs.WhyRows.{AgainIs}

module _ (s : Forest) (b : Batch) where
  -- row 5's reason, of the listed ids from place i on; there are m of them
  abbrev rest : ℕ → ℕ → Option Reason
  rest i m = repeated_after s b (list_of i (listed_id b)) (list_of m (λ h. listed_id b (i + h)))

  -- one of the first k nodes was not listed before, where these differ
  skips : (k : ℕ) → Apart b k → (i m : ℕ) → i < k → rest i (suc m) ≡ rest (i + 1) m
  unfolding repeated_after list_of
  skips k differ i m l =
      rw (native.Mathlib.Nat.add-zero i, apart, ← list_of_more i (listed_id b))
      (ap (repeated_after s b (list_of (i + 1) (listed_id b)))
      (list_of_cong m (λ h. listed_id b (i + suc h)) (λ h. listed_id b (i + 1 + h)) (λ h n. ap (listed_id b) (omega arith))))
    where
      apart : has same_node (list_of i (listed_id b)) (listed_id b i) ≡ false
      apart =
          sym (first_any (same_node (listed_id b i)) i (listed_id b) i
          (record {
            within = omega arith;
            passed = λ h m. same_node_sym (listed_id b i) (listed_id b h) ∙ differ i l h m;
            hit = λ m. absurd (omega arith);
          }))
          ∙ le-ltb i i (omega arith)

  -- the node at the second place was
  hits : (r : Again) → AgainAt b r → (m : ℕ) → rest r.second (suc m) ≡ Some (listed_twice (here s b (listed_id b r.second)) r.first r.second)
  unfolding repeated_after list_of
  hits r g m =
      let before : First (λ h. same_node (listed_id b r.second) (listed_id b h)) r.second r.first = turned in
      let there : First (λ h. same_node (listed_id b r.second) (listed_id b h)) (length b.nodes) r.first =
      record { within = omega (arith, g.earlier, g.within); passed = before.passed; hit = λ n. before.hit g.earlier } in
      let has-it = sym (first_any (same_node (listed_id b r.second)) r.second (listed_id b) r.first before) ∙ lt-ltb r.first r.second g.earlier in
      let at = first_position same_node (listed_id b r.second) (length b.nodes) (listed_id b) r.first there in
      rw (native.Mathlib.Nat.add-zero r.second, has-it, ← listed_ids_lem b, at, length_list_of r.second (listed_id b))
    where
      turned : First (λ h. same_node (listed_id b r.second) (listed_id b h)) r.second r.first
      turned = record {
        within = g.again.within;
        passed = λ h n. same_node_sym (listed_id b r.second) (listed_id b h) ∙ g.again.passed h n;
        hit = λ n. same_node_sym (listed_id b r.second) (listed_id b r.first) ∙ g.again.hit n;
      }

  goes : (r : Again) → AgainAt b r → (m i : ℕ) → i + m ≡ length b.nodes → i ≤ r.second
      → rest i m ≡ Some (listed_twice (here s b (listed_id b r.second)) r.first r.second)
  goes r g zero i e l = absurd (omega (arith, g.within))
  goes r g (suc m) i e l = by_order i r.second (λ n. skips r.second g.apart i m n ∙ goes r g m (i + 1) (omega arith) (omega arith)) (λ n. rw (at n) (hits r g m))
    where
      at : r.second ≤ i → i ≡ r.second
      at n = omega arith

  ends : Apart b (length b.nodes) → (m i : ℕ) → i + m ≡ length b.nodes → rest i m ≡ None
  unfolding repeated_after list_of
  ends differ zero i e = refl
  ends differ (suc m) i e = skips (length b.nodes) differ i m (omega arith) ∙ ends differ m (i + 1) (omega arith)

  -- all of them
  whole : repeated_after s b [] (listed_ids b.nodes) ≡ rest 0 (length b.nodes)
  unfolding list_of
  whole =
      rw (← listed_ids_lem b)
      (ap (repeated_after s b []) (list_of_cong (length b.nodes) (listed_id b) (λ h. listed_id b (0 + h)) (λ h l. ap (listed_id b) (omega arith))))

-- the places depend on the listed nodes alone
same_places : {a b : Batch} {r : Again} → a.nodes ≡ b.nodes → AgainAt b r → AgainAt a r
unfolding listed_at
same_places e g = record {
  within = rw e g.within;
  apart = rw e g.apart;
  earlier = g.earlier;
  again = rw e g.again;
}

same_apart : (a b : Batch) → a.nodes ≡ b.nodes → Apart b (length b.nodes) → Apart a (length a.nodes)
unfolding listed_at
same_apart a b e g = rw e g

module _ (bytes : List ℕ) (tree : TreeIndex) {o : Option Again} (g : ListedAgain (batch_of bytes) o) where
  -- no node is listed again
  pub again_none : {w : Why} → o ≡ None → w ≡ why_of accepted → AgainIs bytes tree w
  unfolding why_for ListedAgain
  again_none q h =
      let differ : Apart (batch_of bytes) (length (batch_of bytes).nodes) = rw q at g in
      record { says = λ s b same number. rw (whole s b, ends s b (same_apart b (batch_of bytes) same differ) (length b.nodes) 0 (omega arith)) h }

  -- one is
  pub again_some : {r : Again} {n : NodeId} → o ≡ Some r → n ≡ (listed_at (batch_of bytes) r.second).id
      → AgainIs bytes tree (why 5 0 r.second r.first ROOT (Some (record { tree = tree; node = n })) None None)
  unfolding why_for why_of here listed_at ListedAgain
  again_some {r} q h =
      let found : AgainAt (batch_of bytes) r = rw q at g in
      record {
        says = λ s b same number.
            let id : listed_id b r.second ≡ listed_id (batch_of bytes) r.second = rw same in
            rw (whole s b, goes s b r (same_places same found) (length b.nodes) 0 (omega arith) (omega arith), id, ← number, h);
      }
