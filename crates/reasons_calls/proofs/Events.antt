-- Laws of the pass over the nodes: it names every child that the nodes name, in order, and places listed nodes that have a place, each once.
-- Assumes nothing.
use mathlib.Core.Bool.{Bool, true, false, ◌||◌, false≢true}
use mathlib.Core.List.{List, [], ◌∷◌, ◌++◌, append-nil, append_assoc, Memᴰ}
use mathlib.Core.Logic.{⊎_elim}
use Rattle.std.proofs.lemmas.Option.{none-some, same_Some}
use mathlib.Core.Path.{◌≡◌, refl, sym, ap, subst, ◌∙◌}
use Prim.Native.Nat.{ℕ}
use native.Mathlib.Omega.{arith}
use lib.Seq.{append_snoc}
use Rattle.std.specs.Prelude.{if◌then◌else◌, Some}
use Rattle.base.specs.Tests.{◌and◌, is_some, any, has, distinct, first_given}
use Rattle.base.proofs.Cases.{by_test, by_option}
use Rattle.base.proofs.Tests.{both, not_true, clash, refuted, or_right, or_false}
use Rattle.base.proofs.Lists.{any_append}
use Rattle.ids.specs.Ids.{same_node}
use Rattle.ids.proofs.Ids.{same_node→≡, same_node_refl}
use Rattle.ids.specs.declared.NodeId.{NodeId}
use Rattle.record.specs.Batch.{NodeData, Listed, Batch, listed_ids, named_ids}
use Rattle.record.proofs.Batch.{named_append}
use Rattle.state.specs.State.{Forest}
use Rattle.update.specs.Words.{listing, named}
use Rattle.update.specs.Pass.{Event, names, places, placed_at_turn, namings, events}
use Rattle.update.specs.Numbers.{placeless}
use Rattle.update.proofs.Pass.{named_has}
use Rattle.update.proofs.Write.{listing_some}

module _ {A : Type 0} (same : A → A → Bool) (xs ys : List A) (x : A) where
  -- what stands in one of two lists stands in both together
  pub has_left : has same xs x ≡ true → has same (xs ++ ys) x ≡ true
  has_left e = any_append (same x) xs ys ∙ rw e

  pub has_right : has same ys x ≡ true → has same (xs ++ ys) x ≡ true
  has_right e = any_append (same x) xs ys ∙ or_right (any (same x) xs) e

-- one listed node more
listed_snoc : (ls : List Listed) (l : Listed) → listed_ids (ls ++ l ∷ []) ≡ listed_ids ls ++ l.id ∷ []
unfolding listed_ids
listed_snoc [] l = refl
listed_snoc (k ∷ ks) l = ap {B = List NodeId} (λ ns. k.id ∷ ns) (listed_snoc ks l)

named_snoc : (ls : List Listed) (l : Listed) → named_ids (ls ++ l ∷ []) ≡ named_ids ls ++ l.body.children
unfolding named_ids
named_snoc ls l = named_append ls (l ∷ []) ∙ ap (λ (ns : List NodeId). named_ids ls ++ ns) (append-nil l.body.children)

-- ## Naming

-- the children that some events name, in order
abbrev pub names_of : List Event → List NodeId
names_of [] = []
names_of (names c ∷ es) = c ∷ names_of es
names_of (places l ∷ es) = names_of es

names_append : (es fs : List Event) → names_of (es ++ fs) ≡ names_of es ++ names_of fs
names_append [] fs = refl
names_append (names c ∷ es) fs = ap {B = List NodeId} (λ cs. c ∷ cs) (names_append es fs)
names_append (places l ∷ es) fs = names_append es fs

module _ (s : Forest) (b : Batch) where
  names_namings : (earlier : List Listed) (cs : List NodeId) → names_of (namings s b earlier cs) ≡ cs
  unfolding namings
  names_namings earlier [] = refl
  names_namings earlier (c ∷ cs) =
      let h = names_namings earlier cs in
      ap {B = List NodeId} (λ ds. c ∷ ds)
      (by_option (listing earlier c) (λ q. rw q h) (λ d q. by_test (placed_at_turn s b c) (λ t. rw (q, t) h) (λ t. rw (q, t) h)))

  names_own : (t : Bool) (l : Listed) → names_of (if t then places l ∷ [] else []) ≡ []
  names_own true l = refl
  names_own false l = refl

  -- the pass names what the nodes name
  pub names_events : (earlier ls : List Listed) → names_of (events s b earlier ls) ≡ named_ids ls
  unfolding events named_ids
  names_events earlier [] = refl
  names_events earlier (l ∷ ls) =
      names_append (namings s b earlier l.body.children ++ own) (events s b (earlier ++ l ∷ []) ls)
      ∙ rw (
        names_append (namings s b earlier l.body.children) own,
        names_namings earlier l.body.children,
        names_own turn l,
        append-nil,
        names_events (earlier ++ l ∷ []) ls,
      )
    where
      turn : Bool
      turn = placed_at_turn s b l.id || has same_node (named_ids earlier ++ l.body.children) l.id

      own : List Event
      own = if turn then places l ∷ [] else []

  -- ## Placing

  -- the data with which a node is listed is that of a listed node
  pub listing_member : (ls : List Listed) (n : NodeId) (d : NodeData) → listing ls n ≡ Some d → Memᴰ (record { id = n; body = d }) ls
  unfolding listing
  listing_member [] n d e = absurd (none-some d e)
  listing_member (l ∷ ls) n d e =
      by_test (same_node n l.id)
      (λ t. let p : n ≡ l.id = same_node→≡ n l.id t in
      let q : d ≡ l.body = sym (same_Some l.body d (rw (t, first_given) at e)) in
      mathlib.Core.List.Memᴰ.head (λ i. record { id = p i; body = q i }))
      (λ t. mathlib.Core.List.Memᴰ.tail (listing_member ls n d (rw (t, first_given) at e)))

  -- a listed node has a place: it is old or the root, or some nodes name it
  abbrev HasPlace : List NodeId → Listed → Type 0
  HasPlace named l = (placed_at_turn s b l.id || has same_node named l.id) ≡ true

  places_namings : (earlier : List Listed) (cs : List NodeId) (l : Listed) → Memᴰ (places l) (namings s b earlier cs)
      → Memᴰ l earlier × (has same_node cs l.id ≡ true)
  unfolding namings
  places_namings earlier [] l i = absurd (mathlib.Core.List.Memᴰ.not-nil i)
  places_namings earlier (c ∷ cs) l i =
      let later : Memᴰ (places l) (namings s b earlier cs) → Memᴰ l earlier × (has same_node (c ∷ cs) l.id ≡ true) =
      λ k. let z = places_namings earlier cs l k in (z.0, or_right (same_node l.id c) z.1) in
      ⊎_elim (λ q. let z : ◌≡◌ {A = ℕ} 0 1 = cc in absurd (omega arith))
      (λ j. by_option (listing earlier c) (λ q. later (rw q at j))
      (λ d q. by_test (placed_at_turn s b c) (λ t. later (rw (q, t) at j))
      (λ t. ⊎_elim (λ p. let same : l ≡ record { id = c; body = d } = cc in
      (mathlib.Core.List.Memᴰ.cast same (listing_member earlier c d q), rw (ap (λ (k : Listed). k.id) same, same_node_refl c)))
      (λ k. later k) (mathlib.Core.List.Memᴰ.cases_cons (rw (q, t) at j)))))
      (mathlib.Core.List.Memᴰ.cases_cons i)

  places_events : (earlier ls : List Listed) (l : Listed) → Memᴰ (places l) (events s b earlier ls)
      → Memᴰ l (earlier ++ ls) × HasPlace (named_ids (earlier ++ ls)) l
  unfolding events named_ids
  places_events earlier [] l i = absurd (mathlib.Core.List.Memᴰ.not-nil i)
  places_events earlier (k ∷ ls) l i =
      ⊎_elim (λ j. ⊎_elim
      (λ m. let z = places_namings earlier k.body.children l m in (
        mathlib.Core.List.Memᴰ.append_left (k ∷ ls) z.0,
        or_right (placed_at_turn s b l.id)
            (in_both l.id (has_right same_node (named_ids earlier) k.body.children l.id z.1)),
      ))
      (λ m. by_test turn
      (λ t. let same : l ≡ k = placed (mathlib.Core.List.Memᴰ.eq_of_singleton (rw t at m)) in (
        mathlib.Core.List.Memᴰ.append_right earlier (mathlib.Core.List.Memᴰ.head same),
        rw same (by_test (placed_at_turn s b k.id) (λ p. rw p) (λ p. rw p (in_both k.id (rw p at t)))),
      ))
      (λ t. absurd (mathlib.Core.List.Memᴰ.not-nil (rw t at m))))
      (mathlib.Core.List.Memᴰ.append_cases (namings s b earlier k.body.children) j))
      (λ j. rw (append_snoc earlier k ls) at (places_events (earlier ++ k ∷ []) ls l j))
      (mathlib.Core.List.Memᴰ.append_cases (namings s b earlier k.body.children ++ (if turn then places k ∷ [] else [])) i)
    where
      turn : Bool
      turn = placed_at_turn s b k.id || has same_node (named_ids earlier ++ k.body.children) k.id

      placed : ◌≡◌ {A = Event} (places l) (places k) → l ≡ k
      placed q = cc

      -- named by the earlier nodes or by k
      in_both : (n : NodeId) → has same_node (named_ids earlier ++ k.body.children) n ≡ true → has same_node (named_ids (earlier ++ k ∷ ls)) n ≡ true
      in_both n e =
          ap (λ (ns : List NodeId). has same_node ns n) (named_append earlier (k ∷ ls) ∙ sym (append_assoc (named_ids earlier) k.body.children (named_ids ls)))
          ∙ has_left same_node (named_ids earlier ++ k.body.children) (named_ids ls) n e

  -- so a node that is placed is listed and has a place
  pub placed_listed : (l : Listed) → Memᴰ (places l) (events s b [] b.nodes) → Memᴰ l b.nodes × (placeless s b l ≡ false)
  unfolding placeless ◌and◌
  placed_listed l i =
      let z = places_events [] b.nodes l i in
      (z.0, by_test (placed_at_turn s b l.id) (λ p. rw p) (λ p. rw (p, named_has s b l.id, rw p at z.1)))

  -- ## Each once

  -- Every node is placed that was not placed before, as far as no child is named that was named before.
  abbrev pub Once : List NodeId → List NodeId → List Event → Type 0
  Once seen placed [] = Unit {0}
  Once seen placed (names c ∷ es) = has same_node seen c ≡ false → Once (c ∷ seen) placed es
  Once seen placed (places l ∷ es) = (has same_node placed l.id ≡ false) × Once seen (l.id ∷ placed) es

  -- what was placed was listed earlier, and is old, or the root, or named
  record Earlier (earlier : List Listed) (seen placed : List NodeId) : Type 0 where
    listed : (n : NodeId) → has same_node placed n ≡ true → has same_node (listed_ids earlier) n ≡ true
    reason : (n : NodeId) → has same_node placed n ≡ true → (placed_at_turn s b n || has same_node seen n) ≡ true

  -- one child more is named
  earlier_names : {earlier : List Listed} {seen placed : List NodeId} (c : NodeId) → Earlier earlier seen placed → Earlier earlier (c ∷ seen) placed
  earlier_names {seen} c h = record {
    listed = h.listed;
    reason = λ n e. by_test (placed_at_turn s b n) (λ p. rw p) (λ p. rw p (or_right (same_node n c) (rw p at (h.reason n e))));
  }

  -- one node more is placed
  earlier_places : {earlier : List Listed} {seen placed : List NodeId} (n : NodeId) → has same_node (listed_ids earlier) n ≡ true
      → (placed_at_turn s b n || has same_node seen n) ≡ true → Earlier earlier seen placed → Earlier earlier seen (n ∷ placed)
  earlier_places {earlier} {seen} n l r h = record {
    listed = λ m e. by_test (same_node m n) (λ t. rw (same_node→≡ m n t) l) (λ t. h.listed m (rw t at e));
    reason = λ m e. by_test (same_node m n) (λ t. rw (same_node→≡ m n t) r) (λ t. h.reason m (rw t at e));
  }

  -- the children of a node are named, and those that waited are placed; `rest` happens then
  once_namings : (earlier : List Listed) (cs : List NodeId) (rest : List Event) (seen placed : List NodeId) → Earlier earlier seen placed
      → ((seen' placed' : List NodeId) → Earlier earlier seen' placed'
      → ((n : NodeId) → has same_node seen n ≡ true → has same_node seen' n ≡ true) → ((n : NodeId) → has same_node cs n ≡ true → has same_node seen' n ≡ true)
      → Once seen' placed' rest)
      → Once seen placed (namings s b earlier cs ++ rest)
  unfolding namings
  once_namings earlier [] rest seen placed h k = k seen placed h (λ n e. e) (λ n e. absurd (false≢true e))
  once_namings earlier (c ∷ cs) rest seen placed h k = λ fresh.
      let next : (placed' : List NodeId) → Earlier earlier (c ∷ seen) placed' → Once (c ∷ seen) placed' (namings s b earlier cs ++ rest) =
      λ placed' h'. once_namings earlier cs rest (c ∷ seen) placed' h'
      (λ seen'' placed'' h'' old new. k seen'' placed'' h'' (λ n e. old n (or_right (same_node n c) e))
      (λ n e. by_test (same_node n c) (λ t. old n (rw t)) (λ t. new n (rw t at e)))) in
      by_option (listing earlier c) (λ q. rw q (next placed (earlier_names c h)))
      (λ d q. by_test (placed_at_turn s b c) (λ t. rw (q, t) (next placed (earlier_names c h)))
      (λ t. rw (q, t) (
        refuted (λ e. clash fresh (rw t at (h.reason c e))),
        next (c ∷ placed) (earlier_places c (sym (listing_some earlier c) ∙ ap is_some q) (rw (t, same_node_refl c)) (earlier_names c h)),
      )))

  -- one turn more
  earlier_more : {earlier : List Listed} {seen placed : List NodeId} (l : Listed) → Earlier earlier seen placed → Earlier (earlier ++ l ∷ []) seen placed
  earlier_more {earlier} l h = record {
    listed = λ n e. rw (listed_snoc earlier l) (has_left same_node (listed_ids earlier) (l.id ∷ []) n (h.listed n e));
    reason = h.reason;
  }

  apart_next : (earlier : List Listed) (l : Listed) (ls : List Listed)
      → ((n : NodeId) → has same_node (listed_ids earlier) n ≡ true → has same_node (listed_ids (l ∷ ls)) n ≡ false) → distinct same_node (listed_ids (l ∷ ls)) ≡ true
      → (n : NodeId) → has same_node (listed_ids (earlier ++ l ∷ [])) n ≡ true → has same_node (listed_ids ls) n ≡ false
  unfolding listed_ids
  apart_next earlier l ls apart d n e =
      by_test (has same_node (listed_ids earlier) n) (λ t. (or_false (same_node n l.id) (apart n t)).1)
      (λ t. let f = rw (listed_snoc earlier l, any_append (same_node n) (listed_ids earlier) (l.id ∷ []), t) at e in
      by_test (same_node n l.id) (λ q. subst (λ (m : NodeId). has same_node (listed_ids ls) m ≡ false) (sym (same_node→≡ n l.id q)) (not_true (both d).0)) (λ q. absurd (false≢true (rw q at f))))

  -- the turns that are left; no node is listed twice
  once_events : (earlier ls : List Listed) (seen placed : List NodeId) → Earlier earlier seen placed
      → ((n : NodeId) → has same_node (named_ids earlier) n ≡ true → has same_node seen n ≡ true)
      → ((n : NodeId) → has same_node (listed_ids earlier) n ≡ true → has same_node (listed_ids ls) n ≡ false) → distinct same_node (listed_ids ls) ≡ true
      → Once seen placed (events s b earlier ls)
  unfolding events listed_ids
  once_events earlier [] seen placed h named apart d = tt
  once_events earlier (l ∷ ls) seen placed h named apart d =
      let turn : Bool = placed_at_turn s b l.id || has same_node (named_ids earlier ++ l.body.children) l.id in
      rw (append_assoc (namings s b earlier l.body.children) (if turn then places l ∷ [] else []) (events s b (earlier ++ l ∷ []) ls))
      (once_namings earlier l.body.children ((if turn then places l ∷ [] else []) ++ events s b (earlier ++ l ∷ []) ls) seen placed h
      (λ seen' placed' h' old new.
      let here_named : (n : NodeId) → has same_node (named_ids earlier ++ l.body.children) n ≡ true → has same_node seen' n ≡ true =
      λ n e. by_test (has same_node (named_ids earlier) n) (λ t. old n (named n t))
      (λ t. new n (rw (any_append (same_node n) (named_ids earlier) l.body.children, t) at e)) in
      let rest : (placed'' : List NodeId) → Earlier (earlier ++ l ∷ []) seen' placed'' → Once seen' placed'' (events s b (earlier ++ l ∷ []) ls) =
      λ placed'' h''. once_events (earlier ++ l ∷ []) ls seen' placed'' h'' (λ n e. here_named n (rw (named_snoc earlier l) at e))
      (λ n e. apart_next earlier l ls apart d n e) (both d).1 in
      by_test turn
      (λ t. rw t (
        refuted (λ e. clash (apart l.id (h'.listed l.id e)) (rw (same_node_refl l.id))),
        rest (l.id ∷ placed') (earlier_places l.id
            (rw (listed_snoc earlier l) (has_right same_node (listed_ids earlier) (l.id ∷ []) l.id (rw (same_node_refl l.id))))
            (by_test (placed_at_turn s b l.id) (λ p. rw p) (λ p. rw p (here_named l.id (rw p at t)))) (earlier_more l h')),
      ))
      (λ t. rw t (rest placed' (earlier_more l h')))))

  -- the whole pass
  pub once_pass : distinct same_node (listed_ids b.nodes) ≡ true → Once [] [] (events s b [] b.nodes)
  unfolding listed_ids named_ids
  once_pass d =
      once_events [] b.nodes [] [] (record { listed = λ n e. absurd (false≢true e); reason = λ n e. absurd (false≢true e) })
      (λ n e. absurd (false≢true e)) (λ n e. absurd (false≢true e)) d
