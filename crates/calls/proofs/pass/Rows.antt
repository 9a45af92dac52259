-- Laws of the nodes that children are the first to name, and of the rows 13 and 14. Assumes nothing.
use mathlib.Core.Bool.{Bool, true, false, not}
use mathlib.Core.List.{List}
use mathlib.Core.Path.{◌≡◌, sym, ap, ap₂, ◌∙◌, refl}
use Prim.Native.Nat.{ℕ, suc, ◌+◌, ◌≤◌, ◌<◌}
use native.Mathlib.Decide.{dec_lt}
use native.Mathlib.Omega.{arith}
use lib.Dec.{eqb, ltb}
use lib.ListN.{length, get_or, set, replicate, get_or-replicate}
use borrow.Author.Tests.{lt-ltb, le-ltb, eq-eqb, ne_eqb, eqb-true, eqb-false}
use Rattle.std.specs.Prelude.{if◌then◌else◌}
use Rattle.base.specs.Tests.{◌and◌, has, position}
use Rattle.base.specs.Search.{First}
use Rattle.base.proofs.Tests.{and_false}
use Rattle.ids.specs.Ids.{same_node}
use Rattle.ids.specs.declared.NodeId.{NodeId}
use Rattle.record.specs.Batch.{Batch, listed_ids, named_ids}
use Rattle.record.proofs.Batch.{listed_length, listed_at_lem}
use Rattle.record_reader.specs.Reader.{no_node, no_listed, listed_at}
use Rattle.state.specs.State.{Forest}
use Rattle.state_array.specs.View.{slots_of}
use Rattle.update.specs.Words.{here, old, listed, named}
use Rattle.update.specs.Pass.{placed_at_turn}
use Rattle.update.specs.Numbers.{placeless, nowhere}
use Rattle.calls.specs.Layout.{LISTED, NAMED, NAMED_SLOTS}
use Rattle.calls.specs.declared.notes.Scope.{Scope}
use Rattle.calls.specs.Setting.{asked, forest}
use Rattle.calls.specs.Says.{PositionIn, Told, READ}
use Rattle.calls.proofs.notes.Positions.{first_unique, first_cong, position_first, has_position}
use Rattle.calls.proofs.notes.Marks.{here_mine, listed_self, named_is, turn_first, turn_self}
use Rattle.calls.specs.Steps.{due_of, Due, Prepared, DueRoom, Firsts}
use Rattle.calls.proofs.pass.Read.{named_old, named_new, child_search, due_place, due_low}
use lib.Seq.{get_or-set_same, get_or-set_other}
use Rattle.ids.proofs.Ids.{same_node→≡}
use Rattle.calls.proofs.notes.Told.{few_listed, few_named}

-- ## As they are found

-- none yet
pub firsts_none : (due : List ℕ) → Firsts 0 due (replicate 258 64)
firsts_none due = record {
  right = λ d l h. absurd (omega (arith, get_or-replicate {A = ℕ} 258 d 64 0 l));
  each = λ m h. absurd (omega arith);
}

-- one more
pub firsts_more : {due firsts : List ℕ} {i : ℕ} → Firsts i due firsts → i < 64 → get_or due i 0 < length firsts → Firsts (i + 1) due (set firsts (get_or due i 0) i)
firsts_more {due} {firsts} {i} f few room = record { right = λ d l h. place d l h (eqb d at) refl; each = λ m h. marked m h (eqb (get_or due m 0) at) refl }
  where
    at : ℕ
    at = get_or due i 0

    after : List ℕ
    after = set firsts at i

    place : (d : ℕ) → d < 258 → get_or after d 0 < 64 → (c : Bool) → eqb d at ≡ c → (get_or after d 0 < i + 1) × (get_or due (get_or after d 0) 0 ≡ d)
    place d l h true q =
        let e : d ≡ at = eqb-true d at q in
        let v : get_or after d 0 ≡ i = ap (λ k. get_or after k 0) e ∙ get_or-set_same firsts at i 0 room in
        (omega arith, ap (λ k. get_or due k 0) v ∙ sym e)
    place d l h false q =
        let v : get_or after d 0 ≡ get_or firsts d 0 = get_or-set_other firsts at d i 0 (eqb-false d at q) in
        let p = f.right d l (omega arith) in
        (omega (arith, p.0), ap (λ k. get_or due k 0) v ∙ p.1)

    earlier : (m : ℕ) → m < i + 1 → eqb (get_or due m 0) at ≡ false → Dec (m < i) → m < i
    earlier m h q (yes l) = l
    earlier m h q (no l) = let e : m ≡ i = omega arith in absurd (eqb-false (get_or due m 0) at q (ap (λ k. get_or due k 0) e))

    marked : (m : ℕ) → m < i + 1 → (c : Bool) → eqb (get_or due m 0) at ≡ c → get_or after (get_or due m 0) 0 < 64
    marked m h true q =
        let v : get_or after (get_or due m 0) 0 ≡ i = ap (λ k. get_or after k 0) (eqb-true (get_or due m 0) at q) ∙ get_or-set_same firsts at i 0 room in
        omega arith
    marked m h false q =
        let v : get_or after (get_or due m 0) 0 ≡ get_or firsts (get_or due m 0) 0 = get_or-set_other firsts at (get_or due m 0) i 0 (eqb-false (get_or due m 0) at q) in
        omega (arith, f.each m (earlier m h q (dec_lt m i)))

-- all of them
pub firsts_all : {due firsts : List ℕ} {i k : ℕ} → Firsts i due firsts → i ≡ k → Firsts k due firsts
firsts_all f e = rw e at f

-- there is room for them
pub due_room : {state bytes : List ℕ} {c : Scope} {notes due : List ℕ} → Told READ state bytes c notes → Due (forest state) (asked bytes c) due → DueRoom c.listed due
due_room {state} {bytes} {c} told dues = record {
  few = few_listed state bytes c told.given;
  low = λ m h. omega (
    arith,
    dues m (omega (arith, told.given.scoped.listed)),
    due_low (forest state) (asked bytes c) m,
    few_named state bytes c told.given,
    told.given.scoped.named,
  );
}

-- ## What they say

module _ {state bytes : List ℕ} {c : Scope} {notes due firsts : List ℕ} (w : Prepared state bytes c notes due firsts) (j : ℕ) (h : j < c.named)
    (l : get_or firsts (j + 1) 0 < 64) where
  -- a node that child j is the first to name is listed
  pub first_listed : get_or firsts (j + 1) 0 < length (asked bytes c).nodes
  first_listed =
      omega (arith, (w.firsts_are.right (j + 1) (omega (arith, few_named state bytes c w.told.given)) l).0, w.told.given.scoped.listed)

  -- it waits to be named, and is named there
  first_due : (placed_at_turn (forest state) (asked bytes c) (listed_at (asked bytes c) (get_or firsts (j + 1) 0)).id ≡ false)
      × (position same_node (named_ids (asked bytes c).nodes) (listed_at (asked bytes c) (get_or firsts (j + 1) 0)).id ≡ j)
  first_due =
      due_place (forest state) (asked bytes c) (get_or firsts (j + 1) 0) j
      (sym (w.dues (get_or firsts (j + 1) 0) first_listed) ∙ (w.firsts_are.right (j + 1) (omega (arith, few_named state bytes c w.told.given)) l).1)

  -- so it is the child
  pub first_id : get_or (named_ids (asked bytes c).nodes) j no_node ≡ (listed_at (asked bytes c) (get_or firsts (j + 1) 0)).id
  first_id =
      let all = named_ids (asked bytes c).nodes in
      let x = (listed_at (asked bytes c) (get_or firsts (j + 1) 0)).id in
      sym (same_node→≡ x (get_or all j no_node) (rw first_due.1 at ((position_first same_node x no_node all).hit (omega (arith, first_due.1, w.told.given.scoped.named)))))

  pub first_unplaced : placed_at_turn (forest state) (asked bytes c) (get_or (named_ids (asked bytes c).nodes) j no_node) ≡ false
  first_unplaced = rw first_id first_due.0

  pub first_at : position same_node (named_ids (asked bytes c).nodes) (get_or (named_ids (asked bytes c).nodes) j no_node) ≡ j
  first_at = rw first_id first_due.1

  -- and a search for the child ends there
  pub first_found : First (λ m. same_node (get_or (named_ids (asked bytes c).nodes) j no_node) (listed_at (asked bytes c) m).id) (length (asked bytes c).nodes) (get_or firsts (j + 1) 0)
  unfolding here
  first_found =
      let s = forest state in
      let b = asked bytes c in
      rw first_id
      (rw (turn_self s b w.told.given.once (get_or firsts (j + 1) 0) first_listed) at
      (turn_first s b (here s b (listed_at b (get_or firsts (j + 1) 0)).id)))

-- ## Row 13

module _ (s : Forest) (b : Batch) where
  -- a number of the batch's tree is named
  named_here : (x : NodeId) → named s b (here s b x) ≡ has same_node (named_ids b.nodes) x
  unfolding here ◌and◌
  named_here x = named_is s b (here s b x) ∙ rw (here_mine s b x)

  -- whether a listed node is left without a place, after n children, which are all
  placeless_is : (i n : ℕ) → n ≡ length (named_ids b.nodes) → ltb n (due_of s b i) ≡ placeless s b (listed_at b i)
  unfolding placeless due_of ◌and◌
  placeless_is i n e =
      ap (λ m. ltb m (due_of s b i)) e ∙ go (placed_at_turn s b x) ∙ ap (λ t. not (placed_at_turn s b x) and not t) (sym (named_here x ∙ has_position same_node x all))
    where
      x : NodeId
      x = (listed_at b i).id

      all : List NodeId
      all = named_ids b.nodes

      beyond : Dec (position same_node all x < length all) → ltb (length all) (suc (position same_node all x)) ≡ not (ltb (position same_node all x) (length all))
      beyond (yes h) = le-ltb (length all) (suc (position same_node all x)) h ∙ ap not (sym (lt-ltb (position same_node all x) (length all) h))
      beyond (no h) = lt-ltb (length all) (suc (position same_node all x)) (omega arith) ∙ ap not (sym (le-ltb (position same_node all x) (length all) (omega arith)))

      go : (t : Bool) → ltb (length all) (if t then 0 else suc (position same_node all x)) ≡ (not t and not (ltb (position same_node all x) (length all)))
      go true = le-ltb (length all) 0 (omega arith)
      go false = beyond (dec_lt (position same_node all x) (length all))

  -- ## Row 14

  -- a child that is not old is sought among the listed nodes
  sought_nowhere : (x : NodeId) (k p : ℕ) → old s b (here s b x) ≡ false → k ≡ length b.nodes
      → First (λ m. same_node x (listed_at b m).id) (length b.nodes) p → eqb p k ≡ nowhere s b x
  unfolding nowhere listed here ◌and◌ listed_at
  sought_nowhere x k p e count f =
      let ids = listed_ids b.nodes in
      let at : position same_node ids x ≡ p =
      first_unique (λ m. same_node x (get_or ids m no_node)) (length ids) (position same_node ids x) p (position_first same_node x no_node ids)
      (rw (listed_length b.nodes) (first_cong _ _ (length b.nodes) p (λ m l. ap (same_node x) (sym (listed_at_lem b.nodes m no_listed))) f)) in
      let long = listed_length b.nodes in
      ap (eqb p) count ∙ last p (length b.nodes) f.within
      ∙ ap not (ap₂ ltb (sym at) (sym long) ∙ sym (has_position same_node x ids))
      ∙ rw (e, here_mine s b x)
    where
      last : (a n : ℕ) → a ≤ n → eqb a n ≡ not (ltb a n)
      last a n h = go (dec_lt a n)
        where
          go : Dec (a < n) → eqb a n ≡ not (ltb a n)
          go (yes l) = rw (lt-ltb a n l, ne_eqb a n (λ q. omega arith))
          go (no l) = let q : a ≡ n = omega arith in rw (le-ltb a n (omega arith), eq-eqb a n q)

-- ## As the code asks them

module _ {state bytes : List ℕ} {c : Scope} {notes : List ℕ} (told : Told READ state bytes c notes) where
  module _ (due : List ℕ) (dues : Due (forest state) (asked bytes c) due) where
    placeless_column : (m : ℕ) → m < c.listed → ltb c.named (get_or due m 0) ≡ placeless (forest state) (asked bytes c) (listed_at (asked bytes c) m)
    placeless_column m h =
        ap (ltb c.named) (dues m (omega (arith, told.given.scoped.listed))) ∙ placeless_is (forest state) (asked bytes c) m c.named told.given.scoped.named

    -- the first node of row 13, or none
    pub placeless_first : {r : ℕ} → First (λ m. ltb c.named (get_or due m 0)) c.listed r
        → First (λ m. placeless (forest state) (asked bytes c) (listed_at (asked bytes c) m)) c.listed r
    placeless_first {r} f = first_cong _ _ c.listed r placeless_column f

  -- a child that is old, or not
  module _ {j n : ℕ} (h : j < c.named) (e : n ≡ slots_of state) where
    pub nowhere_old : get_or notes (NAMED_SLOTS + j) 0 < n → false ≡ nowhere (forest state) (asked bytes c) (get_or (named_ids (asked bytes c).nodes) j no_node)
    unfolding nowhere ◌and◌
    nowhere_old l = rw (named_old told j n h e l)

    pub nowhere_new : {p : ℕ} → n ≤ get_or notes (NAMED_SLOTS + j) 0 → PositionIn notes LISTED c.listed (get_or notes (NAMED + j) 0) p
        → eqb p c.listed ≡ nowhere (forest state) (asked bytes c) (get_or (named_ids (asked bytes c).nodes) j no_node)
    nowhere_new {p} l f =
        sought_nowhere (forest state) (asked bytes c) _ c.listed p (named_new told j n h e l) told.given.scoped.listed (child_search told j p h f)

-- a child that is the first to name a listed node
pub nowhere_first : {state bytes : List ℕ} {c : Scope} {notes due firsts : List ℕ} → Prepared state bytes c notes due firsts
    → {j : ℕ} → j < c.named → get_or firsts (j + 1) 0 < 64 → false ≡ nowhere (forest state) (asked bytes c) (get_or (named_ids (asked bytes c).nodes) j no_node)
unfolding nowhere
nowhere_first {state} {bytes} {c} w {j} h l =
    let s = forest state in
    let b = asked bytes c in
    let is = ap (λ y. listed s b (here s b y)) (first_id w j h l) ∙ listed_self s b _ (first_listed w j h l) in
    sym (ap (λ t. not (old s b (here s b (get_or (named_ids b.nodes) j no_node))) and not t) is ∙ and_false _)
