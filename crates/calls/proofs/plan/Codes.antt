-- Laws of codes in ascending order of their ids: one more, put in its place. Assumes nothing.
use mathlib.Core.Bool.{Bool, true, false, false≢true}
use mathlib.Core.List.{List}
use mathlib.Core.Logic.{◌⊎◌, inl, inr}
use mathlib.Core.Path.{◌≡◌, refl, sym, ap, ◌∙◌}
use Prim.Native.Nat.{ℕ, zero, suc, ◌+◌, ◌-◌, ◌≤◌, ◌<◌}
use native.Mathlib.Decide.{dec_lt}
use native.Mathlib.Nat.{eq-or-lt_of_le, le_of_suc-le-suc}
use native.Mathlib.Numerals.{add-one}
use native.Mathlib.Omega.{arith}
use lib.ListN.{length, set, get_or}
use lib.Seq.{get_or-set_same, get_or-set_other}
use Rattle.std.specs.List.{SameBelow, CopiedTo}
use Rattle.ids.specs.Ids.{before}
use Rattle.ids.proofs.Ids.{before_trans}
use Rattle.ids.specs.declared.FullNodeId.{FullNodeId}
use Rattle.calls.specs.Layout.{CODES}
use Rattle.calls.specs.Columns.{Below}
use Rattle.calls.proofs.notes.Columns.{below_none, below_set}
use Rattle.calls.specs.Plan.{code_in, Ascends, Codes, Inserted, PlaceOf}

-- codes that belong by one rule belong by another that says the same
pub codes_alike : (id : ℕ → FullNodeId) (P Q : ℕ → Type 0) (n : ℕ) (l : List ℕ) → ((c : ℕ) → P c → Q c) → ((c : ℕ) → Q c → P c)
    → Codes id P n l → Codes id Q n l
codes_alike id P Q n l to from h = record { up = h.up; are = λ r b. to (code_in l r) (h.are r b); whole = λ c q. h.whole c (from c q) }

-- where r stands once a code is put at a place among n: before it, there, or after it
data Spot (n at r : ℕ) : Type 0 where
  under : r < at → Spot n at r
  there : r ≡ at → Spot n at r
  over : (k : ℕ) → r ≡ suc k → at ≤ k → k < n → Spot n at r

-- one of the three
spot : (n at r : ℕ) → r < suc n → Spot n at r
spot n at zero l = go (dec_lt zero at)
  where
    go : Dec (zero < at) → Spot n at zero
    go (yes h) = under h
    go (no h) = there (omega arith)
spot n at (suc r) l = go (dec_lt (suc r) at) (dec_lt r at)
  where
    go : Dec (suc r < at) → Dec (r < at) → Spot n at (suc r)
    go (yes h) d = under h
    go (no h) (yes d) = there (omega arith)
    go (no h) (no d) = over r refl (omega arith) (omega arith)

module _ (id : ℕ → FullNodeId) (P Q : ℕ → Type 0) (n at code : ℕ) (notes₀ col : List ℕ) (within : at ≤ n) (put : Inserted notes₀ n at code col) (h : Codes id P n notes₀) where
  -- a code after it
  above : (r k : ℕ) → r ≡ suc k → at ≤ k → k < n → code_in col r ≡ code_in notes₀ k
  above r k e m l = rw e (put.above k m l)

  -- a code put where those before it come before it, and it comes before those from there on
  pub codes_insert : ((k : ℕ) → k < at → before (id (code_in notes₀ k)) (id code) ≡ true)
      → ((k : ℕ) → at ≤ k → k < n → before (id code) (id (code_in notes₀ k)) ≡ true)
      → ((c : ℕ) → P c → Q c) → Q code → ((c : ℕ) → Q c → (P c) ⊎ (c ≡ code)) → Codes id Q (suc n) col
  codes_insert before-it after-it keeps new only =
      record { up = λ i j m l. up (spot n at i (omega arith)) (spot n at j l) m; are = λ r l. are (spot n at r l); whole = λ c q. whole c (only c q) }
    where
      up : {i j : ℕ} → Spot n at i → Spot n at j → i < j → before (id (code_in col i)) (id (code_in col j)) ≡ true
      up {i} {j} (under a) (under b) m = rw (put.below i a, put.below j b) (h.up i j m (omega arith))
      up {i} {j} (under a) (there b) m = rw (put.below i a, b, put.there) (before-it i a)
      up {i} {j} (under a) (over k b f l) m = rw (put.below i a, above j k b f l) (h.up i k (omega arith) l)
      up {i} {j} (there a) (under b) m = absurd (omega arith)
      up {i} {j} (there a) (there b) m = absurd (omega arith)
      up {i} {j} (there a) (over k b f l) m = rw (a, put.there, above j k b f l) (after-it k f l)
      up {i} {j} (over d a e g) (under b) m = absurd (omega arith)
      up {i} {j} (over d a e g) (there b) m = absurd (omega arith)
      up {i} {j} (over d a e g) (over k b f l) m = rw (above i d a e g, above j k b f l) (h.up d k (omega arith) l)

      are : {r : ℕ} → Spot n at r → Q (code_in col r)
      are {r} (under a) = rw (put.below r a) (keeps (code_in notes₀ r) (h.are r (omega arith)))
      are {r} (there a) = rw (a, put.there) new
      are {r} (over k a f l) = rw (above r k a f l) (keeps (code_in notes₀ k) (h.are k l))

      found : (c r : ℕ) → r < n → code_in notes₀ r ≡ c → Dec (r < at) → (r : ℕ) × (r < suc n) × (code_in col r ≡ c)
      found c r l e (yes m) = (r, omega arith, put.below r m ∙ e)
      found c r l e (no m) = (suc r, omega arith, put.above r (omega arith) l ∙ e)

      whole : (c : ℕ) → (P c) ⊎ (c ≡ code) → (r : ℕ) × (r < suc n) × (code_in col r ≡ c)
      whole c (inl p) = let w = h.whole c p in found c w.0 w.1 w.2 (dec_lt w.0 at)
      whole c (inr e) = (at, omega arith, put.there ∙ sym e)

-- a code put at the end
pub insert_end : (notes₀ : List ℕ) (n code : ℕ) → CODES + n < length notes₀ → Inserted notes₀ n n code (set notes₀ (CODES + n) code)
insert_end notes₀ n code h =
    record {
      kept = below_set CODES notes₀ notes₀ (CODES + n) code (omega arith) (below_none CODES notes₀);
      below = λ k l. get_or-set_other notes₀ (CODES + n) (CODES + k) code 0 (λ e. absurd (omega arith));
      there = get_or-set_same notes₀ (CODES + n) code 0 h;
      above = λ k m l. absurd (omega arith);
    }

-- ## Moving up by one

-- from r on, the codes among the first n are moved up by one
pub record Shifted (notes₀ : List ℕ) (n r : ℕ) (notes : List ℕ) : Type 0 where
  pub kept : Below CODES notes₀ notes
  pub below : (k : ℕ) → k < r → code_in notes k ≡ code_in notes₀ k
  pub above : (k : ℕ) → r ≤ k → k < n → code_in notes (suc k) ≡ code_in notes₀ k

pub shift_none : (notes₀ : List ℕ) (n : ℕ) → Shifted notes₀ n n notes₀
shift_none notes₀ n = record { kept = below_none CODES notes₀; below = λ k l. refl; above = λ k m l. absurd (omega arith) }

-- one more is moved
pub shift_one : (notes₀ notes : List ℕ) (n r q : ℕ) → r ≡ suc q → CODES + r < length notes → Shifted notes₀ n r notes → (v : ℕ) → v ≡ code_in notes q
    → Shifted notes₀ n q (set notes (CODES + r) v)
shift_one notes₀ notes n r q e room h v is = record {
  kept = below_set CODES notes₀ notes (CODES + r) v (omega arith) h.kept;
  below = λ k l. get_or-set_other notes (CODES + r) (CODES + k) v 0 (λ s. absurd (omega arith)) ∙ h.below k (omega arith);
  above = λ k m l. above k l (eq-or-lt_of_le m);
}
  where
    above : (k : ℕ) → k < n → (q ≡ k) ⊎ (q < k) → code_in (set notes (CODES + r) v) (suc k) ≡ code_in notes₀ k
    above k l (inl f) = rw (← f, ← e) (get_or-set_same notes (CODES + r) v 0 room ∙ is ∙ h.below q (omega arith))
    above k l (inr f) = get_or-set_other notes (CODES + r) (CODES + suc k) v 0 (λ s. absurd (omega arith)) ∙ h.above k (omega arith) l

-- those from a place on, copied one place up
pub shift_copied : (notes₀ notes : List ℕ) (n at : ℕ) → length notes ≡ length notes₀ → at ≤ n
    → SameBelow notes₀ notes (CODES + at + 1) → CopiedTo notes₀ notes (CODES + at) (CODES + at + 1) (CODES + n - (CODES + at))
    → Shifted notes₀ n at notes
shift_copied notes₀ notes n at long within same moved =
    record {
      kept = record { long = long; kept = λ k l. same k 0 (omega arith) };
      below = λ k l. same (CODES + k) 0 (omega arith);
      above = λ k m l.
          let from : CODES + at + (CODES + suc k - (CODES + at + 1)) ≡ CODES + k = omega arith in
          moved (CODES + suc k) 0 (omega arith) (omega arith) ∙ ap (λ i. get_or notes₀ i 0) from;
    }

-- and the code is put into the place that is free
pub shift_end : (notes₀ notes : List ℕ) (n at code : ℕ) → CODES + at < length notes → Shifted notes₀ n at notes → Inserted notes₀ n at code (set notes (CODES + at) code)
shift_end notes₀ notes n at code room h =
    record {
      kept = below_set CODES notes₀ notes (CODES + at) code (omega arith) h.kept;
      below = λ k l. get_or-set_other notes (CODES + at) (CODES + k) code 0 (λ s. absurd (omega arith)) ∙ h.below k l;
      there = get_or-set_same notes (CODES + at) code 0 room;
      above = λ k m l. get_or-set_other notes (CODES + at) (CODES + suc k) code 0 (λ s. absurd (omega arith)) ∙ h.above k m l;
    }

-- ## Bisection

-- the place of x among n ids is between low and high
pub record Between (id : ℕ → FullNodeId) (n : ℕ) (x : FullNodeId) (low high : ℕ) : Type 0 where
  pub ordered : low ≤ high
  pub within : high ≤ n
  pub under : (k : ℕ) → k < low → before (id k) x ≡ true
  pub over : (k : ℕ) → high ≤ k → k < n → before (id k) x ≡ false

pub between_all : (id : ℕ → FullNodeId) (n : ℕ) (x : FullNodeId) → Between id n x 0 n
between_all id n x = record { ordered = omega arith; within = omega arith; under = λ k h. absurd (omega arith); over = λ k h l. absurd (omega arith) }

module _ (id : ℕ → FullNodeId) {n : ℕ} (up : Ascends id n) {x : FullNodeId} {low high : ℕ} (b : Between id n x low high) (middle : ℕ) (h : low ≤ middle) (l : middle < high)
    {y : FullNodeId} (is : y ≡ id middle) {v : Bool} (test : v ≡ before y x) where
  -- a middle that comes before x: so do all before it
  pub between_above : v ≡ true → Between id n x (middle + 1) high
  between_above e = record { ordered = omega arith; within = b.within; under = λ k m. go k (eq-or-lt_of_le (le_of_suc-le-suc (rw add-one at m))); over = b.over }
    where
      here : before (id middle) x ≡ true
      here = rw (← is) (sym test ∙ e)

      go : (k : ℕ) → (k ≡ middle) ⊎ (k < middle) → before (id k) x ≡ true
      go k (inl q) = rw q here
      go k (inr m) = before_trans (id k) (id middle) x (up k middle m (omega (arith, b.within))) here

  -- one that does not: nor does any after it
  pub between_below : v ≡ false → Between id n x low middle
  between_below e = record { ordered = h; within = omega (arith, b.within); under = b.under; over = λ k m o. on k o (eq-or-lt_of_le m) }
    where
      here : before (id middle) x ≡ false
      here = rw (← is) (sym test ∙ e)

      go : (k : ℕ) → middle < k → k < n → (c : Bool) → before (id k) x ≡ c → c ≡ false
      go k m o false q = refl
      go k m o true q = absurd (false≢true (sym here ∙ before_trans (id middle) (id k) x (up middle k m o) q))

      on : (k : ℕ) → k < n → (middle ≡ k) ⊎ (middle < k) → before (id k) x ≡ false
      on k o (inl q) = rw (← q) here
      on k o (inr m) = go k m o (before (id k) x) refl

-- where they meet it is found
pub between_ends : {id : ℕ → FullNodeId} {n : ℕ} {x z : FullNodeId} {low high : ℕ} → Between id n x low high → high ≤ low → x ≡ z → PlaceOf id n z low
between_ends b h e = rw (← e) (record { within = omega (arith, b.ordered, b.within); under = b.under; over = λ k l m. b.over k (omega arith) m })
