-- Laws of the data of a listed node and of a slot, and of the bit patterns of floats. Assumes nothing.
use denote.Array.{each}
use denote.Laws.{Is}
use denote.Plain.{UInt}
use denote.Shadow.{shadow}
use denote.Struct.Declared.{row}
use mathlib.Core.Bool.{Bool, true, false}
use mathlib.Core.List.{List, map, [], ◌∷◌}
use mathlib.Core.Path.{◌≡◌, refl, sym, ap, ◌∙◌}
use mir.Syntax.{w64}
use mir.Val.{Val}
use Prim.Native.Nat.{ℕ, ◌+◌, ◌*◌, ◌/◌, ◌%◌, ◌^◌, ◌-◌, ◌≤◌, ◌<◌}
use native.Mathlib.Nat.{mod-lt}
use native.Mathlib.Omega.{arith}
use lib.Dec.{ltb}
use lib.Ieee.{of_bits, to_bits, binary64}
use lib.ListN.{length, drop}
use borrow.Author.Tests.{lt-ltb, le-ltb}
use Rattle.std.specs.Prelude.{if◌then◌else◌}
use Rattle.base.specs.Bytes.{le, list_of}
use Rattle.base.proofs.Bytes.{all_list_of}
use Rattle.base.proofs.Indexed.{list_of_cong}
use Rattle.base.proofs.Lists.{all_take, all_drop}
use Rattle.base.proofs.Tests.{joined}
use Rattle.record.specs.Batch.{fields_ok, NodeData}
use Rattle.record.specs.Layout.{node_count, record_at, label_at, label_start, label_length}
use Rattle.record.specs.Parse.{node_of, well_formed, batch_of}
use Rattle.record.proofs.Parse.{record_facts}
use Rattle.record_reader.specs.Reader.{listed_at}
use Rattle.record_reader.proofs.Reader.{node_count_is, listed_here, field_here}
use Rattle.state_array.specs.Layout.{SLOTS, word, LABEL}
use Rattle.state_array.specs.View.{label_byte, label_in, body_in, node_in}
use Rattle.state_array.specs.Stored.{floats_of, body_of, float_words, body_words, DataFits}
use Rattle.state_array.specs.declared.Body.{Body}
use Rattle.state_array.specs.contracts.Body.{the_type}
use Rattle.state_array.proofs.Labels.{are_bytes, le_below}
use Rattle.state_array.proofs.Bodies.{are_words, patterns_fit, patterns_back, floats_finite, slot_floats, body_words_lem}
use Rattle.update_bodies.specs.Bodies.{patterns_in, listed_body, code_body}

-- r is the image of the data d, which fits
pub record Bodied (d : NodeData) (r : Body) : Type 0 where
  pub is : r ≡ body_of d
  pub fits : DataFits d

-- ## A listed node of a record

module _ (bytes : List ℕ) (byte : are_bytes bytes ≡ true) (formed : well_formed bytes ≡ true) (i : ℕ) (h : i < length (batch_of bytes).nodes) where
  within : i < node_count bytes
  within = rw (node_count_is bytes) h

  -- the data that the record says
  said : (listed_at (batch_of bytes) i).body ≡ (node_of bytes i).body
  said = ap (λ l. l.body) (listed_here bytes i within)

  -- its bit patterns
  abbrev patterns : List ℕ
  patterns = list_of 10 (λ k. le 8 bytes (record_at i + (48 + 8 * k)))

  floats_are : floats_of (node_of bytes i).body ≡ map (of_bits binary64) patterns
  unfolding floats_of list_of
  floats_are = refl

  -- where its label starts
  abbrev from : ℕ
  from = label_at bytes (label_start bytes (record_at i))

  -- it fits
  listed_fits : DataFits (listed_at (batch_of bytes) i).body
  listed_fits = rw said (record {
    fields = (record_facts bytes formed i within).fields;
    bytes = all_take _ (label_length bytes (record_at i)) (drop from bytes) (all_drop _ from bytes byte);
    floats = rw floats_are (patterns_fit patterns);
  })

  -- the patterns that are read are those of its floats
  listed_floats : patterns_in bytes i ≡ map (to_bits binary64) (floats_of (listed_at (batch_of bytes) i).body)
  unfolding patterns_in list_of
  listed_floats =
      let finite = rw floats_are at (floats_finite (node_of bytes i).body (record_facts bytes formed i within).fields) in
      let small = all_list_of (λ w. ltb w (2 ^ 64)) 10 (λ k. le 8 bytes (record_at i + (48 + 8 * k))) (λ k l. lt-ltb _ _ (le_below bytes _ byte)) in
      read ∙ rw (said, floats_are) (sym (patterns_back patterns small finite))
    where
      read : patterns_in bytes i ≡ patterns
      read = list_of_cong 10 _ _ (λ k l. field_here bytes i 8 (48 + 8 * k) refl within)

  -- what the bytes say is the data of a node that obeys the rules
  pub listed_body_lem : listed_body bytes i ≡ body_of (listed_at (batch_of bytes) i).body
  unfolding listed_body body_of
  listed_body_lem = rw listed_floats refl

-- ## The data of a slot

module _ (s : List ℕ) (i : ℕ) where
  -- a byte of its label
  byte_below : (j : ℕ) → label_byte s i j < 256
  unfolding label_byte
  byte_below j = go (ltb j 32)
    where
      go : (t : Bool) → (if t then word s (LABEL + j / 8) i / 2 ^ (8 * (j % 8)) % 256 else 0) < 256
      go true = mod-lt _ (omega arith)
      go false = omega arith

  slot_bytes : are_bytes (body_in s i).label ≡ true
  unfolding body_in label_in
  slot_bytes = all_list_of (λ x. ltb x 256) _ (label_byte s i) (λ j l. lt-ltb _ _ (byte_below j))

  -- it fits where it obeys the rules
  slot_fits : fields_ok (body_in s i) ≡ true → DataFits (body_in s i)
  slot_fits h = record { fields = h; bytes = slot_bytes; floats = rw (slot_floats s i) (patterns_fit (float_words s i)) }

-- ## The data of a code

-- the elements of an array in memory are words
words_fit : (ws : List ℕ) (us : List Val) → shadow (each ℕ (UInt w64).own_val ws us) → are_words ws ≡ true
words_fit [] us h = refl
words_fit (w ∷ ws) [] h = absurd h
words_fit (w ∷ ws) (u ∷ us) h = joined (lt-ltb w (2 ^ 64) h.0.1) (words_fit ws us h.1)

-- so are the floats of what a call answers: `Is ..` is its `.ok`
pub floats_fit : (r : Body) (vs : List Val) → Is (row the_type) r vs → are_words r.floats ≡ true
floats_fit r vs h = let floats = h.1.1.1.1.1.1.1.1.1.0 in words_fit r.floats floats.0 floats.1.1

module _ (state bytes : List ℕ) (code : ℕ) {r : Body} (is : r ≡ code_body state bytes code) where
  -- a slot's, where its fields obey the rules
  pub code_kept : are_words r.floats ≡ true → code < SLOTS → fields_ok (node_in state code).body ≡ true → Bodied (node_in state code).body r
  unfolding code_body node_in
  code_kept words l fields =
      let here : r ≡ body_words state code = is ∙ rw (lt-ltb code SLOTS l) in
      record { is = here ∙ body_words_lem state code (rw here at words) fields; fits = slot_fits state code fields }

  -- a listed node's of a record
  pub code_listed : are_bytes bytes ≡ true → SLOTS ≤ code → well_formed bytes ≡ true → code - SLOTS < length (batch_of bytes).nodes
      → Bodied (listed_at (batch_of bytes) (code - SLOTS)).body r
  unfolding code_body
  code_listed byte l formed h =
      let here : r ≡ listed_body bytes (code - SLOTS) = is ∙ rw (le-ltb code SLOTS l) in
      record { is = here ∙ listed_body_lem bytes byte formed (code - SLOTS) h; fits = listed_fits bytes byte formed (code - SLOTS) h }
