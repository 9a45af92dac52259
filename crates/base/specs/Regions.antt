-- Regions of one array of words: what a loop leaves that fills them, and the image that parts laid one after another make.
-- Assumes nothing.
use Rattle.std.specs.Prelude.{Bool, true, List, [], ◌∷◌, ◌++◌, ℕ, zero, suc, ◌+◌, leb, ltb, set, if◌then◌else◌}
use Rattle.base.specs.Tests.{◌and◌}
use Rattle.base.specs.Bytes.{list_of}

-- ## Filling

-- places start, .., start + n - 1 are set to f 0, .., f (n - 1)
unfoldable pub fill : ℕ → ℕ → (ℕ → ℕ) → List ℕ → List ℕ
fill start zero f s = s
fill start (suc n) f s = set (fill start n f s) (start + n) (f n)

-- where a region starts, and the word of each of its places
pub record Region : Type 0 where
  pub start : ℕ
  pub word : ℕ → ℕ

abbrev pub region : ℕ → (ℕ → ℕ) → Region
region start f = record { start = start; word = f }

-- the first n places of each region are filled
abbrev pub fills : List Region → ℕ → List ℕ → List ℕ
fills [] n s = s
fills (g ∷ gs) n s = fills gs n (fill g.start n g.word s)

-- place i of each region is set
abbrev pub row : List Region → ℕ → List ℕ → List ℕ
row [] i s = s
row (g ∷ gs) i s = row gs i (set s (g.start + i) (g.word i))

-- the regions ascend from `from` on, each with room for `room` words
abbrev pub laid : ℕ → ℕ → List Region → Bool
laid from room [] = true
laid from room (g ∷ gs) = leb from g.start and laid (g.start + room) room gs

-- ## Images

-- a part of `size` words, of which the first `used` are `word 0`, `word 1`, .., and the others 0
pub record Part : Type 0 where
  pub size : ℕ
  pub used : ℕ
  pub word : ℕ → ℕ

abbrev pub part : ℕ → ℕ → (ℕ → ℕ) → Part
part size used f = record { size = size; used = used; word = f }

-- no word used
abbrev pub unused_part : ℕ → Part
unused_part size = part size 0 (λ i. 0)

unfoldable pub words_of : Part → List ℕ
words_of p = list_of p.size (λ i. if ltb i p.used then p.word i else 0)

-- the parts, one after another
unfoldable pub image : List Part → List ℕ
image [] = []
image (p ∷ ps) = words_of p ++ image ps

-- where part j starts
abbrev pub part_start : List Part → ℕ → ℕ
part_start [] j = 0
part_start (p ∷ ps) zero = 0
part_start (p ∷ ps) (suc j) = p.size + part_start ps j

-- part j's words, put in its place
abbrev pub with_part : List Part → ℕ → ℕ → (ℕ → ℕ) → List Part
with_part [] j n f = []
with_part (p ∷ ps) zero n f = part p.size n f ∷ ps
with_part (p ∷ ps) (suc j) n f = p ∷ with_part ps j n f

-- part j
abbrev pub part_of : List Part → ℕ → Part
part_of [] j = unused_part 0
part_of (p ∷ ps) zero = p
part_of (p ∷ ps) (suc j) = part_of ps j
