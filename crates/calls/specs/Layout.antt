-- How many words the notes have, and where their regions start, as in src/notes.rt. Assumes nothing.
use Rattle.std.specs.Prelude.{ℕ}

abbrev pub WORDS : ℕ
WORDS = 4096

abbrev pub LISTED : ℕ
LISTED = 0

abbrev pub NAMED : ℕ
NAMED = 64

abbrev pub ENDS : ℕ
ENDS = 320

abbrev pub LISTED_SLOTS : ℕ
LISTED_SLOTS = 384

abbrev pub NAMED_SLOTS : ℕ
NAMED_SLOTS = 448

abbrev pub TURNS : ℕ
TURNS = 704

abbrev pub NAMINGS : ℕ
NAMINGS = 1024

abbrev pub CLAIMS : ℕ
CLAIMS = 1344

abbrev pub ABOVE : ℕ
ABOVE = 1408

abbrev pub FATES : ℕ
FATES = 1728

abbrev pub DIFFERS : ℕ
DIFFERS = 2048

abbrev pub COUNT : ℕ
COUNT = 2112

abbrev pub CODES : ℕ
CODES = 2113

abbrev pub SOURCES : ℕ
SOURCES = 2433

abbrev pub CHANGED : ℕ
CHANGED = 2753
