-- Numbers of two and four bytes, the high byte first. Assumes nothing.
use Rattle.std.specs.Prelude.{ℕ, ◌+◌, ◌*◌, ◌/◌, ◌%◌, List, ◌∷◌, slice_index}

abbrev pub read16 : ℕ → ℕ → ℕ
read16 a b = a * 256 + b

abbrev pub read32 : ℕ → ℕ → ℕ → ℕ → ℕ
read32 a b c d = a * 16777216 + b * 65536 + c * 256 + d

-- the number that stands in a list of bytes at an index
abbrev pub at16 : List ℕ → ℕ → ℕ
at16 bs i = read16 (slice_index bs i) (slice_index bs (i + 1))

abbrev pub at32 : List ℕ → ℕ → ℕ
at32 bs i = read32 (slice_index bs i) (slice_index bs (i + 1)) (slice_index bs (i + 2)) (slice_index bs (i + 3))

-- the two bytes of a number, and what follows them
abbrev pub write16 : ℕ → List ℕ → List ℕ
write16 n rest = (n / 256 % 256) ∷ (n % 256) ∷ rest

-- the four bytes of a number, and what follows them
abbrev pub write32 : ℕ → List ℕ → List ℕ
write32 n rest = (n / 16777216 % 256) ∷ (n / 65536 % 256) ∷ (n / 256 % 256) ∷ (n % 256) ∷ rest
