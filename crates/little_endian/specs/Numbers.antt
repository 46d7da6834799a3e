-- Numbers of one, two and four bytes: document 01, "Job file and instruction record".
use Rattle.std.specs.Prelude.{ℕ, ◌+◌, ◌*◌, ◌/◌, ◌%◌, List, [], ◌∷◌, get_or}

abbrev pub byte : List ℕ → ℕ → ℕ
byte bytes at = get_or bytes at 0

-- "Little endian": two bytes as a number
abbrev pub half : List ℕ → ℕ → ℕ
half bytes at = byte bytes at + 256 * byte bytes (at + 1)

-- and four
abbrev pub word : List ℕ → ℕ → ℕ
word bytes at = byte bytes at + 256 * byte bytes (at + 1) + 65536 * byte bytes (at + 2) + 16777216 * byte bytes (at + 3)

-- The same the other way: a number below 65,536 as two bytes, and one below 2 ^ 32 as four
abbrev pub half_bytes : ℕ → List ℕ
half_bytes n = n % 256 ∷ n / 256 ∷ []

abbrev pub word_bytes : ℕ → List ℕ
word_bytes n = n % 256 ∷ n / 256 % 256 ∷ n / 65536 % 256 ∷ n / 16777216 ∷ []
