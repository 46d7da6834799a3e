-- A deadline as a word: one or more decimal digits, whose number fits 32 bits.
use Rattle.std.specs.Prelude.{ℕ, ◌+◌, ◌*◌, ◌-◌, Bool, true, cond, List, [], ◌∷◌, ltb, leb, length, Option, None, Some}
use Rattle.machine.specs.Test.{◌and◌}

-- `0` to `9`
unfoldable pub is_digit : ℕ → Bool
is_digit byte = leb 48 byte and leb byte 57

unfoldable pub all_digits : List ℕ → Bool
all_digits [] = true
all_digits (byte ∷ word) = is_digit byte and all_digits word

-- the number that the digits give after others that gave n; leading zeros do not change it
unfoldable pub number_from : ℕ → List ℕ → ℕ
number_from n [] = n
number_from n (byte ∷ word) = number_from (10 * n + (byte - 48)) word

unfoldable pub is_deadline : List ℕ → Bool
is_deadline word = ltb 0 (length word) and all_digits word and ltb (number_from 0 word) 4294967296

-- that number, or that the word is none
unfoldable pub deadline_of : List ℕ → Option ℕ
deadline_of word = cond (is_deadline word) (Some (number_from 0 word)) None
