-- Text as ASCII bytes, and what a lent output holds after a text has been put into it.
use Rattle.std.specs.Prelude.{ℕ, zero, suc, ◌+◌, ◌-◌, ◌/◌, ◌%◌, ◌≤◌, cond, ◌≡◌, List, [], ◌∷◌, ◌++◌, ltb, length, take, drop}

abbrev pub space : ℕ
space = 32

abbrev pub newline : ℕ
newline = 10

-- the output with the text at a position; the bytes before and after it keep their values
unfoldable pub put : ℕ → List ℕ → List ℕ → List ℕ
put at text out = take at out ++ text ++ drop (at + length text) out

-- a function has put the text at the position, within the output, and gives the position at which the text ends
abbrev pub Wrote : ℕ → List ℕ → List ℕ → List ℕ → ℕ → Type 0
Wrote at text before afterwards end = (end ≡ at + length text) × (afterwards ≡ put at text before) × (end ≤ length before)

-- a number in decimal, if k digits suffice
unfoldable pub decimal_within : ℕ → ℕ → List ℕ
decimal_within zero n = []
decimal_within (suc k) n = cond (ltb n 10) ((48 + n) ∷ []) (decimal_within k (n / 10) ++ ((48 + n % 10) ∷ []))

-- ten digits suffice for 32 bits
abbrev pub most_digits : ℕ
most_digits = 10

unfoldable pub decimal : ℕ → List ℕ
decimal = decimal_within most_digits

unfoldable pub spaces : ℕ → List ℕ
spaces zero = []
spaces (suc n) = spaces n ++ (space ∷ [])

-- the text right-aligned in a column of this width; a wider text is longer than the column
unfoldable pub right : ℕ → List ℕ → List ℕ
right width text = spaces (width - length text) ++ text
