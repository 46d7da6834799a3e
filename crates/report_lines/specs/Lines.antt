-- The lines of the report, as text. A trace's line begins with the margin and its sign, since that is the figure people look for; then come the
-- trace's number, instructions, unknown flags, best, worst and deadline. Columns stay aligned for the largest values.
use Rattle.std.specs.Prelude.{ℕ, zero, suc, ◌+◌, List, [], ◌∷◌, ◌++◌, ℤ, pos, negsuc, ◌-ℤ◌}
use Rattle.text.specs.Text.{space, newline, most_digits, decimal, spaces, right}
use Rattle.report_figures.specs.declared.Line.{Line}

-- a number with its sign, `+` or `-`; 0 has none
unfoldable pub signed_text : ℤ → List ℕ
signed_text (pos zero) = 48 ∷ []
signed_text (pos (suc n)) = 43 ∷ decimal (suc n)
signed_text (negsuc n) = 45 ∷ decimal (suc n)

-- the margin as the call Margin gives it: deadline minus worst
unfoldable pub margin_text : ℕ → ℕ → List ℕ
margin_text deadline worst = signed_text (pos deadline -ℤ pos worst)

-- a column after the first
unfoldable pub column : ℕ → List ℕ → List ℕ
column width text = spaces 2 ++ right width text

unfoldable pub line_text : Line → List ℕ
line_text line =
    right 11 (margin_text line.deadline line.worst)
    ++ column 5 (decimal line.number)
    ++ column 12 (decimal line.instructions)
    ++ column 7 (decimal line.unknown)
    ++ column 10 (decimal line.best)
    ++ column 10 (decimal line.worst)
    ++ column 10 (decimal line.deadline)
    ++ (newline ∷ [])

-- the columns' names: margin, trace, instructions, unknown, best, worst, deadline
unfoldable pub header_text : List ℕ
header_text =
    right 11 (109 ∷ 97 ∷ 114 ∷ 103 ∷ 105 ∷ 110 ∷ [])
    ++ column 5 (116 ∷ 114 ∷ 97 ∷ 99 ∷ 101 ∷ [])
    ++ column 12 (105 ∷ 110 ∷ 115 ∷ 116 ∷ 114 ∷ 117 ∷ 99 ∷ 116 ∷ 105 ∷ 111 ∷ 110 ∷ 115 ∷ [])
    ++ column 7 (117 ∷ 110 ∷ 107 ∷ 110 ∷ 111 ∷ 119 ∷ 110 ∷ [])
    ++ column 10 (98 ∷ 101 ∷ 115 ∷ 116 ∷ [])
    ++ column 10 (119 ∷ 111 ∷ 114 ∷ 115 ∷ 116 ∷ [])
    ++ column 10 (100 ∷ 101 ∷ 97 ∷ 100 ∷ 108 ∷ 105 ∷ 110 ∷ 101 ∷ [])
    ++ (newline ∷ [])

-- the length of every line, the header's too: the margin, six columns and a newline
abbrev pub line_bytes : ℕ
line_bytes = 11 + (2 + 5) + (2 + 12) + (2 + 7) + (2 + 10) + (2 + 10) + (2 + 10) + 1

-- the cycles that a data hit takes, on a line of its own, where it takes any: `cycles of a data hit: N`
unfoldable pub hit_text : ℕ → List ℕ
hit_text zero = []
hit_text (suc h) =
    (99 ∷ 121 ∷ 99 ∷ 108 ∷ 101 ∷ 115 ∷ space ∷ 111 ∷ 102 ∷ space ∷ 97 ∷ space ∷ 100 ∷ 97 ∷ 116 ∷ 97 ∷ space ∷ 104 ∷ 105 ∷ 116 ∷ 58 ∷ space ∷ [])
    ++ decimal (suc h)
    ++ (newline ∷ [])

-- the most bytes of it: 22, the number and a newline
abbrev pub hit_bytes : ℕ
hit_bytes = 22 + most_digits + 1

-- `N of N deadlines met`
unfoldable pub last_text : ℕ → ℕ → List ℕ
last_text met all =
    decimal met
    ++ (space ∷ 111 ∷ 102 ∷ space ∷ [])
    ++ decimal all
    ++ (space ∷ 100 ∷ 101 ∷ 97 ∷ 100 ∷ 108 ∷ 105 ∷ 110 ∷ 101 ∷ 115 ∷ space ∷ 109 ∷ 101 ∷ 116 ∷ newline ∷ [])

-- the most bytes of it: two numbers, the four bytes between them and the fifteen after
abbrev pub last_bytes : ℕ
last_bytes = most_digits + 4 + most_digits + 15
