-- The lines of the chart program's text: document 01, "Charts worked by hand".
use Rattle.std.specs.Prelude.{ℕ, ◌+◌, ◌*◌, cond, List, [], ◌∷◌, ◌++◌, length}
use Rattle.machine.specs.declared.Slot.{Slot}
use Rattle.machine.specs.declared.State.{State}
use Rattle.text.specs.Text.{space, newline, most_digits, decimal}

abbrev dash : ℕ
dash = 45

abbrev colon : ℕ
colon = 58

-- `cycle IF ID EX MEM ST WB`, "the header line shown below"
abbrev pub header_text : List ℕ
header_text =
    99 ∷ 121 ∷ 99 ∷ 108 ∷ 101
    ∷ space ∷ 73 ∷ 70
    ∷ space ∷ 73 ∷ 68
    ∷ space ∷ 69 ∷ 88
    ∷ space ∷ 77 ∷ 69 ∷ 77
    ∷ space ∷ 83 ∷ 84
    ∷ space ∷ 87 ∷ 66
    ∷ newline ∷ []

-- "fields one space apart", "the slots as index:count or a dash": a slot with the space before it
unfoldable pub slot_text : Slot → List ℕ
slot_text s = space ∷ cond s.filled (decimal s.index ++ (colon ∷ decimal s.count)) (dash ∷ [])

-- "each row is the cycle, then the slots"
unfoldable pub row_text : ℕ → State → List ℕ
row_text cycle s =
    decimal cycle
    ++ slot_text s.IF
    ++ slot_text s.ID
    ++ slot_text s.EX
    ++ slot_text s.MEM
    ++ slot_text s.ST
    ++ slot_text s.WB
    ++ (newline ∷ [])

-- `worst N best N`, "The last line has worst and best."
unfoldable pub times_text : ℕ → ℕ → List ℕ
times_text worst best =
    (119 ∷ 111 ∷ 114 ∷ 115 ∷ 116 ∷ space ∷ [])
    ++ decimal worst
    ++ (space ∷ 98 ∷ 101 ∷ 115 ∷ 116 ∷ space ∷ [])
    ++ decimal best
    ++ (newline ∷ [])

-- "A refusal prints only `refused` and its number."
unfoldable pub refusal_text : ℕ → List ℕ
refusal_text number = (114 ∷ 101 ∷ 102 ∷ 117 ∷ 115 ∷ 101 ∷ 100 ∷ space ∷ []) ++ decimal number ++ (newline ∷ [])

-- The most bytes that each takes, a number taken as the most digits: the header; a slot, which is a space, an index, a colon and a count; a row,
-- which is a cycle, six slots and a newline; the last line, in which two words of six bytes stand before the times; the line of a refusal.
abbrev pub header_bytes : ℕ
header_bytes = length header_text

abbrev pub slot_bytes : ℕ
slot_bytes = 1 + most_digits + 1 + most_digits

abbrev pub row_bytes : ℕ
row_bytes = most_digits + 6 * slot_bytes + 1

abbrev pub times_bytes : ℕ
times_bytes = 6 + most_digits + 6 + most_digits + 1

abbrev pub refusal_bytes : ℕ
refusal_bytes = 8 + most_digits + 1
