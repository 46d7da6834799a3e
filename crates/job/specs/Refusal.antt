-- The refusal numbers of job files: document 01, Open and Write. The others are the record's.
use Rattle.std.specs.Prelude.{ℕ, zero, suc}
use Rattle.record.specs.Refusal.{◌then◌}

-- "1 longer than 65,536", "1 file above 65,536"
abbrev pub too_long : ℕ
too_long = 1

-- "2 shorter than two bytes"
abbrev pub too_short : ℕ
too_short = 2

-- "3 T above 16", "3 more than 16 counts"
abbrev pub too_many_traces : ℕ
too_many_traces = 3

-- "4 table cut short"
abbrev pub cut_table : ℕ
cut_table = 4

-- "5 count above 4,096"
abbrev pub large_count : ℕ
large_count = 5

-- "6 wrong offset"
abbrev pub wrong_offset : ℕ
wrong_offset = 6

-- "7 length is not the last body's end"
abbrev pub wrong_end : ℕ
wrong_end = 7

-- "13 records not ten times the counts' sum long"
abbrev pub wrong_records : ℕ
wrong_records = 13

-- "14 output shorter than the file"
abbrev pub short_output : ℕ
short_output = 14

-- "entry by entry": the refusal of the first number below n that has one
unfoldable pub first_refusal : (ℕ → ℕ) → ℕ → ℕ
first_refusal refusal zero = 0
first_refusal refusal (suc n) = first_refusal refusal n then refusal n
