-- What Open answers: document 01, "What each call does and when it declines".
use Rattle.std.specs.Prelude.{ℕ, suc, ◌-◌, cond, List, [], Result, Ok, Err, ltb, leb, eqb, length, take, drop}
use Rattle.record.specs.Refusal.{◌then◌, ◌unless◌, out_of_range}
use Rattle.record.specs.Body.{record_refusal}
use Rattle.record.specs.Number.{number}
use Rattle.record.specs.declared.refusal.Refusal.{Refusal}
use Rattle.job.specs.Refusal.{too_long, too_short, too_many_traces, cut_table, large_count, wrong_offset, wrong_end, first_refusal}
use Rattle.job.specs.Layout.{header_size, max_traces, traces, max_count, entry_at, offset_at, count_at, max_file, start_at, body_at}
use Rattle.job.specs.declared.table.Bounds.{Bounds}

-- "Then entry by entry, 5 count above 4,096, 6 wrong offset."
unfoldable pub entry_refusal : List ℕ → ℕ → ℕ
entry_refusal file t = large_count unless leb (count_at file t) max_count then (wrong_offset unless eqb (offset_at file t) (start_at file t))

unfoldable pub entries_refusal : List ℕ → ℕ
entries_refusal file = first_refusal (entry_refusal file) (traces file)

-- "1 longer than 65,536. 2 shorter than two bytes. 3 T above 16. 4 table cut short."
unfoldable pub table_refusal : List ℕ → ℕ
table_refusal file =
    too_long unless leb (length file) max_file
    then (too_short unless leb header_size (length file))
    then (too_many_traces unless leb (traces file) max_traces)
    then (cut_table unless leb (entry_at (traces file)) (length file))

-- "8 a record of any trace breaks its rules"
unfoldable pub traces_refusal : List ℕ → ℕ
traces_refusal file = first_refusal (λ t. record_refusal (body_at file t)) (traces file)

-- "A file is accepted when nothing but 9 can decline it": 1 to 8
unfoldable pub file_refusal : List ℕ → ℕ
file_refusal file =
    table_refusal file
    then entries_refusal file
    then (wrong_end unless eqb (length file) (start_at file (traces file)))
    then traces_refusal file

-- "9 trace number not below T"
unfoldable pub open_refusal : List ℕ → ℕ → ℕ
open_refusal file trace = file_refusal file then (out_of_range unless ltb trace (traces file))

-- "hands back that body as a part of the file"; a refusal gives "an empty part"
unfoldable pub open_body : List ℕ → ℕ → List ℕ
open_body file trace = cond (eqb (open_refusal file trace) 0) (body_at file trace) []

-- where the body of trace t starts and ends
abbrev pub bounds_at : List ℕ → ℕ → Bounds
bounds_at file t = record { start = start_at file t; end = start_at file (suc t) }

-- refusal, start and end by value
pub record Located : Type 0 where
  pub refusal : ℕ
  pub start : ℕ
  pub end : ℕ

-- where a body stands, or why there is none, as one answer
abbrev pub located : Result Bounds Refusal → Located
located (Ok b) = record { refusal = 0; start = b.start; end = b.end }
located (Err r) = record { refusal = number r; start = 0; end = 0 }

-- what Open answers, by value: a refusal with zeros, or 0 and the bounds
unfoldable pub locate_answer : List ℕ → ℕ → Located
locate_answer file trace =
    cond (eqb (open_refusal file trace) 0)
    (record { refusal = 0; start = (bounds_at file trace).start; end = (bounds_at file trace).end })
    (record { refusal = open_refusal file trace; start = 0; end = 0 })

-- the bytes of a file from start to end, or none if the file ends before that end
unfoldable pub part_of : List ℕ → ℕ → ℕ → List ℕ
part_of file start end = cond (leb end (length file)) (take (end - start) (drop start file)) []
