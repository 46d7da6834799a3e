-- What Write answers and what it leaves in the output: document 01, "What each call does and when it declines".
use Rattle.std.specs.Prelude.{ℕ, zero, suc, ◌+◌, ◌*◌, cond, List, [], ◌++◌, Result, Ok, Err, ltb, leb, eqb, length, get_or, drop}
use Rattle.machine.specs.Test.{none}
use Rattle.record.specs.Refusal.{◌then◌, ◌unless◌}
use Rattle.record.specs.Layout.{record_size}
use Rattle.little_endian.specs.Numbers.{half_bytes, word_bytes}
use Rattle.record.specs.Body.{record_refusal}
use Rattle.record.specs.Number.{number}
use Rattle.record.specs.declared.refusal.Refusal.{Refusal}
use Rattle.job.specs.Refusal.{too_long, too_many_traces, large_count, wrong_records, short_output}
use Rattle.job.specs.Layout.{max_traces, max_count, max_file, entry_at, before, body_start}
use Rattle.writer.specs.declared.writing.Written.{Written}

abbrev pub count : List ℕ → ℕ → ℕ
count counts t = get_or counts t 0

-- "the counts' sum"
abbrev pub sum : List ℕ → ℕ
sum counts = before (count counts) (length counts)

-- the length of the file: header, table and records
unfoldable pub file_length : List ℕ → List ℕ → ℕ
file_length counts records = entry_at (length counts) + length records

-- "5 a count above 4,096"
unfoldable pub counts_refusal : List ℕ → ℕ
counts_refusal counts = large_count unless none (λ t. ltb max_count (count counts t)) (length counts)

-- "3 more than 16 counts. 5 a count above 4,096. 13 records not ten times the counts' sum long. 1 file above 65,536. 8. 14 output shorter than
-- the file."
unfoldable pub write_refusal : List ℕ → List ℕ → ℕ → ℕ
write_refusal counts records room =
    too_many_traces unless leb (length counts) max_traces
    then counts_refusal counts
    then (wrong_records unless eqb (length records) (record_size * sum counts))
    then (too_long unless leb (file_length counts records) max_file)
    then record_refusal records
    then (short_output unless leb (file_length counts records) room)

-- an entry: "a four-byte offset from the file's start and a two-byte instruction count"
unfoldable pub entry_bytes : List ℕ → ℕ → List ℕ
entry_bytes counts t = word_bytes (body_start (length counts) (count counts) t) ++ half_bytes (count counts t)

-- the first n entries
unfoldable pub table_of : List ℕ → ℕ → List ℕ
table_of counts zero = []
table_of counts (suc n) = table_of counts n ++ entry_bytes counts n

-- "contents first. Two bytes: the count T of traces [..] Then T entries of six bytes [..] Then the bodies in entry order."
unfoldable pub file_of : List ℕ → List ℕ → List ℕ
file_of counts records = half_bytes (length counts) ++ table_of counts (length counts) ++ records

-- the length that is written, or why nothing is, as one answer
abbrev pub written : Result ℕ Refusal → Written
written (Ok n) = record { refusal = 0; length = n }
written (Err r) = record { refusal = number r; length = 0 }

unfoldable pub write_answer : List ℕ → List ℕ → ℕ → Written
write_answer counts records room =
    cond (eqb (write_refusal counts records room) 0)
    (record { refusal = 0; length = file_length counts records })
    (record { refusal = write_refusal counts records room; length = 0 })

-- "bytes past it keep their values"; a refusal "leaves lent memory unaltered"
unfoldable pub write_output : List ℕ → List ℕ → List ℕ → List ℕ
write_output counts records out =
    cond (eqb (write_refusal counts records (length out)) 0)
    (file_of counts records ++ drop (file_length counts records) out)
    out
