-- The job file, byte by byte: document 01, "Job file and instruction record".
use Rattle.std.specs.Prelude.{ℕ, zero, suc, ◌+◌, ◌*◌, List, take, drop}
use Rattle.machine.specs.State.{max_instructions}
use Rattle.little_endian.specs.Numbers.{half, word}
use Rattle.record.specs.Layout.{record_size}

-- "Two bytes: the count T of traces, 0 to 16."
abbrev pub header_size : ℕ
header_size = 2

abbrev pub max_traces : ℕ
max_traces = 16

abbrev pub traces : List ℕ → ℕ
traces file = half file 0

-- "Then T entries of six bytes: a four-byte offset from the file's start and a two-byte instruction count, 0 to 4,096."
abbrev pub entry_size : ℕ
entry_size = 6

abbrev pub count_in_entry : ℕ
count_in_entry = 4

abbrev pub max_count : ℕ
max_count = max_instructions

abbrev pub entry_at : ℕ → ℕ
entry_at t = header_size + entry_size * t

abbrev pub offset_at : List ℕ → ℕ → ℕ
offset_at file t = word file (entry_at t)

abbrev pub count_at : List ℕ → ℕ → ℕ
count_at file t = half file (entry_at t + count_in_entry)

-- "A file has at most 65,536 bytes."
abbrev pub max_file : ℕ
max_file = 65536

-- how many instructions the traces before t have
unfoldable pub before : (ℕ → ℕ) → ℕ → ℕ
before count zero = 0
before count (suc t) = before count t + count t

-- "The first body starts at 2 + 6T, each later one where its forerunner ends": where body t starts, by the counts before it
unfoldable pub body_start : ℕ → (ℕ → ℕ) → ℕ → ℕ
body_start T count zero = entry_at T
body_start T count (suc t) = body_start T count t + record_size * count t

abbrev pub start_at : List ℕ → ℕ → ℕ
start_at file t = body_start (traces file) (count_at file) t

-- the body of trace t
abbrev pub body_at : List ℕ → ℕ → List ℕ
body_at file t = take (record_size * count_at file t) (drop (start_at file t) file)

-- the joined records of all traces
abbrev pub records_of : List ℕ → List ℕ
records_of file = drop (entry_at (traces file)) file
