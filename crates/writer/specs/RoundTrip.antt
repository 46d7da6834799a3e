-- Demand 2: "A written job file reads back as the same traces, and an accepted file is what the writer makes of its traces."
use Rattle.std.specs.Prelude.{ℕ, ◌*◌, ◌<◌, List, [], ◌∷◌, ◌++◌, map, ◌≡◌, length, take, drop}
use Rattle.machine.specs.Instruction.{Trace}
use Rattle.machine.specs.Hits.{with_hits}
use Rattle.record.specs.Layout.{record_size}
use Rattle.record.specs.Body.{Bytes, records, firsts, trace_of}
use Rattle.encoding.specs.Encoding.{body_of}
use Rattle.job.specs.Layout.{traces, count_at, before, records_of}
use Rattle.job.specs.Open.{file_refusal, open_body}
use Rattle.writer.specs.Write.{count, file_of, write_refusal}

-- the counts of a file, whose joined records are `records_of`
abbrev pub counts_of : List ℕ → List ℕ
counts_of file = firsts (count_at file) (traces file)

-- the records of trace t among the joined ones
abbrev pub records_at : List ℕ → List ℕ → ℕ → List ℕ
records_at counts records t = take (record_size * count counts t) (drop (record_size * before (count counts) t) records)

pub record RoundTrip : Type 0 where
  -- what Write accepts, with any output, is written as an accepted file that opens at each trace number as just that trace's records
  pub written :
      (counts records : List ℕ) (room : ℕ) →
      write_refusal counts records room ≡ 0 →
      (file_refusal (file_of counts records) ≡ 0)
      × (traces (file_of counts records) ≡ length counts)
      × ((t : ℕ) → t < length counts → open_body (file_of counts records) t ≡ records_at counts records t)
  -- an accepted file is, byte for byte, what Write makes of its counts and its records, given room
  pub read :
      (file : List ℕ) →
      Bytes file →
      file_refusal file ≡ 0 →
      (file_of (counts_of file) (records_of file) ≡ file) × (write_refusal (counts_of file) (records_of file) (length file) ≡ 0)

-- the bodies that Open hands back, in entry order, and the traces that they stand for
abbrev pub bodies_of : List ℕ → List (List ℕ)
bodies_of file = firsts (open_body file) (traces file)

abbrev pub traces_of : List ℕ → List Trace
traces_of file = map trace_of (bodies_of file)

-- the counts and the joined records of bodies
abbrev pub counts_in : List (List ℕ) → List ℕ
counts_in bodies = map (λ body. records body) bodies

unfoldable pub joined : List (List ℕ) → List ℕ
joined [] = []
joined (body ∷ bodies) = body ++ joined bodies

-- what Write makes of them, and why it declines them
abbrev pub file_of_bodies : List (List ℕ) → List ℕ
file_of_bodies bodies = file_of (counts_in bodies) (joined bodies)

abbrev pub bodies_refusal : List (List ℕ) → ℕ → ℕ
bodies_refusal bodies room = write_refusal (counts_in bodies) (joined bodies) room

-- The same over traces and the bodies that Open hands back.
pub record TracesRoundTrip : Type 0 where
  -- "A written job file reads back as the same traces", whatever the cycles of a data hit with which they are timed, which no file has
  pub written :
      (list : List Trace) (room : ℕ) →
      bodies_refusal (map body_of list) room ≡ 0 →
      (file_refusal (file_of_bodies (map body_of list)) ≡ 0)
      × ((h : ℕ) → map (with_hits h) (traces_of (file_of_bodies (map body_of list))) ≡ map (with_hits h) list)
  -- "and an accepted file is what the writer makes of its traces": of the bodies that Open hands back, which are those of its traces
  pub read :
      (file : List ℕ) →
      Bytes file →
      file_refusal file ≡ 0 →
      (file_of_bodies (bodies_of file) ≡ file)
      × (bodies_refusal (bodies_of file) (length file) ≡ 0)
      × (bodies_of file ≡ map body_of (traces_of file))
