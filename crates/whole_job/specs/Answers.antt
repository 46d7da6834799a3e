-- What the call answers for a job file and a lent list, and what stands in each place of the list afterwards: document 02, F-2. As of every call, the
-- order says: "a refused call leaves lent memory unaltered", and document 01: "A refusal gives its number, zeros for numbers".
use Rattle.std.specs.Prelude.{ℕ, cond, List, ◌++◌, Result, Ok, Err, leb, eqb, length, drop}
use Rattle.record.specs.Refusal.{◌then◌, ◌unless◌}
use Rattle.record.specs.Body.{firsts}
use Rattle.record.specs.Number.{number}
use Rattle.record.specs.declared.refusal.Refusal.{Refusal}
use Rattle.job.specs.Layout.{traces}
use Rattle.job.specs.Open.{open_body}
use Rattle.timed_file.specs.Refusal.{timed_file_refusal}
use Rattle.timing.specs.Answers.{best_worst_answer}
use Rattle.whole_job.specs.declared.call.WholeJob.{WholeJob}

-- "16: the list has fewer than T places"
abbrev pub short_list : ℕ
short_list = 16

-- "1 to 8 as in Open, then 16", for a list of so many places; document 02, F-4: "17, after 8"
unfoldable pub job_refusal : List ℕ → ℕ → ℕ → ℕ
job_refusal file places h = timed_file_refusal file h then (short_list unless leb (traces file) places)

-- "The desk sends sixteen traces and wants sixteen worst times. [..] Each equals what opening and timing that trace alone gives": the worst time that
-- Best and worst gives of what Open hands back
unfoldable pub timed_alone : List ℕ → ℕ → ℕ → ℕ
timed_alone file h t = (best_worst_answer (open_body file t) h).worst

-- the count of traces whose places are filled, or why none is, as one answer
abbrev pub traces_filled : Result ℕ Refusal → WholeJob
traces_filled (Ok all) = record { refusal = 0; traces = all }
traces_filled (Err r) = record { refusal = number r; traces = 0 }

-- a refusal and T
unfoldable pub job_answer : List ℕ → ℕ → ℕ → WholeJob
job_answer file places h =
    cond (eqb (job_refusal file places h) 0)
    (record { refusal = 0; traces = traces file })
    (record { refusal = job_refusal file places h; traces = 0 })

-- "One call takes the file and a lent list of 32-bit numbers and fills its first T places. [..] the rest of the list keeps its values."
unfoldable pub job_times : List ℕ → List ℕ → ℕ → List ℕ
job_times file times h =
    cond (eqb (job_refusal file (length times) h) 0)
    (firsts (timed_alone file h) (traces file) ++ drop (traces file) times)
    times
