-- The report of a job file against deadlines, as text: the header, a line for each trace, the cycles of a data hit where it takes any, and a last line
-- that says how many deadlines are met.
use Rattle.std.specs.Prelude.{ℕ, zero, suc, ◌+◌, ◌*◌, Bool, cond, List, [], ◌++◌, leb, eqb, length, get_or, Option, None, Some, Result, Ok, Err}
use Rattle.machine.specs.Test.{◌and◌, ◌or◌}
use Rattle.record.specs.Body.{trace_with}
use Rattle.record.specs.Number.{number}
use Rattle.record.specs.declared.refusal.Refusal.{Refusal}
use Rattle.job.specs.Layout.{traces, max_traces}
use Rattle.job.specs.Open.{open_body}
use Rattle.timed_file.specs.Refusal.{timed_file_refusal}
use Rattle.text.specs.Text.{put}
use Rattle.report_figures.specs.declared.Line.{Line}
use Rattle.report_figures.specs.Figures.{line_of, met}
use Rattle.report_lines.specs.Lines.{header_text, line_text, line_bytes, hit_text, hit_bytes, last_text, last_bytes}
use Rattle.report_text.specs.declared.whole.Outcome.{Outcome}
use Rattle.report_text.specs.declared.whole.Reported.{Reported}

-- one deadline stands for every trace; otherwise each trace has its own
unfoldable pub deadline_at : List ℕ → ℕ → ℕ
deadline_at deadlines t = cond (eqb (length deadlines) 1) (get_or deadlines 0 0) (get_or deadlines t 0)

unfoldable pub line_at : List ℕ → List ℕ → ℕ → ℕ → Line
line_at file deadlines h t = line_of t (trace_with (open_body file t) h) (deadline_at deadlines t)

-- the lines of the first n traces
unfoldable pub lines_text : List ℕ → List ℕ → ℕ → ℕ → List ℕ
lines_text file deadlines h zero = []
lines_text file deadlines h (suc t) = lines_text file deadlines h t ++ line_text (line_at file deadlines h t)

-- how many of the first n deadlines are met
unfoldable pub met_below : List ℕ → List ℕ → ℕ → ℕ → ℕ
met_below file deadlines h zero = 0
met_below file deadlines h (suc t) = met_below file deadlines h t + met (line_at file deadlines h t)

unfoldable pub report_text : List ℕ → List ℕ → ℕ → List ℕ
report_text file deadlines h =
    header_text
    ++ lines_text file deadlines h (traces file)
    ++ hit_text h
    ++ last_text (met_below file deadlines h (traces file)) (traces file)

-- no report is longer: the header, a line for each of 16 traces, the cycles of a data hit, and the last line
abbrev pub longest : ℕ
longest = line_bytes * suc max_traces + hit_bytes + last_bytes

-- a number of deadlines that fits a number of traces
unfoldable pub serves : ℕ → ℕ → Bool
serves deadlines all = eqb deadlines 1 or eqb deadlines all

-- whether a report is written
unfoldable pub written : List ℕ → List ℕ → ℕ → ℕ → Bool
written file deadlines room h = eqb (timed_file_refusal file h) 0 and serves (length deadlines) (traces file) and leb longest room

-- how long a report is; 0 where it is not written
abbrev pub length_of : Option ℕ → ℕ
length_of None = 0
length_of (Some n) = n

-- what the call gives, and where it declines its refusal's number, as one answer
abbrev pub reported : Result Outcome Refusal → Reported
reported (Ok r) = record { refusal = 0; traces = r.traces; length = length_of r.length }
reported (Err r) = record { refusal = number r; traces = 0; length = 0 }

unfoldable pub report_answer : List ℕ → List ℕ → ℕ → ℕ → Reported
report_answer file deadlines room h =
    record {
      refusal = timed_file_refusal file h;
      traces = cond (eqb (timed_file_refusal file h) 0) (traces file) 0;
      length = cond (written file deadlines room h) (length (report_text file deadlines h)) 0;
    }

-- where no report is written the output is as it was
unfoldable pub report_output : List ℕ → List ℕ → List ℕ → ℕ → List ℕ
report_output file deadlines out h = cond (written file deadlines (length out) h) (put 0 (report_text file deadlines h) out) out
