-- The chart program's text: document 01, "Charts worked by hand".
use Rattle.std.specs.Prelude.{ℕ, suc, ◌+◌, ◌*◌, min, cond, List, ◌++◌, eqb, leb, length}
use Rattle.machine.specs.Instruction.{Trace, miss}
use Rattle.machine.specs.Time.{settle, best, worst}
use Rattle.record.specs.Body.{trace_with}
use Rattle.job.specs.Open.{open_refusal, open_body}
use Rattle.text.specs.Text.{put}
use Rattle.chart_lines.specs.Lines.{header_text, times_text, refusal_text, header_bytes, row_bytes, times_bytes}
use Rattle.chart_rows.specs.Rows.{last_row, rows_text}

-- "the chart of trace 0 with unknowns as misses: the header line shown below, then rows 0 to the smaller of finishing time and 1,000"
unfoldable pub chart_of : Trace → List ℕ
chart_of trace = header_text ++ rows_text (settle miss trace) (suc (min (worst trace) last_row)) ++ times_text (worst trace) (best trace)

-- document 02, F-4: "the chart program uses 0"
unfoldable pub chart_text : List ℕ → List ℕ
chart_text file = cond (eqb (open_refusal file 0) 0) (chart_of (trace_with (open_body file 0) 0)) (refusal_text (open_refusal file 0))

-- no chart is longer: the header, rows 0 to 1,000, the last line
abbrev pub longest : ℕ
longest = header_bytes + row_bytes * suc last_row + times_bytes

-- a lent output that is shorter than this is left as it is, and the length given is 0
unfoldable pub chart_length : List ℕ → ℕ → ℕ
chart_length file room = cond (leb longest room) (length (chart_text file)) 0

unfoldable pub chart_output : List ℕ → List ℕ → List ℕ
chart_output file out = cond (leb longest (length out)) (put 0 (chart_text file) out) out
