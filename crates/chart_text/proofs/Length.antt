-- No chart is longer than the room that an output must have.
use Prim.Native.Nat.{suc, ◌*◌, ◌≤◌, min}
use native.Mathlib.Omega.{arith}
use lib.ListN.{length}
use Rattle.machine.specs.Instruction.{Trace, miss}
use Rattle.machine.specs.Time.{settle, best, worst}
use Rattle.chart_lines.proofs.Lengths.{Short, both, times_is_short}
use Rattle.chart_rows.specs.Rows.{last_row, rows_text}
use Rattle.chart_rows.proofs.Length.{rows_short}
use Rattle.chart_lines.specs.Lines.{header_text, header_bytes, row_bytes}
use Rattle.chart_text.specs.Chart.{chart_of, longest}

pub chart_short : (trace : Trace) → length (chart_of trace) ≤ longest
unfolding chart_of
chart_short trace =
    let rows = rows_text (settle miss trace) (suc (min (worst trace) last_row)) in
    let long = rows_short (settle miss trace) (suc (min (worst trace) last_row)) in
    let lines : Short (row_bytes * suc last_row) rows = record { within = omega arith } in
    let header : Short header_bytes header_text = record { within = omega arith } in
    (both (both header lines) (times_is_short (worst trace) (best trace))).within
