-- An upper bound on the length of a chart's rows.
use Prim.Native.Nat.{ℕ, zero, suc, ◌*◌, ◌≤◌}
use native.Mathlib.Omega.{arith}
use lib.ListN.{length, length-append}
use Rattle.machine.specs.Instruction.{Trace}
use Rattle.machine.proofs.RunStates.{state_after}
use Rattle.chart_lines.specs.Lines.{row_text, row_bytes}
use Rattle.chart_lines.proofs.Lengths.{row_is_short}
use Rattle.chart_rows.specs.Rows.{rows_text}

pub rows_short : (trace : Trace) (n : ℕ) → length (rows_text trace n) ≤ row_bytes * n
unfolding rows_text
rows_short trace zero = omega arith
rows_short trace (suc n) =
    let more = length-append (rows_text trace n) (row_text n (state_after trace n)) in
    let line = (row_is_short n (state_after trace n)).within in
    let rest = rows_short trace n in
    omega arith
