-- The rows of the chart program's text: document 01, "Charts worked by hand".
use Rattle.std.specs.Prelude.{ℕ, zero, suc, List, [], ◌++◌}
use Rattle.machine.specs.Instruction.{Trace}
use Rattle.machine.specs.Rules.{after}
use Rattle.machine.specs.State.{state_of}
use Rattle.chart_lines.specs.Lines.{row_text}

-- "rows 0 to the smaller of finishing time and 1,000"
abbrev pub last_row : ℕ
last_row = 1000

-- the first n rows: the states after 0, 1, .. n - 1 cycles
unfoldable pub rows_text : Trace → ℕ → List ℕ
rows_text trace zero = []
rows_text trace (suc n) = rows_text trace n ++ row_text n (state_of trace (after trace n))
