-- What a line of the report says of a trace, and whether the deadline is met.
use Rattle.std.specs.Prelude.{ℕ, ◌+◌, cond, [], ◌∷◌, leb, length}
use Rattle.machine.specs.Instruction.{Flag, hit, miss, unknown, Trace}
use Rattle.machine.specs.Time.{best, worst}
use Rattle.report_figures.specs.declared.Line.{Line}

-- how many flags of a trace are unknown, of fetches and of data accesses
unfoldable pub is_unknown : Flag → ℕ
is_unknown hit = 0
is_unknown miss = 0
is_unknown unknown = 1

unfoldable pub unknown_flags : Trace → ℕ
unknown_flags [] = 0
unknown_flags (i ∷ trace) = is_unknown i.fetch + is_unknown i.access + unknown_flags trace

-- what a line says
unfoldable pub line_of : ℕ → Trace → ℕ → Line
line_of number trace deadline =
    record {
      number = number;
      instructions = length trace;
      unknown = unknown_flags trace;
      best = best trace;
      worst = worst trace;
      deadline = deadline;
    }

-- 1 where the deadline is met; a margin of 0 meets it
unfoldable pub met : Line → ℕ
met line = cond (leb line.worst line.deadline) 1 0
