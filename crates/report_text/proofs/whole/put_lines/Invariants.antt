-- at the loop's head the lines of the first t traces are put, and their met deadlines counted
use Rattle.std.proofs.Common.{◌≡◌, ◌+◌, ◌*◌, ◌≤◌}
use Rattle.text.specs.Pen.{Adds}
use Rattle.report_lines.specs.Lines.{line_bytes}
use Rattle.report_text.specs.Report.{lines_text, met_below}
use Rattle.report_text.proofs.whole.put_lines.Given as goal

abbrev pub invariant-loop-t : goal.invariant-loop-t
invariant-loop-t l =
    (l.met ≡ met_below l.file l.deadlines l.hit_cycles l.t)
    × (l.met ≤ l.t)
    × (l.pen.at ≡ l.fn.pen.at + line_bytes * l.t)
    × Adds (lines_text l.file l.deadlines l.hit_cycles l.t) l.fn.pen l.pen
