-- at the loop's head the cycle and the first slots are put
use Rattle.std.proofs.Common.{◌++◌, take}
use Rattle.std.specs.List.{flat_map}
use Rattle.text.specs.Text.{decimal}
use Rattle.text.specs.Pen.{Adds}
use Rattle.chart_lines.specs.Lines.{slot_text}
use Rattle.chart_lines.proofs.lines.put_row.Given as goal

abbrev pub invariant-loop-slot : goal.invariant-loop-slot
invariant-loop-slot l = Adds (decimal l.cycle ++ flat_map slot_text (take l.slot-index l.slot-items)) l.fn.pen l.pen
