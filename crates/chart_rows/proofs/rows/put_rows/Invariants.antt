-- the rows so far, each the state that a run for as many cycles gives
use Rattle.machine.specs.Instruction.{miss}
use Rattle.machine.specs.Time.{settle}
use Rattle.record.specs.Body.{trace_with}
use Rattle.text.specs.Pen.{Adds}
use Rattle.chart_rows.specs.Rows.{rows_text}
use Rattle.chart_rows.proofs.rows.put_rows.Given as goal

abbrev pub invariant-loop-cycle : goal.invariant-loop-cycle
invariant-loop-cycle l = Adds (rows_text (settle miss (trace_with l.body 0)) l.cycle) l.fn.pen l.pen
