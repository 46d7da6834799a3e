use Rattle.std.proofs.Common.{◌≡◌, ℕ, suc, sym, ap, add-one, arith}
use Rattle.machine.specs.Instruction.{miss}
use Rattle.machine.specs.Time.{settle}
use Rattle.record.specs.Body.{trace_with}
use Rattle.record.proofs.Accepted.{zero_timed}
use Rattle.running.proofs.RunAnswer.{state_ran}
use Rattle.text.proofs.Pens.{adds_nothing, adds_then, adds_as}
use Rattle.chart_lines.specs.Lines.{row_text}
use Rattle.chart_rows.specs.Rows.{rows_text}
use Rattle.chart_rows.proofs.Length.{rows_short}
use Rattle.chart_rows.proofs.rows.put_rows.Goals as goal

pub loop-cycle-init : goal.loop-cycle-init
unfolding rows_text
loop-cycle-init c = adds_nothing _ (omega arith)

pub run_settled-ran-requires : goal.run_settled-ran-requires
run_settled-ran-requires c = zero_timed _ c.requires.0 (λ n. (c.type_inv.body n).fits)

pub put_row-requires : goal.put_row-requires
put_row-requires c =
    let short = rows_short (settle miss (trace_with c.args.body.now 0)) c.loop-cycle.cycle in omega arith

pub loop-cycle-preserved : goal.loop-cycle-preserved
unfolding rows_text
loop-cycle-preserved c =
    let trace = settle miss (trace_with c.args.body.now 0) in
    let n = c.loop-cycle.cycle in
    let row = adds_as (ap (row_text n) (state_ran trace n c.run_settled-ran.ensures)) c.put_row.ensures in
    adds_as (ap (rows_text trace) (sym (add-one n))) (adds_then c.loop-cycle.invariant row)

pub returns-2 : goal.returns-2
unfolding rows_text
returns-2 c =
    let trace = settle miss (trace_with c.args.body.now 0) in
    let n = c.loop-cycle.cycle in
    let row = adds_as (ap (row_text n) (state_ran trace n c.run_settled-ran.ensures)) c.put_row.ensures in
    let end : n ≡ c.args.last = omega arith in
    adds_as (ap (λ (k : ℕ). rows_text trace (suc k)) end) (adds_then c.loop-cycle.invariant row)
