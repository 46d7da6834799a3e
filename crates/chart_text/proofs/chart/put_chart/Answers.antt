-- the header, the rows and the times of an accepted body are its chart
use Rattle.std.proofs.Common.{ℕ, suc, min, ap, ap₂, ◌∙◌, arith}
use Rattle.machine.specs.Instruction.{miss}
use Rattle.machine.specs.Time.{settle, best, worst}
use Rattle.record.specs.Body.{trace_with}
use Rattle.record.proofs.Accepted.{zero_timed}
use Rattle.text.proofs.Pens.{adds_then, adds_as}
use Rattle.chart_lines.specs.Lines.{times_text}
use Rattle.chart_rows.specs.Rows.{last_row, rows_text}
use Rattle.chart_rows.proofs.Length.{rows_short}
use Rattle.chart_text.specs.Chart.{chart_of}
use Rattle.chart_text.proofs.chart.put_chart.Goals as goal

pub finish_settled-worst-requires : goal.finish_settled-worst-requires
finish_settled-worst-requires c = zero_timed _ c.requires.0 (λ n. (c.type_inv.body n).fits)

pub finish_settled-best-requires : goal.finish_settled-best-requires
finish_settled-best-requires c = zero_timed _ c.requires.0 (λ n. (c.type_inv.body n).fits)

pub put_times-requires : goal.put_times-requires
put_times-requires c =
    let short = rows_short (settle miss (trace_with c.args.body.now 0)) (suc c.min.result) in omega arith

pub returns : goal.returns
unfolding chart_of best worst
returns c =
    let trace = trace_with c.args.body.now 0 in
    let latest = c.finish_settled-worst.ensures in
    let earliest = c.finish_settled-best.ensures in
    let last = c.min.ensures ∙ ap (λ (t : ℕ). min t last_row) latest in
    adds_then
    (adds_then
    c.put_header.ensures
    (adds_as (ap (λ (n : ℕ). rows_text (settle miss trace) (suc n)) last) c.put_rows.ensures))
    (adds_as (ap₂ times_text latest earliest) c.put_times.ensures)
