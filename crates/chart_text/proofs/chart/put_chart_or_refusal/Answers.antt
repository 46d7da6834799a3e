-- the first body that Open hands back is accepted, so that its chart can be drawn
use Rattle.std.proofs.Common.{ℕ, List, sym, ap, ◌∙◌}
use Rattle.record.specs.Body.{trace_with, body_refusal}
use Rattle.record.proofs.Refusals.{some_number}
use Rattle.job.proofs.Part.{opened_accepted}
use Rattle.opener.specs.Opened.{opened}
use Rattle.chart_lines.specs.Lines.{refusal_text}
use Rattle.chart_text.specs.Chart.{chart_of}
use Rattle.text.proofs.Pens.{adds_as}
use Rattle.chart_text.proofs.Drawn.{chart_refused, chart_given}
use Rattle.chart_text.proofs.chart.put_chart_or_refusal.Goals as goal

pub put_chart-requires : goal.put_chart-requires
unfolding opened
put_chart-requires c =
    let accepted = c.in-Ok.ensures.refusal in
    (ap body_refusal c.in-Ok.ensures.bytes ∙ opened_accepted c.args.file.now 0 (sym accepted), c.requires)

pub returns-in-Ok : goal.returns-in-Ok
unfolding opened
returns-in-Ok c =
    let accepted = sym c.in-Ok.ensures.refusal in
    let body = ap (λ (body : List ℕ). chart_of (trace_with body 0)) c.in-Ok.ensures.bytes in
    adds_as (body ∙ sym (chart_given _ accepted)) c.put_chart.ensures

pub returns-in-Err : goal.returns-in-Err
returns-in-Err c =
    let refused = c.in-Err.ensures.refusal in
    adds_as (ap refusal_text (c.number.ensures ∙ refused) ∙ sym (chart_refused _ (λ z. some_number _ (refused ∙ z)))) c.put_refusal.ensures
