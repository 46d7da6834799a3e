-- the pen leaves the whole text at the start of the output
use Rattle.std.proofs.Common.{rules, arith}
use Rattle.text.proofs.Pens.{adds_whole}
use Rattle.chart_text.proofs.Drawn.{short_output_lem, drawn}
use Rattle.chart_text.proofs.chart.draw.Goals as goal

pub returns-then-out-lt-CHART_BYTES : goal.returns-then-out-lt-CHART_BYTES
returns-then-out-lt-CHART_BYTES c = short_output_lem _ _ c.if-out-lt-CHART_BYTES.true

pub put_chart_or_refusal-requires : goal.put_chart_or_refusal-requires
put_chart_or_refusal-requires c = let start = c.new-pen.ensures.start.1 in rw start (omega arith)

pub returns : goal.returns
returns c =
    let wrote = adds_whole _ c.args.out.now c.new-pen.ensures.start c.put_chart_or_refusal.ensures in
    let h = drawn c.args.file.now _ c.if-out-lt-CHART_BYTES.false wrote in
    let same = c.put_chart_or_refusal.ensures.same_output in
    let start = c.new-pen.ensures.same_output in
    search (rules, h, same, start)
