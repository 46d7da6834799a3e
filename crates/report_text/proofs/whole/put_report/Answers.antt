-- the header, the lines, the cycles of a data hit and the last line are the report
use Rattle.std.proofs.Common.{ap, ap₂, ◌∙◌, arith}
use Rattle.text.specs.Text.{spaces, right}
use Rattle.text.proofs.Pens.{adds_then, adds_as}
use Rattle.report_lines.specs.Lines.{header_text, column, last_text}
use Rattle.report_text.specs.Report.{lines_text, met_below, report_text}
use Rattle.report_text.proofs.Fits.{hit_short}
use Rattle.report_text.proofs.whole.put_report.Goals as goal

pub put_last-requires : goal.put_last-requires
put_last-requires c = let hit = hit_short c.args.hit_cycles in omega arith

pub returns : goal.returns
unfolding report_text header_text column right spaces
returns c =
    let a = c.args in
    let file = a.file.now in
    let deadlines = a.deadlines.now in
    let h = a.hit_cycles in
    let count = c.requires.1 in
    adds_then
    (adds_then
    (adds_then c.text.ensures (adds_as (ap (lines_text file deadlines h) count) c.put_lines-met.ensures.2))
    c.put_hit_cycles.ensures)
    (adds_as (ap₂ last_text (c.put_lines-met.ensures.0 ∙ ap (met_below file deadlines h) count) count) c.put_last.ensures)
