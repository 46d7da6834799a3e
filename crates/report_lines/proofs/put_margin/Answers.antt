-- by the order of deadline and worst time
use Rattle.std.proofs.Common.{Less, Equal, Greater, ap, arith}
use Rattle.std.specs.Cmp.{ranked}
use Rattle.text.specs.Text.{right}
use Rattle.text.proofs.Pieces.{decimal_short}
use Rattle.text.proofs.Pens.{adds_as}
use Rattle.report_lines.proofs.Columns.{ends, margin_none, margin_over, margin_under, margin_width}
use Rattle.report_lines.proofs.put_margin.Goals as goal

pub right-requires : goal.right-requires
right-requires c = let digits = decimal_short 0 in (omega arith, c.requires)

pub returns-in-Equal : goal.returns-in-Equal
returns-in-Equal c =
    let a = c.args in
    ends 11 (margin_width a.deadline a.worst)
    (adds_as (ap (right 11) (margin_none a.deadline a.worst (ranked _ _ Equal c.in-Equal.ensures))) c.right.ensures)

pub returns-in-Greater : goal.returns-in-Greater
returns-in-Greater c =
    let a = c.args in
    ends 11 (margin_width a.deadline a.worst)
    (adds_as (ap (right 11) (margin_over a.deadline a.worst (ranked _ _ Greater c.in-Greater.ensures))) c.put_signed.ensures)

pub returns-in-Less : goal.returns-in-Less
returns-in-Less c =
    let a = c.args in
    ends 11 (margin_width a.deadline a.worst)
    (adds_as (ap (right 11) (margin_under a.deadline a.worst (ranked _ _ Less c.in-Less.ensures))) c.put_signed-in-Less.ensures)
