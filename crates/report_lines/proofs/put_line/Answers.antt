-- the columns and the line's end are one text, of a line's width
use Rattle.std.proofs.Common.{arith}
use Rattle.text.proofs.Pieces.{decimal_short}
use Rattle.text.proofs.Pens.{adds_then}
use Rattle.report_lines.specs.Lines.{line_text, line_bytes}
use Rattle.report_lines.proofs.Columns.{ends, line_width, five_digits, seven_digits}
use Rattle.report_lines.proofs.put_line.Goals as goal

pub put_column-requires : goal.put_column-requires
put_column-requires c = (five_digits _ c.requires.0, omega arith)

pub put_column-requires-2 : goal.put_column-requires-2
put_column-requires-2 c = let short = decimal_short c.args.line.instructions in (omega arith, omega arith)

pub put_column-requires-3 : goal.put_column-requires-3
put_column-requires-3 c = (seven_digits _ c.requires.1, omega arith)

pub put_column-requires-4 : goal.put_column-requires-4
put_column-requires-4 c = (decimal_short _, omega arith)

pub put_column-requires-5 : goal.put_column-requires-5
put_column-requires-5 c = (decimal_short _, omega arith)

pub put_column-requires-6 : goal.put_column-requires-6
put_column-requires-6 c = (decimal_short _, omega arith)

pub returns : goal.returns
unfolding line_text
returns c =
    ends line_bytes (line_width c.args.line c.requires.0 c.requires.1)
    (adds_then (adds_then (adds_then (adds_then (adds_then (adds_then (adds_then c.put_margin.ensures.1 c.put_column.ensures.1)
    c.put_column-2.ensures.1) c.put_column-3.ensures.1) c.put_column-4.ensures.1) c.put_column-5.ensures.1) c.put_column-6.ensures.1)
    c.byte.ensures)
