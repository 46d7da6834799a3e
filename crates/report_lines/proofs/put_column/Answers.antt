-- two spaces, then the number right-aligned
use Rattle.std.proofs.Common.{◌+◌, sym, ◌∙◌, arith}
use native.Mathlib.Nat.{add_assoc}
use Rattle.text.specs.Text.{decimal}
use Rattle.text.proofs.Pens.{adds_then}
use Rattle.text.proofs.Right.{length_spaces}
use Rattle.report_lines.specs.Lines.{column}
use Rattle.report_lines.proofs.Columns.{ends, column_width}
use Rattle.report_lines.proofs.put_column.Goals as goal

pub right-requires : goal.right-requires
right-requires c = let gap = length_spaces 2 in (c.requires.0, omega arith)

pub returns : goal.returns
unfolding column
returns c =
    let width = c.args.width in
    let both = ends (2 + width) (column_width width (decimal c.args.n) c.requires.0) (adds_then c.spaces.ensures c.right.ensures) in
    (both.0 ∙ sym (add_assoc c.args.pen.now.at 2 width), both.1)
