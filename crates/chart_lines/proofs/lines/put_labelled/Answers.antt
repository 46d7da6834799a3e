-- the label, then the number
use Rattle.std.proofs.Common.{arith}
use Rattle.text.proofs.Pieces.{decimal_short}
use Rattle.text.proofs.Pens.{adds_then}
use Rattle.chart_lines.proofs.lines.put_labelled.Goals as goal

pub decimal-requires : goal.decimal-requires
decimal-requires c = let short = decimal_short c.args.number in omega arith

pub returns : goal.returns
returns c = adds_then c.text.ensures c.decimal.ensures
