-- two numbers, each with the text after it
use Rattle.std.proofs.Common.{arith}
use Rattle.text.proofs.Pieces.{decimal_short}
use Rattle.text.proofs.Pens.{adds_then}
use Rattle.report_lines.specs.Lines.{last_text}
use Rattle.report_lines.proofs.put_last.Goals as goal

pub decimal-requires : goal.decimal-requires
decimal-requires c = let short = decimal_short c.args.met in omega arith

pub text-requires : goal.text-requires
text-requires c = let short = decimal_short c.args.met in omega arith

pub decimal-requires-2 : goal.decimal-requires-2
decimal-requires-2 c =
    let short = decimal_short c.args.met in let more = decimal_short c.args.all in omega arith

pub text-requires-2 : goal.text-requires-2
text-requires-2 c =
    let short = decimal_short c.args.met in let more = decimal_short c.args.all in omega arith

pub returns : goal.returns
unfolding last_text
returns c =
    adds_then (adds_then (adds_then c.decimal.ensures c.text.ensures) c.decimal-2.ensures) c.text-2.ensures
