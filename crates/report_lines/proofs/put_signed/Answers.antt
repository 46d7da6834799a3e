-- the sign and the digits after their padding are right-aligned
use Rattle.std.proofs.Common.{◌≡◌, ◌∷◌, ◌+◌, ◌-◌, ap, arith}
use Rattle.text.specs.Text.{spaces}
use Rattle.text.proofs.Pieces.{decimal_short}
use Rattle.text.proofs.Pens.{adds_then, adds_as, adds_right}
use Rattle.text.proofs.Right.{length_spaces}
use Rattle.report_lines.proofs.put_signed.Goals as goal

pub overflow_sub-digits : goal.overflow_sub-digits
overflow_sub-digits c = let short = decimal_short c.args.n in omega arith

pub byte-requires : goal.byte-requires
byte-requires c =
    let padding = length_spaces (10 - c.digits.result) in let short = decimal_short c.args.n in omega arith

pub decimal-requires : goal.decimal-requires
decimal-requires c =
    let padding = length_spaces (10 - c.digits.result) in let short = decimal_short c.args.n in omega arith

pub returns : goal.returns
returns c =
    let taken : 10 - c.digits.result ≡ 11 - (1 + c.digits.result) = omega arith in
    adds_right 11 (1 + c.digits.result) (c.args.sign ∷ _) (omega arith) (adds_as (ap spaces taken) c.spaces.ensures)
    (adds_then c.byte.ensures c.decimal.ensures)
