-- the number after its padding is right-aligned
use Rattle.std.proofs.Common.{◌-◌, arith}
use Rattle.text.proofs.Right.{length_spaces}
use Rattle.text.proofs.Pens.{adds_right}
use Rattle.text.proofs.pen.Pen.right.Goals as goal

pub decimal-requires : goal.decimal-requires
decimal-requires c = let l = length_spaces (c.args.width - c.digits.result) in omega arith

pub returns : goal.returns
returns c = adds_right c.args.width _ _ c.digits.ensures c.spaces.ensures c.decimal.ensures
