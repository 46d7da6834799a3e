-- the greatest power of ten in a number says how many digits it has
use Rattle.std.proofs.Common.{arith}
use Rattle.text.proofs.Pieces.{digits_by_power}
use Rattle.text.proofs.pen.digits.Goals as goal

pub returns : goal.returns
returns c =
    let power = c.ilog10.ensures in
    digits_by_power c.ilog10.result c.args.n c.max.result (omega arith) (omega arith) power.power_le power.next_power_gt
