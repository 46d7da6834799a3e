-- `in_flight` meets its contract: the four slots' bits are added.
use Rattle.std.proofs.Common.{arith}
use Rattle.machine.specs.State.{younger}
use Rattle.turns.proofs.Bits.{from_bit, small}
use Rattle.turns.proofs.order.in_flight.Goals as goal

pub returns : goal.returns
unfolding younger
returns c =
    let s = c.args.s in
    let IF = from_bit s.IF.filled c.from.ensures in
    let ID = from_bit s.ID.filled c.from-2.ensures in
    let EX = from_bit s.EX.filled c.from-3.ensures in
    let MEM = from_bit s.MEM.filled c.from-4.ensures in
    omega (arith, IF, ID, EX, MEM, small s.IF.filled, small s.ID.filled, small s.EX.filled, small s.MEM.filled)
