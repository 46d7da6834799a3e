-- `leaving` meets its contract: a call of `moves` for each stage.
use Rattle.machine.proofs.BySlots.{moves_at}
use Rattle.moving.specs.Inner.{bit_of, kind_in}
use Rattle.moving.proofs.Seven.{bits_are}
use Rattle.moving.proofs.moving.Traffic.leaving.Goals as goal

pub returns : goal.returns
returns c =
    let t = c.args.self.now in
    bits_are (moves_at (bit_of t.going) (bit_of t.full) (kind_in t.kinds))
    c.moves.ensures
    c.moves-2.ensures
    c.moves-3.ensures
    c.moves-4.ensures
    c.moves-5.ensures
    c.moves-6.ensures
    c.moves-7.ensures
