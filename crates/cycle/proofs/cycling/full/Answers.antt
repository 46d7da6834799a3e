-- `full` meets its contract: bit by bit.
use Rattle.std.proofs.Common.{refl, sym, ap}
use lib.Dec.{ltb}
use Rattle.machine.proofs.BySlots.{standing, occupied}
use Rattle.moving.proofs.Seven.{bits_are}
use Rattle.cycle.proofs.cycling.full.Goals as goal

pub returns : goal.returns
unfolding standing occupied
returns c =
    λ trace e. let s = c.args.s in bits_are (occupied trace s) (ap (ltb s.fetched) (sym e)) refl refl refl refl refl refl
