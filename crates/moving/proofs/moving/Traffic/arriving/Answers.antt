-- `arriving` meets its contract: stage by stage, from what leaves the stage before.
use Rattle.std.proofs.Common.{refl, sym}
use Rattle.machine.proofs.Connectives.{and_failed_l}
use Rattle.machine.proofs.BySlots.{stage_before, arrives_in}
use Rattle.moving.specs.Inner.{bit_of, kind_in}
use Rattle.moving.proofs.Seven.{bits_are}
use Rattle.moving.proofs.moving.Traffic.arriving.Goals as goal

pub returns : goal.returns
unfolding stage_before
returns c =
    let a = c.args in
    bits_are (arrives_in (bit_of a.moving) (kind_in a.self.now.kinds))
    (sym (and_failed_l _ _ refl))
    c.arrives.ensures
    c.arrives-2.ensures
    c.arrives-3.ensures
    c.arrives-4.ensures
    c.arrives-5.ensures
    c.arrives-6.ensures
