-- `kinds_read` meets its contract: stage by stage.
use Rattle.std.proofs.Common.{refl}
use Rattle.machine.proofs.Stages.{eight}
use Rattle.cycle.proofs.cycling.kinds_read.Goals as goal

pub returns : goal.returns
returns c =
    eight _ c.kind.ensures c.kind-2.ensures c.kind-3.ensures c.kind-4.ensures c.kind-5.ensures c.kind-6.ensures c.kind-7.ensures refl
