-- `counted_down` meets its contract: the code's conjunction is the definition's.
use Rattle.std.proofs.Common.{refl}
use Rattle.decode.proofs.Joined.{both_of}
use Rattle.starting.proofs.ready.counted_down.Goals as goal

pub returns : goal.returns
returns c = both_of refl refl
