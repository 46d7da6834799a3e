-- `counted` meets its contract: an empty slot.
use Rattle.std.proofs.Common.{refl}
use Rattle.decode.proofs.Joined.{both_of}
use Rattle.orderly.proofs.order.counted.Goals as goal

pub returns : goal.returns
returns c = rw c.if-held.false (both_of refl refl)
