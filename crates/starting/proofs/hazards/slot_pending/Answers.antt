-- `slot_pending` meets its contract: the slot is filled, and its instruction pending.
use Rattle.std.proofs.Common.{refl}
use Rattle.decode.proofs.Joined.{both_of}
use Rattle.starting.proofs.hazards.slot_pending.Goals as goal

pub returns : goal.returns
returns c = both_of refl c.pending.ensures
