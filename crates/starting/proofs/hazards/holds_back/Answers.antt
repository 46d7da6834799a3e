-- `holds_back` meets its contract: the three tests joined.
use Rattle.std.proofs.Common.{refl}
use Rattle.decode.proofs.Joined.{both_of}
use Rattle.starting.proofs.hazards.holds_back.Goals as goal

pub returns : goal.returns
returns c = both_of (both_of refl refl) c.waits_for.ensures
