-- `reads_in_id` meets its contract: what its callees promise, joined.
use mathlib.Core.Bool.{not}
use mathlib.Core.Path.{ap}
use Rattle.machine.specs.Rules.{reads_in_ID}
use Rattle.record.specs.Rules.{instruction_of}
use Rattle.decode.proofs.Joined.{both_of, either_of}
use Rattle.decode.proofs.kinds.reads_in_id.Goals as goal

pub returns : goal.returns
unfolding reads_in_ID instruction_of
returns c = either_of c.carries.ensures (both_of (ap not c.is_store.ensures) c.carries-2.ensures)
