-- `counts_data` meets its contract: what its callees promise, joined.
use mathlib.Core.Bool.{not}
use mathlib.Core.Path.{ap}
use Rattle.machine.specs.Bus.{counts_data}
use Rattle.decode.proofs.Joined.{both_of, either_of}
use Rattle.bus.proofs.counting.counts_data.Goals as goal

pub returns : goal.returns
unfolding counts_data
returns c = both_of (either_of c.is_load.ensures c.is_store.ensures) (ap not c.access_hits.ensures)
