-- `counts_fetch` meets its contract.
use mathlib.Core.Bool.{not}
use mathlib.Core.Path.{ap}
use Rattle.machine.specs.Bus.{counts_fetch}
use Rattle.bus.proofs.counting.counts_fetch.Goals as goal

pub returns : goal.returns
unfolding counts_fetch
returns c = ap not c.fetch_hits.ensures
