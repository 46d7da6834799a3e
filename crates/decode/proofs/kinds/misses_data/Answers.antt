-- `misses_data` meets its contract: what its callees promise, joined.
use Rattle.machine.specs.Rules.{misses_data}
use Rattle.decode.proofs.Joined.{both_of, either_of}
use Rattle.decode.proofs.kinds.misses_data.Goals as goal

pub returns : goal.returns
unfolding misses_data
returns c = both_of (either_of c.is_load.ensures c.is_store.ensures) c.access_misses.ensures
