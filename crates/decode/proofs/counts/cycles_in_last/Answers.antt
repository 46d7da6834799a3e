-- `cycles_in_last` meets its contract: a store's latency is at least 1.
use Rattle.decode.proofs.Entries.{last_cycles}
use Rattle.decode.proofs.counts.cycles_in_last.Goals as goal

pub returns : goal.returns
returns c =
    last_cycles _ _ c.requires.0 c.is_store.ensures c.access_misses.ensures c.choose.ensures c.choose-2.ensures
