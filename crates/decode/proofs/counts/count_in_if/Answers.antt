-- `count_in_if` meets its contract: the fetch latency on a miss.
use Rattle.decode.proofs.Entries.{IF_count}
use Rattle.decode.proofs.counts.count_in_if.Goals as goal

pub returns : goal.returns
returns c = IF_count _ c.fetch_misses.ensures c.choose.ensures
