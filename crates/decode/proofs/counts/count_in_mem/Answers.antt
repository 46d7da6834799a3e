-- `count_in_mem` meets its contract: of a load, the data latency on a miss and the hit's cycles else.
use Rattle.decode.proofs.Entries.{MEM_count}
use Rattle.decode.proofs.counts.count_in_mem.Goals as goal

pub returns : goal.returns
returns c =
    MEM_count _ _ c.is_load.ensures c.access_misses.ensures c.choose.ensures c.choose-2.ensures
