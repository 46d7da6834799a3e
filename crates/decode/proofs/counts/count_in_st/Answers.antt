-- `count_in_st` meets its contract: the data latency less 1 on a miss and the hit's cycles else.
use Rattle.decode.proofs.Entries.{ST_count}
use Rattle.decode.proofs.counts.count_in_st.Goals as goal

pub returns : goal.returns
returns c =
    ST_count _ _
    c.is_load.ensures
    c.is_store.ensures
    c.choose-hit.ensures
    c.access_misses.ensures
    c.saturating_sub.ensures
    c.choose.ensures
