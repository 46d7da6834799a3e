-- `count_in_last` meets its contract: the last stage is ST for a store alone.
use Rattle.decode.proofs.Entries.{last_count_lem}
use Rattle.decode.proofs.counts.count_in_last.Goals as goal

pub returns : goal.returns
returns c = last_count_lem _ _ c.is_store.ensures c.count_in_st.ensures c.choose.ensures
