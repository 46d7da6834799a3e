-- `enter_last` meets its contract: its calls together are the definition.
use Rattle.entering.proofs.Steps.{last_step}
use Rattle.entering.proofs.stages.enter_last.Goals as goal

pub returns : goal.returns
returns c = last_step _ _ _ _ c.count_in_mem.ensures c.is_store.ensures c.choose-store.ensures c.max.ensures
