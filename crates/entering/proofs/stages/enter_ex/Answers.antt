-- `enter_ex` meets its contract: its calls together are the definition.
use Rattle.entering.proofs.Steps.{EX_step}
use Rattle.entering.proofs.stages.enter_ex.Goals as goal

pub returns : goal.returns
returns c = EX_step _ _ _ c.reads_in_id.ensures c.choose-free.ensures c.max.ensures
