-- `enter_id` meets its contract: its calls together are the definition.
use Rattle.entering.proofs.Steps.{ID_step}
use Rattle.entering.proofs.stages.enter_id.Goals as goal

pub returns : goal.returns
returns c = ID_step _ _ _ c.count_in_if.ensures c.max.ensures
