-- `enter_if` meets its contract: its calls together are the definition.
use Rattle.entering.proofs.Steps.{IF_step}
use Rattle.entering.proofs.stages.enter_if.Goals as goal

pub returns : goal.returns
returns c = IF_step _ c.args.w c.fetch_hits.ensures c.max.ensures c.choose-data.ensures c.max-2.ensures
