-- `all_left_by` meets its contract: its call is the definition.
use Rattle.machine.proofs.Window.{all_left_by}
use Rattle.schedule.proofs.sliding.all_left_by.Goals as goal

pub returns : goal.returns
unfolding all_left_by
returns c = c.max.ensures
