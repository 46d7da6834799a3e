-- `enter_post` meets its contract: it is the definition's sum.
use Rattle.machine.proofs.Window.{enter_post}
use Rattle.entering.proofs.Steps.{sum_joins}
use Rattle.entering.proofs.stages.enter_post.Goals as goal

pub cycles_in_last-requires : goal.cycles_in_last-requires
cycles_in_last-requires c = (c.requires.1, c.requires.2)

pub returns : goal.returns
unfolding enter_post
returns c = rw (c.cycles_in_last.ensures, sum_joins _ _ 1)
