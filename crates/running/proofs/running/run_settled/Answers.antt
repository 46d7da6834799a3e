-- `run_settled` meets its contract: what the pass has seated is the state, whether or not all are fetched by the limit.
use mathlib.Core.Path.{refl}
use Rattle.running.proofs.RunAnswer.{ran}
use Rattle.running.proofs.running.run_settled.Goals as goal

pub returns : goal.returns
returns c = ran _ _ c.pass-fetched.ensures refl c.min.ensures
