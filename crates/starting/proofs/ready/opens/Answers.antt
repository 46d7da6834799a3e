-- `opens` meets its contract.
use Rattle.decode.proofs.Joined.{either}
use Rattle.starting.proofs.ready.opens.Goals as goal

pub returns : goal.returns
returns c = either _ _
