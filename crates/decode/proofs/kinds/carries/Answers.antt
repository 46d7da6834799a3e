-- `carries` meets its contract: the code's connectives are the rules'.
use Rattle.decode.proofs.Joined.{both}
use Rattle.decode.proofs.kinds.carries.Goals as goal

pub returns : goal.returns
returns c = both _ _
