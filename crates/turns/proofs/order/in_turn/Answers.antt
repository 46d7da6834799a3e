-- `in_turn` meets its contract: the code's disjunction is the definition's.
use Rattle.std.proofs.Common.{refl}
use Rattle.decode.proofs.Joined.{either_of}
use Rattle.turns.proofs.order.in_turn.Goals as goal

pub returns : goal.returns
returns c = either_of refl refl
