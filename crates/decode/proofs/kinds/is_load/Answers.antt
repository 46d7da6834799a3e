-- `is_load` meets its contract: a kind is recognised by its number.
use Rattle.record.specs.Rules.{instruction_of}
use Rattle.decode.proofs.Numbers.{load_number}
use Rattle.decode.proofs.kinds.is_load.Goals as goal

pub returns : goal.returns
unfolding instruction_of
returns c = rw c.kind_number.ensures.0 (load_number _)
