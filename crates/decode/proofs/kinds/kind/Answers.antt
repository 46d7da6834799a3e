-- `kind` meets its contract: the kind of the record's number.
use Rattle.record.specs.Rules.{instruction_of}
use Rattle.decode.proofs.kinds.kind.Goals as goal

pub returns : goal.returns
unfolding instruction_of
returns c = c.kind_of.ensures
