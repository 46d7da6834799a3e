-- `not_above_from` meets its contract: it is the definition over the fields that are read.
use Rattle.record.specs.Rules.{not_above}
use Rattle.record_rules.proofs.not_above_from.Goals as goal

pub returns : goal.returns
unfolding not_above
returns c = rw c.fields_of-f.ensures
