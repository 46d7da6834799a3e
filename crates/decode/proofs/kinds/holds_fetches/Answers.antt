-- `holds_fetches` meets its contract: the two kinds are recognised by their numbers.
use Rattle.record.specs.Rules.{instruction_of}
use Rattle.decode.proofs.Numbers.{holding_numbers}
use Rattle.decode.proofs.kinds.holds_fetches.Goals as goal

pub returns : goal.returns
unfolding instruction_of
returns c = rw (c.kind_number.ensures.0, c.kind_number-2.ensures.0) (holding_numbers _)
