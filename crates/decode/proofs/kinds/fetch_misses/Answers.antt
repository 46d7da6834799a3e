-- `fetch_misses` meets its contract: a fetch misses where its number is 1.
use Rattle.record.specs.Rules.{instruction_of}
use Rattle.decode.proofs.Numbers.{miss_number}
use Rattle.decode.proofs.kinds.fetch_misses.Goals as goal

pub returns : goal.returns
unfolding instruction_of
returns c = rw c.flag_number.ensures.0 (miss_number _)
