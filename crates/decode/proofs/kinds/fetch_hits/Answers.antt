-- `fetch_hits` meets its contract: a fetch hits where its number is 0.
use Rattle.record.specs.Rules.{instruction_of}
use Rattle.decode.proofs.Numbers.{hit_number}
use Rattle.decode.proofs.kinds.fetch_hits.Goals as goal

pub returns : goal.returns
unfolding instruction_of
returns c = rw c.flag_number.ensures.0 (hit_number _)
