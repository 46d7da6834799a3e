use Rattle.std.proofs.Common.{rules}
use Rattle.std.proofs.iter.runs.Sources.{sums}
use Rattle.model.proofs.job.total.Goals as goal

-- at most 16 counts, each below 2 ^ 16
pub returns : goal.returns
returns c = search (rules, sums)
