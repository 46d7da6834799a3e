-- No count so far is above 4,096.
use Rattle.std.proofs.Common.{◌≡◌, true, ltb}
use Rattle.machine.specs.Test.{none}
use Rattle.job.specs.Layout.{max_count}
use Rattle.writer.specs.Write.{count}
use Rattle.writer.proofs.writing.check_counts.Given as goal

abbrev pub invariant-loop-n : goal.invariant-loop-n
invariant-loop-n l = none (λ k. ltb max_count (count l.counts k)) l.n-index ≡ true
