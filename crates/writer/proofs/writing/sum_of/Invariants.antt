-- The total is the sum of the first t counts, each at most 65,535.
use Rattle.std.proofs.Common.{◌≡◌, ◌*◌, ◌≤◌}
use Rattle.job.specs.Layout.{before}
use Rattle.writer.specs.Write.{count}
use Rattle.writer.proofs.writing.sum_of.Given as goal

abbrev pub invariant-loop-n : goal.invariant-loop-n
invariant-loop-n l =
    record {
      sum : l.total ≡ before (count l.counts) l.n-index;
      bound : l.total ≤ 65535 * l.n-index;
    }
