-- at the loop's head the flags of the first k instructions are counted
use Rattle.std.proofs.Common.{◌≡◌, ◌*◌, ◌≤◌}
use Rattle.schedule.proofs.Accepted.{read_first}
use Rattle.report_figures.specs.Figures.{unknown_flags}
use Rattle.report_figures.proofs.unknown_flags.Given as goal

abbrev pub invariant-loop-k : goal.invariant-loop-k
invariant-loop-k l = (l.unknown ≡ unknown_flags (read_first l.body l.k)) × (l.unknown ≤ 2 * l.k)
