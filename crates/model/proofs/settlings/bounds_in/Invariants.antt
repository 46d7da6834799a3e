use Rattle.std.proofs.Common.{◌≤◌}
use Rattle.model.proofs.settlings.bounds_in.Given as goal

abbrev pub invariant-loop-choice : goal.invariant-loop-choice
invariant-loop-choice g l = l.times.best ≤ l.times.worst
