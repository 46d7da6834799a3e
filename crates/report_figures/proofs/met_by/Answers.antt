-- by the order of worst time and deadline
use Rattle.std.proofs.Common.{◌≡◌, ◌≤◌, nat_le, refl, arith}
use mir.Val.{bool_byte}
use Rattle.machine.proofs.Connectives.{Value, passed, failed, value}
use Rattle.report_figures.specs.declared.Line.{Line}
use Rattle.report_figures.specs.Figures.{met}
use Rattle.report_figures.proofs.met_by.Goals as goal

met_or_not : (l : Line) → Value (nat_le l.worst l.deadline) → (bool_byte (nat_le l.worst l.deadline) ≡ met l) × (bool_byte (nat_le l.worst l.deadline) ≤ 1)
unfolding met
met_or_not l (passed e) = rw e (refl, omega arith)
met_or_not l (failed e) = rw e (refl, omega arith)

pub returns : goal.returns
returns c = rw c.from.ensures (met_or_not c.args.line (value _))
