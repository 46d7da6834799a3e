-- past the list's end there is 0
use Rattle.std.proofs.Common.{ℕ}
use borrow.Author.Tests.{ne_eqb}
use lib.ListN.{get_or-eq_default}
use Rattle.report_text.specs.Report.{deadline_at}
use Rattle.report_text.proofs.figures.deadline_at.Goals as goal

pub returns-then-deadlines-eq1 : goal.returns-then-deadlines-eq1
unfolding deadline_at
returns-then-deadlines-eq1 c = rw c.if-deadlines-eq1.true

pub returns-then-i-deadlines : goal.returns-then-i-deadlines
unfolding deadline_at
returns-then-i-deadlines c = rw (ne_eqb _ _ c.if-deadlines-eq1.false)

pub returns : goal.returns
unfolding deadline_at
returns c = rw (ne_eqb _ _ c.if-deadlines-eq1.false, get_or-eq_default {A = ℕ} _ 0 c.if-i-deadlines.false)
