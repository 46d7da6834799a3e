-- a refusal leaves the output as it is
use Rattle.record.proofs.Refusals.{handed, some_number}
use Rattle.report_text.specs.Report.{reported}
use Rattle.report_text.proofs.Given.{refused}
use Rattle.report_text.proofs.whole.try_report.Goals as goal

pub returns-in_err-check_timed_file-clause-answer : goal.returns-in_err-check_timed_file-clause-answer
returns-in_err-check_timed_file-clause-answer c =
    let a = c.args in
    let given = refused a.file.now a.deadlines.now a.out.now a.hit_cycles c.in_err-check_timed_file.ensures (some_number _) in
    (handed _ _ reported c.from_residual.ensures.1 given.0, given.1)
