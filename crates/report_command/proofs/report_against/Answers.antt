-- the report fits the room that is lent
use mathlib.Core.Path.{ap}
use Rattle.report_text.specs.Report.{length_of}
use Rattle.report_text.proofs.Given.{report_inside}
use Rattle.report_command.proofs.report_against.Goals as goal

pub slice_bounds-result-end : goal.slice_bounds-result-end
slice_bounds-result-end g c =
    let length_is = ap length_of c.in-Some.is in
    rw (← length_is) ((report_inside _ _ _ _ c.in_ok-outcome.ensures.answer).1)
