-- One deadline serves all traces, or one each.
use Rattle.std.proofs.Common.{rules}
use Rattle.machine.specs.Test.{◌or◌}
use Rattle.report_text.specs.Report.{serves}
use Rattle.report_text.proofs.whole.serve.Goals as goal

pub returns : goal.returns
unfolding serves ◌or◌
returns c = search rules
