-- `finish` meets its contract: a trace without unknown flags is its own settling.
use Rattle.std.proofs.Common.{sym}
use Rattle.record.proofs.Accepted.{settled_timed}
use Rattle.record.proofs.Refusals.{handed, some_number}
use Rattle.timing.specs.Answers.{finished}
use Rattle.timing.proofs.Answered.{finish_time, finish_refused, finish_given}
use Rattle.timing.proofs.calls.finish.Goals as goal

pub returns-in_err-check_settled : goal.returns-in_err-check_settled
returns-in_err-check_settled c =
    handed _ _ finished c.from_residual.ensures.1 (finish_refused _ _ c.in_err-check_settled.ensures (some_number _))

pub finish_settled-requires : goal.finish_settled-requires
finish_settled-requires c = settled_timed _ _ (sym c.in_ok-check_settled.ensures)

pub returns : goal.returns
returns c =
    let settled = sym c.in_ok-check_settled.ensures in
    finish_given _ _ settled (finish_time _ _ (λ n. (c.type_inv.body n).fits) settled c.finish_settled.ensures)
