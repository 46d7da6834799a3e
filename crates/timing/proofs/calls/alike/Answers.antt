-- `alike` meets its contract: the refusals in their order, then the two finishing times.
use Rattle.std.proofs.Common.{sym}
use Rattle.record.proofs.Accepted.{settled_timed}
use Rattle.record.proofs.Refusals.{handed, stop, passed, some_number}
use Rattle.timing.specs.Answers.{likeness}
use Rattle.timing.proofs.Answered.{finish_time, alike_refused, alike_given}
use Rattle.timing.proofs.calls.alike.Goals as goal

pub returns-in_err-check_settled : goal.returns-in_err-check_settled
returns-in_err-check_settled c =
    handed _ _ likeness c.from_residual.ensures.1
    (alike_refused _ _ _ (stop _ c.in_err-check_settled.ensures (some_number _)) (some_number _))

pub returns-in_err-check_settled-2 : goal.returns-in_err-check_settled-2
returns-in_err-check_settled-2 c =
    handed _ _ likeness c.from_residual-in_err-check_settled-2.ensures.1
    (alike_refused _ _ _ (passed c.in_ok-check_settled.ensures c.in_err-check_settled-2.ensures) (some_number _))

pub finish_settled-time1-requires : goal.finish_settled-time1-requires
finish_settled-time1-requires c = settled_timed _ _ (sym c.in_ok-check_settled.ensures)

pub finish_settled-time2-requires : goal.finish_settled-time2-requires
finish_settled-time2-requires c = settled_timed _ _ (sym c.in_ok-check_settled-2.ensures)

pub returns : goal.returns
returns c =
    let one = sym c.in_ok-check_settled.ensures in
    let two = sym c.in_ok-check_settled-2.ensures in
    alike_given _ _ _ one two
    (finish_time _ _ (λ n. (c.type_inv.first n).fits) one c.finish_settled-time1.ensures)
    (finish_time _ _ (λ n. (c.type_inv.second n).fits) two c.finish_settled-time2.ensures)
