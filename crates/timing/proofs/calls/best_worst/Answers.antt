-- `best_worst` meets its contract: one pass with unknown flags as hits, one with misses.
use Rattle.std.proofs.Common.{sym}
use Rattle.record.proofs.Refusals.{handed, some_number}
use Rattle.timing.specs.Answers.{extremes}
use Rattle.timing.proofs.Answered.{best_worst_refused, best_worst_given}
use Rattle.timing.proofs.calls.best_worst.Goals as goal

pub returns-in_err-check_timed : goal.returns-in_err-check_timed
returns-in_err-check_timed c =
    handed _ _ extremes c.from_residual.ensures.1 (best_worst_refused _ _ c.in_err-check_timed.ensures (some_number _))

pub returns : goal.returns
returns c = best_worst_given _ _ (sym c.in_ok-check_timed.ensures) c.finish_settled.ensures c.finish_settled-2.ensures
