-- `run` meets its contract: a refusal, or the run of an accepted body.
use Rattle.std.proofs.Common.{refl, sym}
use Rattle.record.proofs.Accepted.{settled_timed}
use Rattle.record.proofs.Refusals.{handed, some_number}
use Rattle.running.specs.Run.{ran}
use Rattle.running.proofs.RunAnswer.{run_refused, run_accepted}
use Rattle.running.proofs.running.run.Goals as goal

pub returns-in_err-check_settled : goal.returns-in_err-check_settled
returns-in_err-check_settled c =
    handed _ _ ran c.from_residual.ensures.1 (run_refused _ _ _ c.in_err-check_settled.ensures (some_number _) refl)

pub run_settled-requires : goal.run_settled-requires
run_settled-requires c = settled_timed _ _ (sym c.in_ok-check_settled.ensures)

pub returns : goal.returns
returns c = run_accepted _ _ _ c.in_ok-check_settled.ensures _ (λ n. (c.type_inv.body n).fits) refl c.run_settled.ensures
