-- `check_timed` meets its contract: 10 and 8, then 17 of a body that they let pass.
use Rattle.record.proofs.Refusals.{stopped, passed}
use Rattle.record.specs.Body.{timed_refusal}
use Rattle.acceptance.proofs.check_timed.Goals as goal

pub returns-in_err-check_body : goal.returns-in_err-check_body
unfolding timed_refusal
returns-in_err-check_body c = stopped _ _ _ c.from_residual.ensures.1 c.in_err-check_body.ensures

pub returns : goal.returns
unfolding timed_refusal
returns c = passed c.in_ok-check_body.ensures c.check_hits.ensures
