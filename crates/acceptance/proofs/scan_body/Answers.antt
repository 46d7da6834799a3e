-- `scan_body` meets its contract: 10, then 8, in their order.
use Rattle.record.proofs.Refusals.{stopped, passed}
use Rattle.record.specs.Body.{body_refusal}
use Rattle.acceptance.proofs.scan_body.Goals as goal

pub returns-in_err-check_length-clause-broken : goal.returns-in_err-check_length-clause-broken
unfolding body_refusal
returns-in_err-check_length-clause-broken c = stopped _ _ _ c.from_residual.ensures.1 c.in_err-check_length.ensures

pub returns-clause-broken : goal.returns-clause-broken
unfolding body_refusal
returns-clause-broken c = passed c.in_ok-check_length.ensures c.scan_records.ensures.broken
