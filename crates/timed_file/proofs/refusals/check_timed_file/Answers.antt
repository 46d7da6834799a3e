-- `check_timed_file` meets its contract: what declines the file, then 17.
use Rattle.std.proofs.Common.{sym}
use Rattle.record.proofs.Refusals.{stopped, passed}
use Rattle.timed_file.specs.Refusal.{timed_file_refusal}
use Rattle.timed_file.proofs.refusals.check_timed_file.Goals as goal

pub check_file_hits-requires : goal.check_file_hits-requires
check_file_hits-requires c = sym c.in_ok-check_file.ensures

pub returns-in_err-check_file : goal.returns-in_err-check_file
unfolding timed_file_refusal
returns-in_err-check_file c = stopped _ _ _ c.from_residual.ensures.1 c.in_err-check_file.ensures

pub returns : goal.returns
unfolding timed_file_refusal
returns c = passed c.in_ok-check_file.ensures c.check_file_hits.ensures
