-- `check_job` meets its contract: what declines the file, then a list that is too short.
use Rattle.std.proofs.Common.{arith}
use borrow.Author.Tests.{le-leb, lt-leb}
use Rattle.record.proofs.Refusals.{stopped, passed, last_fails, last_passes}
use Rattle.job.specs.Layout.{traces}
use Rattle.whole_job.specs.Answers.{short_list, job_refusal}
use Rattle.whole_job.proofs.call.check_job.Goals as goal

pub returns-in_err-check_timed_file-clause-refusal : goal.returns-in_err-check_timed_file-clause-refusal
unfolding job_refusal
returns-in_err-check_timed_file-clause-refusal c = stopped _ _ _ c.from_residual.ensures.1 c.in_err-check_timed_file.ensures

pub returns-then-places-all-clause-refusal : goal.returns-then-places-all-clause-refusal
unfolding job_refusal
returns-then-places-all-clause-refusal c =
    passed c.in_ok-check_timed_file.ensures (last_fails short_list (lt-leb (traces c.args.file.now) c.args.places (omega arith)))

pub returns-clause-refusal : goal.returns-clause-refusal
unfolding job_refusal
returns-clause-refusal c =
    passed c.in_ok-check_timed_file.ensures (last_passes short_list (le-leb (traces c.args.file.now) c.args.places (omega arith)))
