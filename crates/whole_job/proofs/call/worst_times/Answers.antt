-- `worst_times` meets its contract: a refusal leaves the list as it is, any other call fills it.
use Rattle.std.proofs.Common.{◌≡◌, length, sym, arith}
use Rattle.record.proofs.Refusals.{handed, some_number}
use Rattle.whole_job.specs.Answers.{traces_filled, job_refusal}
use Rattle.whole_job.proofs.Given.{refused, accepted, room, given}
use Rattle.whole_job.proofs.call.worst_times.Goals as goal

pub returns-in_err-traces-clause-answer : goal.returns-in_err-traces-clause-answer
returns-in_err-traces-clause-answer c =
    handed _ _ traces_filled c.from_residual.ensures.1
    (refused c.args.file.now c.args.times.now c.args.hit_cycles c.in_err-traces.ensures.refusal (some_number _)).0

pub returns-in_err-traces-clause-list : goal.returns-in_err-traces-clause-list
returns-in_err-traces-clause-list c =
    (refused c.args.file.now c.args.times.now c.args.hit_cycles c.in_err-traces.ensures.refusal (some_number _)).1

pub put_times-requires : goal.put_times-requires
put_times-requires c =
    let none : job_refusal c.args.file.now (length c.args.times.now) c.args.hit_cycles ≡ 0 = sym c.in_ok-traces.ensures.refusal in
    let enough = room c.args.file.now c.args.times.now c.args.hit_cycles none in
    (accepted c.args.file.now c.args.times.now c.args.hit_cycles none, c.in_ok-traces.ensures.traces, omega arith)

pub returns-clause-answer : goal.returns-clause-answer
returns-clause-answer c =
    (given c.args.file.now c.args.times.now c.args.hit_cycles (sym c.in_ok-traces.ensures.refusal) c.in_ok-traces.ensures.traces c.put_times.ensures).0

pub returns-clause-list : goal.returns-clause-list
returns-clause-list c =
    (given c.args.file.now c.args.times.now c.args.hit_cycles (sym c.in_ok-traces.ensures.refusal) c.in_ok-traces.ensures.traces c.put_times.ensures).1
