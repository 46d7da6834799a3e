-- `locate` meets its contract: a file that is refused, a trace number that is too large, or a body that is there.
use Rattle.std.proofs.Common.{sym, arith}
use Rattle.record.proofs.Refusals.{handed, some_number}
use Rattle.job.specs.Open.{located}
use Rattle.job.proofs.Accepted.{locate_refused, locate_found, open_out, open_declined}
use Rattle.job.proofs.table.locate.Goals as goal

pub returns-in_err-check_file : goal.returns-in_err-check_file
returns-in_err-check_file c =
    handed _ _ located c.from_residual.ensures.1
    (sym (locate_refused _ _ _ (open_declined _ _ _ c.in_err-check_file.ensures (some_number _)) (some_number _)))

pub returns-then-trace-half : goal.returns-then-trace-half
returns-then-trace-half c =
    let accepted = sym c.in_ok-check_file.ensures in
    let out = open_out c.args.file.now c.args.trace _ accepted c.half.ensures.0 c.if-trace-half.true in
    sym (locate_refused _ _ 9 (sym out) (λ z. omega arith))

pub returns : goal.returns
returns c =
    let accepted = sym c.in_ok-check_file.ensures in
    let below = rw c.half.ensures.0 at c.if-trace-half.false in
    sym (locate_found _ _ c.bounds_of.result accepted below c.bounds_of.ensures)
