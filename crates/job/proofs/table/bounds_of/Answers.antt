-- `bounds_of` meets its contract: an accepted file has the body where its entry says.
use Rattle.std.proofs.Common.{arith}
use Rattle.job.proofs.Accepted.{file_fine, body_fits, bounds_read}
use Rattle.job.proofs.table.bounds_of.Goals as goal

pub returns : goal.returns
returns c = bounds_read _ c.requires.0 _ c.requires.1 c.word-start.ensures.0 c.half.ensures.0

pub overflow_add-end : goal.overflow_add-end
overflow_add-end c =
    let h = body_fits _ (file_fine _ c.requires.0) _ c.requires.1 in
    omega (arith, h, c.word-start.ensures.0, c.half.ensures.0)
