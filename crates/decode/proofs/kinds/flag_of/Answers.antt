-- `flag_of` meets its contract: a hit and a miss are recognised by their numbers, and any other number reads as unknown.
use borrow.Author.Tests.{ne_eqb}
use Rattle.std.proofs.Common.{arith}
use Rattle.record.specs.Rules.{flag_of}
use Rattle.decode.proofs.kinds.flag_of.Goals as goal

pub returns-in-0 : goal.returns-in-0
unfolding flag_of
returns-in-0 c = rw c.in-0.is

pub returns-in-1 : goal.returns-in-1
unfolding flag_of
returns-in-1 c = rw c.in-1.is

pub returns-in_default : goal.returns-in_default
unfolding flag_of
returns-in_default c =
    let n = c.args.number in
    rw (ne_eqb n 0 (omega arith), ne_eqb n 1 (omega arith))
