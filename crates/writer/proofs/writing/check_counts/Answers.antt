-- `check_counts` meets its contract, count by count.
use Rattle.std.proofs.Common.{arith}
use borrow.Author.Tests.{lt-ltb, le-ltb}
use Rattle.record.proofs.Scan.{none_zero, none_more, scan_refused, scan_passed}
use Rattle.writer.specs.Write.{counts_refusal}
use Rattle.writer.proofs.writing.check_counts.Goals as goal

pub loop-n-init : goal.loop-n-init
loop-n-init c = none_zero _

pub returns-then-from-gt-MAX_INSTRUCTIONS : goal.returns-then-from-gt-MAX_INSTRUCTIONS
unfolding counts_refusal
returns-then-from-gt-MAX_INSTRUCTIONS c =
    scan_refused _ _ c.loop-n.n-index _ (omega arith) (lt-ltb _ _ (rw c.from.ensures at c.if-from-gt-MAX_INSTRUCTIONS.true))

pub loop-n-preserved : goal.loop-n-preserved
loop-n-preserved c = none_more _ _ c.loop-n.invariant (le-ltb _ _ (rw c.from.ensures at c.if-from-gt-MAX_INSTRUCTIONS.false))

pub returns : goal.returns
unfolding counts_refusal
returns c = scan_passed _ _ _ _ c.loop-n.invariant (omega arith) (omega arith)
