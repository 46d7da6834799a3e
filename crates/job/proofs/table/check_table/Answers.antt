-- `check_table` meets its contract: 1 to 4, in their order.
use Rattle.job.specs.Open.{table_refusal}
use Rattle.record.specs.Refusal.{◌then◌, ◌unless◌}
use borrow.Author.Tests.{le-leb, lt-leb}
use Rattle.job.proofs.table.check_table.Goals as goal

pub returns-then-file : goal.returns-then-file
unfolding table_refusal ◌then◌ ◌unless◌
returns-then-file c = rw (lt-leb _ _ c.if-file.true)

pub returns-then-file-2 : goal.returns-then-file-2
unfolding table_refusal ◌then◌ ◌unless◌
returns-then-file-2 c = rw (le-leb _ _ c.if-file.false, lt-leb _ _ c.if-file-2.true)

pub returns-then-count-gt-MAX_TRACES : goal.returns-then-count-gt-MAX_TRACES
unfolding table_refusal ◌then◌ ◌unless◌
returns-then-count-gt-MAX_TRACES c =
    rw (le-leb _ _ c.if-file.false, le-leb _ _ c.if-file-2.false, ← c.half-count.ensures.0, lt-leb _ _ c.if-count-gt-MAX_TRACES.true)

pub returns-then-file-count : goal.returns-then-file-count
unfolding table_refusal ◌then◌ ◌unless◌
returns-then-file-count c =
    rw (
      le-leb _ _ c.if-file.false,
      le-leb _ _ c.if-file-2.false,
      ← c.half-count.ensures.0,
      le-leb _ _ c.if-count-gt-MAX_TRACES.false,
      lt-leb _ _ c.if-file-count.true,
    )

pub returns : goal.returns
unfolding table_refusal ◌then◌ ◌unless◌
returns c =
    rw (
      le-leb _ _ c.if-file.false,
      le-leb _ _ c.if-file-2.false,
      ← c.half-count.ensures.0,
      le-leb _ _ c.if-count-gt-MAX_TRACES.false,
      le-leb _ _ c.if-file-count.false,
    )
