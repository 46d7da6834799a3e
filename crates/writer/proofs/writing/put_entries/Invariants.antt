-- The first t entries are written, and `offset` is where body t starts.
use Rattle.std.proofs.Common.{◌≡◌, length, take, drop, ◌++◌}
use Rattle.job.specs.Layout.{header_size, entry_at, body_start}
use Rattle.writer.specs.Write.{count, table_of}
use Rattle.writer.proofs.writing.put_entries.Given as goal

abbrev pub invariant-loop-count : goal.invariant-loop-count
invariant-loop-count l =
    record {
      place : l.at ≡ entry_at l.count-index;
      start : l.offset ≡ body_start (length l.counts) (count l.counts) l.count-index;
      written : l.out ≡ take header_size l.initial.out ++ table_of l.counts l.count-index ++ drop l.at l.initial.out;
    }
