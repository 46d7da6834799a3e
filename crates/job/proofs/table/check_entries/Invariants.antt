-- No entry so far is refused, and `end` is where the next body starts.
use Rattle.std.proofs.Common.{◌≡◌, ◌+◌, ◌*◌, ◌≤◌}
use Rattle.record.specs.Layout.{record_size}
use Rattle.job.specs.Layout.{max_traces, max_count, entry_at, start_at}
use Rattle.job.specs.Refusal.{first_refusal}
use Rattle.job.specs.Open.{entry_refusal}
use Rattle.job.proofs.table.check_entries.Given as goal

abbrev pub invariant-loop-t : goal.invariant-loop-t
invariant-loop-t l =
    record {
      ends : l.end ≡ start_at l.file l.t;
      passes : first_refusal (entry_refusal l.file) l.t ≡ 0;
      bound : l.end ≤ entry_at max_traces + record_size * max_count * l.t;
    }
