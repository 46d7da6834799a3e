-- No record so far breaks its rules, and `unknown` says whether one has an unknown flag.
use Rattle.std.proofs.Common.{◌≡◌, true, not}
use Rattle.machine.specs.Test.{none}
use Rattle.record.specs.Body.{breaks_at, unknown_at}
use Rattle.acceptance.proofs.scan_records.Given as goal

abbrev pub invariant-loop-record : goal.invariant-loop-record
invariant-loop-record l =
    record {
      lawful : none (breaks_at l.body) l.record-index ≡ true;
      flags : none (unknown_at l.body) l.record-index ≡ not l.unknown;
    }
