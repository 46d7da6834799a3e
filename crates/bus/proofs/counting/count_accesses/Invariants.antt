-- The accesses of the first k instructions are counted, and none of them is too long with the wait.
use Rattle.std.proofs.Common.{◌≡◌, ◌*◌, ◌≤◌, true}
use Rattle.machine.specs.Test.{none}
use Rattle.machine.specs.Bus.{accesses}
use Rattle.schedule.proofs.Accepted.{read_first}
use Rattle.bus.specs.Answers.{exceeds_at}
use Rattle.bus.proofs.counting.count_accesses.Given as goal

abbrev pub invariant-loop-k : goal.invariant-loop-k
invariant-loop-k l =
    record {
      counted : l.accesses ≡ accesses (read_first l.body l.k);
      few : l.accesses ≤ 2 * l.k;
      short : none (exceeds_at l.body l.wait) l.k ≡ true;
    }
