-- `pass` meets its contract. The loop's invariant: the pass has come to an instruction that has not left by the limit, or to the end.
use Prim.Native.Nat.{◌-◌}
use Rattle.machine.specs.Time.{settle}
use Rattle.machine.specs.Named.{flag_named}
use Rattle.record.specs.Body.{records, trace_with}
use Rattle.passing.specs.Inner.{Skipped}
use Rattle.under_way.specs.Inner.{Passed}
use Rattle.under_way.proofs.seating.pass.Given as goal

abbrev pub invariant-loop-next : goal.invariant-loop-next
invariant-loop-next l =
    let trace = settle (flag_named l.to) (trace_with l.body l.hit_cycles) in
    Skipped trace l.limit l.next.k l.next × Passed trace l.limit l.next.k l.state

abbrev pub decreases-loop-next : goal.decreases-loop-next
decreases-loop-next l = records l.body - l.next.k
