-- `skip_left` meets its contract: at the loop's head the window is the one before record k, and all from `from` on have left.
use Rattle.std.proofs.Common.{◌≡◌}
use Rattle.machine.specs.Time.{settle}
use Rattle.machine.proofs.Window.{window_before}
use Rattle.machine.specs.Named.{flag_named}
use Rattle.record.specs.Body.{trace_with}
use Rattle.entering.specs.Inner.{window_of}
use Rattle.passing.proofs.Skips.{Skips}
use Rattle.passing.proofs.pass.skip_left.Given as goal

abbrev pub invariant-loop-k : goal.invariant-loop-k
invariant-loop-k l =
    let trace = settle (flag_named l.to) (trace_with l.body l.hit_cycles) in
    record {
      at : window_of l.window ≡ window_before trace l.k;
      skips : Skips trace l.limit l.from l.k;
    }
