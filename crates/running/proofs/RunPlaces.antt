-- Run's state gives every instruction its place: the states of a run do, whatever its length, and the starting state has everything in pre.
use Prim.Native.Nat.{min, zero-le}
use mathlib.Core.Bool.{Bool, true, false, cond}
use mathlib.Core.Path.{◌≡◌}
use lib.Dec.{eqb}
use Rattle.machine.specs.Rules.{all_pre, after}
use Rattle.machine.specs.State.{start, place_of}
use Rattle.machine.specs.Time.{finish}
use Rattle.machine.proofs.Orderly.{start_is_orderly}
use Rattle.machine.proofs.Spots.{place_waiting}
use Rattle.machine.proofs.RunStates.{run_places}
use Rattle.record.specs.Body.{trace_with, settled_refusal}
use Rattle.running.specs.Run.{ran_for, run_answer}
use Rattle.running.specs.Claims.{RunGivesPlaces}
use Rattle.running.specs.declared.answer.Ran.{Ran}

pub run_gives_places : RunGivesPlaces
unfolding run_answer ran_for after all_pre
run_gives_places body limit h i l = by (eqb (settled_refusal body h) 0)
  where
    refused : Ran
    refused = record { refusal = settled_refusal body h; state = start; cycles = 0; left = false }

    by : (accepted : Bool) →
        place_of (cond accepted (ran_for (trace_with body h) limit) refused).state i
        ≡ after (trace_with body h) (cond accepted (ran_for (trace_with body h) limit) refused).cycles i
    by true = run_places (trace_with body h) (min limit (finish (trace_with body h))) i l
    by false = place_waiting (trace_with body h) start (start_is_orderly (trace_with body h)) i zero-le
