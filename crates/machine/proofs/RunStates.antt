-- The states of a run are orderly and give every instruction the place that the rules give it after as many cycles. By induction on the cycles; the
-- schedule gives the places, since it says what a cycle makes of any places that agree with it within the trace. Nothing changes where a run stops at
-- its finishing time.
use Prim.Native.Nat.{ℕ, zero, suc, ◌<◌, min, zero-le}
use mathlib.Core.Path.{◌≡◌, sym, subst, ◌∙◌}
use lib.ListN.{length}
use Rattle.machine.specs.Instruction.{Trace}
use Rattle.machine.specs.Rules.{cycle, all_pre, after}
use Rattle.machine.specs.State.{start, place_of, state_of, Orderly}
use Rattle.machine.specs.Time.{finish}
use Rattle.machine.specs.Claims.{StatesGivePlaces}
use Rattle.machine.specs.declared.State.{State}
use Rattle.machine.proofs.Orderly.{start_is_orderly}
use Rattle.machine.proofs.Places.{state_agrees}
use Rattle.machine.proofs.Spots.{place_waiting, places_give_state}
use Rattle.machine.proofs.Step.{cycle_keeps_orderly, cycle_gives_places}
use Rattle.machine.proofs.Bridge.{cycle_scheduled, bridge}
use Rattle.machine.proofs.Finish.{run_stops}

-- the state after t cycles
abbrev pub state_after : Trace → ℕ → State
state_after trace t = state_of trace (after trace t)

-- a state that gives every instruction its place after t cycles
record Faithful (trace : Trace) (t : ℕ) (s : State) : Type 0 where
  orderly : Orderly trace s
  places : (i : ℕ) → i < length trace → place_of s i ≡ after trace t i

module _ (trace : Trace) where
  -- "The starting state has everything in pre"
  pub run_starts : state_after trace 0 ≡ start
  unfolding after all_pre
  run_starts =
      state_agrees all_pre (place_of start) trace (λ i l. sym (place_waiting trace start (start_is_orderly trace) i zero-le))
      ∙ places_give_state trace start (start_is_orderly trace)

  start_faithful : Faithful trace 0 start
  unfolding after all_pre
  start_faithful =
      record {
        orderly = start_is_orderly trace;
        places = λ i l. place_waiting trace start (start_is_orderly trace) i zero-le;
      }

  module _ (t : ℕ) (s : State) (f : Faithful trace t s) where
    cycle_faithful : (i : ℕ) → i < length trace → cycle trace (place_of s) i ≡ after trace (suc t) i
    cycle_faithful i l =
        cycle_scheduled trace t (place_of s) (λ j m. f.places j m ∙ bridge trace t j m) i l
        ∙ sym (bridge trace (suc t) i l)

    next_state : state_of trace (cycle trace (place_of s)) ≡ state_after trace (suc t)
    next_state = state_agrees (cycle trace (place_of s)) (after trace (suc t)) trace cycle_faithful

    next_faithful : Faithful trace (suc t) (state_after trace (suc t))
    next_faithful =
        subst (Faithful trace (suc t)) next_state
        (record {
          orderly = cycle_keeps_orderly trace s f.orderly;
          places = λ i l. cycle_gives_places trace s f.orderly i l ∙ cycle_faithful i l;
        })

  run_faithful : (t : ℕ) → Faithful trace t (state_after trace t)
  run_faithful zero = subst (Faithful trace 0) (sym run_starts) start_faithful
  run_faithful (suc t) = next_faithful t (state_after trace t) (run_faithful t)

  pub run_orderly : (t : ℕ) → Orderly trace (state_after trace t)
  run_orderly t = (run_faithful t).orderly

  pub run_places : (t i : ℕ) → i < length trace → place_of (state_after trace t) i ≡ after trace t i
  run_places t = (run_faithful t).places

  -- nothing changes if a run stops at its finishing time
  pub run_stops_state : (t : ℕ) → state_after trace (min t (finish trace)) ≡ state_after trace t
  run_stops_state t = state_agrees (after trace (min t (finish trace))) (after trace t) trace (run_stops trace t)

  pub run_stops_places : (t i : ℕ) → i < length trace → place_of (state_after trace (min t (finish trace))) i ≡ after trace t i
  run_stops_places t i l = rw (run_stops_state t) (run_places t i l)

pub states_give_places : StatesGivePlaces
states_give_places = run_places
