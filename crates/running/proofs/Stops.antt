-- Where Run's pass may stop: after the last instruction, or at the first that is not fetched by the limit. From there on everything is in pre, which
-- adds nothing to the state, and what is in pre at the limit leaves later, so that the run goes on beyond it.
use Prim.Native.Nat.{ℕ, zero, suc, ◌+◌, ◌-◌, ◌≤◌, ◌<◌}
use mathlib.Core.Bool.{false}
use mathlib.Core.Path.{◌≡◌, refl, sym, ap, ◌∙◌}
use native.Mathlib.Omega.{arith}
use lib.ListN.{length}
use Rattle.machine.specs.Instruction.{Trace}
use Rattle.machine.specs.Rules.{Stage, Place, pre, same, after}
use Rattle.machine.specs.Time.{finish}
use Rattle.machine.specs.declared.State.{State}
use Rattle.machine.proofs.Connectives.{clash}
use Rattle.machine.proofs.Finish.{stays_left}
use Rattle.machine.proofs.Numbers.{Tri, less, equal, more, tri}
use Rattle.machine.proofs.RunStates.{state_after, run_orderly, run_places}
use Rattle.machine.proofs.Spots.{place_waiting, not_waiting}
use Rattle.seats.specs.Inner.{fetched_with, slot_with, state_with}
use Rattle.under_way.specs.Inner.{state_below}
use Rattle.under_way.proofs.RunState.{state_grows, state_ends}

in_pre_adds_nothing : (k : ℕ) (s : State) → state_with (record { stage = pre; count = 0 }) k s ≡ s
unfolding state_with fetched_with slot_with
in_pre_adds_nothing k s = refl

module _ (trace : Trace) (t : ℕ) where
  abbrev n : ℕ
  n = length trace

  abbrev fetched : ℕ
  fetched = (state_after trace t).fetched

  waits : (i : ℕ) → fetched ≤ i → i < n → after trace t i ≡ record { stage = pre; count = 0 }
  waits i h l = sym (run_places trace t i l) ∙ place_waiting trace (state_after trace t) (run_orderly trace t) i h

  is_fetched : (i : ℕ) → i < fetched → i < n → same (after trace t i).stage pre ≡ false
  is_fetched i h l =
      ap (λ (p : Place). same p.stage pre) (sym (run_places trace t i l))
      ∙ not_waiting trace (state_after trace t) (run_orderly trace t) i h

  pub ends_after_all : (k : ℕ) → k ≡ n → state_below (after trace t) k ≡ state_after trace t
  ends_after_all k end = ap (state_below (after trace t)) end ∙ state_ends (after trace t) trace

  module _ (k : ℕ) (inside : k < n) (waiting : (after trace t k).stage ≡ pre) where
    few : fetched ≤ k
    few = by (tri fetched k)
      where
        by : Tri fetched k → fetched ≤ k
        by (less h) = omega arith
        by (equal h) = omega arith
        by (more h) = clash (ap (λ (s : Stage). same s pre) waiting) (is_fetched k h inside)

    same_below : (d : ℕ) → d + k ≤ n → state_below (after trace t) (d + k) ≡ state_below (after trace t) k
    same_below zero l = ap (state_below (after trace t)) (omega arith)
    same_below (suc d) l =
        ap (state_below (after trace t)) (omega arith)
        ∙ state_grows (after trace t) (d + k)
        ∙ rw (waits (d + k) (let h = few in omega arith) (omega arith)) (in_pre_adds_nothing (d + k) (state_below (after trace t) (d + k)))
        ∙ same_below d (omega arith)

    pub ends_unfetched : state_below (after trace t) k ≡ state_after trace t
    ends_unfetched = sym (ap (state_below (after trace t)) (omega arith) ∙ same_below (n - k) (omega arith)) ∙ state_ends (after trace t) trace

    pub goes_on : t < finish trace
    goes_on = by (tri t (finish trace))
      where
        left : finish trace ≤ t → t < finish trace
        left h = clash (ap (λ (s : Stage). same s pre) waiting) (ap (λ (p : Place). same p.stage pre) (stays_left trace t k inside h))

        by : Tri t (finish trace) → t < finish trace
        by (less h) = h
        by (equal h) = left (omega arith)
        by (more h) = left (omega arith)
