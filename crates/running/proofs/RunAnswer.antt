-- What the whole pass gives is Run's answer: placing at the limit is right because nothing changes after the finishing time.
use Prim.Native.Nat.{ℕ, ◌<◌, min}
use mathlib.Core.Bool.{false}
use mathlib.Core.List.{List}
use mathlib.Core.Path.{◌≡◌, sym, ap, ◌∙◌}
use native.Mathlib.Omega.{arith}
use borrow.Author.Tests.{le-leb, lt-leb, ne_eqb}
use lib.Dec.{leb}
use lib.ListN.{length}
use Rattle.machine.specs.Instruction.{Flag, Trace}
use Rattle.machine.specs.Rules.{after, all_left}
use Rattle.machine.specs.Time.{finish, settle}
use Rattle.machine.specs.State.{start}
use Rattle.machine.specs.declared.State.{State}
use Rattle.machine.proofs.Numbers.{Tri, less, equal, more, tri}
use Rattle.machine.proofs.Finish.{all_left_is}
use Rattle.machine.proofs.RunStates.{state_after, run_stops_state}
use Rattle.record.specs.Body.{Bytes, trace_with, settled_refusal}
use Rattle.settling.proofs.Settled.{settled_timed}
use Rattle.record.proofs.Accepted.{settled_known}
use Rattle.running.specs.Run.{ran_for, run_answer}
use Rattle.seats.specs.Inner.{with_fetched}
use Rattle.under_way.specs.Inner.{state_below, Stopped}
use Rattle.under_way.specs.declared.seating.Fetched.{Fetched}
use Rattle.running.specs.declared.answer.Ran.{Ran}
use Rattle.running.proofs.Stops.{ends_after_all, ends_unfetched, goes_on}

left_by : (end limit : ℕ) → Tri end limit → leb end limit ≡ leb end (min limit end)
left_by end limit (less h) = le-leb end limit (omega arith) ∙ sym (le-leb end (min limit end) (omega arith))
left_by end limit (equal h) = le-leb end limit (omega arith) ∙ sym (le-leb end (min limit end) (omega arith))
left_by end limit (more h) = lt-leb end limit h ∙ sym (lt-leb end (min limit end) (omega arith))

left_is : (trace : Trace) (limit : ℕ) → leb (finish trace) limit ≡ all_left trace (after trace (min limit (finish trace)))
left_is trace limit = left_by (finish trace) limit (tri (finish trace) limit) ∙ sym (all_left_is trace (min limit (finish trace)))

-- the state that a run gives is the one after as many cycles as its limit says, also past the finishing time
pub state_ran : (trace : Trace) (limit : ℕ) {r : Ran} → r ≡ ran_for trace limit → r.state ≡ state_after trace limit
unfolding ran_for
state_ran trace limit e = ap (λ (r : Ran). r.state) e ∙ run_stops_state trace limit

module _ (trace : Trace) (limit : ℕ) {r : Fetched} {seats : State} (at : Stopped trace limit r seats) where
  -- all are fetched by the limit, or not
  data Ends : Type 0 where
    every_one : r.count ≡ length trace → Ends
    not_every_one : r.count < length trace → Ends

  ends : Ends
  ends = by (tri r.count (length trace))
    where
      by : Tri r.count (length trace) → Ends
      by (less h) = not_every_one h
      by (equal h) = every_one h
      by (more h) = absurd (omega (arith, at.inside))

  state_is : Ends → state_below (after trace limit) r.count ≡ state_after trace limit
  state_is (every_one h) = ends_after_all trace limit r.count h
  state_is (not_every_one h) = ends_unfetched trace limit r.count h (at.waits h).0

  cycles_are : Ends → min limit r.finish ≡ min limit (finish trace)
  cycles_are (every_one h) = ap (min limit) (at.all h)
  cycles_are (not_every_one h) = omega (arith, (at.waits h).1, goes_on trace limit r.count h (at.waits h).0)

  left_are : Ends → leb r.finish limit ≡ leb (finish trace) limit
  left_are (every_one h) = ap (λ (m : ℕ). leb m limit) (at.all h)
  left_are (not_every_one h) = lt-leb r.finish limit (at.waits h).1 ∙ sym (lt-leb (finish trace) limit (goes_on trace limit r.count h (at.waits h).0))

  pub ran
      : {state : State} {cycles : ℕ} →
      state ≡ with_fetched r.count seats →
      cycles ≡ min limit r.finish →
      record { refusal = 0; state = state; cycles = cycles; left = leb r.finish limit } ≡ ran_for trace limit
  unfolding ran_for
  ran read counts =
      let placed = read ∙ at.passed.state ∙ state_is ends ∙ sym (run_stops_state trace limit) in
      let counted = counts ∙ cycles_are ends in
      let left = left_are ends ∙ left_is trace limit in
      λ x. record { refusal = 0; state = placed x; cycles = counted x; left = left x }

module _ (body : List ℕ) (limit h : ℕ) {refusal : ℕ} (e : refusal ≡ settled_refusal body h) where
  pub run_refused
      : {state : State} → (refusal ≡ 0 → ⊥) → state ≡ start → record { refusal = refusal; state = state; cycles = 0; left = false } ≡ run_answer body limit h
  unfolding run_answer
  run_refused refused p = rw (← e, p, ne_eqb _ 0 refused)

  -- the trace of a body that Run accepts is its own settling
  pub run_accepted : {r : Ran} (to : Flag) → Bytes body → refusal ≡ 0 → r ≡ ran_for (settle to (trace_with body h)) limit → r ≡ run_answer body limit h
  unfolding run_answer
  run_accepted to b accepted p =
      p ∙ rw (settled_timed to h body b (settled_known body h (sym e ∙ accepted)), ← e, accepted)
