-- What the call gives is its answer: on a refusal, and with the count and the worst time that the passes give; and that time fits 32 bits.
use Prim.Native.Nat.{ℕ, ◌+◌, ◌*◌, ◌≤◌}
use mathlib.Core.List.{List}
use mathlib.Core.Path.{◌≡◌, refl, ◌∙◌}
use native.Mathlib.Nat.{mul-le-mul}
use native.Mathlib.Omega.{arith}
use borrow.Author.Tests.{eq-eqb, ne_eqb, eqb-true}
use lib.Dec.{eqb}
use Rattle.machine.specs.Instruction.{miss}
use Rattle.machine.specs.State.{max_instructions}
use Rattle.machine.specs.Time.{finish, settle, worst}
use Rattle.machine.specs.Bus.{accesses, bus_time}
use Rattle.machine.proofs.Connectives.{Value, passed, failed, value}
use Rattle.record.specs.Body.{Bytes, trace_of, trace_with, timed_refusal}
use Rattle.record.proofs.Accepted.{few_records, timed_accepted}
use Rattle.record.proofs.Instructions.{length_trace_of}
use Rattle.record.proofs.Refusals.{then_first}
use Rattle.schedule.proofs.Accepted.{finish_within}
use Rattle.bus.specs.Answers.{bus_refusal, bus_answer}
use Rattle.bus.specs.Claims.{max_wait, max_bus_time, TimeFits}
use Rattle.bus.specs.declared.answer.TimeOnBus.{TimeOnBus}
use Rattle.bus.proofs.Added.{accesses_few, accesses_hits}

module _ (body : List ℕ) (wait h : ℕ) where
  pub refused : {n : ℕ} → n ≡ bus_refusal body wait h → (n ≡ 0 → ⊥) → ◌≡◌ {A = TimeOnBus} (record { refusal = n; accesses = 0; time = 0 }) (bus_answer body wait h)
  unfolding bus_answer
  refused e some = rw (ne_eqb (bus_refusal body wait h) 0 (λ z. some (e ∙ z)), e)

  pub given :
      bus_refusal body wait h ≡ 0 →
      {n w : ℕ} →
      n ≡ accesses (trace_of body) →
      w ≡ finish (settle miss (trace_with body h)) →
      ◌≡◌ {A = TimeOnBus} (record { refusal = 0; accesses = n; time = w + n * wait }) (bus_answer body wait h)
  unfolding bus_answer bus_time worst
  given z p q = rw (p, q, eq-eqb (bus_refusal body wait h) 0 z, accesses_hits h (trace_of body))

-- the time of an accepted body is within the greatest
pub sum_fits : (body : List ℕ) (h : ℕ) → Bytes body → timed_refusal body h ≡ 0 → (wait : ℕ) → wait ≤ max_wait → {n w : ℕ} →
    n ≡ accesses (trace_of body) →
    w ≡ finish (settle miss (trace_with body h)) →
    (n * wait ≤ 2 * max_instructions * max_wait) × (w + n * wait ≤ max_bus_time)
sum_fits body h b accepted wait l {n} {w} p q =
    let few : n ≤ 2 * max_instructions = omega (arith, p, accesses_few (trace_of body), length_trace_of body, few_records body (timed_accepted body h accepted)) in
    let product : n * wait ≤ 2 * max_instructions * max_wait = mul-le-mul few l in
    (product, omega (arith, product, q, finish_within body h b accepted miss))

pub time_fits : TimeFits
unfolding bus_answer bus_refusal bus_time worst
time_fits body wait h b l = pick (value (eqb (bus_refusal body wait h) 0))
  where
    pick : Value (eqb (bus_refusal body wait h) 0) → (bus_answer body wait h).time ≤ max_bus_time
    pick (passed e) =
        rw (e, accesses_hits h (trace_of body)) (sum_fits body h b (then_first _ _ (eqb-true (bus_refusal body wait h) 0 e)) wait l refl refl).1
    pick (failed e) = rw e (omega arith)
