-- Step's answer on each path through the code.
use Prim.Native.Nat.{ℕ}
use mathlib.Core.List.{List}
use mathlib.Core.Path.{◌≡◌, sym, ◌∙◌}
use borrow.Author.Tests.{eq-eqb, ne_eqb}
use Rattle.machine.specs.Rules.{cycle}
use Rattle.machine.specs.State.{place_of, state_of}
use Rattle.machine.specs.declared.State.{State}
use Rattle.record.specs.Body.{trace_with}
use Rattle.pipeline.specs.Step.{step_refusal, onward, step_answer}
use Rattle.pipeline.specs.declared.answer.Stepped.{Stepped}

module _ (body : List ℕ) (s : State) (h : ℕ) where
  pub refused : {r : ℕ} → r ≡ step_refusal body s h → (r ≡ 0 → ⊥) → ◌≡◌ {A = Stepped} (record { refusal = r; state = s }) (step_answer body s h)
  unfolding onward step_answer
  refused e some = rw (ne_eqb (step_refusal body s h) 0 (λ z. some (e ∙ z))) (λ i. record { refusal = e i; state = s })

  pub stepped
      : {r : State} →
      0 ≡ step_refusal body s h →
      r ≡ state_of (trace_with body h) (cycle (trace_with body h) (place_of s)) →
      ◌≡◌ {A = Stepped} (record { refusal = 0; state = r }) (step_answer body s h)
  unfolding onward step_answer
  stepped e f = rw (eq-eqb (step_refusal body s h) 0 (sym e)) (λ i. record { refusal = 0; state = f i })
