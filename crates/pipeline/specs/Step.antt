-- Step: document 01, "What each call does and when it declines". "Step gives the state one cycle on: 10, 8, 11 an unknown flag, 12 state not
-- orderly. A refusal returns the given state." Document 02, F-4: Step takes h, has 17 after 8, and judges a state's "counts by the new entry counts".
use Rattle.std.specs.Prelude.{ℕ, cond, List, Result, Ok, Err, eqb}
use Rattle.machine.specs.Instruction.{Trace}
use Rattle.machine.specs.Rules.{cycle}
use Rattle.machine.specs.State.{place_of, state_of, orderly}
use Rattle.machine.specs.declared.State.{State}
use Rattle.record.specs.Refusal.{◌then◌, ◌unless◌}
use Rattle.record.specs.Body.{trace_with, settled_refusal}
use Rattle.record.specs.Number.{number}
use Rattle.record.specs.declared.refusal.Refusal.{Refusal}
use Rattle.pipeline.specs.declared.answer.Stepped.{Stepped}

-- the next state, or where the call declines its refusal's number and the given state, as one answer
abbrev pub stepped : State → Result State Refusal → Stepped
stepped given (Ok s) = record { refusal = 0; state = s }
stepped given (Err r) = record { refusal = number r; state = given }

-- "12 state not orderly"
abbrev pub not_orderly : ℕ
not_orderly = 12

-- "10, 8", then 17, then "11 an unknown flag, 12 state not orderly"
unfoldable pub step_refusal : List ℕ → State → ℕ → ℕ
step_refusal body s h = settled_refusal body h then not_orderly unless orderly (trace_with body h) s

-- "gives the state one cycle on", "A refusal returns the given state."
unfoldable pub onward : ℕ → Trace → State → Stepped
onward refusal trace s =
    cond (eqb refusal 0)
    (record { refusal = 0; state = state_of trace (cycle trace (place_of s)) })
    (record { refusal = refusal; state = s })

unfoldable pub step_answer : List ℕ → State → ℕ → Stepped
step_answer body s h = onward (step_refusal body s h) (trace_with body h) s
