-- What Run answers: document 01, "What each call does and when it declines".
use Rattle.std.specs.Prelude.{ℕ, min, false, cond, List, Result, Ok, Err, eqb}
use Rattle.machine.specs.Instruction.{Trace}
use Rattle.machine.specs.Rules.{after, all_left}
use Rattle.machine.specs.Time.{finish}
use Rattle.machine.specs.State.{start, state_of}
use Rattle.record.specs.Body.{trace_with, settled_refusal}
use Rattle.record.specs.Number.{number}
use Rattle.record.specs.declared.refusal.Refusal.{Refusal}
use Rattle.running.specs.declared.running.Progress.{Progress}
use Rattle.running.specs.declared.answer.Ran.{Ran}

-- what the call gives, and where it declines its refusal's number, as one answer
abbrev pub ran : Result Progress Refusal → Ran
ran (Ok r) = record { refusal = 0; state = r.state; cycles = r.cycles; left = r.left }
ran (Err r) = record { refusal = number r; state = start; cycles = 0; left = false }

-- "goes from the start for at most a 32-bit limit of cycles, and gives the state, the number of cycles run (the smaller of limit and finishing
-- time) and whether all have left": the state is the one after as many cycles of the rules as the count says
unfoldable pub ran_for : Trace → ℕ → Ran
ran_for trace limit =
    let cycles = min limit (finish trace) in
    record {
      refusal = 0;
      state = state_of trace (after trace cycles);
      cycles = cycles;
      left = all_left trace (after trace cycles);
    }

-- "10, 8, 11; a refusal returns the starting state." Document 02, F-4, has 17 after 8.
unfoldable pub run_answer : List ℕ → ℕ → ℕ → Ran
run_answer body limit h =
    cond (eqb (settled_refusal body h) 0)
    (ran_for (trace_with body h) limit)
    (record { refusal = settled_refusal body h; state = start; cycles = 0; left = false })
