-- Document 01's "Charts worked by hand" through the calls: what Finish, Best and worst, Run and Margin answer for the bodies of A to L, and for
-- those of document 02, F-3, F-4 and F-6.
use Rattle.std.specs.Prelude.{ℕ, min, false, cond, List, map, ◌≡◌, leb, pos, ◌-ℤ◌}
use Rattle.machine.specs.Rules.{after}
use Rattle.machine.specs.State.{start, state_of}
use Rattle.machine.specs.Cases.{Case, timed, all_cases, store_and_load, jump_and_plain, chart_of_D, chart_of_hits, chart_of_jump}
use Rattle.record.specs.Body.{firsts}
use Rattle.encoding.specs.Encoding.{body_of}
use Rattle.encoding.specs.Cases.{bytes_of_D, known, refusal_of}
use Rattle.running.specs.Run.{run_answer}
use Rattle.running.specs.declared.answer.Ran.{Ran}
use Rattle.timing.specs.Answers.{finish_answer, best_worst_answer, margin_answer}
use Rattle.timing.specs.declared.answers.Finished.{Finished}
use Rattle.timing.specs.declared.answers.BestAndWorst.{BestAndWorst}
use Rattle.timing.specs.declared.answers.DeadlineMargin.{DeadlineMargin}

-- Finish gives the table's time, and declines an unknown flag
unfoldable pub finish_of : Case → Finished
finish_of c = record { refusal = refusal_of c.trace; time = cond (known c.trace) c.worst 0 }

-- Best and worst declines none of the cases
unfoldable pub best_worst_of : Case → BestAndWorst
best_worst_of c = record { refusal = 0; best = c.best; worst = c.worst }

-- Run gives "the number of cycles run (the smaller of limit and finishing time) and whether all have left", with the state that the rules give after
-- so many cycles; "a refusal returns the starting state"
unfoldable pub run_of : Case → ℕ → Ran
run_of c limit =
    cond (known c.trace)
    (let cycles = min limit c.worst in
    record {
      refusal = 0;
      state = state_of (timed c) (after (timed c) cycles);
      cycles = cycles;
      left = leb c.worst limit;
    })
    (record { refusal = refusal_of c.trace; state = start; cycles = 0; left = false })

-- Margin "gives deadline minus worst, signed"
unfoldable pub margin_of : Case → ℕ → DeadlineMargin
margin_of c deadline = record { refusal = 0; margin = pos deadline -ℤ pos c.worst }

-- What each call answers for the bodies of cases is what document 01's times say, whatever the limit and the deadline.
pub record Answered (table : List Case) : Type 0 where
  pub finish : map (λ c. finish_answer (body_of c.trace) c.hits) table ≡ map finish_of table
  pub best_worst : map (λ c. best_worst_answer (body_of c.trace) c.hits) table ≡ map best_worst_of table
  pub run : (limit : ℕ) → map (λ c. run_answer (body_of c.trace) limit c.hits) table ≡ map (λ c. run_of c limit) table
  pub margin : (deadline : ℕ) → map (λ c. margin_answer (body_of c.trace) deadline c.hits) table ≡ map (λ c. margin_of c deadline) table

-- "Proved: A to L", and the cases that they do not show, those of document 02, F-3, F-4 and F-6, among them. Were every body refused, the claims over
-- accepted bodies would hold and say nothing.
abbrev pub CasesAnswered : Type 0
CasesAnswered = Answered all_cases

-- D's chart, row by row, is what Run gives for the bytes that document 01 prints.
abbrev pub ChartAnswered : Type 0
ChartAnswered = firsts (λ limit. (run_answer bytes_of_D limit 0).state) 9 ≡ chart_of_D

-- F-4's store hit and load hit with h = 2, the same way.
abbrev pub HitChartAnswered : Type 0
HitChartAnswered = firsts (λ limit. (run_answer (body_of store_and_load) limit 2).state) 10 ≡ chart_of_hits

-- F-6's jump with an execution latency of 1, and the plain one behind it, the same way.
abbrev pub JumpChartAnswered : Type 0
JumpChartAnswered = firsts (λ limit. (run_answer (body_of (jump_and_plain 1)) limit 0).state) 11 ≡ chart_of_jump
