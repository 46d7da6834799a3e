-- What Finish, Best and worst, Margin and Alike answer: document 01, "What each call does and when it declines". "A refusal gives its number, zeros
-- for numbers, no for a yes or no". Document 02, F-4: each takes h, and has 17 after 8.
use Rattle.std.specs.Prelude.{ℕ, ℤ, Bool, false, cond, List, Result, Ok, Err, eqb, pos, ◌-ℤ◌}
use Rattle.machine.specs.Time.{finish, best, worst}
use Rattle.record.specs.Refusal.{◌then◌}
use Rattle.record.specs.Body.{trace_with, timed_refusal, settled_refusal}
use Rattle.record.specs.Number.{number}
use Rattle.record.specs.declared.refusal.Refusal.{Refusal}
use Rattle.timing.specs.declared.calls.Extremes.{Extremes}
use Rattle.timing.specs.declared.answers.Finished.{Finished}
use Rattle.timing.specs.declared.answers.BestAndWorst.{BestAndWorst}
use Rattle.timing.specs.declared.answers.DeadlineMargin.{DeadlineMargin}
use Rattle.timing.specs.declared.answers.Likeness.{Likeness}

-- what a call gives, and where it declines its refusal's number, as one answer
abbrev pub finished : Result ℕ Refusal → Finished
finished (Ok t) = record { refusal = 0; time = t }
finished (Err r) = record { refusal = number r; time = 0 }

abbrev pub extremes : Result Extremes Refusal → BestAndWorst
extremes (Ok e) = record { refusal = 0; best = e.best; worst = e.worst }
extremes (Err r) = record { refusal = number r; best = 0; worst = 0 }

abbrev pub margin_left : Result ℤ Refusal → DeadlineMargin
margin_left (Ok m) = record { refusal = 0; margin = m }
margin_left (Err r) = record { refusal = number r; margin = pos 0 }

abbrev pub likeness : Result Bool Refusal → Likeness
likeness (Ok b) = record { refusal = 0; alike = b }
likeness (Err r) = record { refusal = number r; alike = false }

-- "Finish: 10, 8, 11."
unfoldable pub finish_answer : List ℕ → ℕ → Finished
finish_answer body h =
    cond (eqb (settled_refusal body h) 0)
    (record { refusal = 0; time = finish (trace_with body h) })
    (record { refusal = settled_refusal body h; time = 0 })

-- "Best and worst: 10, 8."
unfoldable pub best_worst_answer : List ℕ → ℕ → BestAndWorst
best_worst_answer body h =
    cond (eqb (timed_refusal body h) 0)
    (record { refusal = 0; best = best (trace_with body h); worst = worst (trace_with body h) })
    (record { refusal = timed_refusal body h; best = 0; worst = 0 })

-- "Margin takes a 32-bit deadline too and gives deadline minus worst, signed, 64 bits; 0 is met exactly: 10, 8."
unfoldable pub margin_answer : List ℕ → ℕ → ℕ → DeadlineMargin
margin_answer body deadline h =
    cond (eqb (timed_refusal body h) 0)
    (record { refusal = 0; margin = pos deadline -ℤ pos (worst (trace_with body h)) })
    (record { refusal = timed_refusal body h; margin = pos 0 })

-- "10, 8, 11 of the first, then of the second"
unfoldable pub alike_refusal : List ℕ → List ℕ → ℕ → ℕ
alike_refusal first second h = settled_refusal first h then settled_refusal second h

-- "Alike takes two bodies and says whether their finishing times are equal"
unfoldable pub alike_answer : List ℕ → List ℕ → ℕ → Likeness
alike_answer first second h =
    cond (eqb (alike_refusal first second h) 0)
    (record { refusal = 0; alike = eqb (finish (trace_with first h)) (finish (trace_with second h)) })
    (record { refusal = alike_refusal first second h; alike = false })
