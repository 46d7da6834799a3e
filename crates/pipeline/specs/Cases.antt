-- What Step answers for document 01's case D, as its bytes are printed, and for the examples of document 02, F-3, F-4 and F-6.
use Rattle.std.specs.Prelude.{[], ◌∷◌, map, ◌≡◌, take, drop}
use Rattle.machine.specs.Cases.{chart_of_D, value_loaded, chart_of_value, store_and_load, chart_of_hits, jump_and_plain, chart_of_jump}
use Rattle.encoding.specs.Encoding.{body_of}
use Rattle.encoding.specs.Cases.{bytes_of_D}
use Rattle.pipeline.specs.Step.{step_answer}

-- From each row of D's chart Step accepts the body and the row, and gives the next row. Were every state refused, the claims on orderly states would
-- hold all the same.
abbrev pub StepAnswered : Type 0
StepAnswered = map (λ s. step_answer bytes_of_D s 0) (take 8 chart_of_D) ≡ map (λ s. record { refusal = 0; state = s }) (drop 1 chart_of_D)

-- the same from each row of F-3's example with a latency of 2
abbrev pub ValueStepAnswered : Type 0
ValueStepAnswered =
    map (λ s. step_answer (body_of (value_loaded 2)) s 0) (take 9 chart_of_value) ≡ map (λ s. record { refusal = 0; state = s }) (drop 1 chart_of_value)

-- the same from each row of F-4's store hit and load hit, with h = 2
abbrev pub HitStepAnswered : Type 0
HitStepAnswered =
    map (λ s. step_answer (body_of store_and_load) s 2) (take 9 chart_of_hits) ≡ map (λ s. record { refusal = 0; state = s }) (drop 1 chart_of_hits)

-- the same from each row of F-6's jump with an execution latency of 1, and the plain one behind it
abbrev pub JumpStepAnswered : Type 0
JumpStepAnswered =
    map (λ s. step_answer (body_of (jump_and_plain 1)) s 0) (take 10 chart_of_jump) ≡ map (λ s. record { refusal = 0; state = s }) (drop 1 chart_of_jump)

-- "The calls that take a state judge its counts by the new entry counts": the row in which both have their count, h in MEM and in ST, is orderly for an
-- h of 2 and more, and is not for 1, of which the count is h + 1, nor for 0.
abbrev pub CountsJudged : Type 0
CountsJudged =
    map (λ h. map (λ s. (step_answer (body_of store_and_load) s h).refusal) (take 1 (drop 5 chart_of_hits))) (0 ∷ 1 ∷ 2 ∷ 3 ∷ [])
    ≡ (12 ∷ []) ∷ (12 ∷ []) ∷ (0 ∷ []) ∷ (0 ∷ []) ∷ []
