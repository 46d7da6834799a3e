-- Jobs are accepted and declined where they should be, shown on the job that docs/RULES.md works out by hand. Were every file or every list refused,
-- the claims over the others would hold and say nothing.
use Rattle.std.specs.Prelude.{ℕ, List, [], ◌∷◌, ◌++◌, ◌≡◌, length}
use Rattle.whole_job.specs.Answers.{job_answer, job_times}
use Rattle.whole_job.specs.declared.call.WholeJob.{WholeJob}

-- the file of two traces, L and one record of the kind and the data latency given, a hit: B is the one of kind 0, and kind 255 breaks its rules
abbrev pub file_of_L_and : ℕ → ℕ → List ℕ
file_of_L_and kind latency =
    (2 ∷ 0 ∷ [])
    ++ (14 ∷ 0 ∷ 0 ∷ 0 ∷ 2 ∷ 0 ∷ [])
    ++ (34 ∷ 0 ∷ 0 ∷ 0 ∷ 1 ∷ 0 ∷ [])
    ++ (1 ∷ 8 ∷ 0 ∷ 0 ∷ 0 ∷ 0 ∷ 1 ∷ 0 ∷ 10 ∷ 0 ∷ [])
    ++ (0 ∷ 2 ∷ 0 ∷ 0 ∷ 0 ∷ 0 ∷ 1 ∷ 0 ∷ 0 ∷ 0 ∷ [])
    ++ (kind ∷ 0 ∷ 0 ∷ 0 ∷ 0 ∷ 0 ∷ 1 ∷ 0 ∷ latency ∷ 0 ∷ [])

-- what the call answers and what is in the list afterwards
abbrev Gives : List ℕ → List ℕ → ℕ → WholeJob → List ℕ → Type 0
Gives file times h answer afterwards = (job_answer file (length times) h ≡ answer) × (job_times file times h ≡ afterwards)

pub record JobsAnswered : Type 0 where
  pub longer : Gives (file_of_L_and 0 0) (1 ∷ 2 ∷ 3 ∷ []) 0 (record { refusal = 0; traces = 2 }) (21 ∷ 6 ∷ 3 ∷ [])
  pub as_long : Gives (file_of_L_and 0 0) (1 ∷ 2 ∷ []) 0 (record { refusal = 0; traces = 2 }) (21 ∷ 6 ∷ [])
  pub shorter : Gives (file_of_L_and 0 0) (1 ∷ []) 0 (record { refusal = 16; traces = 0 }) (1 ∷ [])
  pub broken : Gives (file_of_L_and 255 0) (1 ∷ 2 ∷ 3 ∷ []) 0 (record { refusal = 8; traces = 0 }) (1 ∷ 2 ∷ 3 ∷ [])
  pub broken_and_shorter : Gives (file_of_L_and 255 0) (1 ∷ []) 0 (record { refusal = 8; traces = 0 }) (1 ∷ [])
  pub no_traces : Gives (0 ∷ 0 ∷ []) [] 0 (record { refusal = 0; traces = 0 }) []
  -- L's load has a data latency of 10: a hit that takes 9 cycles is below it, and one that takes 10 is not
  pub hit_below : Gives (file_of_L_and 0 0) (1 ∷ 2 ∷ []) 9 (record { refusal = 0; traces = 2 }) (21 ∷ 6 ∷ [])
  -- a store hit takes 6 cycles, and h more
  pub hit_shown : Gives (file_of_L_and 2 10) (1 ∷ 2 ∷ []) 9 (record { refusal = 0; traces = 2 }) (21 ∷ 15 ∷ [])
  pub hit_not_below : Gives (file_of_L_and 0 0) (1 ∷ 2 ∷ []) 10 (record { refusal = 17; traces = 0 }) (1 ∷ 2 ∷ [])
  pub hit_and_shorter : Gives (file_of_L_and 0 0) (1 ∷ []) 10 (record { refusal = 17; traces = 0 }) (1 ∷ [])
  pub broken_and_hit : Gives (file_of_L_and 255 0) (1 ∷ []) 10 (record { refusal = 8; traces = 0 }) (1 ∷ [])
  pub no_traces_hit : Gives (0 ∷ 0 ∷ []) [] 15 (record { refusal = 0; traces = 0 }) []
  pub no_traces_long_hit : Gives (0 ∷ 0 ∷ []) [] 16 (record { refusal = 17; traces = 0 }) []
