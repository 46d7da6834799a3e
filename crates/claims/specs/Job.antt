-- A whole job: document 02, F-2. "Each equals what opening and timing that trace alone gives": so demand 3, which the order states of "the worst time
-- given", holds of the number in each of the list's first T places. It is said once, of anything that gives times, and claimed for the cycle rules
-- and for what Finish answers, for one h throughout (document 02, F-4).
use Rattle.std.specs.Prelude.{ℕ, ◌≤◌, ◌<◌, List, length, get_or}
use Rattle.job.specs.Layout.{traces}
use Rattle.job.specs.Open.{open_body}
use Rattle.whole_job.specs.Answers.{job_refusal, job_times}
use Rattle.claims.specs.Claim.{Passes, SettlingOf, Engine, Attained, rules, calls}

-- "no settling of them finishes later than the worst time given [..] and each of these two is the finishing time of some settling"
pub record WorstTime (h : ℕ) (engine : Engine) (body : List ℕ) (time : ℕ) : Type 0 where
  pub none_later : (settling : List ℕ) → SettlingOf h body settling → engine.time settling ≤ time
  pub attained : Attained h engine body time

-- for every job that the call does not decline: the number in place t is the worst time of trace t
abbrev pub PlacesHold : ℕ → Engine → Type 0
PlacesHold h engine =
    (file times : List ℕ) →
    Passes (λ bytes. job_refusal bytes (length times)) h file →
    (t : ℕ) →
    t < traces file →
    WorstTime h engine (open_body file t) (get_or (job_times file times h) t 0)

abbrev pub JobHolds : Type 0
JobHolds = (h : ℕ) → PlacesHold h (rules h) × PlacesHold h (calls h)
