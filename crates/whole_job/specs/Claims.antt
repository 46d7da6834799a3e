-- What is shown of the list after the call, place by place, as a named type.
use Rattle.std.specs.Prelude.{ℕ, ◌≤◌, ◌<◌, List, ◌≡◌, length, get_or}
use Rattle.job.specs.Layout.{traces}
use Rattle.job.specs.Open.{open_refusal, open_body}
use Rattle.timing.specs.Answers.{best_worst_answer}
use Rattle.whole_job.specs.Answers.{job_refusal, job_times}

-- After a call that is not refused. That trace t is opened and timed without a refusal is part of it: no time stands for one that was declined.
pub record Filled (file times : List ℕ) (h : ℕ) : Type 0 where
  pub room : traces file ≤ length times
  pub opened : (t : ℕ) → t < traces file → open_refusal file t ≡ 0
  pub timed : (t : ℕ) → t < traces file → (best_worst_answer (open_body file t) h).refusal ≡ 0
  pub first : (t : ℕ) → t < traces file → get_or (job_times file times h) t 0 ≡ (best_worst_answer (open_body file t) h).worst
  pub rest : (p : ℕ) → traces file ≤ p → get_or (job_times file times h) p 0 ≡ get_or times p 0

-- For every file, every list and every h: the list is as long as it was; a refused call alters no place of it, any other fills it.
pub record PlaceByPlace : Type 0 where
  pub long : (file times : List ℕ) (h : ℕ) → length (job_times file times h) ≡ length times
  pub refused : (file times : List ℕ) (h : ℕ) → (job_refusal file (length times) h ≡ 0 → ⊥) → job_times file times h ≡ times
  pub filled : (file times : List ℕ) (h : ℕ) → job_refusal file (length times) h ≡ 0 → Filled file times h
