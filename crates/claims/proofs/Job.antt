-- The number in each place of a job's list is Best and worst's answer to a body that is accepted, of which demand 3 speaks.
use Prim.Native.Nat.{ℕ, ◌<◌}
use mathlib.Core.List.{List}
use mathlib.Core.Path.{◌≡◌, sym, subst, ◌∙◌}
use lib.ListN.{length, get_or}
use Rattle.record.specs.Body.{timed_refusal}
use Rattle.job.specs.Layout.{traces}
use Rattle.job.specs.Open.{open_body}
use Rattle.job.proofs.Part.{opened_bytes}
use Rattle.timed_file.proofs.Hits.{body_timed}
use Rattle.whole_job.specs.Answers.{job_refusal, job_times}
use Rattle.whole_job.specs.Claims.{Filled}
use Rattle.whole_job.proofs.Given.{accepted, place_by_place}
use Rattle.claims.specs.Claim.{Passes, Engine, Holds, rules, calls}
use Rattle.claims.specs.Job.{WorstTime, JobHolds}
use Rattle.claims.proofs.Claim.{demand_3, worst_answered}

module _ (h : ℕ) (file times : List ℕ) (p : Passes (λ bytes. job_refusal bytes (length times)) h file) (t : ℕ) (inside : t < traces file) where
  filled : Filled file times h
  filled = place_by_place.filled file times h p.passes

  body_passes : Passes timed_refusal h (open_body file t)
  body_passes =
      record {
        bytes = opened_bytes file t p.bytes (filled.opened t inside);
        passes = body_timed file h (accepted file times h p.passes) t inside;
      }

  -- of an engine whose worst time is the one that stands there
  worst_holds : (engine : Engine) → Holds h engine → engine.worst (open_body file t) ≡ get_or (job_times file times h) t 0 →
      WorstTime h engine (open_body file t) (get_or (job_times file times h) t 0)
  worst_holds engine holds e =
      subst (WorstTime h engine (open_body file t)) e
      (record {
        none_later = λ settling s. (holds.enclosed (open_body file t) settling body_passes s).1;
        attained = holds.worst_attained (open_body file t) body_passes;
      })

  stands : (calls h).worst (open_body file t) ≡ get_or (job_times file times h) t 0
  stands = sym (filled.first t inside)

pub job_holds : JobHolds
job_holds h = (
  λ file times p t l.
      worst_holds h file times p t l (rules h) (demand_3 h).0 (sym (worst_answered h (open_body file t) (body_passes h file times p t l)) ∙ stands h file times p t l),
  λ file times p t l. worst_holds h file times p t l (calls h) (demand_3 h).1 (stands h file times p t l),
)
