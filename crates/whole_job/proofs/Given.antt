-- What `worst_times` gives is its answer and its list, on a refusal and with the times; and the list after the call, place by place.
use Prim.Native.Nat.{ℕ, ◌+◌, ◌-◌, ◌≤◌, ◌<◌}
use mathlib.Core.List.{List, ◌++◌}
use mathlib.Core.Path.{◌≡◌, refl, ap, ◌∙◌}
use native.Mathlib.Omega.{arith}
use borrow.Author.Tests.{eq-eqb, ne_eqb, leb-true, eqb-true}
use lib.Dec.{eqb}
use lib.ListN.{length, drop, get_or, length-append, length-drop, get_or-append}
use lib.Seq.{get_or-append-add, get_or-drop}
use Rattle.machine.proofs.Connectives.{Value, passed, failed, value}
use Rattle.record.specs.Body.{firsts, timed_refusal}
use Rattle.record.proofs.Instructions.{length_firsts, get_or_firsts}
use Rattle.record.proofs.Refusals.{then_first, then_second, unless_passed}
use Rattle.job.specs.Layout.{traces}
use Rattle.job.specs.Open.{open_body}
use Rattle.timed_file.specs.Refusal.{timed_file_refusal}
use Rattle.timed_file.proofs.Hits.{file_accepted, body_timed}
use Rattle.job.proofs.Accepted.{open_accepted}
use Rattle.timing.specs.Answers.{best_worst_answer}
use Rattle.whole_job.specs.Answers.{job_refusal, timed_alone, job_answer, job_times}
use Rattle.whole_job.specs.Claims.{Filled, PlaceByPlace}
use Rattle.whole_job.specs.declared.call.WholeJob.{WholeJob}

module _ (file times : List ℕ) (h : ℕ) where
  abbrev Given : WholeJob → List ℕ → Type 0
  Given r afterwards = (r ≡ job_answer file (length times) h) × (afterwards ≡ job_times file times h)

  pub refused : {n : ℕ} → n ≡ job_refusal file (length times) h → (n ≡ 0 → ⊥) → Given (record { refusal = n; traces = 0 }) times
  unfolding job_answer job_times
  refused e some = rw (ne_eqb (job_refusal file (length times) h) 0 (λ z. some (e ∙ z)), e) (refl, refl)

  -- a list that is not refused has room for a time of each trace of an accepted file
  pub accepted : job_refusal file (length times) h ≡ 0 → timed_file_refusal file h ≡ 0
  unfolding job_refusal
  accepted e = then_first _ _ e

  pub room : job_refusal file (length times) h ≡ 0 → traces file ≤ length times
  unfolding job_refusal
  room e = leb-true _ _ (unless_passed _ _ (then_second _ _ e))

  pub given :
      job_refusal file (length times) h ≡ 0 →
      {all : ℕ} {afterwards : List ℕ} →
      all ≡ traces file →
      afterwards ≡ firsts (timed_alone file h) all ++ drop all times →
      Given (record { refusal = 0; traces = all }) afterwards
  unfolding job_answer job_times
  given z e f = rw (eq-eqb (job_refusal file (length times) h) 0 z) (rw e refl, f ∙ rw e refl)

  kept : (job_refusal file (length times) h ≡ 0 → ⊥) → job_times file times h ≡ times
  unfolding job_times
  kept some = rw (ne_eqb (job_refusal file (length times) h) 0 some)

  long : Value (eqb (job_refusal file (length times) h) 0) → length (job_times file times h) ≡ length times
  unfolding job_times
  long (failed e) = rw e
  long (passed e) =
      let inside = room (eqb-true (job_refusal file (length times) h) 0 e) in
      let front = length_firsts (timed_alone file h) (traces file) in
      let back = length-drop (traces file) times in
      rw (e, length-append) (omega arith)

  module _ (z : job_refusal file (length times) h ≡ 0) where
    full : job_times file times h ≡ firsts (timed_alone file h) (traces file) ++ drop (traces file) times
    unfolding job_times
    full = rw (eq-eqb (job_refusal file (length times) h) 0 z)

    first : (t : ℕ) → t < traces file → get_or (job_times file times h) t 0 ≡ (best_worst_answer (open_body file t) h).worst
    unfolding timed_alone
    first t l =
        let front = length_firsts (timed_alone file h) (traces file) in
        ap (λ (places : List ℕ). get_or places t 0) full
        ∙ get_or-append (firsts (timed_alone file h) (traces file)) (drop (traces file) times) 0 t (omega arith)
        ∙ get_or_firsts (timed_alone file h) (traces file) t 0 l

    rest : (p : ℕ) → traces file ≤ p → get_or (job_times file times h) p 0 ≡ get_or times p 0
    rest p past-them =
        let front = length_firsts (timed_alone file h) (traces file) in
        let past : p ≡ length (firsts (timed_alone file h) (traces file)) + (p - traces file) = omega arith in
        ap (λ (places : List ℕ). get_or places p 0) full
        ∙ ap (λ (at : ℕ). get_or (firsts (timed_alone file h) (traces file) ++ drop (traces file) times) at 0) past
        ∙ get_or-append-add (firsts (timed_alone file h) (traces file)) (drop (traces file) times) (p - traces file) 0
        ∙ get_or-drop (traces file) times (p - traces file) 0
        ∙ ap (λ (at : ℕ). get_or times at 0) (omega arith)

    timed : (t : ℕ) → t < traces file → (best_worst_answer (open_body file t) h).refusal ≡ 0
    unfolding best_worst_answer
    timed t l = rw (eq-eqb (timed_refusal (open_body file t) h) 0 (body_timed file h (accepted z) t l))

    filled : Filled file times h
    filled = record { room = room z; opened = λ t l. open_accepted file t (file_accepted file h (accepted z)) l; timed = timed; first = first; rest = rest }

pub place_by_place : PlaceByPlace
place_by_place =
    record { long = λ file times h. long file times h (value (eqb (job_refusal file (length times) h) 0)); refused = kept; filled = filled }
