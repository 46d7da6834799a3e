-- A list whose first places are filled, one after the other; and what each trace's time is: what opening and timing it alone gives.
use Prim.Native.Nat.{ℕ, suc, ◌<◌}
use mathlib.Core.List.{List, ◌++◌}
use mathlib.Core.Path.{◌≡◌, refl, sym, ap, ◌∙◌}
use lib.ListN.{length, drop, get_or, set}
use lib.Seq.{drop-cons, set_at, append_snoc}
use Rattle.machine.specs.Time.{finish, settle}
use Rattle.machine.specs.Instruction.{miss}
use Rattle.record.specs.Body.{firsts, trace_with}
use Rattle.record.proofs.Instructions.{length_firsts}
use Rattle.job.specs.Layout.{traces}
use Rattle.job.specs.Open.{open_body}
use Rattle.timed_file.specs.Refusal.{timed_file_refusal}
use Rattle.timed_file.proofs.Hits.{body_timed}
use Rattle.timing.specs.declared.answers.BestAndWorst.{BestAndWorst}
use Rattle.timing.proofs.Answered.{best_worst_given}
use Rattle.whole_job.specs.Answers.{timed_alone}

-- the first t places are filled, then place t too
pub one_more : (f : ℕ → ℕ) (times : List ℕ) (t : ℕ) → t < length times → set (firsts f t ++ drop t times) t (f t) ≡ firsts f (suc t) ++ drop (suc t) times
unfolding firsts
one_more f times t inside =
    ap (λ (rest : List ℕ). set (firsts f t ++ rest) t (f t)) (drop-cons times t 0 inside)
    ∙ set_at (firsts f t) (get_or times t 0) (drop (suc t) times) (f t) t (length_firsts f t)
    ∙ sym (append_snoc (firsts f t) (f t) (drop (suc t) times))

-- the pass with misses over the body that Open hands back gives the worst time
module _ (file : List ℕ) (h : ℕ) (passes : timed_file_refusal file h ≡ 0) (t : ℕ) (inside : t < traces file) where
  pub passed_alone :
      {body : List ℕ} {time : ℕ} → body ≡ open_body file t → time ≡ finish (settle miss (trace_with body h)) → time ≡ timed_alone file h t
  unfolding timed_alone
  passed_alone e p =
      ap
      (λ (answer : BestAndWorst). answer.worst)
      (best_worst_given (open_body file t) h (body_timed file h passes t inside) refl (p ∙ ap (λ (b : List ℕ). finish (settle miss (trace_with b h))) e))
