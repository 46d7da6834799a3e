-- What each call gives is its answer: on a refusal, and with the times that the passes give.
use Prim.Native.Nat.{ℕ}
use mathlib.Core.Bool.{false, cond}
use mathlib.Core.List.{List}
use mathlib.Core.Path.{◌≡◌, sym, ap, ◌∙◌}
use native.Mathlib.Decide.{ℕ_discrete}
use borrow.Author.Tests.{eq-eqb, ne_eqb}
use lib.Dec.{eqb}
use lib.IntN.{ℤ, pos, ◌-ℤ◌}
use Rattle.machine.specs.Instruction.{hit, miss}
use Rattle.machine.specs.Time.{finish, settle, best, worst}
use Rattle.record.specs.Refusal.{◌then◌}
use Rattle.record.specs.Body.{Bytes, trace_with, timed_refusal, settled_refusal}
use Rattle.record.proofs.Refusals.{then_none}
use Rattle.settling.proofs.Settled.{settled_timed}
use Rattle.record.proofs.Accepted.{settled_known}
use Rattle.timing.specs.Answers.{finish_answer, best_worst_answer, margin_answer, alike_refusal, alike_answer}
use Rattle.timing.specs.declared.answers.Finished.{Finished}
use Rattle.timing.specs.declared.answers.BestAndWorst.{BestAndWorst}
use Rattle.timing.specs.declared.answers.DeadlineMargin.{DeadlineMargin}
use Rattle.timing.specs.declared.answers.Likeness.{Likeness}

-- an answer where there is a refusal, and where there is none
refused : {A : Type 0} (n : ℕ) (given declined : A) → (n ≡ 0 → ⊥) → cond (eqb n 0) given declined ≡ declined
refused n given declined h = rw (ne_eqb n 0 h)

accepted : {A : Type 0} (n : ℕ) (given declined : A) → n ≡ 0 → cond (eqb n 0) given declined ≡ given
accepted n given declined e = rw (eq-eqb n 0 e)

module _ (body : List ℕ) (h : ℕ) where
  -- the time that a pass gives where there are no unknown flags
  pub finish_time : Bytes body → settled_refusal body h ≡ 0 → {t : ℕ} → t ≡ finish (settle hit (trace_with body h)) → t ≡ finish (trace_with body h)
  finish_time b settled e = e ∙ ap finish (settled_timed hit h body b (settled_known body h settled))

  pub finish_refused : {r : ℕ} → r ≡ settled_refusal body h → (r ≡ 0 → ⊥) → ◌≡◌ {A = Finished} (record { refusal = r; time = 0 }) (finish_answer body h)
  unfolding finish_answer
  finish_refused e some = rw e (sym (refused (settled_refusal body h) _ _ (λ z. some (e ∙ z))))

  pub finish_given : settled_refusal body h ≡ 0 → {t : ℕ} → t ≡ finish (trace_with body h) → ◌≡◌ {A = Finished} (record { refusal = 0; time = t }) (finish_answer body h)
  unfolding finish_answer
  finish_given z e = rw e (sym (accepted (settled_refusal body h) _ _ z))

  -- what an answer of Finish says of the refusal, and of the time
  pub finish_refusal : (finish_answer body h).refusal ≡ settled_refusal body h
  unfolding finish_answer
  finish_refusal =
      elim (ℕ_discrete (settled_refusal body h) 0) [
        | yes z ↦ rw (accepted {A = Finished} (settled_refusal body h) _ _ z) (sym z)
        | no some ↦ rw (refused {A = Finished} (settled_refusal body h) _ _ some)
      ]

  pub finish_is : settled_refusal body h ≡ 0 → (finish_answer body h).time ≡ finish (trace_with body h)
  unfolding finish_answer
  finish_is z = rw (accepted {A = Finished} (settled_refusal body h) _ _ z)

  pub best_worst_refused
      : {r : ℕ} → r ≡ timed_refusal body h → (r ≡ 0 → ⊥) → ◌≡◌ {A = BestAndWorst} (record { refusal = r; best = 0; worst = 0 }) (best_worst_answer body h)
  unfolding best_worst_answer
  best_worst_refused e some = rw e (sym (refused (timed_refusal body h) _ _ (λ z. some (e ∙ z))))

  pub best_worst_given
      : timed_refusal body h ≡ 0 →
      {b w : ℕ} →
      b ≡ finish (settle hit (trace_with body h)) →
      w ≡ finish (settle miss (trace_with body h)) →
      ◌≡◌ {A = BestAndWorst} (record { refusal = 0; best = b; worst = w }) (best_worst_answer body h)
  unfolding best_worst_answer best worst
  best_worst_given z p q = rw (p, q) (sym (accepted (timed_refusal body h) _ _ z))

  module _ (deadline : ℕ) where
    pub margin_refused
        : {r : ℕ} → r ≡ timed_refusal body h → (r ≡ 0 → ⊥) → ◌≡◌ {A = DeadlineMargin} (record { refusal = r; margin = pos 0 }) (margin_answer body deadline h)
    unfolding margin_answer
    margin_refused e some = rw e (sym (refused (timed_refusal body h) _ _ (λ z. some (e ∙ z))))

    pub margin_given
        : timed_refusal body h ≡ 0 →
        {w : ℕ} {m : ℤ} →
        w ≡ finish (settle miss (trace_with body h)) →
        m ≡ pos deadline -ℤ pos w →
        ◌≡◌ {A = DeadlineMargin} (record { refusal = 0; margin = m }) (margin_answer body deadline h)
    unfolding margin_answer worst
    margin_given z p q = rw (q, p) (sym (accepted (timed_refusal body h) _ _ z))

module _ (first second : List ℕ) (h : ℕ) where
  pub alike_refused
      : {r : ℕ} →
      r ≡ (settled_refusal first h then settled_refusal second h) →
      (r ≡ 0 → ⊥) →
      ◌≡◌ {A = Likeness} (record { refusal = r; alike = false }) (alike_answer first second h)
  unfolding alike_answer alike_refusal
  alike_refused e some = rw e (sym (refused (settled_refusal first h then settled_refusal second h) _ _ (λ z. some (e ∙ z))))

  pub alike_given
      : settled_refusal first h ≡ 0 →
      settled_refusal second h ≡ 0 →
      {a b : ℕ} →
      a ≡ finish (trace_with first h) →
      b ≡ finish (trace_with second h) →
      ◌≡◌ {A = Likeness} (record { refusal = 0; alike = eqb a b }) (alike_answer first second h)
  unfolding alike_answer alike_refusal
  alike_given z y p q = rw (p, q) (sym (accepted (settled_refusal first h then settled_refusal second h) _ _ (then_none _ _ z ∙ y)))
