-- A scan that gives the first refusal gives `first_refusal`.
use Prim.Native.Nat.{ℕ, zero, suc, ◌+◌, ◌<◌}
use mathlib.Core.Logic.{⊎_elim}
use mathlib.Core.Path.{◌≡◌, refl, sym, ap, subst, ◌∙◌}
use native.Mathlib.Nat.{le_of_suc-le-suc, not-suc-le-zero, eq-or-lt_of_le, lt_trans, le_refl}
use native.Mathlib.Numerals.{add-one}
use Rattle.record.specs.Refusal.{◌then◌}
use Rattle.record.proofs.Refusals.{then_none, then_some, then_first}
use Rattle.job.specs.Refusal.{first_refusal}

module _ (refusal : ℕ → ℕ) where
  pub first_zero : first_refusal refusal 0 ≡ 0
  unfolding first_refusal
  first_zero = refl

  pub first_suc : (n : ℕ) → first_refusal refusal (suc n) ≡ (first_refusal refusal n then refusal n)
  unfolding first_refusal
  first_suc n = refl

  -- one more without a refusal
  pub first_more : (k : ℕ) → first_refusal refusal k ≡ 0 → refusal k ≡ 0 → first_refusal refusal (k + 1) ≡ 0
  first_more k before here = ap (first_refusal refusal) (add-one k) ∙ first_suc k ∙ then_none _ _ before ∙ here

  -- the first refusal is at k
  pub first_stop : (k n : ℕ) → k < n → first_refusal refusal k ≡ 0 → (refusal k ≡ 0 → ⊥) → first_refusal refusal n ≡ refusal k
  first_stop k zero l before here = absurd (not-suc-le-zero l)
  first_stop k (suc n) l before here =
      ⊎_elim
      (λ q. first_suc n ∙ then_none _ _ (subst (λ (m : ℕ). first_refusal refusal m ≡ 0) q before) ∙ ap refusal (sym q))
      (λ lt. let e = first_stop k n lt before here in first_suc n ∙ then_some _ _ (λ z. here (sym e ∙ z)) ∙ e)
      (eq-or-lt_of_le (le_of_suc-le-suc l))

  -- none refuses where all pass, and all pass where none refuses
  pub first_none : (n : ℕ) → ((k : ℕ) → k < n → refusal k ≡ 0) → first_refusal refusal n ≡ 0
  first_none zero all = first_zero
  first_none (suc n) all = first_suc n ∙ then_none _ _ (first_none n (λ k l. all k (lt_trans l (le_refl (suc n))))) ∙ all n (le_refl (suc n))

  pub first_at : (n : ℕ) → first_refusal refusal n ≡ 0 → (k : ℕ) → k < n → refusal k ≡ 0
  first_at zero e k l = absurd (not-suc-le-zero l)
  first_at (suc n) e k l =
      let before = then_first (first_refusal refusal n) (refusal n) (sym (first_suc n) ∙ e) in
      ⊎_elim
      (λ q. ap refusal q ∙ sym (then_none _ _ before) ∙ sym (first_suc n) ∙ e)
      (λ lt. first_at n before k lt)
      (eq-or-lt_of_le (le_of_suc-le-suc l))
