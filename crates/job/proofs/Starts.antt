-- Where bodies start, by the number of instructions before them.
use Prim.Native.Nat.{ℕ, zero, suc, ◌+◌, ◌*◌, ◌<◌, ◌≤◌}
use mathlib.Core.Logic.{⊎_elim}
use mathlib.Core.Path.{◌≡◌, refl, sym, ap, subst}
use native.Mathlib.Nat.{le_of_suc-le-suc, eq-or-lt_of_le, le_refl}
use native.Mathlib.Numerals.{add-one}
use native.Mathlib.Omega.{arith}
use Rattle.record.specs.Layout.{record_size}
use Rattle.job.specs.Layout.{entry_at, before, body_start}
use Rattle.job.proofs.Entries.{start_zero, start_suc}

pub before_zero : (count : ℕ → ℕ) → before count 0 ≡ 0
unfolding before
before_zero count = refl

pub before_more : (count : ℕ → ℕ) (t : ℕ) → before count (t + 1) ≡ before count t + count t
unfolding before
before_more count t = ap (before count) (add-one t)

module _ (T : ℕ) (count : ℕ → ℕ) where
  pub start_before : (t : ℕ) → body_start T count t ≡ entry_at T + record_size * before count t
  unfolding before
  start_before zero = let e = start_zero T count in omega arith
  start_before (suc t) = let e = start_suc T count t in let h = start_before t in omega arith

  pub before_mono : (t n : ℕ) → t ≤ n → before count t ≤ before count n
  unfolding before
  before_mono t zero l = subst (λ (m : ℕ). before count m ≤ 0) (sym (zero_only l)) (le_refl 0)
    where
      zero_only : t ≤ 0 → t ≡ 0
      zero_only h = omega arith
  before_mono t (suc n) l =
      ⊎_elim
      (λ e. subst (λ (m : ℕ). before count t ≤ before count m) e (le_refl (before count t)))
      (λ lt. let h = before_mono t n (le_of_suc-le-suc lt) in omega arith)
      (eq-or-lt_of_le l)

  -- a body ends where the next starts, at or before the last body's end
  pub start_le : (t n : ℕ) → t ≤ n → body_start T count t ≤ body_start T count n
  start_le t n l =
      let a = start_before t in
      let b = start_before n in
      let h = before_mono t n l in
      omega arith

-- counts that agree below t give the same start
pub before_same : (f g : ℕ → ℕ) (t : ℕ) → ((k : ℕ) → k < t → f k ≡ g k) → before f t ≡ before g t
unfolding before
before_same f g zero h = refl
before_same f g (suc t) h =
    let a = before_same f g t (λ k l. h k (omega arith)) in
    let b = h t (omega arith) in
    omega arith
