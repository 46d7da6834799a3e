-- A loop that looks for the first number at which a test passes, compared with `none`: its invariant at the start and after a turn, and the refusal
-- that it gives.
use Prim.Native.Nat.{ℕ, ◌+◌, ◌<◌, ◌≤◌}
use mathlib.Core.Bool.{Bool, true, false, not, ◌||◌}
use mathlib.Core.Path.{◌≡◌, refl, sym, ap, subst}
use native.Mathlib.Nat.{le_antisymm}
use native.Mathlib.Numerals.{add-one}
use Rattle.machine.specs.Test.{◌and◌, every, none}
use Rattle.machine.proofs.Connectives.{none_fails}
use Rattle.record.specs.Refusal.{◌unless◌}

joined : (a b : Bool) → (not a and not b) ≡ not (a || b)
unfolding ◌and◌
joined true b = refl
joined false b = refl

module _ (test : ℕ → Bool) where
  pub none_zero : none test 0 ≡ true
  unfolding none every
  none_zero = refl

  -- the test fails once more
  pub none_more : (k : ℕ) → none test k ≡ true → test k ≡ false → none test (k + 1) ≡ true
  unfolding none every ◌and◌
  none_more k before here = rw (add-one k) (rw (before, here))

  -- whether the test has passed so far, or passes now
  pub none_joined : (k : ℕ) (found here : Bool) → none test k ≡ not found → here ≡ test k → none test (k + 1) ≡ not (found || here)
  unfolding none every
  none_joined k found here before now = rw (add-one k) (rw (before, sym now) (joined found here))

  pub scan_refused : (refusal k n : ℕ) → k < n → test k ≡ true → refusal ≡ (refusal unless none test n)
  unfolding ◌unless◌
  scan_refused refusal k n l e = rw (none_fails test n k l e)

  pub scan_passed : (refusal k n : ℕ) → none test k ≡ true → n ≤ k → k ≤ n → 0 ≡ (refusal unless none test n)
  unfolding ◌unless◌
  scan_passed refusal k n e up down = rw (subst (λ (m : ℕ). none test m ≡ true) (le_antisymm down up) e)

  -- at the end the test that was joined decides
  pub scan_end : (refusal k n : ℕ) {ok : Bool} → none test k ≡ ok → n ≤ k → k ≤ n → (refusal unless ok) ≡ (refusal unless none test n)
  scan_end refusal k n {ok} e up down = ap (λ (b : Bool). refusal unless b) (sym (subst (λ (m : ℕ). none test m ≡ ok) (le_antisymm down up) e))
