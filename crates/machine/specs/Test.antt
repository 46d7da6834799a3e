-- Connectives of tests that compute, and a test of every number below a bound. A proof unfolds them only where it asks to.
use Rattle.std.specs.Prelude.{ℕ, zero, suc, Bool, true, false, not}

infixl 35 ◌and◌
infixl 30 ◌or◌
unfoldable pub ◌and◌ : Bool → Bool → Bool
true and b = b
false and b = false

unfoldable pub ◌or◌ : Bool → Bool → Bool
true or b = true
false or b = b

-- the test passes at every number below n
unfoldable pub every : (ℕ → Bool) → ℕ → Bool
every test zero = true
every test (suc n) = every test n and test n

-- the test passes at no number below n
unfoldable pub none : (ℕ → Bool) → ℕ → Bool
none test n = every (λ k. not (test k)) n
