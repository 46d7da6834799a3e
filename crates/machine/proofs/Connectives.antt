-- Laws of the connectives of tests, which do not unfold by themselves. Each law takes its tests as explicit arguments, as in `and_l _ _ e`.
use Prim.Native.Nat.{ℕ, zero, suc, ◌<◌}
use native.Mathlib.Omega.{arith}
use mathlib.Core.Bool.{Bool, true, false, not, true≢false, false≢true}
use mathlib.Core.Path.{◌≡◌, refl, sym, ap, ◌∙◌}
use borrow.Author.Tests.{not-true}
use Rattle.machine.proofs.Numbers.{Tri, less, equal, more, tri}
use Rattle.machine.specs.Test.{◌and◌, ◌or◌, every, none}

-- a test does not both pass and fail
pub clash {ℓ} : {A : Type ℓ} {b : Bool} → b ≡ true → b ≡ false → A
clash t f = absurd (true≢false (sym t ∙ f))

-- a test's value, kept as an equation
pub data Value (b : Bool) : Type 0 where
  passed : b ≡ true → Value b
  failed : b ≡ false → Value b

pub value : (b : Bool) → Value b
value true = passed refl
value false = failed refl

-- two tests that imply each other are equal
pub both_ways : (a b : Bool) → (a ≡ true → b ≡ true) → (b ≡ true → a ≡ true) → a ≡ b
both_ways true b f g = sym (f refl)
both_ways false true f g = g refl
both_ways false false f g = refl

pub and_l : (a b : Bool) → a and b ≡ true → a ≡ true
unfolding ◌and◌
and_l true b e = refl
and_l false b e = e

pub and_r : (a b : Bool) → a and b ≡ true → b ≡ true
unfolding ◌and◌
and_r true b e = e
and_r false b e = clash e refl

pub and_both : (a b : Bool) → a ≡ true → b ≡ true → a and b ≡ true
unfolding ◌and◌
and_both true b p q = q
and_both false b p q = p

pub and_failed_l : (a b : Bool) → a ≡ false → a and b ≡ false
unfolding ◌and◌
and_failed_l true b e = clash refl e
and_failed_l false b e = refl

pub and_failed_r : (a b : Bool) → b ≡ false → a and b ≡ false
unfolding ◌and◌
and_failed_r true b e = e
and_failed_r false b e = refl

pub or_l : (a b : Bool) → a ≡ true → a or b ≡ true
unfolding ◌or◌
or_l true b e = refl
or_l false b e = clash e refl

pub or_r : (a b : Bool) → b ≡ true → a or b ≡ true
unfolding ◌or◌
or_r true b e = refl
or_r false b e = e

pub or_failed : (a b : Bool) → a ≡ false → b ≡ false → a or b ≡ false
unfolding ◌or◌
or_failed true b p q = p
or_failed false b p q = q

pub or_failed_l : (a b : Bool) → a or b ≡ false → a ≡ false
unfolding ◌or◌
or_failed_l true b e = e
or_failed_l false b e = refl

pub or_failed_r : (a b : Bool) → a or b ≡ false → b ≡ false
unfolding ◌or◌
or_failed_r true b e = clash refl e
or_failed_r false b e = e

-- what is left of a disjunction when its first part fails
pub or_else : (a b : Bool) → a or b ≡ true → a ≡ false → b ≡ true
unfolding ◌or◌
or_else true b e f = clash refl f
or_else false b e f = e

pub true_and : (a : Bool) → true and a ≡ a
unfolding ◌and◌
true_and a = refl

pub and_true : (a : Bool) → a and true ≡ a
unfolding ◌and◌
and_true true = refl
and_true false = refl

pub and_false : (a : Bool) → a and false ≡ false
unfolding ◌and◌
and_false true = refl
and_false false = refl

pub or_false : (a : Bool) → a or false ≡ a
unfolding ◌or◌
or_false true = refl
or_false false = refl

-- a test that must pass where a condition holds, as a disjunction
pub implied : (a b : Bool) → (a ≡ true → b ≡ true) → not a or b ≡ true
unfolding ◌or◌
implied true b h = h refl
implied false b h = refl

pub implies : (a b : Bool) → not a or b ≡ true → a ≡ true → b ≡ true
unfolding ◌or◌
implies true b e p = e
implies false b e p = clash p refl

-- Tests of every number below a bound.
step : (test : ℕ → Bool) (n : ℕ) → ((k : ℕ) → k < n → test k ≡ true) → test n ≡ true → (k : ℕ) → Tri k n → k < suc n → test k ≡ true
step test n below here k (less l) h = below k l
step test n below here k (equal e) h = rw e here
step test n below here k (more g) h = absurd (omega arith)

module _ (test : ℕ → Bool) where
  pub every_at : (n : ℕ) → every test n ≡ true → (k : ℕ) → k < n → test k ≡ true
  unfolding every
  every_at zero e k h = absurd (omega arith)
  every_at (suc n) e k h = step test n (every_at n (and_l _ _ e)) (and_r _ _ e) k (tri k n) h

  pub every_below : (n : ℕ) → ((k : ℕ) → k < n → test k ≡ true) → every test n ≡ true
  unfolding every
  every_below zero h = refl
  every_below (suc n) h = and_both _ _ (every_below n (λ k l. h k (omega arith))) (h n (omega arith))

  pub every_fails : (n k : ℕ) → k < n → test k ≡ false → every test n ≡ false
  every_fails n k h e = by (value (every test n))
    where
      by : Value (every test n) → every test n ≡ false
      by (passed p) = clash (every_at n p k h) e
      by (failed f) = f

pub none_at : (test : ℕ → Bool) (n : ℕ) → none test n ≡ true → (k : ℕ) → k < n → test k ≡ false
unfolding none
none_at test n e k h = not-true _ (every_at (λ k. not (test k)) n e k h)

pub none_below : (test : ℕ → Bool) (n : ℕ) → ((k : ℕ) → k < n → test k ≡ false) → none test n ≡ true
unfolding none
none_below test n h = every_below (λ k. not (test k)) n (λ k l. ap not (h k l))

pub none_fails : (test : ℕ → Bool) (n k : ℕ) → k < n → test k ≡ true → none test n ≡ false
unfolding none
none_fails test n k h e = every_fails (λ k. not (test k)) n k h (ap not e)

-- no number passes either of two tests: as two scans, and as one
pub none_either : (a b : ℕ → Bool) (n : ℕ) → none a n and none b n ≡ none (λ k. a k or b k) n
none_either a b n =
    both_ways _ _
    (λ e. none_below _ n (λ k h. or_failed _ _ (none_at a n (and_l _ _ e) k h) (none_at b n (and_r _ _ e) k h)))
    (λ e. and_both _ _ (none_below a n (λ k h. or_failed_l _ _ (none_at _ n e k h))) (none_below b n (λ k h. or_failed_r _ _ (none_at _ n e k h))))

-- no number passes a test, unless a condition holds: as one scan
pub none_unless : (c : Bool) (a : ℕ → Bool) (n : ℕ) → c or none a n ≡ none (λ k. not c and a k) n
unfolding ◌and◌ ◌or◌
none_unless true a n = sym (none_below _ n (λ k h. refl))
none_unless false a n = refl

pub not_passes : (b : Bool) → b ≡ false → not b ≡ true
not_passes true e = sym e
not_passes false e = refl

-- a side whose value is known can be left out
pub and_left : (a b : Bool) → a ≡ true → a and b ≡ b
unfolding ◌and◌
and_left true b e = refl
and_left false b e = absurd (false≢true e)

pub or_left : (a b : Bool) → a ≡ false → a or b ≡ b
unfolding ◌or◌
or_left true b e = absurd (false≢true (sym e))
or_left false b e = refl

-- two tests that agree below the bound pass at every number below it together
pub every_same : (f g : ℕ → Bool) (n : ℕ) → ((k : ℕ) → k < n → f k ≡ g k) → every f n ≡ every g n
unfolding every
every_same f g zero h = refl
every_same f g (suc n) h = rw (every_same f g n (λ k l. h k (omega arith)), h n (omega arith))

pub none_same : (f g : ℕ → Bool) (n : ℕ) → ((k : ℕ) → k < n → f k ≡ g k) → none f n ≡ none g n
unfolding none
none_same f g n h = every_same (λ k. not (f k)) (λ k. not (g k)) n (λ k l. ap not (h k l))

pub none_false : (n : ℕ) → none (λ k. false) n ≡ true
none_false n = none_below (λ k. false) n (λ k l. refl)

pub not_or_none : (b : Bool) (f : ℕ → Bool) (n : ℕ) → not b or none f n ≡ none (λ k. b and f k) n
unfolding ◌and◌ ◌or◌
not_or_none true f n = refl
not_or_none false f n = sym (none_false n)
