-- Numbers below a bound: their order as types to match on, strong induction, and the greatest and the sum of a function's values.
use Prim.Native.Nat.{ℕ, zero, suc, ◌+◌, ◌≤◌, ◌<◌, max}
use mathlib.Core.Path.{◌≡◌, refl, sym, ap, ap₂, subst}
use native.Mathlib.Omega.{arith}

-- the order of two numbers
pub data Tri (a c : ℕ) : Type 0 where
  less : a < c → Tri a c
  equal : a ≡ c → Tri a c
  more : c < a → Tri a c

pub tri : (a c : ℕ) → Tri a c
tri zero zero = equal refl
tri zero (suc c) = less (omega arith)
tri (suc a) zero = more (omega arith)
tri (suc a) (suc c) = up (tri a c)
  where
    up : Tri a c → Tri (suc a) (suc c)
    up (less l) = less (omega arith)
    up (equal e) = equal (ap suc e)
    up (more l) = more (omega arith)

-- a number below suc n is below n or is n
pub data Last (k n : ℕ) : Type 0 where
  below : k < n → Last k n
  at : k ≡ n → Last k n

pub last : (k n : ℕ) → k < suc n → Last k n
last zero zero h = at refl
last zero (suc n) h = below (omega arith)
last (suc k) zero h = absurd (omega arith)
last (suc k) (suc n) h = up (last k n (omega arith))
  where
    up : Last k n → Last (suc k) (suc n)
    up (below l) = below (omega arith)
    up (at e) = at (omega arith)

-- strong induction
all_below : (P : ℕ → Type 0) → ((i : ℕ) → ((j : ℕ) → j < i → P j) → P i) → (n i : ℕ) → i < n → P i
all_below P step zero i l = absurd (omega arith)
all_below P step (suc n) i l = step i (λ j m. all_below P step n j (omega arith))

pub by_age : (P : ℕ → Type 0) → ((i : ℕ) → ((j : ℕ) → j < i → P j) → P i) → (i : ℕ) → P i
by_age P step i = all_below P step (suc i) i (omega arith)

-- the greatest of a base and of f's values below n
unfoldable pub greatest : ℕ → (ℕ → ℕ) → ℕ → ℕ
greatest base f zero = base
greatest base f (suc n) = max (greatest base f n) (f n)

pub base_greatest : (base : ℕ) (f : ℕ → ℕ) (n : ℕ) → base ≤ greatest base f n
unfolding greatest
base_greatest base f zero = omega arith
base_greatest base f (suc n) = let h = base_greatest base f n in omega arith

pub le_greatest : (base : ℕ) (f : ℕ → ℕ) (n k : ℕ) → k < n → f k ≤ greatest base f n
unfolding greatest
le_greatest base f zero k l = absurd (omega arith)
le_greatest base f (suc n) k l = pick (le_greatest base f n k) (last k n l)
  where
    pick : (k < n → f k ≤ greatest base f n) → Last k n → f k ≤ max (greatest base f n) (f n)
    pick ih (below m) = let h = ih m in omega arith
    pick ih (at e) = subst (λ (x : ℕ). f x ≤ max (greatest base f n) (f n)) (sym e) (omega arith)

-- the same with a number added on the left, so that no subtraction is needed where two times are compared
pub greatest_le : (base : ℕ) (f : ℕ → ℕ) (n a m : ℕ) → base + a ≤ m → ((k : ℕ) → k < n → f k + a ≤ m) → greatest base f n + a ≤ m
unfolding greatest
greatest_le base f zero a m b h = b
greatest_le base f (suc n) a m b h =
    let p = greatest_le base f n a m b (λ k l. h k (omega arith)) in
    let q = h n (omega arith) in
    omega arith

pub greatest_same : (base : ℕ) (f g : ℕ → ℕ) (n : ℕ) → ((k : ℕ) → k < n → f k ≡ g k) → greatest base f n ≡ greatest base g n
unfolding greatest
greatest_same base f g zero h = refl
greatest_same base f g (suc n) h = ap₂ max (greatest_same base f g n (λ k l. h k (omega arith))) (h n (omega arith))

-- the sum of f's values below n
unfoldable pub sum : (ℕ → ℕ) → ℕ → ℕ
sum f zero = 0
sum f (suc n) = sum f n + f n

-- where every value is no less, the sum grows by no less from n to m
pub sum_grows : (f g : ℕ → ℕ) → ((k : ℕ) → f k ≤ g k) → (m n : ℕ) → n ≤ m → sum f m + sum g n ≤ sum g m + sum f n
unfolding sum
sum_grows f g h zero zero l = omega arith
sum_grows f g h zero (suc n) l = absurd (omega arith)
sum_grows f g h (suc m) n l = pick (sum_grows f g h m n) (last n (suc m) (omega arith))
  where
    pick : (n ≤ m → sum f m + sum g n ≤ sum g m + sum f n) → Last n (suc m) → sum f (suc m) + sum g n ≤ sum g (suc m) + sum f n
    pick ih (below k) = let a = ih (omega arith) in let b = h m in omega arith
    pick ih (at e) = subst (λ (x : ℕ). sum f (suc m) + sum g x ≤ sum g (suc m) + sum f x) (sym e) (omega arith)

pub sum_mono : (f : ℕ → ℕ) (m n : ℕ) → n ≤ m → sum f n ≤ sum f m
unfolding sum
sum_mono f zero zero l = omega arith
sum_mono f zero (suc n) l = absurd (omega arith)
sum_mono f (suc m) n l = pick (sum_mono f m n) (last n (suc m) (omega arith))
  where
    pick : (n ≤ m → sum f n ≤ sum f m) → Last n (suc m) → sum f n ≤ sum f (suc m)
    pick ih (below k) = let a = ih (omega arith) in omega arith
    pick ih (at e) = subst (λ (x : ℕ). sum f x ≤ sum f (suc m)) (sym e) (omega arith)

-- the first value taken out of the sum
pub sum_first : (f : ℕ → ℕ) (n : ℕ) → sum f (suc n) ≡ f 0 + sum (λ k. f (suc k)) n
unfolding sum
sum_first f zero = omega arith
sum_first f (suc n) = let h = sum_first f n in omega arith
