-- The difference of two numbers of 32 bits fits 64 signed bits, so the machine's subtraction is the integers'.
use Prim.Native.Nat.{ℕ, zero, suc, ◌-◌, ◌^◌, ◌<◌}
use mathlib.Core.Bool.{Bool, true, false, cond}
use mathlib.Core.Path.{◌≡◌, ◌∙◌}
use native.Mathlib.Omega.{arith}
use lib.Dec.{ltb}
use lib.IntN.{pos, negsuc, ◌-ℤ◌}
use lib.Signed.{mag}
use mir.Syntax.{w64}
use mir.Val.{SFits, to_z, of_z}
use mir.ValLaws.{to_z_pos, to_z-of_z}

difference_below : (a b m : ℕ) → a < m → b < m → mag (pos a -ℤ pos b) < m
difference_below a zero m l h = omega arith
difference_below a (suc n) m l h = go (ltb a (suc n))
  where
    go : (t : Bool) → mag (cond t (negsuc (suc n - suc a)) (pos (a - suc n))) < m
    go true = omega arith
    go false = omega arith

module _ (a b : ℕ) (l : a < 2 ^ 32) (h : b < 2 ^ 32) where
  fits : SFits w64 (pos a -ℤ pos b)
  fits = let small = difference_below a b (2 ^ 32) l h in record { sfits = omega arith }

  pub difference_fits : SFits w64 (to_z w64 a -ℤ to_z w64 b)
  difference_fits = rw (to_z_pos w64 a (omega arith), to_z_pos w64 b (omega arith)) fits

  pub difference_is : to_z w64 (of_z w64 (to_z w64 a -ℤ to_z w64 b)) ≡ pos a -ℤ pos b
  difference_is = to_z-of_z w64 (to_z w64 a -ℤ to_z w64 b) difference_fits ∙ rw (to_z_pos w64 a (omega arith), to_z_pos w64 b (omega arith))
