-- A bit as a number.
use Prim.Native.Nat.{ℕ, ◌≤◌}
use native.Mathlib.Omega.{arith}
use mathlib.Core.Bool.{Bool, true, false, cond}
use mathlib.Core.Path.{◌≡◌}
use mir.Val.{bool_byte}

abbrev pub number : Bool → ℕ
number b = cond b 1 0

-- what `u64::from` gives
pub from_bit : {n : ℕ} (b : Bool) → n ≡ bool_byte b → n ≡ number b
from_bit true e = e
from_bit false e = e

pub small : (b : Bool) → number b ≤ 1
small true = omega arith
small false = omega arith
