-- Writing a number as two bytes and reading them gives it back, and so does reading and writing: by arithmetic on remainders.
use Prim.Native.Nat.{ℕ, ◌+◌, ◌*◌, ◌/◌, ◌%◌, ◌<◌}
use mathlib.Core.Path.{◌≡◌}
use native.Mathlib.Omega.{arith}
use Rattle.little_endian.specs.Numbers.{half, half_bytes}

-- written, then read
pub half_of_bytes : (n : ℕ) → half (half_bytes n) 0 ≡ n
half_of_bytes n = omega arith

-- read, then written
module _ (low high : ℕ) (small : low < 256) where
  pub low_of_half : (low + 256 * high) % 256 ≡ low
  low_of_half = omega arith

  pub high_of_half : (low + 256 * high) / 256 ≡ high
  high_of_half = omega arith
