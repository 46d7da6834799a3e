-- The fields of a record's bytes are the fields that they were made of: by arithmetic on the two flags in one byte.
use Prim.Native.Nat.{ℕ, ◌+◌, ◌*◌, ◌/◌, ◌%◌, ◌<◌}
use mathlib.Core.Path.{◌≡◌}
use native.Mathlib.Omega.{arith}
use Rattle.little_endian.proofs.Halves.{half_of_bytes}
use Rattle.record.specs.Layout.{fields_from, record_bytes}
use Rattle.record.specs.Claims.{WrittenIsRead}

module _ (fetch access : ℕ) (l : fetch < 4) (m : access < 4) where
  fetch_again : (fetch + 4 * access) % 4 ≡ fetch
  fetch_again = omega arith

  access_again : (fetch + 4 * access) / 4 % 4 ≡ access
  access_again = omega arith

pub written_is_read : WrittenIsRead
unfolding fields_from record_bytes
written_is_read f fits =
    rw (
      fetch_again f.fetch f.access fits.fetch fits.access,
      access_again f.fetch f.access fits.fetch fits.access,
      half_of_bytes f.fetch_latency,
      half_of_bytes f.data_latency,
    )
