-- A record's fields, and whether it breaks its rules, depend on its ten bytes only, not on where they are.
use Prim.Native.Nat.{ℕ, ◌+◌, ◌*◌, ◌<◌}
use mathlib.Core.List.{List}
use mathlib.Core.Path.{◌≡◌}
use native.Mathlib.Nat.{add_assoc}
use native.Mathlib.Omega.{arith}
use Rattle.little_endian.specs.Numbers.{byte}
use Rattle.record.specs.Layout.{record_size, flags_at, fetch_latency_at, data_latency_at, fields_from}
use Rattle.record.specs.Body.{breaks_at}

pub fields_alike
    : (a b : List ℕ) (p q : ℕ) → ((j : ℕ) → j < record_size → byte a (p + j) ≡ byte b (q + j)) → fields_from a p ≡ fields_from b q
unfolding fields_from
fields_alike a b p q h =
    rw (
      add_assoc p fetch_latency_at 1,
      add_assoc p data_latency_at 1,
      add_assoc q fetch_latency_at 1,
      add_assoc q data_latency_at 1,
      h 0 (omega arith),
      h 1 (omega arith),
      h 2 (omega arith),
      h 3 (omega arith),
      h 4 (omega arith),
      h 5 (omega arith),
      h 6 (omega arith),
      h 7 (omega arith),
      h 8 (omega arith),
      h 9 (omega arith),
    )

pub breaks_alike
    : (a b : List ℕ) (k m : ℕ) →
    ((j : ℕ) → j < record_size → byte a (k * record_size + j) ≡ byte b (m * record_size + j)) →
    breaks_at a k ≡ breaks_at b m
unfolding breaks_at
breaks_alike a b k m h = rw (fields_alike a b _ _ h, h flags_at (omega arith))
