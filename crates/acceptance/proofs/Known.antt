-- What 8, then 11, in one number tells: whether a record breaks its rules, and if none does, whether a flag is unknown.
use Prim.Native.Nat.{ℕ}
use mathlib.Core.Bool.{Bool, true, false}
use mathlib.Core.Path.{◌≡◌, refl}
use native.Mathlib.Omega.{arith}
use Rattle.record.specs.Refusal.{◌then◌, ◌unless◌, broken_record, unknown_flag}

module _ (lawful known : Bool) {r : ℕ} where
  pub broken : r ≡ (broken_record unless lawful then unknown_flag unless known) → r ≡ broken_record → broken_record ≡ (broken_record unless lawful)
  unfolding ◌unless◌ ◌then◌
  broken e z = by lawful known e
    where
      by : (lawful known : Bool) → r ≡ (broken_record unless lawful then unknown_flag unless known) → broken_record ≡ (broken_record unless lawful)
      by true true e = omega (arith, e, z)
      by true false e = omega (arith, e, z)
      by false known e = refl

  pub fine : r ≡ (broken_record unless lawful then unknown_flag unless known) → (r ≡ broken_record → ⊥) → (0 ≡ (broken_record unless lawful)) × (r ≡ (unknown_flag unless known))
  unfolding ◌unless◌ ◌then◌
  fine e h = by lawful known e
    where
      by : (lawful known : Bool) → r ≡ (broken_record unless lawful then unknown_flag unless known) → (0 ≡ (broken_record unless lawful)) × (r ≡ (unknown_flag unless known))
      by true known e = (refl, e)
      by false known e = absurd (h e)
