-- The encoding of lawful instructions is bytes: each of a record's ten numbers is below 256.
use Prim.Native.Nat.{ℕ, zero, suc, ◌<◌, suc-le-suc}
use mathlib.Core.List.{List, [], ◌∷◌, ◌++◌}
use native.Mathlib.Nat.{zero-lt-suc}
use native.Mathlib.Omega.{arith}
use lib.ListN.{length}
use Rattle.machine.specs.Instruction.{Instruction, Trace, instruction}
use Rattle.record.specs.Rules.{fields_of}
use Rattle.record.specs.Layout.{fields_from, record_bytes}
use Rattle.record.specs.Body.{Bytes, breaks_at}
use Rattle.encoding.specs.Encoding.{record_of, body_of}
use Rattle.encoding.specs.Claims.{Lawful}
use Rattle.encoding.proofs.Numbers.{kind_number_le, flag_number_le}
use Rattle.record.proofs.Within.{registers_within}

-- the same as `Bytes`, number by number
abbrev pub Small : List ℕ → Type 0
Small [] = Unit {0}
Small (x ∷ numbers) = (x < 256) × Small numbers

small_append : (a b : List ℕ) → Small a → Small b → Small (a ++ b)
small_append [] b p q = q
small_append (x ∷ a) b p q = (p.0, small_append a b p.1 q)

pub small_bytes : (numbers : List ℕ) → Small numbers → Bytes numbers
small_bytes [] s n = omega arith
small_bytes (x ∷ numbers) s zero = s.0
small_bytes (x ∷ numbers) s (suc n) = small_bytes numbers s.1 n

record_small : (i : Instruction) → Lawful i → Small (record_of i)
unfolding record_of record_bytes fields_of breaks_at fields_from
record_small i h =
    let registers = registers_within _ _ h.rules in
    omega (arith, kind_number_le i.kind, flag_number_le i.fetch, flag_number_le i.access)

body_small : (trace : Trace) → ((k : ℕ) → k < length trace → Lawful (instruction trace k)) → Small (body_of trace)
unfolding body_of
body_small [] lawful = tt
body_small (i ∷ trace) lawful =
    small_append
    (record_of i)
    (body_of trace)
    (record_small i (lawful 0 (zero-lt-suc (length trace))))
    (body_small trace (λ k l. lawful (suc k) (suc-le-suc l)))

pub encoding_is_bytes : (trace : Trace) → ((k : ℕ) → k < length trace → Lawful (instruction trace k)) → Bytes (body_of trace)
encoding_is_bytes trace lawful = small_bytes (body_of trace) (body_small trace lawful)
