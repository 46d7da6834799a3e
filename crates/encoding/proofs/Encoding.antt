-- Which byte is at each index in the body of a trace, by induction on its length.
use Prim.Native.Nat.{ℕ, zero, suc, ◌+◌, ◌*◌, ◌<◌}
use mathlib.Core.List.{[], ◌∷◌}
use mathlib.Core.Path.{◌≡◌, refl, ◌∙◌}
use native.Mathlib.Nat.{le_of_suc-le-suc, not-suc-le-zero, zero-add}
use native.Mathlib.Omega.{arith}
use lib.ListN.{length, length-append, get_or-append}
use lib.Seq.{get_or-append-add}
use Rattle.machine.specs.Instruction.{Instruction, Trace, instruction}
use Rattle.little_endian.specs.Numbers.{byte}
use Rattle.record.specs.Rules.{fields_of}
use Rattle.record.specs.Layout.{record_size, record_bytes}
use Rattle.record.specs.Body.{records}
use Rattle.encoding.specs.Encoding.{record_of, body_of}

-- the body of a trace has ten bytes for each instruction
pub length_record_of : (i : Instruction) → length (record_of i) ≡ record_size
unfolding record_of record_bytes fields_of
length_record_of i = refl

pub length_body_of : (trace : Trace) → length (body_of trace) ≡ length trace * record_size
unfolding body_of
length_body_of [] = refl
length_body_of (i ∷ trace) = rw (length-append, length_record_of, length_body_of trace) (omega arith)

pub records_body_of : (trace : Trace) → records (body_of trace) ≡ length trace
records_body_of trace = rw (length_body_of trace) (omega arith)

pub byte_body_of
    : (trace : Trace) (k j : ℕ) →
    k < length trace →
    j < record_size →
    byte (body_of trace) (k * record_size + j) ≡ byte (record_of (instruction trace k)) j
unfolding body_of
byte_body_of [] k j l u = absurd (not-suc-le-zero l)
byte_body_of (i ∷ trace) zero j l u = rw (zero-add j) (get_or-append (record_of i) (body_of trace) 0 j (rw length_record_of u))
byte_body_of (i ∷ trace) (suc k) j l u =
    let at : suc k * record_size + j ≡ length (record_of i) + (k * record_size + j) = rw length_record_of (omega arith) in
    rw at (get_or-append-add (record_of i) (body_of trace) (k * record_size + j) 0)
    ∙ byte_body_of trace k j (le_of_suc-le-suc l) u
