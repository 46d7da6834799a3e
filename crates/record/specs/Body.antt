-- The body: its records, the trace that it stands for, and the refusals that every call shares.
use Rattle.std.specs.Prelude.{ℕ, Result, Ok, Err, zero, suc, ◌+◌, ◌*◌, ◌/◌, ◌%◌, ◌<◌, Bool, ◌&&◌, cond, List, [], ◌∷◌, ◌++◌, ltb, leb, eqb, length, take, drop}
use Rattle.machine.specs.Test.{none}
use Rattle.machine.specs.Instruction.{Trace}
use Rattle.machine.specs.Hits.{with_hits}
use Rattle.machine.specs.State.{max_instructions}
use Rattle.record.specs.Refusal.{◌then◌, ◌unless◌, broken_record, out_of_range, wrong_length, unknown_flag, long_hit}
use Rattle.little_endian.specs.Numbers.{byte}
use Rattle.record.specs.Layout.{record_size, flags_at, fields_from, record_bytes}
use Rattle.record.specs.Rules.{breaks_rules, has_unknown, not_above, instruction_of}
use Rattle.record.specs.declared.layout.Fields.{Fields}
use Rattle.record.specs.declared.layout.Read.{Read}
use Rattle.record.specs.declared.refusal.Refusal.{Refusal}
use Rattle.record.specs.Number.{number}

-- each number is a byte
abbrev pub Bytes : List ℕ → Type 0
Bytes bytes = (k : ℕ) → byte bytes k < 256

-- how many whole records there are
abbrev pub records : List ℕ → ℕ
records body = length body / record_size

-- record k's fields, and whether it breaks its rules or has an unknown flag
abbrev pub fields_at : List ℕ → ℕ → Fields
fields_at body k = fields_from body (k * record_size)

unfoldable pub breaks_at : List ℕ → ℕ → Bool
breaks_at body k = breaks_rules (fields_at body k) (byte body (k * record_size + flags_at))

unfoldable pub unknown_at : List ℕ → ℕ → Bool
unknown_at body k = has_unknown (fields_at body k)

unfoldable pub not_above_at : List ℕ → ℕ → ℕ → Bool
not_above_at body h k = not_above (fields_at body k) h

-- the body with other fields in record k
unfoldable pub with_record : List ℕ → ℕ → Fields → List ℕ
with_record body k f = take (k * record_size) body ++ record_bytes f ++ drop (k * record_size + record_size) body

-- f 0, f 1, .. f (n - 1)
module _ {A : Type 0} where
  unfoldable pub firsts : (ℕ → A) → ℕ → List A
  firsts f zero = []
  firsts f (suc n) = firsts f n ++ (f n ∷ [])

-- the trace that a body stands for
unfoldable pub trace_of : List ℕ → Trace
trace_of body = firsts (λ k. instruction_of (fields_at body k)) (records body)

-- the same, if a data hit takes h cycles: document 02, F-4
abbrev pub trace_with : List ℕ → ℕ → Trace
trace_with body h = with_hits h (trace_of body)

-- "h more cycles, 0 to 15"
abbrev pub max_hit_cycles : ℕ
max_hit_cycles = 15

-- "10 length not ten times a number up to 4,096"
unfoldable pub length_refusal : List ℕ → ℕ
length_refusal body = wrong_length unless (eqb (length body % record_size) 0 && leb (records body) max_instructions)

-- "8": a record breaks its rules
unfoldable pub record_refusal : List ℕ → ℕ
record_refusal body = broken_record unless none (breaks_at body) (records body)

-- "11 an unknown flag"
unfoldable pub unknown_refusal : List ℕ → ℕ
unknown_refusal body = unknown_flag unless none (unknown_at body) (records body)

-- "17, after 8: h above 15, or a load or store whose data latency is not above h"
unfoldable pub hit_refusal : List ℕ → ℕ → ℕ
hit_refusal body h = long_hit unless (leb h max_hit_cycles && none (not_above_at body h) (records body))

-- "10, 8"
unfoldable pub body_refusal : List ℕ → ℕ
body_refusal body = length_refusal body then record_refusal body

-- "10, 8, 11"
unfoldable pub known_refusal : List ℕ → ℕ
known_refusal body = body_refusal body then unknown_refusal body

-- "10, 8", then 17
unfoldable pub timed_refusal : List ℕ → ℕ → ℕ
timed_refusal body h = body_refusal body then hit_refusal body h

-- "10, 8", then 17, then "11"
unfoldable pub settled_refusal : List ℕ → ℕ → ℕ
settled_refusal body h = timed_refusal body h then unknown_refusal body

-- "A refusal gives its number, zeros for numbers"
abbrev pub no_fields : Fields
no_fields =
    record {
      kind = 0;
      fetch = 0;
      access = 0;
      source1 = 0;
      source2 = 0;
      target = 0;
      execution = 0;
      fetch_latency = 0;
      data_latency = 0;
    }

-- the fields with 0, or the refusal's number with zeros
abbrev pub read_in : Result Fields Refusal → Read
read_in (Ok f) = record { refusal = 0; fields = f }
read_in (Err r) = record { refusal = number r; fields = no_fields }

-- "9 if k is not below the part's length divided by ten, rounded down. The fields are the bytes as they stand"
unfoldable pub read_answer : List ℕ → ℕ → Read
read_answer body k =
    cond (ltb k (records body))
    (record { refusal = 0; fields = fields_at body k })
    (record { refusal = out_of_range; fields = no_fields })
