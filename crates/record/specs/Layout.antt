-- The instruction record, byte by byte: document 01, "Job file and instruction record".
use Rattle.std.specs.Prelude.{ℕ, ◌+◌, ◌*◌, ◌/◌, ◌%◌, ◌<◌, List, ◌∷◌, ◌++◌}
use Rattle.little_endian.specs.Numbers.{byte, half, half_bytes}
use Rattle.record.specs.declared.layout.Fields.{Fields}

-- "A body holds ten bytes for each instruction."
abbrev pub record_size : ℕ
record_size = 10

-- "Byte 0, kind", "Byte 1, flags", "Bytes 2 and 3, source registers; byte 4, target register", "Byte 5, execution latency", "Bytes 6 and 7, fetch
-- latency", "Bytes 8 and 9, data latency"
abbrev pub kind_at : ℕ
kind_at = 0

abbrev pub flags_at : ℕ
flags_at = 1

abbrev pub source1_at : ℕ
source1_at = 2

abbrev pub source2_at : ℕ
source2_at = 3

abbrev pub target_at : ℕ
target_at = 4

abbrev pub execution_at : ℕ
execution_at = 5

abbrev pub fetch_latency_at : ℕ
fetch_latency_at = 6

abbrev pub data_latency_at : ℕ
data_latency_at = 8

-- The nine fields of the record that starts at a byte, as the bytes stand. "bits 0 and 1 the fetch, bits 2 and 3 the data access"
unfoldable pub fields_from : List ℕ → ℕ → Fields
fields_from bytes at =
    record {
      kind = byte bytes (at + kind_at);
      fetch = byte bytes (at + flags_at) % 4;
      access = byte bytes (at + flags_at) / 4 % 4;
      source1 = byte bytes (at + source1_at);
      source2 = byte bytes (at + source2_at);
      target = byte bytes (at + target_at);
      execution = byte bytes (at + execution_at);
      fetch_latency = half bytes (at + fetch_latency_at);
      data_latency = half bytes (at + data_latency_at);
    }

-- The same the other way: the bytes of a record with these fields
unfoldable pub record_bytes : Fields → List ℕ
record_bytes f =
    f.kind
    ∷ (f.fetch + 4 * f.access)
    ∷ f.source1
    ∷ f.source2
    ∷ f.target
    ∷ f.execution
    ∷ half_bytes f.fetch_latency ++ half_bytes f.data_latency

-- each field fits its place: a byte, two bits for a flag, two bytes for a latency
pub record Fits (f : Fields) : Type 0 where
  pub kind : f.kind < 256
  pub fetch : f.fetch < 4
  pub access : f.access < 4
  pub source1 : f.source1 < 256
  pub source2 : f.source2 < 256
  pub target : f.target < 256
  pub execution : f.execution < 256
  pub fetch_latency : f.fetch_latency < 65536
  pub data_latency : f.data_latency < 65536
