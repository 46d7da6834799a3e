-- The fields that are read of an instruction's record are the instruction's.
use mathlib.Core.Path.{◌≡◌}
use Rattle.machine.specs.Instruction.{Instruction}
use Rattle.record.specs.Layout.{fields_from, record_bytes}
use Rattle.record.specs.Rules.{fields_of}
use Rattle.little_endian.proofs.Halves.{half_of_bytes}
use Rattle.encoding.specs.Encoding.{record_of}
use Rattle.encoding.proofs.Numbers.{fetch_of_flags, access_of_flags}

pub fields_of_lem : (i : Instruction) → fields_from (record_of i) 0 ≡ fields_of i
unfolding fields_from record_of record_bytes fields_of
fields_of_lem i =
    rw (
      fetch_of_flags i.fetch i.access,
      access_of_flags i.fetch i.access,
      half_of_bytes i.fetch_latency,
      half_of_bytes i.data_latency,
    )
