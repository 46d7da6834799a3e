-- `fields_of` meets its contract, field by field, so that a wrong field is refused at its own line.
use Rattle.std.proofs.Common.{ap, ℕ, ◌/◌, ◌%◌}
use Rattle.record.specs.Layout.{fields_from}
use Rattle.record.proofs.layout.fields_of.Goals as goal

pub returns : goal.returns
unfolding fields_from
returns c =
    let flags = c.byte_at-flags.ensures.0 in
    λ i.
    record {
      kind = c.byte_at.ensures.0 i;
      fetch = ap (λ (n : ℕ). n % 4) flags i;
      access = ap (λ (n : ℕ). n / 4 % 4) flags i;
      source1 = c.byte_at-2.ensures.0 i;
      source2 = c.byte_at-3.ensures.0 i;
      target = c.byte_at-4.ensures.0 i;
      execution = c.byte_at-5.ensures.0 i;
      fetch_latency = c.half_at.ensures.0 i;
      data_latency = c.half_at-2.ensures.0 i;
    }
