-- `put_record` meets its contract: the record is copied into the part of the body that starts at its place.
use Rattle.std.proofs.Common.{◌*◌, ◌+◌, refl, ◌∙◌}
use Rattle.record.specs.Body.{with_record}
use Rattle.record.specs.Layout.{record_size, record_bytes}
use Rattle.little_endian.proofs.Placed.{put_part}
use Rattle.record.proofs.writing.put_record.Goals as goal

pub returns : goal.returns
unfolding with_record record_bytes
returns c =
    put_part (record_bytes c.args.f) _ _ (c.args.k * record_size) (c.args.k * record_size + record_size) refl
    (c.copy_from_slice.ensures.after ∙ c.record_bytes-record.ensures)
