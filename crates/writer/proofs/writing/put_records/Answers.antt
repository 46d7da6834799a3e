-- `put_records` meets its contract: the records are copied into the part of the output that starts at their position.
use Rattle.std.proofs.Common.{◌+◌, length, refl}
use Rattle.little_endian.proofs.Placed.{put_part}
use Rattle.writer.proofs.writing.put_records.Goals as goal

pub returns : goal.returns
returns c =
    put_part c.args.records.now _ _ c.args.at (c.args.at + length c.args.records.now) refl c.copy_from_slice.ensures.after
