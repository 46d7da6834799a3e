-- `record_bytes` meets its contract: the bytes are those of the layout.
use Rattle.std.proofs.Common.{refl}
use Rattle.record.specs.Layout.{record_bytes}
use Rattle.record.proofs.writing.record_bytes.Goals as goal

pub returns : goal.returns
unfolding record_bytes
returns c = refl
