-- `kind_number` meets its contract: kind by kind.
use Rattle.decode.proofs.Enums.{kind_enum}
use Rattle.decode.proofs.kinds.kind_number.Goals as goal

pub returns : goal.returns
returns c = kind_enum c.args.kind
