-- `flag_number` meets its contract: flag by flag.
use Rattle.decode.proofs.Enums.{flag_enum}
use Rattle.decode.proofs.kinds.flag_number.Goals as goal

pub returns : goal.returns
returns c = flag_enum c.args.flag
