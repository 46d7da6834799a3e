-- `unknown_from` meets its contract: within the rules a flag above 1 is unknown.
use Rattle.record.proofs.Within.{within, sized, unknown_is}
use Rattle.record_rules.proofs.unknown_from.Goals as goal

pub returns : goal.returns
returns c =
    rw c.fields_of-f.ensures
    (unknown_is _ (within _ _ c.requires (sized _ _ c.fits-bytes)))
