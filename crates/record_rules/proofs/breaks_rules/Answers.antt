-- `breaks_rules` meets its contract: the limits that depend on the kind are the rules.
use Rattle.record_rules.proofs.Limits.{limits}
use Rattle.record_rules.proofs.breaks_rules.Goals as goal

pub returns : goal.returns
returns c =
    limits
    _
    _
    _
    _
    _
    _
    c.fields_of-f.ensures
    c.byte_at-flags.ensures.0
    c.choose.ensures
    c.choose-2.ensures
