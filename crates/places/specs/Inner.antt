-- What the crate's places stand for in the rules.
use Rattle.machine.specs.Named.{stage_named}
use Rattle.machine.specs.Rules as Rules
use Rattle.places.specs.declared.places.Place.{Place}

abbrev pub place_named : Place → Rules.Place
place_named p = record { stage = stage_named p.stage; count = p.count }
