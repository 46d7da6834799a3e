-- `moves` and `will_be_free` call each other, the distance to post falling.
use Rattle.std.proofs.Common.{suc}
use Rattle.machine.specs.Named.{stage_named}
use Rattle.machine.specs.Rules.{budget}
use Rattle.moving.proofs.moving.Traffic.+moves_will_be_free.Given as goal

abbrev pub decreases-moves : goal.decreases-moves
decreases-moves l = budget (stage_named l.stage)

abbrev pub decreases-will_be_free : goal.decreases-will_be_free
decreases-will_be_free l = suc (budget (stage_named l.stage))
