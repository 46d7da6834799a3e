-- `last_stage` meets its contract: the stage after MEM, by the kind.
use mathlib.Core.Path.{ap, ◌∙◌}
use Rattle.machine.specs.Instruction.{Kind}
use Rattle.machine.specs.Rules.{MEM, next}
use Rattle.places.proofs.places.last_stage.Goals as goal

pub returns : goal.returns
returns c = c.next.ensures ∙ ap (λ (kind : Kind). next kind MEM) c.kind.ensures
