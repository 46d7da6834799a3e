-- `pending` meets its contract: short of the stage that the kind names, with count 0.
use mathlib.Core.Path.{refl, sym, ap, ◌∙◌}
use Rattle.machine.specs.Named.{stage_named}
use Rattle.machine.specs.Rules.{Stage}
use Rattle.machine.proofs.Masks.{short_number, pending_number}
use Rattle.machine.proofs.Names.{same_named, before_named}
use Rattle.decode.proofs.Joined.{both_of, either_of}
use Rattle.decode.proofs.waits.pending.Goals as goal

pub returns : goal.returns
returns c =
    let a = c.args in
    either_of (c.lt.ensures ∙ before_named a.stage c.goal-to.result) (both_of (c.eq.ensures ∙ same_named a.stage c.goal-to.result) refl)
    ∙ ap (λ (to : Stage). short_number to (stage_named a.stage) a.count) c.goal-to.ensures
    ∙ sym (pending_number (stage_named a.stage) a.count c.requires _)
