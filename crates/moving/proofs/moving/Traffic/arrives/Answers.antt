-- `arrives` meets its contract: what leaves goes to its next stage.
use Rattle.std.proofs.Common.{sym, ap, ◌∙◌}
use Rattle.machine.specs.Instruction.{Kind}
use Rattle.machine.specs.Named.{stage_named}
use Rattle.machine.specs.Rules.{Stage, next, same}
use Rattle.machine.proofs.Names.{same_named}
use Rattle.machine.proofs.Connectives.{and_left, and_failed_l}
use Rattle.moving.proofs.moving.Traffic.arrives.Goals as goal

pub returns-then-leaves : goal.returns-then-leaves
returns-then-leaves c =
    let a = c.args in
    let to = c.next.ensures ∙ ap (λ (kind : Kind). next kind (stage_named a.from)) c.kind.ensures in
    c.eq.ensures
    ∙ same_named c.next.result a.to
    ∙ ap (λ (k : Stage). same k (stage_named a.to)) to
    ∙ sym (and_left _ _ c.if-leaves.true)

pub returns : goal.returns
returns c = sym (and_failed_l _ _ c.if-leaves.false)
