-- `settled_at` meets its contract: what is read at any index stands for the instruction there, and settling it settles the trace's.
use mathlib.Core.Path.{sym, ap, ◌∙◌}
use Rattle.machine.specs.Time.{settle_instruction}
use Rattle.record.specs.declared.layout.Fields.{Fields}
use Rattle.machine.specs.Named.{flag_named}
use Rattle.record.specs.Rules.{instruction_of}
use Rattle.record.proofs.Instructions.{read_instruction}
use Rattle.settling.proofs.Settled.{instruction_settle}
use Rattle.settling.proofs.flags.settled_at.Goals as goal

pub returns : goal.returns
returns c =
    let a = c.args in
    c.settle_fields.ensures
    ∙ ap (λ (f : Fields). settle_instruction (flag_named a.to) (instruction_of f)) c.fields_or_zeros-fields.ensures
    ∙ ap (settle_instruction (flag_named a.to)) (read_instruction _ _)
    ∙ sym (instruction_settle (flag_named a.to) _ _)
