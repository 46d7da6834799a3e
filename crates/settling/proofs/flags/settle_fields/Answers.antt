-- `settle_fields` meets its contract: each flag is settled as its number is.
use Rattle.std.proofs.Common.{ap, ◌∙◌}
use Rattle.machine.specs.Instruction.{Flag}
use Rattle.machine.specs.Time.{settle_instruction}
use Rattle.record.specs.Rules.{instruction_of}
use Rattle.settling.proofs.Numbers.{settled_fields}
use Rattle.settling.proofs.flags.settle_fields.Goals as goal

pub returns : goal.returns
returns c =
    settled_fields _ _ c.choose.ensures c.choose-2.ensures
    ∙ ap (λ (g : Flag). settle_instruction g (instruction_of c.args.f)) c.flag_number-number.ensures.1
