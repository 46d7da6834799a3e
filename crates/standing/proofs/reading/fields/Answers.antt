-- `fields` meets its contract: what is read at any index stands for the instruction there.
use Rattle.std.proofs.Common.{ap, ◌∙◌}
use Rattle.record.specs.Rules.{instruction_of}
use Rattle.record.proofs.Instructions.{read_instruction}
use Rattle.standing.proofs.reading.fields.Goals as goal

pub returns : goal.returns
returns c = ap instruction_of c.fields_or_zeros.ensures ∙ read_instruction _ _
