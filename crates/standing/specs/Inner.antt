-- What Step's inner functions work from: the fields of the instruction in each stage, read once in a cycle. Their contracts hold for every trace
-- that has these instructions in these stages.
use Rattle.std.specs.Prelude.{true, ◌≡◌}
use Rattle.machine.specs.Instruction.{Trace, instruction}
use Rattle.machine.specs.declared.State.{State}
use Rattle.record.specs.Rules.{instruction_of}
use Rattle.record.specs.declared.layout.Fields.{Fields}
use Rattle.stages.specs.declared.Stages.{Stages}

-- the fields are those of the trace's instructions in the slots, and in pre those of the next instruction to be fetched; of an empty slot's fields
-- something is known in MEM only
pub record Reads (trace : Trace) (s : State) (w : Stages Fields) : Type 0 where
  pub pre : instruction_of w.pre ≡ instruction trace s.fetched
  pub IF : s.IF.filled ≡ true → instruction_of w.IF ≡ instruction trace s.IF.index
  pub ID : s.ID.filled ≡ true → instruction_of w.ID ≡ instruction trace s.ID.index
  pub EX : s.EX.filled ≡ true → instruction_of w.EX ≡ instruction trace s.EX.index
  pub MEM : instruction_of w.MEM ≡ instruction trace s.MEM.index
  pub ST : s.ST.filled ≡ true → instruction_of w.ST ≡ instruction trace s.ST.index
  pub WB : s.WB.filled ≡ true → instruction_of w.WB ≡ instruction trace s.WB.index
