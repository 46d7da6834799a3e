-- One bit, and one kind, for each stage that an instruction can leave.
use Rattle.std.specs.Prelude.{Bool, false}
use Rattle.machine.specs.Instruction.{Kind}
use Rattle.machine.specs.Named.{kind_named}
use Rattle.machine.specs.Rules.{Stage, pre, IF, ID, EX, MEM, ST, WB}
use Rattle.machine.specs.declared.Kind.{Kind as KindName}
use Rattle.machine.specs.declared.Kind.TheVariants.{Plain}
use Rattle.stages.specs.Inner.{at_or}
use Rattle.stages.specs.declared.Stages.{Stages}

abbrev pub Bits : Type 0
Bits = Stages Bool

-- each bit given by a test of its stage
abbrev pub bits_of : (Stage → Bool) → Bits
bits_of f = record { pre = f pre; IF = f IF; ID = f ID; EX = f EX; MEM = f MEM; ST = f ST; WB = f WB }

abbrev pub bit_of : Bits → Stage → Bool
bit_of b k = at_or b false k

-- the kind in a stage; nothing stands in post
abbrev pub kind_in : Stages KindName → Stage → Kind
kind_in kinds k = kind_named (at_or kinds Plain k)
