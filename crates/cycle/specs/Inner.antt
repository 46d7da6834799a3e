-- What a cycle works from, and what it leaves where no instruction moves.
use Rattle.std.specs.Prelude.{false}
use Rattle.machine.specs.Instruction.{Kind, plain}
use Rattle.machine.specs.Rules.{Stage, pre, IF, ID, EX, MEM, ST, WB, post}
use Rattle.machine.specs.declared.Slot.{Slot}
use Rattle.machine.specs.declared.State.{State}
use Rattle.machine.proofs.BySlots.{slot_after}
use Rattle.record.specs.Rules.{instruction_of}
use Rattle.record.specs.declared.layout.Fields.{Fields}
use Rattle.stages.specs.declared.Stages.{Stages}

-- the kind in each stage, by the fields that are read; nothing stands in post
abbrev pub kind_read : Stages Fields → Stage → Kind
kind_read w pre = (instruction_of w.pre).kind
kind_read w IF = (instruction_of w.IF).kind
kind_read w ID = (instruction_of w.ID).kind
kind_read w EX = (instruction_of w.EX).kind
kind_read w MEM = (instruction_of w.MEM).kind
kind_read w ST = (instruction_of w.ST).kind
kind_read w WB = (instruction_of w.WB).kind
kind_read w post = plain

-- where no instruction moves, what is in a slot stays, with its count less 1, and an empty slot stays empty
abbrev pub stays : Slot → Slot
stays held = slot_after false 0 0 false held

abbrev pub standstill : State → State
standstill s =
    record {
      fetched = s.fetched;
      IF = stays s.IF;
      ID = stays s.ID;
      EX = stays s.EX;
      MEM = stays s.MEM;
      ST = stays s.ST;
      WB = stays s.WB;
    }
