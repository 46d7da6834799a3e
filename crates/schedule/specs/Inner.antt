-- What the crate's times stand for in the theory of the schedule, and that its 32-bit sum does not wrap.
use Rattle.std.specs.Prelude.{◌+◌, ◌^◌, ◌<◌}
use Rattle.machine.specs.Instruction.{Instruction}
use Rattle.machine.specs.Rules.{EX, entry}
use Rattle.machine.proofs.Window as Theory
use Rattle.schedule.specs.declared.sliding.Times.{Times}

abbrev pub times_of : Times → Theory.Times
times_of e = record { IF = e.IF; ID = e.ID; EX = e.EX; MEM = e.MEM; last = e.last; post = e.post }

-- the sum that sliding the window computes from an instruction's times fits 32 bits
abbrev pub Room : Instruction → Theory.Times → Type 0
Room i e = e.EX + entry i EX + 1 < 2 ^ 32
