-- Who could move: which slots hold an instruction that others may have to wait for, and which slots may be free after the cycle.
use Rattle.std.specs.Prelude.{Bool, true, not, eqb}
use Rattle.machine.specs.Test.{◌and◌, ◌or◌}
use Rattle.machine.specs.Instruction.{Trace, instruction}
use Rattle.machine.specs.Rules.{Stage, pre, IF, ID, EX, MEM, ST, WB, post}
use Rattle.machine.specs.State.{slot}
use Rattle.machine.specs.declared.Slot.{Slot}
use Rattle.machine.specs.declared.State.{State}
use Rattle.machine.proofs.BySlots.{goes}
use Rattle.machine.proofs.Hazards.{pending}

-- the stage's slot holds an instruction that others may have to wait for
abbrev pub pending_slot : Trace → Stage → Slot → Bool
pending_slot trace k held = held.filled and pending (instruction trace held.index).kind (record { stage = k; count = held.count })

abbrev pub pending_in : Trace → State → Stage → Bool
pending_in trace s k = pending_slot trace k (slot s k)

-- the slot may be free after the cycle: it is empty, or the count of what it holds is 0
abbrev pub opens : Slot → Bool
opens held = not held.filled or eqb held.count 0

-- The same for the slot after a stage, named up to EX, where it is the same for all kinds; after MEM and later stages no slot is tested. It spares the
-- look-up of who holds whom back, and decides nothing: an instruction moves only into a slot that will be free.
abbrev pub opens_after : State → Stage → Bool
opens_after s pre = opens s.IF
opens_after s IF = opens s.ID
opens_after s ID = opens s.EX
opens_after s EX = opens s.MEM
opens_after s MEM = true
opens_after s ST = true
opens_after s WB = true
opens_after s post = true

-- the stage's instruction has count 0 and is ready, and the slot after it may be free
abbrev pub starts : Trace → State → Stage → Bool
starts trace s k = goes trace s k and opens_after s k
