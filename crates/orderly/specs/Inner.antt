-- The test of orderly states beyond the order of the instructions, as the code makes it: which of ST and WB hold a store, and the counts.
use Rattle.std.specs.Prelude.{ℕ, ◌+◌, Bool, not, cond, ltb, leb, eqb}
use Rattle.machine.specs.Test.{◌and◌, ◌or◌}
use Rattle.machine.specs.Instruction.{Trace, instruction}
use Rattle.machine.specs.Rules.{Stage, IF, ID, EX, MEM, ST, WB, is_store, entry}
use Rattle.machine.specs.State.{slot, younger}
use Rattle.machine.specs.declared.Slot.{Slot}
use Rattle.machine.specs.declared.State.{State}

-- no count above the entry count; an empty slot has index 0 and count 0
abbrev pub count_of : Slot → ℕ → Bool
count_of held most = cond held.filled (leb held.count most) (eqb held.index 0 and eqb held.count 0)

abbrev pub stores_apart : Trace → State → Bool
stores_apart trace s =
    (not s.WB.filled or not (is_store (instruction trace s.WB.index).kind))
    and (not s.ST.filled or ltb (s.ST.index + younger s ST) s.fetched)
    and (not s.ST.filled or is_store (instruction trace s.ST.index).kind)

abbrev count_in : Trace → State → Stage → Bool
count_in trace s k = count_of (slot s k) (entry (instruction trace (slot s k).index) k)

abbrev pub all_counted : Trace → State → Bool
all_counted trace s =
    count_in trace s IF
    and count_in trace s ID
    and count_in trace s EX
    and count_in trace s MEM
    and count_in trace s ST
    and count_in trace s WB
