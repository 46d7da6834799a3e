-- The order of the instructions in IF to MEM and WB, as the code tests it: a part of the test of orderly states.
use Rattle.std.specs.Prelude.{ℕ, ◌+◌, Bool, not, leb, eqb}
use Rattle.machine.specs.Test.{◌and◌, ◌or◌}
use Rattle.machine.specs.Rules.{IF, ID, EX, MEM, WB}
use Rattle.machine.specs.State.{younger}
use Rattle.machine.specs.declared.Slot.{Slot}
use Rattle.machine.specs.declared.State.{State}

-- a filled slot holds the youngest fetched instruction that none of the `younger` filled slots before it holds
abbrev pub turn_of : Slot → ℕ → ℕ → Bool
turn_of held younger fetched = not held.filled or eqb (held.index + younger + 1) fetched

abbrev pub in_order : ℕ → State → Bool
in_order n s =
    leb s.fetched n
    and turn_of s.IF (younger s IF) s.fetched
    and turn_of s.ID (younger s ID) s.fetched
    and turn_of s.EX (younger s EX) s.fetched
    and turn_of s.MEM (younger s MEM) s.fetched
    and turn_of s.WB (younger s WB) s.fetched
