-- The pipeline state against the rules: the place that it gives each instruction, the state that places give, and which states are orderly; and
-- the limit on a trace, which belongs to the state's kind. Document 01, "One cycle", its last paragraph.
use Rattle.std.specs.Prelude.{ℕ, zero, suc, ◌+◌, ◌≤◌, ◌<◌, Bool, true, false, not, cond, ◌≡◌, ltb, leb, eqb, length}
use Rattle.machine.specs.Test.{◌and◌, ◌or◌}
use Rattle.machine.specs.Instruction.{Trace, instruction}
use Rattle.machine.specs.Rules.{Stage, pre, IF, ID, EX, MEM, ST, WB, post, same, Place, Places, is_store, entry}
use Rattle.machine.specs.declared.Slot.{Slot}
use Rattle.machine.specs.declared.State.{State}

-- "A trace is accepted when its body has at most 4,096 records"
abbrev pub max_instructions : ℕ
max_instructions = 4096

-- "empty slots carry index 0 and count 0"
abbrev pub empty_slot : Slot
empty_slot = record { filled = false; index = 0; count = 0 }

-- "The starting state has everything in pre"
abbrev pub start : State
start = record { fetched = 0; IF = empty_slot; ID = empty_slot; EX = empty_slot; MEM = empty_slot; ST = empty_slot; WB = empty_slot }

-- "six slots IF, ID, EX, MEM, ST, WB"; pre and post have none
abbrev pub slot : State → Stage → Slot
slot s pre = empty_slot
slot s IF = s.IF
slot s ID = s.ID
slot s EX = s.EX
slot s MEM = s.MEM
slot s ST = s.ST
slot s WB = s.WB
slot s post = empty_slot

-- the slot holds instruction i
unfoldable pub holds : Slot → ℕ → Bool
holds slot i = slot.filled and eqb slot.index i

-- i's place if the stage's slot holds it, else the other place
place_in : State → ℕ → Stage → Place → Place
place_in s i stage other = cond (holds (slot s stage) i) (record { stage = stage; count = (slot s stage).count }) other

-- Instructions from the fetched count on are in pre. "Fetched instructions in no slot are post."
unfoldable pub place_of : State → Places
unfolding place_in
place_of s i =
    cond (leb s.fetched i)
    (record { stage = pre; count = 0 })
    (place_in s i IF
    (place_in s i ID
    (place_in s i EX (place_in s i MEM (place_in s i ST (place_in s i WB (record { stage = post; count = 0 })))))))

-- how many instructions below n are not in pre
unfoldable pub fetched_below : Places → ℕ → ℕ
fetched_below places zero = 0
fetched_below places (suc n) = cond (same (places n).stage pre) (fetched_below places n) (suc (fetched_below places n))

-- the slot of a stage: the instruction below n that is in it, the youngest if there were several
unfoldable pub occupant_below : Places → Stage → ℕ → Slot
occupant_below places stage zero = empty_slot
occupant_below places stage (suc n) =
    cond (same (places n).stage stage) (record { filled = true; index = n; count = (places n).count }) (occupant_below places stage n)

-- The state that places give. It gives every instruction its place again if no stage has two and the fetched ones come first, which a cycle keeps
-- (`CycleGivesPlaces`).
unfoldable pub state_of : Trace → Places → State
state_of trace places =
    record {
      fetched = fetched_below places (length trace);
      IF = occupant_below places IF (length trace);
      ID = occupant_below places ID (length trace);
      EX = occupant_below places EX (length trace);
      MEM = occupant_below places MEM (length trace);
      ST = occupant_below places ST (length trace);
      WB = occupant_below places WB (length trace);
    }

-- how many of the slots IF to MEM that come before a stage are filled; for ST and WB this is document 01's m
filled : Slot → ℕ
filled slot = cond slot.filled 1 0

unfoldable pub younger : State → Stage → ℕ
unfolding filled
younger s pre = 0
younger s IF = 0
younger s ID = filled s.IF
younger s EX = filled s.IF + filled s.ID
younger s MEM = filled s.IF + filled s.ID + filled s.EX
younger s ST = filled s.IF + filled s.ID + filled s.EX + filled s.MEM
younger s WB = filled s.IF + filled s.ID + filled s.EX + filled s.MEM
younger s post = 0

-- A stage's slot, if filled, holds the youngest fetched instruction that no slot before it holds: index f - 1 less the filled slots before.
pub record InTurn (s : State) (stage : Stage) : Type 0 where
  pub index : (slot s stage).filled ≡ true → (slot s stage).index + younger s stage + 1 ≡ s.fetched

-- "no count exceeds its entry count; and empty slots carry index 0 and count 0"
pub record Counted (trace : Trace) (s : State) (stage : Stage) : Type 0 where
  pub within : (slot s stage).filled ≡ true → (slot s stage).count ≤ entry (instruction trace (slot s stage).index) stage
  pub empty : (slot s stage).filled ≡ false → slot s stage ≡ empty_slot

-- document 01's term
pub record Orderly (trace : Trace) (s : State) : Type 0 where
  -- "f is at most n"
  pub fetched : s.fetched ≤ length trace
  -- "the m filled slots among IF to MEM hold the last m fetched instructions, a younger one always in an earlier stage"
  pub in_IF : InTurn s IF
  pub in_ID : InTurn s ID
  pub in_EX : InTurn s EX
  pub in_MEM : InTurn s MEM
  -- "WB, if filled, holds instruction f - m - 1, no store"
  pub in_WB : InTurn s WB
  pub no_store : s.WB.filled ≡ true → is_store (instruction trace s.WB.index).kind ≡ false
  -- "ST, if filled, holds a store below f - m"
  pub in_ST : s.ST.filled ≡ true → s.ST.index + younger s ST < s.fetched
  pub a_store : s.ST.filled ≡ true → is_store (instruction trace s.ST.index).kind ≡ true
  pub counted : (stage : Stage) → Counted trace s stage

-- The same, as tests that compute.
in_turn : State → Stage → Bool
in_turn s stage = not (slot s stage).filled or eqb ((slot s stage).index + younger s stage + 1) s.fetched

counted : Trace → State → Stage → Bool
counted trace s stage =
    cond (slot s stage).filled
    (leb (slot s stage).count (entry (instruction trace (slot s stage).index) stage))
    (eqb (slot s stage).index 0 and eqb (slot s stage).count 0)

unfoldable pub orderly : Trace → State → Bool
unfolding in_turn counted
orderly trace s =
    leb s.fetched (length trace)
    and in_turn s IF
    and in_turn s ID
    and in_turn s EX
    and in_turn s MEM
    and in_turn s WB
    and (not s.WB.filled or not (is_store (instruction trace s.WB.index).kind))
    and (not s.ST.filled or ltb (s.ST.index + younger s ST) s.fetched)
    and (not s.ST.filled or is_store (instruction trace s.ST.index).kind)
    and counted trace s IF
    and counted trace s ID
    and counted trace s EX
    and counted trace s MEM
    and counted trace s ST
    and counted trace s WB
