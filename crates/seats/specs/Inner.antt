-- The state in which Run's pass puts instructions, for the pass's own functions; no public contract cites it.
use Rattle.std.specs.Prelude.{ℕ, suc, true, cond, ◌≡◌}
use Rattle.machine.specs.Rules.{Stage, pre, IF, ID, EX, MEM, ST, WB, same, Place}
use Rattle.machine.specs.declared.Slot.{Slot}
use Rattle.machine.specs.declared.State.{State}

-- a state with instruction k added at its place
unfoldable pub fetched_with : Place → ℕ → ℕ
fetched_with p fetched = cond (same p.stage pre) fetched (suc fetched)

unfoldable pub slot_with : Place → ℕ → Stage → Slot → Slot
slot_with p k stage slot = cond (same p.stage stage) (record { filled = true; index = k; count = p.count }) slot

unfoldable pub state_with : Place → ℕ → State → State
state_with p k s =
    record {
      fetched = fetched_with p s.fetched;
      IF = slot_with p k IF s.IF;
      ID = slot_with p k ID s.ID;
      EX = slot_with p k EX s.EX;
      MEM = slot_with p k MEM s.MEM;
      ST = slot_with p k ST s.ST;
      WB = slot_with p k WB s.WB;
    }

-- a state's slots, where so many instructions are fetched
abbrev pub with_fetched : ℕ → State → State
with_fetched fetched s = record { fetched = fetched; IF = s.IF; ID = s.ID; EX = s.EX; MEM = s.MEM; ST = s.ST; WB = s.WB }

-- with the fetched count, the slots give the state
pub record Seated (slots : State) (fetched : ℕ) (s : State) : Type 0 where
  pub state : with_fetched fetched slots ≡ s
