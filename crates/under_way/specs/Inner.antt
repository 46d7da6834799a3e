-- What Run's pass has done after each instruction, for the pass's own functions; no public contract cites it.
use Rattle.std.specs.Prelude.{ℕ, ◌≤◌, ◌<◌, ◌≡◌, length}
use Rattle.machine.specs.Instruction.{Trace}
use Rattle.machine.specs.Rules.{Places, pre, IF, ID, EX, MEM, ST, WB, after}
use Rattle.machine.specs.Time.{finish}
use Rattle.machine.specs.State.{fetched_below, occupant_below}
use Rattle.machine.specs.declared.State.{State}
use Rattle.seats.specs.Inner.{Seated}
use Rattle.under_way.specs.declared.seating.Fetched.{Fetched}

-- the state that the places of the first k instructions give
unfoldable pub state_below : Places → ℕ → State
state_below places k =
    record {
      fetched = fetched_below places k;
      IF = occupant_below places IF k;
      ID = occupant_below places ID k;
      EX = occupant_below places EX k;
      MEM = occupant_below places MEM k;
      ST = occupant_below places ST k;
      WB = occupant_below places WB k;
    }

-- the pass over a trace has come to instruction k: all before it are fetched by the limit, and those under way are seated
abbrev pub Passed : Trace → ℕ → ℕ → State → Type 0
Passed trace limit k seats = Seated seats k (state_below (after trace limit) k)

-- the pass has ended: after the last instruction it has the finishing time, and at one that is not fetched by the limit a time that is past it
pub record Stopped (trace : Trace) (limit : ℕ) (r : Fetched) (seats : State) : Type 0 where
  pub passed : Passed trace limit r.count seats
  pub inside : r.count ≤ length trace
  pub all : r.count ≡ length trace → r.finish ≡ finish trace
  pub waits : r.count < length trace → ((after trace limit r.count).stage ≡ pre) × (limit < r.finish)
