-- What is shown of the call's answer, as a named type.
use Rattle.std.specs.Prelude.{ℕ, ◌+◌, ◌*◌, ◌≤◌, List}
use Rattle.machine.specs.State.{max_instructions}
use Rattle.machine.specs.Time.{max_time}
use Rattle.record.specs.Body.{Bytes}
use Rattle.bus.specs.Answers.{bus_answer}

-- "the longest wait d, 0 to 65,535"
abbrev pub max_wait : ℕ
max_wait = 65535

-- the longest finishing time, and besides the longest wait on two accesses of each instruction: 1,074,794,496
abbrev pub max_bus_time : ℕ
max_bus_time = max_time + 2 * max_instructions * max_wait

-- The time is at most that, so that it fits 32 bits.
abbrev pub TimeFits : Type 0
TimeFits = (body : List ℕ) (longest h : ℕ) → Bytes body → longest ≤ max_wait → (bus_answer body longest h).time ≤ max_bus_time
