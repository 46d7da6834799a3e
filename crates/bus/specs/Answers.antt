-- What the call answers for a body and the longest wait: document 02, F-1. As of every call, document 01 says: "A refusal gives its number, zeros for
-- numbers".
use Rattle.std.specs.Prelude.{ℕ, ◌+◌, Bool, cond, List, Result, Ok, Err, ltb, eqb}
use Rattle.machine.specs.Test.{◌and◌, ◌or◌, none}
use Rattle.machine.specs.Instruction.{Instruction}
use Rattle.machine.specs.Time.{max_latency}
use Rattle.machine.specs.Bus.{counts_fetch, counts_data, accesses, bus_time}
use Rattle.record.specs.Refusal.{◌then◌, ◌unless◌}
use Rattle.record.specs.Rules.{instruction_of}
use Rattle.record.specs.Body.{records, fields_at, trace_with, timed_refusal}
use Rattle.record.specs.Number.{number}
use Rattle.record.specs.declared.refusal.Refusal.{Refusal}
use Rattle.bus.specs.declared.call.BusTime.{BusTime}
use Rattle.bus.specs.declared.answer.TimeOnBus.{TimeOnBus}

-- "15: a counted latency plus d exceeds 65,535"
abbrev pub long_wait : ℕ
long_wait = 15

-- a counted latency of the instruction, or of record k, plus the wait exceeds 65,535
unfoldable pub exceeds : ℕ → Instruction → Bool
exceeds longest i =
    (counts_fetch i and ltb max_latency (i.fetch_latency + longest)) or (counts_data i and ltb max_latency (i.data_latency + longest))

unfoldable pub exceeds_at : List ℕ → ℕ → ℕ → Bool
exceeds_at body longest k = exceeds longest (instruction_of (fields_at body k))

unfoldable pub wait_refusal : List ℕ → ℕ → ℕ
wait_refusal body longest = long_wait unless none (exceeds_at body longest) (records body)

-- "Refuses 10, 8, then 15"; document 02, F-4: "17, after 8"
unfoldable pub bus_refusal : List ℕ → ℕ → ℕ → ℕ
bus_refusal body longest h = timed_refusal body h then wait_refusal body longest

-- what the call gives, and where it declines its refusal's number, as one answer
abbrev pub time_on_bus : Result BusTime Refusal → TimeOnBus
time_on_bus (Ok t) = record { refusal = 0; accesses = t.accesses; time = t.time }
time_on_bus (Err r) = record { refusal = number r; accesses = 0; time = 0 }

-- "A new part counts N, [..] and gives worst time plus N times d."
unfoldable pub bus_answer : List ℕ → ℕ → ℕ → TimeOnBus
bus_answer body longest h =
    cond (eqb (bus_refusal body longest h) 0)
    (record { refusal = 0; accesses = accesses (trace_with body h); time = bus_time (trace_with body h) longest })
    (record { refusal = bus_refusal body longest h; accesses = 0; time = 0 })
