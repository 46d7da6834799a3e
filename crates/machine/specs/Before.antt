-- The rules with document 01's own counts on entry, in which a data hit takes no cycles: what document 02, F-4, amends. Nothing here looks at
-- `hit_cycles`.
use Rattle.std.specs.Prelude.{ℕ, zero, suc, ◌+◌, ◌-◌, cond, [], ◌∷◌}
use Rattle.machine.specs.Test.{◌and◌}
use Rattle.machine.specs.Instruction.{Instruction, Trace, instruction}
use Rattle.machine.specs.Rules.{Stage, pre, IF, ID, EX, MEM, ST, WB, post, next, Places, is_load, misses, moves, all_pre, all_left}
use Rattle.machine.specs.Time.{least_from}

-- "Count on entry: IF, the fetch latency on a miss, else 0. EX, the execution latency. MEM, a load's data latency on a miss, else 0. ST, the
-- data latency less 1 on a miss, else 0. All others 0."
unfoldable pub entry_before : Instruction → Stage → ℕ
entry_before i pre = 0
entry_before i IF = cond (misses i.fetch) i.fetch_latency 0
entry_before i ID = 0
entry_before i EX = i.execution_latency
entry_before i MEM = cond (is_load i.kind and misses i.access) i.data_latency 0
entry_before i ST = cond (misses i.access) (i.data_latency - 1) 0
entry_before i WB = 0
entry_before i post = 0

-- a cycle, and the places after t cycles from the start; who moves is not a matter of counts on entry
unfoldable pub cycle_before : Trace → Places → Places
cycle_before trace places i =
    cond (moves trace places i)
    (let s = next (instruction trace i).kind (places i).stage in record { stage = s; count = entry_before (instruction trace i) s })
    (record { stage = (places i).stage; count = (places i).count - 1 })

unfoldable pub after_before : Trace → ℕ → Places
after_before trace zero = all_pre
after_before trace (suc t) = cycle_before trace (after_before trace t)

-- "the sum over all instructions of 6 plus the three latencies"
unfoldable pub bound_before : Trace → ℕ
bound_before [] = 0
bound_before (i ∷ trace) = (6 + i.execution_latency + i.fetch_latency + i.data_latency) + bound_before trace

-- "the least number of cycles from there after which every instruction has left"
unfoldable pub finish_before : Trace → ℕ
finish_before trace = least_from (λ t. all_left trace (after_before trace t)) (bound_before trace) 0
