-- The bound on finishing times as a number, for accepted bodies: document 01, "One cycle".
use Rattle.std.specs.Prelude.{ℕ, ◌≤◌, List, ◌≡◌}
use Rattle.machine.specs.Instruction.{Flag}
use Rattle.machine.specs.Time.{max_time, finish, settle}
use Rattle.record.specs.Body.{Bytes, trace_with, timed_refusal}

-- no accepted trace that 17 does not decline with h finishes later, with its unknown flags all hits or all misses
abbrev pub FinishWithin : Type 0
FinishWithin =
    (body : List ℕ) (h : ℕ) → Bytes body → timed_refusal body h ≡ 0 → (to : Flag) → finish (settle to (trace_with body h)) ≤ max_time
