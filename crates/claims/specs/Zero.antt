-- Data hits that take no cycles: document 02, F-4, "With h = 0 every chart is as before". Of a body, since the amended rules with h = 0 are the rules
-- before (`ZeroIsBefore`): each call's refusals, and the states, times and counted accesses that it answers with, are what they were without h.
use Rattle.std.specs.Prelude.{ℕ, List, ◌≡◌}
use Rattle.machine.specs.Instruction.{hit, miss, instruction}
use Rattle.machine.specs.Rules.{Stage, Places, entry, cycle, after}
use Rattle.machine.specs.Time.{finish, settle, best, worst}
use Rattle.machine.specs.Before.{entry_before, cycle_before, after_before, finish_before}
use Rattle.machine.specs.Bus.{accesses}
use Rattle.record.specs.Body.{Bytes, trace_of, trace_with, body_refusal, known_refusal, timed_refusal, settled_refusal}
use Rattle.job.specs.Open.{file_refusal}
use Rattle.timed_file.specs.Refusal.{timed_file_refusal}

pub record BodyAsBefore (body : List ℕ) : Type 0 where
  -- "10, 8" and "10, 8, 11": 17 declines no body, since 8 declines a load or store with a data latency of 0
  pub timed_refusal_lem : timed_refusal body 0 ≡ body_refusal body
  pub settled_refusal_lem : settled_refusal body 0 ≡ known_refusal body
  -- the counts by which a state is judged
  pub counts : (i : ℕ) (s : Stage) → entry (instruction (trace_with body 0) i) s ≡ entry_before (instruction (trace_of body) i) s
  pub cycles : (places : Places) (i : ℕ) → cycle (trace_with body 0) places i ≡ cycle_before (trace_of body) places i
  pub places : (t i : ℕ) → after (trace_with body 0) t i ≡ after_before (trace_of body) t i
  pub time : finish (trace_with body 0) ≡ finish_before (trace_of body)
  pub best_time : best (trace_with body 0) ≡ finish_before (settle hit (trace_of body))
  pub worst_time : worst (trace_with body 0) ≡ finish_before (settle miss (trace_of body))
  -- F-1's N
  pub accesses : accesses (trace_with body 0) ≡ accesses (trace_of body)

-- and of a job file, "1 to 8 as in Open"
abbrev pub ZeroAsBefore : Type 0
ZeroAsBefore = ((body : List ℕ) → Bytes body → BodyAsBefore body) × ((file : List ℕ) → Bytes file → timed_file_refusal file 0 ≡ file_refusal file)
