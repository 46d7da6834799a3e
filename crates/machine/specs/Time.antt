-- Finishing times, settlings, best and worst: document 01, "One cycle" and "Job file and instruction record"; and delayed traces: document 02, F-1.
use Rattle.std.specs.Prelude.{ℕ, zero, suc, ◌+◌, ◌*◌, ◌≤◌, Bool, true, false, cond, [], ◌∷◌, ◌≡◌}
use Rattle.machine.specs.Instruction.{Flag, hit, miss, unknown, Instruction, Trace}
use Rattle.machine.specs.Rules.{has_access, misses, misses_data, after, all_left}
use Rattle.machine.specs.State.{max_instructions}

-- what a data access adds: its latency on a miss, and the cycles of a hit else; a kind without an access adds nothing
abbrev pub data_cycles : Instruction → ℕ
data_cycles i = cond (has_access i.kind) (cond (misses i.access) i.data_latency i.hit_cycles) 0

-- "the sum over all instructions of 6 plus the three latencies"; document 02, F-4: "Finishing times are now bounded by the sum with h in place of the
-- data latency on hits."
unfoldable pub bound : Trace → ℕ
bound [] = 0
bound (i ∷ trace) = (6 + i.execution_latency + i.fetch_latency + data_cycles i) + bound trace

-- the longest fetch or data latency: "1 to 65,535"
abbrev pub max_latency : ℕ
max_latency = 65535

-- what an instruction adds at most, with an execution latency to 255
abbrev pub most_cycles : ℕ
most_cycles = 6 + 255 + max_latency + max_latency

-- "so at most 537,931,776"
abbrev pub max_time : ℕ
max_time = most_cycles * max_instructions

-- the least number from t on at which the test passes, or t + more if it fails at the first `more` numbers
unfoldable pub least_from : (ℕ → Bool) → ℕ → ℕ → ℕ
least_from test zero t = t
least_from test (suc more) t = elim (test t) [ true ↦ t | false ↦ least_from test more (suc t) ]

-- "the finishing time is the least number of cycles from there after which every instruction has left"
unfoldable pub finish : Trace → ℕ
finish trace = least_from (λ t. all_left trace (after trace t)) (bound trace) 0

-- "A settling of it makes each unknown flag a hit or a miss, each on its own, and alters nothing else"
pub data Settled : Flag → Flag → Type 0 where
  hit_stays : Settled hit hit
  miss_stays : Settled miss miss
  unknown_hits : Settled unknown hit
  unknown_misses : Settled unknown miss

pub record SettledInstruction (i s : Instruction) : Type 0 where
  pub kind : s.kind ≡ i.kind
  pub fetch : Settled i.fetch s.fetch
  pub access : Settled i.access s.access
  pub source1 : s.source1 ≡ i.source1
  pub source2 : s.source2 ≡ i.source2
  pub target : s.target ≡ i.target
  pub execution_latency : s.execution_latency ≡ i.execution_latency
  pub fetch_latency : s.fetch_latency ≡ i.fetch_latency
  pub data_latency : s.data_latency ≡ i.data_latency
  pub hit_cycles : s.hit_cycles ≡ i.hit_cycles

pub data Settling : Trace → Trace → Type 0 where
  settled_none : Settling [] []
  settled_more : {i s : Instruction} {trace settling : Trace} → SettledInstruction i s → Settling trace settling → Settling (i ∷ trace) (s ∷ settling)

-- the instruction with waits, one for its fetch and one for its data access; only an access that is missed takes longer
unfoldable pub with_waits : ℕ → ℕ → Instruction → Instruction
with_waits on_fetch on_data i =
    record {
      kind = i.kind;
      fetch = i.fetch;
      access = i.access;
      source1 = i.source1;
      source2 = i.source2;
      target = i.target;
      execution_latency = i.execution_latency;
      fetch_latency = i.fetch_latency + cond (misses i.fetch) on_fetch 0;
      data_latency = i.data_latency + cond (misses_data i) on_data 0;
      hit_cycles = i.hit_cycles;
    }

-- document 02, F-1: "every added wait from 0 to d on each missed access": delayed by at most d, the longest wait, each missed access by a wait of
-- its own, and nothing else differs
pub record DelayedInstruction (longest : ℕ) (i v : Instruction) : Type 0 where
  pub on_fetch : ℕ
  pub on_data : ℕ
  pub fetch_within : on_fetch ≤ longest
  pub data_within : on_data ≤ longest
  pub waited : v ≡ with_waits on_fetch on_data i

pub data Delayed (longest : ℕ) : Trace → Trace → Type 0 where
  delayed_none : Delayed longest [] []
  delayed_more : {i v : Instruction} {trace version : Trace} → DelayedInstruction longest i v → Delayed longest trace version → Delayed longest (i ∷ trace) (v ∷ version)

-- an instruction without an unknown flag
pub record Known (i : Instruction) : Type 0 where
  pub fetch : ¬ (i.fetch ≡ unknown)
  pub access : ¬ (i.access ≡ unknown)

-- every unknown flag replaced by the same flag
unfoldable pub settle_flag : Flag → Flag → Flag
settle_flag to hit = hit
settle_flag to miss = miss
settle_flag to unknown = to

unfoldable pub settle_instruction : Flag → Instruction → Instruction
unfolding settle_flag
settle_instruction to i =
    record {
      kind = i.kind;
      fetch = settle_flag to i.fetch;
      access = settle_flag to i.access;
      source1 = i.source1;
      source2 = i.source2;
      target = i.target;
      execution_latency = i.execution_latency;
      fetch_latency = i.fetch_latency;
      data_latency = i.data_latency;
      hit_cycles = i.hit_cycles;
    }

unfoldable pub settle : Flag → Trace → Trace
unfolding settle_instruction
settle to [] = []
settle to (i ∷ trace) = settle_instruction to i ∷ settle to trace

-- the finishing times with every unknown flag a hit, and with every one a miss; that no settling finishes earlier or later is proved
-- (`SettlingsEnclosed`), not assumed
unfoldable pub best : Trace → ℕ
best trace = finish (settle hit trace)

unfoldable pub worst : Trace → ℕ
worst trace = finish (settle miss trace)
