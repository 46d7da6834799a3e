-- The instruction and the trace: document 01, "Job file and instruction record", without the bytes.
use Rattle.std.specs.Prelude.{ℕ, List, get_or}

-- "kind: 0 plain, 1 load, 2 store, 3 conditional branch"; document 02, F-6: "Kind 4, a jump"
pub data Kind : Type 0 where
  plain load store branch jump : Kind

-- "0 hit, 1 miss, 2 unknown"
pub data Flag : Type 0 where
  hit miss unknown : Flag

-- The fetch and the data access each have a flag and a latency; the latency is given where the access hits, too. The last is no field of a record:
-- the cycles that a data hit takes, which the calls are given (`with_hits`).
pub record Instruction : Type 0 where
  pub kind : Kind
  pub fetch : Flag
  pub access : Flag
  pub source1 : ℕ
  pub source2 : ℕ
  pub target : ℕ
  pub execution_latency : ℕ
  pub fetch_latency : ℕ
  pub data_latency : ℕ
  pub hit_cycles : ℕ

abbrev pub Trace : Type 0
Trace = List Instruction

-- what a trace reads as past its end, where no rule reads it
abbrev pub blank : Instruction
blank =
    record {
      kind = plain;
      fetch = hit;
      access = hit;
      source1 = 0;
      source2 = 0;
      target = 0;
      execution_latency = 0;
      fetch_latency = 0;
      data_latency = 0;
      hit_cycles = 0;
    }

-- instruction i of a trace
abbrev pub instruction : Trace → ℕ → Instruction
instruction trace i = get_or trace i blank
