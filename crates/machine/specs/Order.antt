-- The pairs of traces that demand 3 compares, and what was added: document 01, "Job file and instruction record".
use Rattle.std.specs.Prelude.{ℕ, ◌+◌, ◌-◌, ◌≤◌, [], ◌∷◌, ◌≡◌}
use Rattle.machine.specs.Instruction.{Flag, hit, miss, Instruction, Trace}

-- "a flag that is a hit in the first may be a miss in the second, never the reverse"; demand 3 is for "every pair of accepted traces without
-- unknown flags"
pub data FlagTo : Flag → Flag → Type 0 where
  hit_hit : FlagTo hit hit
  hit_miss : FlagTo hit miss
  miss_miss : FlagTo miss miss

-- "alike in kind, both sources and target; [..] each of the three latencies is at least as long in the second"
pub record SlowerInstruction (a b : Instruction) : Type 0 where
  pub kind : b.kind ≡ a.kind
  pub fetch : FlagTo a.fetch b.fetch
  pub access : FlagTo a.access b.access
  pub source1 : b.source1 ≡ a.source1
  pub source2 : b.source2 ≡ a.source2
  pub target : b.target ≡ a.target
  pub execution_latency : a.execution_latency ≤ b.execution_latency
  pub fetch_latency : a.fetch_latency ≤ b.fetch_latency
  pub data_latency : a.data_latency ≤ b.data_latency

-- "Two traces that demand 3 compares have equally many instructions"
pub data Slower : Trace → Trace → Type 0 where
  slower_none : Slower [] []
  slower_more : {a b : Instruction} {first second : Trace} → SlowerInstruction a b → Slower first second → Slower (a ∷ first) (b ∷ second)

-- demand 3: "Where only latencies differ": the flags agree too
pub data SameFlags : Trace → Trace → Type 0 where
  same_none : SameFlags [] []
  same_more : {a b : Instruction} {first second : Trace} → b.fetch ≡ a.fetch → b.access ≡ a.access → SameFlags first second → SameFlags (a ∷ first) (b ∷ second)

-- "the sum, over all instructions, of the second's three latencies less the first's, also where the access hits"
added_to : Instruction → Instruction → ℕ
added_to a b =
    (b.execution_latency - a.execution_latency) + (b.fetch_latency - a.fetch_latency) + (b.data_latency - a.data_latency)

unfoldable pub added : Trace → Trace → ℕ
unfolding added_to
added [] second = 0
added (a ∷ first) [] = 0
added (a ∷ first) (b ∷ second) = added_to a b + added first second
