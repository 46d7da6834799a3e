-- Jumps as branches: document 02, F-6, "It holds back later fetches as a branch does, until it stands at (EX, 0), and goes on through WB."
use Rattle.std.specs.Prelude.{ℕ, map}
use Rattle.machine.specs.Instruction.{Kind, plain, load, store, branch, jump, Instruction, Trace}

-- a branch in place of a jump
abbrev pub branch_kind : Kind → Kind
branch_kind plain = plain
branch_kind load = load
branch_kind store = store
branch_kind branch = branch
branch_kind jump = branch

-- "Kinds 2 and 3 have target 0.": and so no target in place of a jump's
abbrev pub branch_target : Kind → ℕ → ℕ
branch_target plain target = target
branch_target load target = target
branch_target store target = target
branch_target branch target = target
branch_target jump target = 0

abbrev pub as_branch : Instruction → Instruction
as_branch i =
    record {
      kind = branch_kind i.kind;
      fetch = i.fetch;
      access = i.access;
      source1 = i.source1;
      source2 = i.source2;
      target = branch_target i.kind i.target;
      execution_latency = i.execution_latency;
      fetch_latency = i.fetch_latency;
      data_latency = i.data_latency;
      hit_cycles = i.hit_cycles;
    }

-- the trace with a branch in place of each jump, with its sources and latencies
unfoldable pub as_branches : Trace → Trace
as_branches trace = map as_branch trace
