-- Data hits that take cycles: document 02, F-4, "Newer cores spend h more cycles, 0 to 15, on a data hit."
use Rattle.std.specs.Prelude.{ℕ, ◌<◌, true, cond, [], ◌∷◌, ◌≡◌, length}
use Rattle.machine.specs.Instruction.{Instruction, Trace, instruction}
use Rattle.machine.specs.Rules.{has_access}

-- the instruction, if a data hit takes h cycles; a kind without a data access has no hit
abbrev pub with_hit : ℕ → Instruction → Instruction
with_hit h i =
    record {
      kind = i.kind;
      fetch = i.fetch;
      access = i.access;
      source1 = i.source1;
      source2 = i.source2;
      target = i.target;
      execution_latency = i.execution_latency;
      fetch_latency = i.fetch_latency;
      data_latency = i.data_latency;
      hit_cycles = cond (has_access i.kind) h 0;
    }

-- the trace, if every data hit takes h cycles: "one h throughout"
unfoldable pub with_hits : ℕ → Trace → Trace
with_hits h [] = []
with_hits h (i ∷ trace) = with_hit h i ∷ with_hits h trace

-- "Demand 3, its order and its sum bound alike, and every statement about cycles or finishing times are meant for one h throughout and for traces that
-- 17 does not decline with it": a data hit takes h cycles, and a load's or store's data latency is above h.
pub record HitTakes (h : ℕ) (i : Instruction) : Type 0 where
  pub cycles : has_access i.kind ≡ true → i.hit_cycles ≡ h
  pub above : has_access i.kind ≡ true → h < i.data_latency

abbrev pub HitsTake : ℕ → Trace → Type 0
HitsTake h trace = (k : ℕ) → k < length trace → HitTakes h (instruction trace k)
