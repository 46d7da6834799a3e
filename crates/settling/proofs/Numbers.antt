-- Settling the numbers of a record's flags settles its instruction: every number above 1 stands for unknown.
use Prim.Native.Nat.{ℕ, zero, suc, ◌≤◌}
use mathlib.Core.Bool.{false, cond}
use mathlib.Core.Path.{◌≡◌, refl}
use native.Mathlib.Omega.{arith}
use borrow.Author.Tests.{lt-ltb, ne_eqb}
use lib.Dec.{ltb, eqb}
use Rattle.machine.specs.Time.{settle_flag, settle_instruction}
use Rattle.record.specs.declared.layout.Fields.{Fields}
use Rattle.record.specs.Rules.{flag_of, instruction_of}

past_flags : (n k : ℕ) → k ≤ 1 → eqb (suc (suc n)) k ≡ false
past_flags n k l = ne_eqb _ k (omega arith)

settled_number : (n to : ℕ) → flag_of (cond (ltb 1 n) to n) ≡ settle_flag (flag_of to) (flag_of n)
unfolding flag_of settle_flag
settled_number zero to = refl
settled_number (suc zero) to = refl
settled_number (suc (suc n)) to =
    rw (lt-ltb 1 (suc (suc n)) (omega arith), past_flags n 0 (omega arith), past_flags n 1 (omega arith))

-- the record with settled flags
pub settled_fields
    : (f : Fields) (to : ℕ) {fetch access : ℕ} →
    fetch ≡ cond (ltb 1 f.fetch) to f.fetch →
    access ≡ cond (ltb 1 f.access) to f.access →
    instruction_of
    (record {
      kind = f.kind;
      fetch = fetch;
      access = access;
      source1 = f.source1;
      source2 = f.source2;
      target = f.target;
      execution = f.execution;
      fetch_latency = f.fetch_latency;
      data_latency = f.data_latency;
    })
    ≡ settle_instruction (flag_of to) (instruction_of f)
unfolding instruction_of settle_instruction
settled_fields f to p q = rw (p, q, settled_number f.fetch to, settled_number f.access to)
