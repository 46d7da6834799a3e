-- Settling a trace settles each instruction, and leaves a body's trace without unknown flags as it is.
use Prim.Native.Nat.{ℕ, zero, suc, ◌≤◌, ◌<◌}
use mathlib.Core.List.{List, [], ◌∷◌}
use mathlib.Core.Path.{◌≡◌, refl, sym, ap, ◌∙◌}
use native.Mathlib.Omega.{arith}
use lib.ListN.{length}
use lib.Seq.{ext_get_or}
use Rattle.machine.specs.Instruction.{Flag, Trace, blank, instruction}
use Rattle.machine.specs.Time.{settle_flag, settle_instruction, settle}
use Rattle.machine.specs.Hits.{with_hits}
use Rattle.machine.proofs.Hits.{settle_hits}
use Rattle.record.specs.declared.layout.Fields.{Fields}
use Rattle.record.specs.Rules.{flag_of, instruction_of}
use Rattle.record.specs.Body.{Bytes, records, fields_at, trace_of, trace_with, known_refusal}
use Rattle.record.proofs.Accepted.{flags_known}
use Rattle.record.proofs.Instructions.{length_trace_of, instruction_trace_of}

module _ (to : Flag) where
  pub length_settle : (trace : Trace) → length (settle to trace) ≡ length trace
  unfolding settle
  length_settle [] = refl
  length_settle (i ∷ trace) = ap suc (length_settle trace)

  -- also past the end, where the blank instruction has no unknown flag
  pub instruction_settle : (trace : Trace) (k : ℕ) → instruction (settle to trace) k ≡ settle_instruction to (instruction trace k)
  unfolding settle settle_instruction settle_flag
  instruction_settle [] k = refl
  instruction_settle (i ∷ trace) zero = refl
  instruction_settle (i ∷ trace) (suc k) = instruction_settle trace k

  known_flag : (n : ℕ) → n ≤ 1 → settle_flag to (flag_of n) ≡ flag_of n
  unfolding settle_flag flag_of
  known_flag zero l = refl
  known_flag (suc zero) l = refl
  known_flag (suc (suc n)) l = absurd (omega arith)

  known_instruction : (f : Fields) → f.fetch ≤ 1 → f.access ≤ 1 → settle_instruction to (instruction_of f) ≡ instruction_of f
  unfolding settle_instruction instruction_of
  known_instruction f l m = rw (known_flag f.fetch l, known_flag f.access m)

  -- "a trace without unknown flags is its own only settling"
  pub settled_already : (body : List ℕ) → Bytes body → known_refusal body ≡ 0 → settle to (trace_of body) ≡ trace_of body
  settled_already body b settled =
      ext_get_or blank (settle to (trace_of body)) (trace_of body) (length_settle (trace_of body)) λ k l.
      let inside : k < records body = omega (arith, length_settle (trace_of body), length_trace_of body) in
      let known = flags_known body settled b k inside in
      let this = instruction_trace_of body k inside in
      instruction_settle (trace_of body) k
      ∙ ap (settle_instruction to) this
      ∙ known_instruction (fields_at body k) known.0 known.1
      ∙ sym this

  -- so it is with data hits that take cycles
  pub settled_timed : (h : ℕ) (body : List ℕ) → Bytes body → known_refusal body ≡ 0 → settle to (trace_with body h) ≡ trace_with body h
  settled_timed h body b known = settle_hits h to (trace_of body) ∙ ap (with_hits h) (settled_already body b known)
