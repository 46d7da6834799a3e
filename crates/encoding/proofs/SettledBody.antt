-- Every settling of an accepted body's trace is the trace of a body that 10, 8 and 11 do not decline, since each of its records keeps the rules. The
-- bodies in which every unknown flag becomes a hit, or every one a miss, are such settlings. A body without unknown flags is its own only settling.
use Prim.Native.Nat.{ℕ, zero, suc, ◌≤◌, ◌<◌}
use mathlib.Core.List.{List}
use mathlib.Core.Path.{◌≡◌, ap, subst, ◌∙◌}
use native.Mathlib.Omega.{arith}
use lib.ListN.{length}
use Rattle.machine.specs.Instruction.{Flag, unknown, Instruction, Trace, instruction}
use Rattle.machine.specs.Time.{Settled, SettledInstruction, Settling, Known, settle}
use Rattle.machine.specs.State.{max_instructions}
use Rattle.machine.proofs.Settled.{settled_known, settling_length, settling_at, only_settling}
use Rattle.machine.proofs.Settlings.{settles}
use Rattle.record.specs.Rules.{has_unknown, flag_of, instruction_of}
use Rattle.record.specs.Body.{Bytes, records, fields_at, breaks_at, unknown_at, trace_of, body_refusal, known_refusal}
use Rattle.encoding.specs.Encoding.{body_of, settled_body}
use Rattle.encoding.specs.Claims.{Lawful, SettlingsAreBodies}
use Rattle.record.proofs.Accepted.{known_of, few_records, breaks_none, fields_within, known_accepted, flags_known}
use Rattle.record.proofs.Instructions.{length_trace_of, instruction_trace_of}
use Rattle.encoding.proofs.Encoding.{records_body_of}
use Rattle.encoding.proofs.RoundTrip.{fields_body_of, accepted_is_encoded, encoding_is_decoded}
use Rattle.encoding.proofs.SettledRecord.{settled_lawful, known_record}

-- a trace whose records keep the rules and have no unknown flag is the trace of a body that 10, 8 and 11 do not decline
pub trace_is_body :
    (trace : Trace) →
    length trace ≤ max_instructions →
    ((k : ℕ) → k < length trace → Lawful (instruction trace k)) →
    ((k : ℕ) → k < length trace → Known (instruction trace k)) →
    Bytes (body_of trace) × (known_refusal (body_of trace) ≡ 0) × (trace_of (body_of trace) ≡ trace)
unfolding unknown_at
trace_is_body trace few lawful known =
    let decoded = encoding_is_decoded trace few lawful in (
      decoded.1,
      known_of (body_of trace) decoded.2 λ k l.
          let inside : k < length trace = omega (arith, records_body_of trace) in
          ap has_unknown (fields_body_of trace k inside) ∙ known_record (instruction trace k) (known k inside),
      decoded.0,
    )

module _ (body : List ℕ) (b : Bytes body) (accepted : body_refusal body ≡ 0) (settling : Trace) (h : Settling (trace_of body) settling) where
  same_length : length settling ≡ records body
  same_length = settling_length h ∙ length_trace_of body

  settled_at : (k : ℕ) → k < records body → SettledInstruction (instruction_of (fields_at body k)) (instruction settling k)
  settled_at k l =
      subst
      (λ (i : Instruction). SettledInstruction i (instruction settling k))
      (instruction_trace_of body k l)
      (settling_at h k (omega (arith, length_trace_of body)))

  pub settling_few : length settling ≤ max_instructions
  settling_few = omega (arith, same_length, few_records body accepted)

  pub settling_lawful : (k : ℕ) → k < length settling → Lawful (instruction settling k)
  unfolding breaks_at
  settling_lawful k l =
      let inside : k < records body = omega (arith, same_length) in
      settled_lawful (fields_at body k) _ (settled_at k inside) _ (breaks_none body accepted k inside) (fields_within body accepted b k inside)

  pub settling_known : (k : ℕ) → k < length settling → Known (instruction settling k)
  settling_known k l = settled_known (settled_at k (omega (arith, same_length)))

  settling_is_body : Bytes (body_of settling) × (known_refusal (body_of settling) ≡ 0) × (trace_of (body_of settling) ≡ settling)
  settling_is_body = trace_is_body settling settling_few settling_lawful settling_known

pub settlings_are_bodies : SettlingsAreBodies
settlings_are_bodies = settling_is_body

-- The settling of a body in which every unknown flag becomes `to`, a hit or a miss.
module _ (to : Flag) (u : Settled unknown to) (body : List ℕ) (b : Bytes body) (accepted : body_refusal body ≡ 0) where
  as_body : Bytes (settled_body to body) × (known_refusal (settled_body to body) ≡ 0) × (trace_of (settled_body to body) ≡ settle to (trace_of body))
  unfolding settled_body
  as_body = settlings_are_bodies body b accepted (settle to (trace_of body)) (settles to u (trace_of body))

  pub settled_body_bytes : Bytes (settled_body to body)
  settled_body_bytes = as_body.0

  pub settled_body_passes : known_refusal (settled_body to body) ≡ 0
  settled_body_passes = as_body.1

  pub settled_body_decoded : trace_of (settled_body to body) ≡ settle to (trace_of body)
  settled_body_decoded = as_body.2

  pub settled_body_settles : Settling (trace_of body) (trace_of (settled_body to body))
  settled_body_settles = rw settled_body_decoded (settles to u (trace_of body))

-- A body that 11 does not decline has no unknown flag, so it is its own only settling.
flag_known : (n : ℕ) → n ≤ 1 → ¬ (flag_of n ≡ unknown)
unfolding flag_of
flag_known zero l e = let z : ◌≡◌ {A = ℕ} 0 1 = cc in omega arith
flag_known (suc zero) l e = let z : ◌≡◌ {A = ℕ} 0 1 = cc in omega arith
flag_known (suc (suc n)) l e = absurd (omega arith)

module _ (body : List ℕ) (b : Bytes body) (settled : known_refusal body ≡ 0) where
  pub trace_known : (k : ℕ) → k < length (trace_of body) → Known (instruction (trace_of body) k)
  unfolding instruction_of
  trace_known k l =
      let inside : k < records body = omega (arith, length_trace_of body) in
      let flags = flags_known body settled b k inside in
      rw (instruction_trace_of body k inside)
      (record { fetch = flag_known _ flags.0; access = flag_known _ flags.1 })

  pub settled_trace : (to : Flag) → Settled unknown to → settle to (trace_of body) ≡ trace_of body
  settled_trace to u = only_settling _ _ (settles to u (trace_of body)) trace_known

  pub settled_body_lem : (to : Flag) → Settled unknown to → settled_body to body ≡ body
  unfolding settled_body
  settled_body_lem to u = ap body_of (settled_trace to u) ∙ accepted_is_encoded body b (known_accepted body settled)
