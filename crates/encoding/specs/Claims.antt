-- What is shown of records and bodies, as named types.
use Rattle.std.specs.Prelude.{ℕ, ◌≤◌, ◌<◌, false, ◌≡◌, List, [], ◌∷◌, map, T, length}
use Rattle.machine.specs.Instruction.{Instruction, Trace, instruction}
use Rattle.machine.specs.Time.{Settling, Delayed}
use Rattle.machine.specs.State.{max_instructions}
use Rattle.machine.specs.Cases.{cases, all_cases, case_D}
use Rattle.record.specs.Body.{Bytes, breaks_at, trace_of, body_refusal, known_refusal}
use Rattle.encoding.specs.Encoding.{record_of, body_of}
use Rattle.record.specs.Refusal.{unknown_flag}
use Rattle.encoding.specs.Cases.{bytes_of_D, cases_accepted}

-- Traces are accepted at all: A to L, and the cases that they do not show, those of document 02, F-3, F-4 and F-6, among them. Were the rules of a
-- record to refuse everything, what is claimed of accepted bodies would hold and say nothing.
abbrev pub CasesAccepted : Type 0
CasesAccepted = T (cases_accepted all_cases)

-- Of A to L only the last has unknown flags: 11 declines L alone.
abbrev pub OnlyLIsUnknown : Type 0
OnlyLIsUnknown = map (λ c. known_refusal (body_of c.trace)) cases ≡ 0 ∷ 0 ∷ 0 ∷ 0 ∷ 0 ∷ 0 ∷ 0 ∷ 0 ∷ 0 ∷ 0 ∷ 0 ∷ unknown_flag ∷ []

-- The encoding gives D the bytes that document 01 prints.
abbrev pub EncodingOfD : Type 0
EncodingOfD = body_of case_D ≡ bytes_of_D

-- An accepted body is the encoding of the trace that it decodes to.
abbrev pub AcceptedIsEncoded : Type 0
AcceptedIsEncoded = (body : List ℕ) → Bytes body → body_refusal body ≡ 0 → body_of (trace_of body) ≡ body

-- an instruction whose latencies fit their bytes and whose record keeps the rules; the cycles of a data hit are no part of a record
pub record Lawful (i : Instruction) : Type 0 where
  pub execution_latency : i.execution_latency < 256
  pub fetch_latency : i.fetch_latency < 65536
  pub data_latency : i.data_latency < 65536
  pub hit_cycles : i.hit_cycles ≡ 0
  pub rules : breaks_at (record_of i) 0 ≡ false

-- Decoding an encoding gives the trace back, and the encoding is made of bytes and accepted.
abbrev pub EncodingIsDecoded : Type 0
EncodingIsDecoded =
    (trace : Trace) →
    length trace ≤ max_instructions →
    ((k : ℕ) → k < length trace → Lawful (instruction trace k)) →
    (trace_of (body_of trace) ≡ trace) × Bytes (body_of trace) × (body_refusal (body_of trace) ≡ 0)

-- Every settling of an accepted body's trace is the trace of a body, which 10, 8 and 11 do not decline.
abbrev pub SettlingsAreBodies : Type 0
SettlingsAreBodies =
    (body : List ℕ) →
    Bytes body →
    body_refusal body ≡ 0 →
    (settling : Trace) →
    Settling (trace_of body) settling →
    Bytes (body_of settling) × (known_refusal (body_of settling) ≡ 0) × (trace_of (body_of settling) ≡ settling)

-- both latencies fit their two bytes
pub record LatenciesFit (i : Instruction) : Type 0 where
  pub fetch : i.fetch_latency < 65536
  pub access : i.data_latency < 65536

-- So is every settling that is delayed, as long as its latencies fit.
abbrev pub DelayedAreBodies : Type 0
DelayedAreBodies =
    (body : List ℕ) →
    Bytes body →
    body_refusal body ≡ 0 →
    (settling version : Trace) (longest : ℕ) →
    Settling (trace_of body) settling →
    Delayed longest settling version →
    ((k : ℕ) → k < length version → LatenciesFit (instruction version k)) →
    Bytes (body_of version) × (known_refusal (body_of version) ≡ 0) × (trace_of (body_of version) ≡ version)
