-- The time on a shared bus, as two claims: document 02, F-1. Each is said once, of anything that places instructions and gives times, and claimed for
-- the cycle rules and for what Run and Finish answer, for one h throughout (document 02, F-4).
use Rattle.std.specs.Prelude.{ℕ, ◌≤◌, ◌<◌, List, ◌≡◌}
use Rattle.machine.specs.Instruction.{Trace, instruction}
use Rattle.machine.specs.Time.{Settling, Delayed}
use Rattle.machine.specs.Bus.{Access, UnderWay}
use Rattle.record.specs.Body.{records, trace_of, trace_with, settled_refusal}
use Rattle.bus.specs.Answers.{bus_refusal, bus_answer}
use Rattle.claims.specs.Claim.{Passes, Engine, rules, calls}

-- "every settling of the flags and every added wait from 0 to d on each missed access": a body without unknown flags that is a settling of the first,
-- delayed by at most d
pub record VersionOf (h : ℕ) (body : List ℕ) (longest : ℕ) (version : List ℕ) : Type 0 where
  pub passes : Passes settled_refusal h version
  pub settling : Trace
  pub settles : Settling (trace_of body) settling
  pub delays : Delayed longest settling (trace_of version)

-- "It must hold": no version finishes later than the time given
abbrev pub NoneLater : ℕ → Engine → Type 0
NoneLater h engine =
    (body version : List ℕ) (longest : ℕ) →
    Passes (λ bytes. bus_refusal bytes longest) h body →
    VersionOf h body longest version →
    engine.time version ≤ (bus_answer body longest h).time

-- a trace is that of a version, which 10, 8, 17 and 11 do not decline
pub record EmbodiedVersion (h : ℕ) (body : List ℕ) (longest : ℕ) (trace : Trace) : Type 0 where
  pub encoding : List ℕ
  pub is_version : VersionOf h body longest encoding
  pub decodes : trace_of encoding ≡ trace

-- `NoneLater` speaks of the versions that are bodies. "15: a counted latency plus d exceeds 65,535": where the call gives no refusal, every settling
-- that is delayed by at most d is the trace of such a body, so that it leaves none out.
abbrev pub VersionsCovered : ℕ → Type 0
VersionsCovered h =
    (body : List ℕ) (longest : ℕ) →
    Passes (λ bytes. bus_refusal bytes longest) h body →
    (settling trace : Trace) →
    Settling (trace_of body) settling →
    Delayed longest settling trace →
    EmbodiedVersion h body longest trace

-- The time holds.
abbrev pub TimeHolds : Type 0
TimeHolds = (h : ℕ) → NoneLater h (rules h) × NoneLater h (calls h) × VersionsCovered h

-- "from the start, at most one of these is under way after any cycle": two accesses that are under way are the same access of the same instruction
abbrev pub AtMostOne : ℕ → Engine → Type 0
AtMostOne h engine =
    (body : List ℕ) →
    Passes settled_refusal h body →
    (cycles i j : ℕ) →
    i < records body →
    j < records body →
    (a b : Access) →
    UnderWay (instruction (trace_with body h) i) (engine.places body cycles i) a →
    UnderWay (instruction (trace_with body h) j) (engine.places body cycles j) b →
    (i ≡ j) × (a ≡ b)

-- One at a time.
abbrev pub OneAtATime : Type 0
OneAtATime = (h : ℕ) → AtMostOne h (rules h) × AtMostOne h (calls h)
