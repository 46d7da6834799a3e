-- 17 of bodies that are made of others: it asks for kinds and data latencies alone, so that it declines no settling of a body that it lets pass, and no
-- such settling with waits. And which traces the claims of the machine speak of.
use Prim.Native.Nat.{ℕ, ◌<◌}
use mathlib.Core.List.{List}
use mathlib.Core.Path.{◌≡◌, ap, subst, ◌∙◌}
use Rattle.machine.specs.Instruction.{Instruction, Trace}
use Rattle.machine.specs.Rules.{has_access}
use Rattle.machine.specs.Time.{Settling, Delayed}
use Rattle.machine.specs.Hits.{HitsTake}
use Rattle.machine.proofs.Hits.{hit_at, hits_settle, hits_delayed, settling_hits, delayed_hits, instruction_hits}
use Rattle.record.specs.Body.{trace_of, trace_with, hit_refusal, timed_refusal, settled_refusal}
use Rattle.record.proofs.Accepted.{hits_of, few_cycles, body_hits, timed_hits, settled_timed}
use Rattle.claims.specs.Claim.{Passes}

module _ {h : ℕ} {body : List ℕ} where
  pub passed_hits : Passes timed_refusal h body → hit_refusal body h ≡ 0
  passed_hits p = timed_hits body h p.passes

  pub timed_takes : Passes timed_refusal h body → HitsTake h (trace_with body h)
  timed_takes p = body_hits body h (passed_hits p)

  pub settled_takes : Passes settled_refusal h body → HitsTake h (trace_with body h)
  settled_takes p = body_hits body h (timed_hits body h (settled_timed body h p.passes))

-- a body whose trace has such data latencies for h is not declined
pub takes_passes : (h : ℕ) (body other : List ℕ) → hit_refusal body h ≡ 0 → HitsTake h (trace_with other h) → hit_refusal other h ≡ 0
takes_passes h body other passes takes =
    hits_of other h (few_cycles body h passes) λ k l e.
    let this = instruction_hits h (trace_of other) k in
    subst (λ (i : Instruction). h < i.data_latency) this
    ((hit_at (trace_with other h) takes k).above (ap (λ (i : Instruction). has_access i.kind) this ∙ e))

module _ (h : ℕ) (body : List ℕ) (passes : hit_refusal body h ≡ 0) where
  pub settling_passes : (other : List ℕ) → Settling (trace_of body) (trace_of other) → hit_refusal other h ≡ 0
  settling_passes other s = takes_passes h body other passes (hits_settle (settling_hits h s) (body_hits body h passes))

  pub version_passes :
      (settling : Trace) (wait : ℕ) (other : List ℕ) →
      Settling (trace_of body) settling →
      Delayed wait settling (trace_of other) →
      hit_refusal other h ≡ 0
  version_passes settling wait other s d =
      takes_passes h body other passes (hits_delayed (delayed_hits h d) (hits_settle (settling_hits h s) (body_hits body h passes)))
