-- With h = 0 a body is refused, and its instructions stand and finish, as without h.
use Prim.Native.Nat.{ℕ, zero-le, ◌<◌}
use mathlib.Core.List.{List}
use mathlib.Core.Path.{◌≡◌, sym, ap, subst, ◌∙◌}
use native.Mathlib.Decide.{ℕ_discrete}
use Rattle.machine.specs.Instruction.{Flag, Trace}
use Rattle.machine.specs.Time.{finish, settle, best, worst}
use Rattle.machine.specs.Hits.{with_hits}
use Rattle.machine.specs.Before.{finish_before}
use Rattle.machine.specs.Claims.{AsBefore}
use Rattle.machine.proofs.Hits.{settle_hits}
use Rattle.machine.proofs.Zero.{zero_is_before}
use Rattle.record.specs.Body.{Bytes, trace_of, trace_with, body_refusal, hit_refusal, known_refusal, timed_refusal, settled_refusal}
use Rattle.record.proofs.Accepted.{zero_hits}
use Rattle.record.proofs.Instructions.{trace_hits}
use Rattle.record.proofs.Refusals.{then_none, then_some}
use Rattle.job.specs.Layout.{traces}
use Rattle.job.specs.Open.{file_refusal, open_body}
use Rattle.job.proofs.Accepted.{open_accepted}
use Rattle.job.proofs.Part.{opened_accepted, opened_bytes}
use Rattle.timed_file.specs.Refusal.{timed_file_refusal}
use Rattle.timed_file.proofs.Hits.{none_declined}
use Rattle.claims.specs.Zero.{BodyAsBefore, ZeroAsBefore}

module _ (body : List ℕ) (b : Bytes body) where
  timed_refusal_lem : timed_refusal body 0 ≡ body_refusal body
  unfolding timed_refusal
  timed_refusal_lem =
      elim (ℕ_discrete (body_refusal body) 0) [
        | yes z ↦ then_none _ _ z ∙ zero_hits body z b ∙ sym z
        | no h ↦ then_some _ _ h
      ]

  settled_refusal_lem : settled_refusal body 0 ≡ known_refusal body
  unfolding settled_refusal known_refusal
  settled_refusal_lem = rw timed_refusal_lem

  same : trace_with body 0 ≡ trace_of body
  same = trace_hits body

  before : AsBefore (trace_of body)
  before = subst AsBefore same (zero_is_before (trace_of body))

  settled_before : (to : Flag) → finish (settle to (trace_with body 0)) ≡ finish_before (settle to (trace_of body))
  settled_before to =
      let trace = settle to (trace_of body) in
      let kept : with_hits 0 trace ≡ trace = sym (settle_hits 0 to (trace_of body)) ∙ ap (settle to) same in
      ap (λ (t : Trace). finish (settle to t)) same ∙ (subst AsBefore kept (zero_is_before trace)).time

  body_as_before : BodyAsBefore body
  unfolding best worst
  body_as_before =
      record {
        timed_refusal_lem = timed_refusal_lem;
        settled_refusal_lem = settled_refusal_lem;
        counts = rw same before.counts;
        cycles = rw same before.cycles;
        places = rw same before.places;
        time = rw same before.time;
        best_time = settled_before _;
        worst_time = settled_before _;
        accesses = rw same;
      }

file_as_before : (file : List ℕ) → Bytes file → timed_file_refusal file 0 ≡ file_refusal file
unfolding timed_file_refusal
file_as_before file b =
    elim (ℕ_discrete (file_refusal file) 0) [
      | yes z ↦ then_none _ _ z ∙ sym (none_declined file 0 zero-le (λ t l. opened_hits t l z)) ∙ sym z
      | no h ↦ then_some _ _ h
    ]
  where
    opened_hits : (t : ℕ) → t < traces file → file_refusal file ≡ 0 → hit_refusal (open_body file t) 0 ≡ 0
    opened_hits t l z =
        let opened = open_accepted file t z l in
        zero_hits (open_body file t) (opened_accepted file t opened) (opened_bytes file t b opened)

pub zero_as_before : ZeroAsBefore
zero_as_before = (body_as_before, file_as_before)
