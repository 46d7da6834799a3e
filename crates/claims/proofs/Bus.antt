-- The time on a shared bus holds, and accesses are under way one at a time: of the rules both are what the machine's theory shows, at the traces of
-- bodies; the calls answer what the rules give. Where the call gives no refusal, a wait keeps every latency within its two bytes.
use Prim.Native.Nat.{ℕ, ◌+◌, ◌≤◌, ◌<◌}
use mathlib.Core.Bool.{Bool, true, false, not, cond}
use mathlib.Core.List.{List}
use mathlib.Core.Path.{◌≡◌, sym, subst}
use native.Mathlib.Omega.{arith}
use borrow.Author.Tests.{eq-eqb, ltb-false}
use lib.Dec.{ltb}
use lib.ListN.{length}
use Rattle.machine.specs.Test.{◌and◌, ◌or◌}
use Rattle.machine.specs.Instruction.{Flag, Instruction, Trace, instruction}
use Rattle.machine.specs.Rules.{is_load, is_store, hits as hitting, misses, misses_data}
use Rattle.machine.specs.Time.{Settled, hit_stays, miss_stays, unknown_hits, unknown_misses, SettledInstruction, Settling, with_waits, Delayed, finish}
use Rattle.machine.specs.Bus.{counts_fetch, counts_data, bus_time}
use Rattle.machine.proofs.Connectives.{or_failed_l, or_failed_r, none_at}
use Rattle.machine.proofs.Settled.{settling_length, settling_at}
use Rattle.machine.proofs.Delays.{delayed_length, delayed_at, delayed_no_later}
use Rattle.machine.specs.Hits.{with_hits}
use Rattle.machine.proofs.Hits.{length_hits, settling_hits, delayed_hits}
use Rattle.machine.proofs.UnderWay.{one_under_way}
use Rattle.record.specs.Rules.{kind_of, instruction_of}
use Rattle.record.specs.Body.{records, fields_at, trace_of, trace_with, body_refusal, timed_refusal}
use Rattle.record.proofs.Accepted.{fields_within, timed_accepted, settled_of}
use Rattle.record.proofs.Refusals.{then_first, then_second, unless_passed}
use Rattle.record.proofs.Instructions.{length_trace_of, instruction_trace_of}
use Rattle.encoding.specs.Encoding.{body_of}
use Rattle.encoding.specs.Claims.{LatenciesFit}
use Rattle.encoding.proofs.DelayedBody.{delayed_are_bodies}
use Rattle.bus.specs.Answers.{exceeds, exceeds_at, wait_refusal, bus_refusal, bus_answer}
use Rattle.claims.specs.Claim.{Passes, rules, calls}
use Rattle.claims.specs.Bus.{EmbodiedVersion, NoneLater, TimeHolds, AtMostOne, OneAtATime}
use Rattle.claims.proofs.Hits.{passed_hits, timed_takes, version_passes}
use Rattle.claims.proofs.Claim.{run_answered, finish_answered}

-- what the call answers for a body that it does not refuse
bus_answered : (h : ℕ) (body : List ℕ) (wait : ℕ) → bus_refusal body wait h ≡ 0 → (bus_answer body wait h).time ≡ bus_time (trace_with body h) wait
unfolding bus_answer
bus_answered h body wait e = rw (eq-eqb (bus_refusal body wait h) 0 e)

timed : (h : ℕ) (body : List ℕ) (wait : ℕ) → Passes (λ bytes. bus_refusal bytes wait) h body → Passes timed_refusal h body
unfolding bus_refusal
timed h body wait p = record { bytes = p.bytes; passes = then_first (timed_refusal body h) (wait_refusal body wait) p.passes }

none_later : (h : ℕ) → NoneLater h (rules h)
none_later h body version wait p v =
    subst
    (λ (time : ℕ). finish (trace_with version h) ≤ time)
    (sym (bus_answered h body wait p.passes))
    (delayed_no_later h (trace_with body h) (with_hits h v.settling) (trace_with version h) wait (timed_takes (timed h body wait p)) (settling_hits h v.settles) (delayed_hits h v.delays))

calls_none_later : (h : ℕ) → NoneLater h (calls h)
calls_none_later h body version wait p v = rw (finish_answered h version v.passes) (none_later h body version wait p v)

-- a latency with its wait fits two bytes: the access is counted where it is missed in a settling
latency_fits : (x : Bool) {f g : Flag} {wait w m : ℕ} → Settled f g → w ≤ wait → m < 65536 → ((x and not (hitting f)) and ltb 65535 (m + wait)) ≡ false → m + cond (x and misses g) w 0 < 65536
unfolding ◌and◌
latency_fits true hit_stays l small e = omega arith
latency_fits true {wait = wait} {m = m} miss_stays l small e = omega (arith, ltb-false 65535 (m + wait) e)
latency_fits true unknown_hits l small e = omega arith
latency_fits true {wait = wait} {m = m} unknown_misses l small e = omega (arith, ltb-false 65535 (m + wait) e)
latency_fits false s l small e = omega arith

module _ (hits : ℕ) (body : List ℕ) (wait : ℕ) (p : Passes (λ bytes. bus_refusal bytes wait) hits body) where
  accepted : body_refusal body ≡ 0
  accepted = timed_accepted body hits (timed hits body wait p).passes

  none_exceeds : (k : ℕ) → k < records body → exceeds wait (instruction_of (fields_at body k)) ≡ false
  unfolding bus_refusal wait_refusal exceeds_at
  none_exceeds k l =
      none_at (exceeds_at body wait) (records body) (unless_passed _ _ (then_second (timed_refusal body hits) (wait_refusal body wait) p.passes)) k l

  module _ (settling trace : Trace) (h : Settling (trace_of body) settling) (d : Delayed wait settling trace) where
    fit : (k : ℕ) → k < length trace → LatenciesFit (instruction trace k)
    unfolding exceeds counts_fetch counts_data misses_data with_waits instruction_of ◌and◌
    fit k l =
        let inside : k < records body = omega (arith, delayed_length d, settling_length h, length_trace_of body) in
        let settled : SettledInstruction (instruction_of (fields_at body k)) (instruction settling k) =
        subst (λ (i : Instruction). SettledInstruction i (instruction settling k)) (instruction_trace_of body k inside) (settling_at h k (omega (arith, length_trace_of body))) in
        let delayed = delayed_at d k (omega (arith, delayed_length d)) in
        let within = fields_within body accepted p.bytes k inside in
        let small = none_exceeds k inside in
        subst LatenciesFit (sym delayed.waited)
        (record {
          fetch = rw settled.fetch_latency (latency_fits true settled.fetch delayed.fetch_within (omega (arith, within.fetch_latency.1)) (or_failed_l _ _ small));
          access =
              rw (settled.data_latency, settled.kind)
              (latency_fits (is_load (kind_of (fields_at body k).kind) or is_store (kind_of (fields_at body k).kind)) settled.access delayed.data_within (omega (arith, within.data_latency)) (or_failed_r _ _ small));
        })

    version_covered : EmbodiedVersion hits body wait trace
    version_covered =
        let is_body = delayed_are_bodies body p.bytes accepted settling trace wait h d fit in
        record {
          encoding = body_of trace;
          is_version =
              record {
                passes =
                    record {
                      bytes = is_body.0;
                      passes =
                          settled_of (body_of trace) hits is_body.1
                          (version_passes hits body (passed_hits (timed hits body wait p)) settling wait (body_of trace) h (subst (Delayed wait settling) (sym is_body.2) d));
                    };
                settling = settling;
                settles = h;
                delays = subst (Delayed wait settling) (sym is_body.2) d;
              };
          decodes = is_body.2;
        }

pub time_holds : TimeHolds
time_holds h = (none_later h, calls_none_later h, version_covered h)

at_most_one : (h : ℕ) → AtMostOne h (rules h)
at_most_one h body p cycles i j l m a b =
    let same = length_hits h (trace_of body) in
    one_under_way (trace_with body h) cycles i j a b (omega (arith, length_trace_of body)) (omega (arith, length_trace_of body))

calls_at_most_one : (h : ℕ) → AtMostOne h (calls h)
calls_at_most_one h body p cycles i j l m =
    rw (run_answered h body p cycles i l, run_answered h body p cycles j m) (at_most_one h body p cycles i j l m)

pub one_at_a_time : OneAtATime
one_at_a_time h = (at_most_one h, calls_at_most_one h)
