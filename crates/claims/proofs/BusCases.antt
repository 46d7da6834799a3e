-- The time on a shared bus for A to L, for data hits and for jumps, by computation.
use mathlib.Core.Path.{◌≡◌, refl, ap, ◌∙◌}
use native.Mathlib.Omega.{arith}
use Prim.Native.Nat.{ℕ, zero, suc, ◌<◌}
use mathlib.Core.List.{[], ◌∷◌}
use lib.ListN.{length}
use Rattle.machine.specs.Test.{◌and◌, ◌or◌, every, none}
use Rattle.machine.specs.Instruction.{miss, Instruction, Trace, instruction}
use Rattle.machine.specs.Rules.{further as furtherOn, short_of, entry, no_older, reads_in_ID, reads_in_EX, misses_data, ready_in, ready, budget, moves_within, moves, cycle, all_pre, after, all_left}
use Rattle.machine.specs.Time.{bound, least_from, finish, unknown_misses, with_waits, settle_flag, settle_instruction, settle, worst}
use Rattle.machine.specs.Hits.{with_hits}
use Rattle.machine.specs.Bus.{counts_fetch, counts_data, accesses_of, accesses, bus_time, fetch_in_IF, load_in_MEM, store_in_ST, store_in_MEM}
use Rattle.machine.specs.Cases.{cases, case_C, case_F, case_I, case_L, miss_and_hit, jumps}
use Rattle.machine.proofs.Delays.{all_at_worst, worst_delayed}
use Rattle.machine.proofs.Settlings.{settles}
use Rattle.record.specs.Refusal.{◌then◌, ◌unless◌}
use Rattle.record.specs.Layout.{fields_from, record_bytes}
use Rattle.record.specs.Rules.{breaks_rules, not_above, kind_of, flag_of, instruction_of, fields_of}
use Rattle.record.specs.Body.{breaks_at, not_above_at, firsts, trace_of, length_refusal, record_refusal, hit_refusal, body_refusal, timed_refusal}
use Rattle.encoding.specs.Encoding.{record_of, body_of}
use Rattle.encoding.proofs.Fits.{Small, small_bytes}
use Rattle.encoding.proofs.RoundTrip.{trace_again}
use Rattle.bus.specs.Answers.{exceeds, exceeds_at, wait_refusal, bus_refusal, bus_answer}
use Rattle.claims.specs.Bus.{EmbodiedVersion}
use Rattle.claims.specs.BusCases.{BusAnswered, LongWaitDeclined, HitsOnBus, JumpsOnBus, WaitsAttain, TimeAttained, EachUnderWay}
use Rattle.claims.proofs.Claim.{finish_answered}
use Rattle.claims.proofs.Bus.{time_holds}

pub bus_answered : BusAnswered
unfolding ◌and◌ ◌or◌ every none furtherOn short_of entry no_older reads_in_ID reads_in_EX misses_data ready_in ready budget moves_within moves cycle all_pre after all_left bound least_from finish settle worst with_hits counts_fetch counts_data accesses_of accesses bus_time cases ◌then◌ ◌unless◌ fields_from breaks_rules not_above kind_of flag_of instruction_of breaks_at not_above_at firsts trace_of record_of record_bytes fields_of body_of length_refusal record_refusal hit_refusal body_refusal timed_refusal exceeds exceeds_at wait_refusal bus_refusal bus_answer
bus_answered = refl

pub long_wait_declined : LongWaitDeclined
unfolding ◌and◌ ◌or◌ every none counts_fetch counts_data cases case_C ◌then◌ ◌unless◌ fields_from breaks_rules not_above kind_of flag_of instruction_of breaks_at not_above_at record_of record_bytes fields_of body_of length_refusal record_refusal hit_refusal body_refusal timed_refusal exceeds exceeds_at wait_refusal bus_refusal bus_answer
long_wait_declined = (refl, refl)

pub hits_on_bus : HitsOnBus
unfolding ◌and◌ ◌or◌ every none furtherOn short_of entry no_older reads_in_ID reads_in_EX misses_data ready_in ready budget moves_within moves cycle all_pre after all_left bound least_from finish settle worst with_hits counts_fetch counts_data accesses_of accesses bus_time miss_and_hit ◌then◌ ◌unless◌ fields_from breaks_rules not_above kind_of flag_of instruction_of breaks_at not_above_at firsts trace_of record_of record_bytes fields_of body_of length_refusal record_refusal hit_refusal body_refusal timed_refusal exceeds exceeds_at wait_refusal bus_refusal bus_answer
hits_on_bus = refl

pub jumps_on_bus : JumpsOnBus
unfolding ◌and◌ ◌or◌ every none furtherOn short_of entry no_older reads_in_ID reads_in_EX misses_data ready_in ready budget moves_within moves cycle all_pre after all_left bound least_from finish settle worst with_hits counts_fetch counts_data accesses_of accesses bus_time jumps ◌then◌ ◌unless◌ fields_from breaks_rules not_above kind_of flag_of instruction_of breaks_at not_above_at firsts trace_of record_of record_bytes fields_of body_of length_refusal record_refusal hit_refusal body_refusal timed_refusal exceeds exceeds_at wait_refusal bus_refusal bus_answer
jumps_on_bus = refl

-- the cases' own traces have no cycles of a hit
one_none : (i : Instruction) → i.hit_cycles ≡ 0 → (k : ℕ) → k < 1 → (instruction (i ∷ []) k).hit_cycles ≡ 0
one_none i e zero l = e
one_none i e (suc k) l = absurd (omega arith)

two_none : (i j : Instruction) → i.hit_cycles ≡ 0 → j.hit_cycles ≡ 0 → (k : ℕ) → k < 2 → (instruction (i ∷ j ∷ []) k).hit_cycles ≡ 0
two_none i j e f zero l = e
two_none i j e f (suc zero) l = f
two_none i j e f (suc (suc k)) l = absurd (omega arith)

-- with a wait of 10 on every missed access
module _
    (trace : Trace)
    (small : Small (body_of trace))
    (none : (k : ℕ) → k < length trace → (instruction trace k).hit_cycles ≡ 0)
    (passes : bus_refusal (body_of trace) 10 0 ≡ 0)
    (finishes : finish (with_hits 0 (all_at_worst 10 (settle miss trace))) ≡ (bus_answer (body_of trace) 10 0).time) where
  as_body : EmbodiedVersion 0 (body_of trace) 10 (all_at_worst 10 (settle miss trace))
  as_body =
      (time_holds 0).2 (body_of trace) 10
      (record { bytes = small_bytes (body_of trace) small; passes = passes })
      (settle miss trace)
      (all_at_worst 10 (settle miss trace))
      (rw (trace_again trace none) (settles miss unknown_misses trace))
      (worst_delayed 10 (settle miss trace))

  attained : WaitsAttain trace 10
  attained =
      record {
        version = as_body.encoding;
        is_version = as_body.is_version;
        attains =
            finish_answered 0 as_body.encoding as_body.is_version.passes
            ∙ ap (λ (t : Trace). finish (with_hits 0 t)) as_body.decodes
            ∙ finishes;
      }

pub time_attained : TimeAttained
unfolding ◌and◌ ◌or◌ every none furtherOn short_of entry no_older reads_in_ID reads_in_EX misses_data ready_in ready budget moves_within moves cycle all_pre after all_left bound least_from finish with_waits settle_flag settle_instruction settle worst with_hits counts_fetch counts_data accesses_of accesses bus_time case_C case_F case_I case_L ◌then◌ ◌unless◌ fields_from breaks_rules not_above kind_of flag_of instruction_of breaks_at not_above_at firsts trace_of record_of record_bytes fields_of body_of length_refusal record_refusal hit_refusal body_refusal timed_refusal exceeds exceeds_at wait_refusal bus_refusal bus_answer all_at_worst
time_attained = (
  attained case_C (omega arith) (one_none _ refl) refl refl,
  attained case_F (omega arith) (two_none _ _ refl refl) refl refl,
  attained case_I (omega arith) (one_none _ refl) refl refl,
  attained case_L (omega arith) (two_none _ _ refl refl) refl refl,
)

pub each_under_way : EachUnderWay
unfolding ◌and◌ ◌or◌ every none furtherOn short_of entry no_older reads_in_ID reads_in_EX misses_data ready_in ready budget moves_within moves cycle all_pre after case_C case_F case_I
each_under_way = (
  fetch_in_IF refl refl (omega arith),
  load_in_MEM refl refl refl (omega arith),
  store_in_ST refl refl refl (omega arith),
  store_in_MEM refl refl refl,
)
