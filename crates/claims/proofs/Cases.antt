-- The calls answer for A to L, and for what document 02 amends, what the documents' times say: the times by computation, and from the times what Run answers for every limit.
use Prim.Native.Nat.{ℕ, min}
use mathlib.Core.Bool.{Bool, true, false, not}
use mathlib.Core.List.{List, [], ◌∷◌, map}
use mathlib.Core.Path.{◌≡◌, refl, ap₂, ◌∙◌}
use native.Mathlib.Omega.{arith}
use borrow.Author.Tests.{leb-true, le-leb, eqb-true}
use lib.Dec.{leb, eqb}
use Rattle.machine.specs.Test.{◌and◌, ◌or◌, every, none}
use Rattle.machine.specs.Instruction.{Trace}
use Rattle.machine.specs.Rules.{further as furtherOn, short_of, entry, no_older, reads_in_ID, reads_in_EX, misses_data, ready_in, ready, budget, moves_within, moves, cycle, all_pre, after, all_left}
use Rattle.machine.specs.Time.{bound, least_from, finish, settle, best, worst}
use Rattle.machine.specs.Hits.{with_hits}
use Rattle.machine.specs.State.{fetched_below, occupant_below, state_of}
use Rattle.machine.specs.Cases.{Case, timed, cases, further, late_values, store_and_load, hit_cases, jump_and_plain, jumps, all_cases, chart_of_D, chart_of_hits, chart_of_jump}
use Rattle.machine.proofs.Connectives.{Value, passed, failed, value, both_ways, and_l, and_r, implies}
use Rattle.machine.proofs.Finish.{all_left_is}
use Rattle.record.specs.Refusal.{◌then◌, ◌unless◌}
use Rattle.record.specs.Layout.{fields_from, record_bytes}
use Rattle.record.specs.Rules.{breaks_rules, has_unknown, not_above, kind_of, flag_of, instruction_of, fields_of}
use Rattle.record.specs.Body.{breaks_at, unknown_at, not_above_at, firsts, trace_of, length_refusal, record_refusal, unknown_refusal, hit_refusal, body_refusal, timed_refusal, settled_refusal}
use Rattle.encoding.specs.Encoding.{record_of, body_of}
use Rattle.encoding.specs.Cases.{known, refusal_of}
use Rattle.encoding.proofs.RoundTrip.{timed_again}
use Rattle.running.specs.Run.{ran_for, run_answer}
use Rattle.timing.specs.Answers.{finish_answer, best_worst_answer, margin_answer}
use Rattle.claims.specs.Cases.{finish_of, best_worst_of, run_of, margin_of, CasesAnswered, ChartAnswered, HitChartAnswered, JumpChartAnswered}

-- all have left by a limit when the cycles run come to the finishing time
left_by : (trace : Trace) (limit time : ℕ) → finish trace ≡ time → all_left trace (after trace (min limit time)) ≡ leb time limit
left_by trace limit time e =
    all_left_is trace (min limit time)
    ∙ rw e
    (both_ways _ _
    (λ t. let l = leb-true time (min limit time) t in le-leb time limit (omega arith))
    (λ t. let l = leb-true time limit t in le-leb time (min limit time) (omega arith)))

-- what Run and Margin answer for a case, by the refusals of its body and its times
module _ (c : Case) where
  run_known
      : settled_refusal (body_of c.trace) c.hits ≡ refusal_of c.trace → known c.trace ≡ true → finish (timed c) ≡ c.worst → (limit : ℕ) →
      run_answer (body_of c.trace) limit c.hits ≡ run_of c limit
  unfolding run_answer ran_for run_of refusal_of
  run_known checked k e limit = rw (checked, k, timed_again c.trace c.hits, e, left_by (timed c) limit c.worst e)

  run_unknown
      : settled_refusal (body_of c.trace) c.hits ≡ refusal_of c.trace → known c.trace ≡ false → (limit : ℕ) →
      run_answer (body_of c.trace) limit c.hits ≡ run_of c limit
  unfolding run_answer run_of refusal_of
  run_unknown checked k limit = rw (checked, k)

  margin_of_lem : timed_refusal (body_of c.trace) c.hits ≡ 0 → worst (timed c) ≡ c.worst → (deadline : ℕ) → margin_answer (body_of c.trace) deadline c.hits ≡ margin_of c deadline
  unfolding margin_answer margin_of
  margin_of_lem accepted e deadline = rw (accepted, timed_again c.trace c.hits, e)

  -- the same from tests
  runs : Bool
  runs = eqb (settled_refusal (body_of c.trace) c.hits) (refusal_of c.trace) and (not (known c.trace) or eqb (finish (timed c)) c.worst)

  margins : Bool
  margins = eqb (timed_refusal (body_of c.trace) c.hits) 0 and eqb (worst (timed c)) c.worst

  run_tested : runs ≡ true → (limit : ℕ) → run_answer (body_of c.trace) limit c.hits ≡ run_of c limit
  unfolding runs
  run_tested e = by_flags (eqb-true _ _ (and_l _ _ e)) (and_r _ _ e) (value (known c.trace))
    where
      by_flags
          : settled_refusal (body_of c.trace) c.hits ≡ refusal_of c.trace →
          (not (known c.trace) or eqb (finish (timed c)) c.worst) ≡ true →
          Value (known c.trace) →
          (limit : ℕ) →
          run_answer (body_of c.trace) limit c.hits ≡ run_of c limit
      by_flags checked time (passed k) = run_known checked k (eqb-true _ _ (implies _ _ time k))
      by_flags checked time (failed k) = run_unknown checked k

  margin_tested : margins ≡ true → (deadline : ℕ) → margin_answer (body_of c.trace) deadline c.hits ≡ margin_of c deadline
  unfolding margins
  margin_tested e = margin_of_lem (eqb-true _ _ (and_l _ _ e)) (eqb-true _ _ (and_r _ _ e))

-- what holds of every case that passes a test holds of a table whose cases pass
all : (Case → Bool) → List Case → Bool
all test [] = true
all test (c ∷ cs) = test c and all test cs

map_same
    : {A : Type 0} (test : Case → Bool) (f g : Case → A) → ((c : Case) → test c ≡ true → f c ≡ g c) →
    (table : List Case) → all test table ≡ true → map f table ≡ map g table
unfolding all
map_same test f g same [] e = refl
map_same {A} test f g same (c ∷ cs) e =
    ap₂ (λ (a : A) (rest : List A). a ∷ rest) (same c (and_l _ _ e)) (map_same test f g same cs (and_r _ _ e))

cases_run : all runs all_cases ≡ true
unfolding ◌and◌ ◌or◌ every none furtherOn short_of entry no_older reads_in_ID reads_in_EX misses_data ready_in ready budget moves_within moves cycle all_pre after all_left bound least_from finish with_hits cases further late_values hit_cases jumps ◌then◌ ◌unless◌ fields_from breaks_rules has_unknown not_above breaks_at unknown_at not_above_at record_of record_bytes fields_of body_of length_refusal record_refusal unknown_refusal hit_refusal body_refusal timed_refusal settled_refusal known refusal_of runs all
cases_run = refl

cases_margin : all margins all_cases ≡ true
unfolding ◌and◌ ◌or◌ every none furtherOn short_of entry no_older reads_in_ID reads_in_EX misses_data ready_in ready budget moves_within moves cycle all_pre after all_left bound least_from finish settle worst with_hits cases further late_values hit_cases jumps ◌then◌ ◌unless◌ fields_from breaks_rules not_above breaks_at not_above_at record_of record_bytes fields_of body_of length_refusal record_refusal hit_refusal body_refusal timed_refusal margins all
cases_margin = refl

pub cases_answered : CasesAnswered
unfolding ◌and◌ ◌or◌ every none furtherOn short_of entry no_older reads_in_ID reads_in_EX misses_data ready_in ready budget moves_within moves cycle all_pre after all_left bound least_from finish settle best worst with_hits cases further late_values hit_cases jumps ◌then◌ ◌unless◌ fields_from breaks_rules has_unknown not_above kind_of flag_of instruction_of breaks_at unknown_at not_above_at firsts trace_of record_of record_bytes fields_of body_of length_refusal record_refusal unknown_refusal hit_refusal body_refusal timed_refusal settled_refusal known refusal_of finish_answer best_worst_answer finish_of best_worst_of
cases_answered =
    record {
      finish = refl;
      best_worst = refl;
      run = λ limit. map_same runs _ _ (λ c e. run_tested c e limit) all_cases cases_run;
      margin = λ deadline. map_same margins _ _ (λ c e. margin_tested c e deadline) all_cases cases_margin;
    }

pub chart_answered : ChartAnswered
unfolding ◌and◌ ◌or◌ every none furtherOn short_of entry no_older reads_in_ID reads_in_EX misses_data ready_in ready budget moves_within moves cycle all_pre after all_left bound least_from finish fetched_below occupant_below state_of with_hits chart_of_D ◌then◌ ◌unless◌ fields_from breaks_rules has_unknown not_above kind_of flag_of instruction_of breaks_at unknown_at not_above_at firsts trace_of length_refusal record_refusal unknown_refusal hit_refusal body_refusal timed_refusal settled_refusal ran_for run_answer
chart_answered = refl

pub hit_chart_answered : HitChartAnswered
unfolding ◌and◌ ◌or◌ every none furtherOn short_of entry no_older reads_in_ID reads_in_EX misses_data ready_in ready budget moves_within moves cycle all_pre after all_left bound least_from finish fetched_below occupant_below state_of with_hits store_and_load chart_of_hits ◌then◌ ◌unless◌ fields_from breaks_rules has_unknown not_above kind_of flag_of instruction_of breaks_at unknown_at not_above_at firsts trace_of record_of record_bytes fields_of body_of length_refusal record_refusal unknown_refusal hit_refusal body_refusal timed_refusal settled_refusal ran_for run_answer
hit_chart_answered = refl

pub jump_chart_answered : JumpChartAnswered
unfolding ◌and◌ ◌or◌ every none furtherOn short_of entry no_older reads_in_ID reads_in_EX misses_data ready_in ready budget moves_within moves cycle all_pre after all_left bound least_from finish fetched_below occupant_below state_of with_hits jump_and_plain chart_of_jump ◌then◌ ◌unless◌ fields_from breaks_rules has_unknown not_above kind_of flag_of instruction_of breaks_at unknown_at not_above_at firsts trace_of record_of record_bytes fields_of body_of length_refusal record_refusal unknown_refusal hit_refusal body_refusal timed_refusal settled_refusal ran_for run_answer
jump_chart_answered = refl
