-- Step takes D, and F-3's, F-4's and F-6's examples, from each row of its chart to the next, and judges counts by h: by computation.
use mathlib.Core.Path.{refl}
use Rattle.machine.specs.Test.{◌and◌, ◌or◌, every, none}
use Rattle.machine.specs.Rules.{further, short_of, entry, no_older, reads_in_ID, reads_in_EX, misses_data, ready_in, ready, budget, moves_within, moves, cycle}
use Rattle.machine.specs.State.{holds, place_of, fetched_below, occupant_below, state_of, younger, orderly}
use Rattle.machine.specs.Cases.{chart_of_D, value_loaded, chart_of_value, store_and_load, chart_of_hits, jump_and_plain, chart_of_jump}
use Rattle.machine.specs.Hits.{with_hits}
use Rattle.record.specs.Refusal.{◌then◌, ◌unless◌}
use Rattle.record.specs.Layout.{fields_from, record_bytes}
use Rattle.record.specs.Rules.{breaks_rules, has_unknown, not_above, kind_of, flag_of, instruction_of, fields_of}
use Rattle.record.specs.Body.{breaks_at, unknown_at, not_above_at, firsts, trace_of, length_refusal, record_refusal, unknown_refusal, hit_refusal, body_refusal, timed_refusal, settled_refusal}
use Rattle.encoding.specs.Encoding.{record_of, body_of}
use Rattle.pipeline.specs.Step.{step_refusal, onward, step_answer}
use Rattle.pipeline.specs.Cases.{StepAnswered, ValueStepAnswered, HitStepAnswered, JumpStepAnswered, CountsJudged}

pub step_answered : StepAnswered
unfolding ◌and◌ ◌or◌ every none further short_of entry no_older reads_in_ID reads_in_EX misses_data ready_in ready budget moves_within moves cycle holds place_of fetched_below occupant_below state_of younger orderly with_hits chart_of_D ◌then◌ ◌unless◌ fields_from breaks_rules has_unknown not_above kind_of flag_of instruction_of breaks_at unknown_at not_above_at firsts trace_of length_refusal record_refusal unknown_refusal hit_refusal body_refusal timed_refusal settled_refusal step_refusal onward step_answer
step_answered = refl

pub value_step_answered : ValueStepAnswered
unfolding ◌and◌ ◌or◌ every none further short_of entry no_older reads_in_ID reads_in_EX misses_data ready_in ready budget moves_within moves cycle holds place_of fetched_below occupant_below state_of younger orderly with_hits value_loaded chart_of_value ◌then◌ ◌unless◌ fields_from breaks_rules has_unknown not_above kind_of flag_of instruction_of breaks_at unknown_at not_above_at firsts trace_of record_of record_bytes fields_of body_of length_refusal record_refusal unknown_refusal hit_refusal body_refusal timed_refusal settled_refusal step_refusal onward step_answer
value_step_answered = refl

pub hit_step_answered : HitStepAnswered
unfolding ◌and◌ ◌or◌ every none further short_of entry no_older reads_in_ID reads_in_EX misses_data ready_in ready budget moves_within moves cycle holds place_of fetched_below occupant_below state_of younger orderly with_hits store_and_load chart_of_hits ◌then◌ ◌unless◌ fields_from breaks_rules has_unknown not_above kind_of flag_of instruction_of breaks_at unknown_at not_above_at firsts trace_of record_of record_bytes fields_of body_of length_refusal record_refusal unknown_refusal hit_refusal body_refusal timed_refusal settled_refusal step_refusal onward step_answer
hit_step_answered = refl

pub jump_step_answered : JumpStepAnswered
unfolding ◌and◌ ◌or◌ every none further short_of entry no_older reads_in_ID reads_in_EX misses_data ready_in ready budget moves_within moves cycle holds place_of fetched_below occupant_below state_of younger orderly with_hits jump_and_plain chart_of_jump ◌then◌ ◌unless◌ fields_from breaks_rules has_unknown not_above kind_of flag_of instruction_of breaks_at unknown_at not_above_at firsts trace_of record_of record_bytes fields_of body_of length_refusal record_refusal unknown_refusal hit_refusal body_refusal timed_refusal settled_refusal step_refusal onward step_answer
jump_step_answered = refl

pub counts_judged : CountsJudged
unfolding ◌and◌ ◌or◌ every none further short_of entry no_older reads_in_ID reads_in_EX misses_data ready_in ready budget moves_within moves cycle holds place_of fetched_below occupant_below state_of younger orderly with_hits store_and_load chart_of_hits ◌then◌ ◌unless◌ fields_from breaks_rules has_unknown not_above kind_of flag_of instruction_of breaks_at unknown_at not_above_at firsts trace_of record_of record_bytes fields_of body_of length_refusal record_refusal unknown_refusal hit_refusal body_refusal timed_refusal settled_refusal step_refusal onward step_answer
counts_judged = refl
