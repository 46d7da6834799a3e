-- A to L, D's chart and what F-3, F-4 and F-6 amend hold, by computation.
use mathlib.Core.Path.{refl}
use Rattle.machine.specs.Test.{◌and◌, ◌or◌, every, none}
use Rattle.machine.specs.Rules.{further as furtherOn, short_of, entry, no_older, reads_in_ID, reads_in_EX, misses_data, ready_in, ready, budget, moves_within, moves, cycle, all_pre, after, all_left}
use Rattle.machine.specs.Time.{bound, least_from, finish, settle, best, worst}
use Rattle.machine.specs.Hits.{with_hits}
use Rattle.machine.specs.State.{fetched_below, occupant_below, state_of}
use Rattle.machine.specs.Cases.{cases, further, value_loaded, nothing_loaded, late_values, store_and_load, hit_cases, jump_and_plain, jumps, cases_hold, case_D, rows, chart_of_D, chart_of_value, chart_of_hits, chart_of_jump}
use Rattle.machine.specs.Claims.{CasesHold, FurtherHold, LateValuesHold, HitCasesHold, JumpsHold, ChartHolds, ValueChartHolds, HitChartHolds, JumpChartHolds, ValueWaits}

pub cases_hold_lem : CasesHold
unfolding ◌and◌ ◌or◌ every none furtherOn short_of entry no_older reads_in_ID reads_in_EX misses_data ready_in ready budget moves_within moves cycle all_pre after all_left bound least_from finish settle best worst with_hits cases cases_hold
cases_hold_lem = tt

pub further_hold : FurtherHold
unfolding ◌and◌ ◌or◌ every none furtherOn short_of entry no_older reads_in_ID reads_in_EX misses_data ready_in ready budget moves_within moves cycle all_pre after all_left bound least_from finish settle best worst with_hits further cases_hold
further_hold = tt

pub late_values_hold : LateValuesHold
unfolding ◌and◌ ◌or◌ every none furtherOn short_of entry no_older reads_in_ID reads_in_EX misses_data ready_in ready budget moves_within moves cycle all_pre after all_left bound least_from finish settle best worst with_hits late_values cases_hold
late_values_hold = tt

pub hit_cases_hold : HitCasesHold
unfolding ◌and◌ ◌or◌ every none furtherOn short_of entry no_older reads_in_ID reads_in_EX misses_data ready_in ready budget moves_within moves cycle all_pre after all_left bound least_from finish settle best worst with_hits hit_cases cases_hold
hit_cases_hold = tt

pub jumps_hold : JumpsHold
unfolding ◌and◌ ◌or◌ every none furtherOn short_of entry no_older reads_in_ID reads_in_EX misses_data ready_in ready budget moves_within moves cycle all_pre after all_left bound least_from finish settle best worst with_hits jumps cases_hold
jumps_hold = tt

pub chart_holds : ChartHolds
unfolding ◌and◌ ◌or◌ every none furtherOn short_of entry no_older reads_in_ID reads_in_EX misses_data ready_in ready budget moves_within moves cycle all_pre after fetched_below occupant_below state_of case_D rows chart_of_D
chart_holds = refl

pub value_chart_holds : ValueChartHolds
unfolding ◌and◌ ◌or◌ every none furtherOn short_of entry no_older reads_in_ID reads_in_EX misses_data ready_in ready budget moves_within moves cycle all_pre after fetched_below occupant_below state_of value_loaded rows chart_of_value
value_chart_holds = refl

pub hit_chart_holds : HitChartHolds
unfolding ◌and◌ ◌or◌ every none furtherOn short_of entry no_older reads_in_ID reads_in_EX misses_data ready_in ready budget moves_within moves cycle all_pre after fetched_below occupant_below state_of with_hits store_and_load rows chart_of_hits
hit_chart_holds = refl

pub jump_chart_holds : JumpChartHolds
unfolding ◌and◌ ◌or◌ every none furtherOn short_of entry no_older reads_in_ID reads_in_EX misses_data ready_in ready budget moves_within moves cycle all_pre after fetched_below occupant_below state_of jump_and_plain rows chart_of_jump
jump_chart_holds = refl

pub value_waits : ValueWaits
unfolding ◌and◌ ◌or◌ every none furtherOn short_of entry no_older reads_in_ID reads_in_EX misses_data ready_in ready budget moves_within moves cycle all_pre after value_loaded nothing_loaded
value_waits = (refl, refl)
