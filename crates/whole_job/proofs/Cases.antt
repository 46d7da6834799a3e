-- The worked job, by computation.
use mathlib.Core.Path.{refl}
use Rattle.machine.specs.Test.{◌and◌, ◌or◌, every, none}
use Rattle.machine.specs.Rules.{further, short_of, entry, no_older, reads_in_ID, reads_in_EX, misses_data, ready_in, ready, budget, moves_within, moves, cycle, all_pre, after, all_left}
use Rattle.machine.specs.Time.{bound, least_from, finish, settle, worst}
use Rattle.machine.specs.Hits.{with_hits}
use Rattle.record.specs.Refusal.{◌then◌, ◌unless◌}
use Rattle.record.specs.Layout.{fields_from}
use Rattle.record.specs.Rules.{breaks_rules, not_above, kind_of, flag_of, instruction_of}
use Rattle.record.specs.Body.{breaks_at, not_above_at, firsts, trace_of, length_refusal, record_refusal, hit_refusal, body_refusal, timed_refusal}
use Rattle.job.specs.Refusal.{first_refusal}
use Rattle.job.specs.Layout.{body_start}
use Rattle.job.specs.Open.{entry_refusal, entries_refusal, table_refusal, traces_refusal, file_refusal, open_refusal, open_body}
use Rattle.timed_file.specs.Refusal.{declines_at, file_hit_refusal, timed_file_refusal}
use Rattle.timing.specs.Answers.{best_worst_answer}
use Rattle.whole_job.specs.Answers.{job_refusal, timed_alone, job_answer, job_times}
use Rattle.whole_job.specs.Cases.{JobsAnswered}

pub jobs_answered : JobsAnswered
unfolding ◌and◌ ◌or◌ every none further short_of entry no_older reads_in_ID reads_in_EX misses_data ready_in ready budget moves_within moves cycle all_pre after all_left bound least_from finish settle worst with_hits ◌then◌ ◌unless◌ fields_from breaks_rules not_above kind_of flag_of instruction_of breaks_at not_above_at firsts trace_of length_refusal record_refusal hit_refusal body_refusal timed_refusal first_refusal body_start entry_refusal entries_refusal table_refusal traces_refusal file_refusal open_refusal open_body declines_at file_hit_refusal timed_file_refusal best_worst_answer job_refusal timed_alone job_answer job_times
jobs_answered =
    record {
      longer = (refl, refl);
      as_long = (refl, refl);
      shorter = (refl, refl);
      broken = (refl, refl);
      broken_and_shorter = (refl, refl);
      no_traces = (refl, refl);
      hit_below = (refl, refl);
      hit_shown = (refl, refl);
      hit_not_below = (refl, refl);
      hit_and_shorter = (refl, refl);
      broken_and_hit = (refl, refl);
      no_traces_hit = (refl, refl);
      no_traces_long_hit = (refl, refl);
    }
