-- D's file and that of A to L are accepted: by computation, and what is written reads back by the round trip.
use mathlib.Core.List.{map}
use mathlib.Core.Path.{refl, sym, ◌∙◌}
use Rattle.machine.specs.Test.{◌and◌, ◌or◌, every, none}
use Rattle.machine.specs.Cases.{cases, case_D}
use Rattle.machine.specs.Hits.{with_hits}
use Rattle.record.specs.Refusal.{◌then◌, ◌unless◌}
use Rattle.record.specs.Layout.{fields_from, record_bytes}
use Rattle.record.specs.Rules.{breaks_rules, kind_of, flag_of, instruction_of, fields_of}
use Rattle.record.specs.Body.{breaks_at, firsts, trace_of, record_refusal}
use Rattle.encoding.specs.Encoding.{record_of, body_of}
use Rattle.job.specs.Refusal.{first_refusal}
use Rattle.job.specs.Layout.{max_file, before, body_start}
use Rattle.job.specs.Open.{entry_refusal, entries_refusal, table_refusal, traces_refusal, file_refusal, open_refusal, open_body}
use Rattle.writer.specs.Write.{file_length, counts_refusal, write_refusal, entry_bytes, table_of, file_of}
use Rattle.writer.specs.RoundTrip.{bodies_of, file_of_bodies, joined}
use Rattle.writer.specs.Cases.{trace_list, FilesAccepted}
use Rattle.writer.proofs.Traces.{traces_hits, traces_round_trip}

pub files_accepted : FilesAccepted
unfolding ◌and◌ ◌or◌ every none with_hits cases case_D ◌then◌ ◌unless◌ fields_from breaks_rules kind_of flag_of instruction_of breaks_at firsts trace_of record_of record_bytes fields_of body_of record_refusal first_refusal before body_start entry_refusal entries_refusal table_refusal traces_refusal file_refusal open_refusal open_body file_length counts_refusal write_refusal entry_bytes table_of file_of joined
files_accepted =
    record {
      accepted = refl;
      read = refl;
      taken = refl;
      written = refl;
      all_taken = refl;
      all_read = sym (traces_hits (bodies_of (file_of_bodies (map body_of trace_list)))) ∙ (traces_round_trip.written trace_list max_file refl).1 0;
    }
