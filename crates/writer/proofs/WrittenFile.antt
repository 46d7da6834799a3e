-- A file that Write makes is accepted, and each of its bodies is the records of that trace.
use Prim.Native.Nat.{ℕ, ◌+◌, ◌*◌, ◌<◌, ◌≤◌}
use mathlib.Core.List.{List}
use mathlib.Core.Path.{◌≡◌, refl, sym, ap, ap₂, subst, ◌∙◌}
use borrow.Author.Tests.{le-leb, eq-eqb}
use native.Mathlib.Omega.{arith}
use lib.ListN.{length, take, drop}
use lib.Seq.{drop-drop}
use Rattle.record.specs.Layout.{record_size}
use Rattle.record.specs.Body.{record_refusal}
use Rattle.record.proofs.Refusals.{go_on, passes, last_passes}
use Rattle.job.specs.Refusal.{cut_table}
use Rattle.job.specs.Layout.{header_size, max_traces, max_file, traces, count_at, entry_at, before, body_start, start_at}
use Rattle.job.specs.Open.{table_refusal, entries_refusal, traces_refusal, file_refusal, open_body}
use Rattle.writer.specs.Write.{count, file_length, file_of}
use Rattle.writer.specs.RoundTrip.{records_at}
use Rattle.job.proofs.First.{first_none}
use Rattle.job.proofs.Entries.{entry_fine}
use Rattle.job.proofs.Starts.{start_before, before_same}
use Rattle.job.proofs.Joined.{joined}
use Rattle.job.proofs.Accepted.{open_accepted}
use Rattle.writer.proofs.WriteAnswer.{WriteFine, last_end, length_file}
use Rattle.writer.proofs.FileBytes.{file_traces, file_count, file_offset, file_records}

module _ (counts records : List ℕ) (room : ℕ) (fine : WriteFine counts records room) where
  -- as many instructions come before trace t in the file as the counts say
  file_before : (t : ℕ) → t ≤ length counts → before (count_at (file_of counts records)) t ≡ before (count counts) t
  file_before t l = before_same _ _ t (λ k lk. file_count counts records k (omega arith))

  file_start : (t : ℕ) → t ≤ length counts → start_at (file_of counts records) t ≡ body_start (length counts) (count counts) t
  file_start t l =
      let a = start_before (traces (file_of counts records)) (count_at (file_of counts records)) t in
      let b = start_before (length counts) (count counts) t in
      let e = file_before t l in
      let T = file_traces counts records in
      omega arith

  file_ends : length (file_of counts records) ≡ start_at (file_of counts records) (traces (file_of counts records))
  file_ends =
      length_file counts records
      ∙ sym (last_end counts records fine.sized)
      ∙ sym (file_start (length counts) (omega arith))
      ∙ ap (start_at (file_of counts records)) (sym (file_traces counts records))

  table_passes : 0 ≡ table_refusal (file_of counts records)
  unfolding table_refusal file_length
  table_passes =
      let T = file_traces counts records in
      let n = length_file counts records in
      let short = fine.short in
      let few = fine.few in
      let size = length (file_of counts records) in
      let held = traces (file_of counts records) in
      passes
      0
      (le-leb size max_file (omega arith))
      (passes
      1
      (le-leb header_size size (omega arith))
      (passes 2 (le-leb held max_traces (omega arith)) (last_passes cut_table (le-leb (entry_at held) size (omega arith)))))

  entries_pass : 0 ≡ entries_refusal (file_of counts records)
  unfolding entries_refusal
  entries_pass =
      sym
      (first_none _ _ λ t l.
      let lt = subst (λ (n : ℕ). t < n) (file_traces counts records) l in
      entry_fine
      (file_of counts records)
      t
      (let c = file_count counts records t lt in let s = fine.small t lt in omega arith)
      (file_offset counts records t lt ∙ sym (file_start t (omega arith))))

  records_pass : 0 ≡ traces_refusal (file_of counts records)
  unfolding file_length
  records_pass =
      let T = file_traces counts records in
      let n = length_file counts records in
      sym
      (sym (joined (file_of counts records) file_ends (omega arith))
      ∙ ap record_refusal (file_records counts records)
      ∙ fine.lawful)

  pub written_accepted : file_refusal (file_of counts records) ≡ 0
  unfolding file_refusal
  written_accepted = sym (go_on table_passes refl (go_on entries_pass refl (passes 6 (eq-eqb _ _ file_ends) records_pass)))

  pub written_opens : (t : ℕ) → t < length counts → open_body (file_of counts records) t ≡ records_at counts records t
  unfolding open_body
  written_opens t l =
      rw
      (eq-eqb _ _ (open_accepted (file_of counts records) t written_accepted (subst (λ (n : ℕ). t < n) (sym (file_traces counts records)) l)))
      (ap₂ (λ (n : ℕ) (b : List ℕ). take (record_size * n) b) (file_count counts records t l) part)
    where
      part : drop (start_at (file_of counts records) t) (file_of counts records) ≡ drop (record_size * before (count counts) t) records
      part =
          ap (λ (n : ℕ). drop n (file_of counts records)) place
          ∙ sym (drop-drop (record_size * before (count counts) t) (entry_at (traces (file_of counts records))) (file_of counts records))
          ∙ ap (drop (record_size * before (count counts) t)) (file_records counts records)
        where
          place : start_at (file_of counts records) t ≡ entry_at (traces (file_of counts records)) + record_size * before (count counts) t
          place =
              let a = start_before (traces (file_of counts records)) (count_at (file_of counts records)) t in
              let e = file_before t (omega arith) in
              omega arith
