-- What is known of counts and records that Write accepts, and its answer and output in each case.
use Prim.Native.Nat.{ℕ, ◌+◌, ◌*◌, ◌<◌, ◌≤◌}
use mathlib.Core.List.{List, ◌++◌}
use mathlib.Core.Path.{◌≡◌, refl, sym, ap, ap₂, ◌∙◌}
use borrow.Author.Tests.{leb-true, eqb-true, ltb-false, eq-eqb, ne_eqb}
use native.Mathlib.Omega.{arith}
use lib.ListN.{length, take, drop, length-append}
use Rattle.record.specs.Layout.{record_size}
use Rattle.little_endian.specs.Numbers.{half_bytes}
use Rattle.record.specs.Body.{record_refusal}
use Rattle.record.proofs.Refusals.{then_first, then_second, unless_passed}
use Rattle.machine.proofs.Connectives.{none_at}
use Rattle.job.specs.Layout.{header_size, max_traces, max_count, max_file, entry_at, body_start}
use Rattle.writer.specs.Write.{count, sum, file_length, counts_refusal, write_refusal, table_of, file_of, write_answer, write_output}
use Rattle.writer.specs.declared.writing.Written.{Written}
use Rattle.little_endian.proofs.Placed.{put_next}
use Rattle.job.proofs.Starts.{start_before}
use Rattle.writer.proofs.WrittenTable.{length_table}

pub record WriteFine (counts records : List ℕ) (room : ℕ) : Type 0 where
  pub few : length counts ≤ max_traces
  pub small : (t : ℕ) → t < length counts → count counts t ≤ max_count
  pub sized : length records ≡ record_size * sum counts
  pub short : file_length counts records ≤ max_file
  pub lawful : record_refusal records ≡ 0
  pub fits : file_length counts records ≤ room

small_counts : (counts : List ℕ) → counts_refusal counts ≡ 0 → (t : ℕ) → t < length counts → count counts t ≤ max_count
unfolding counts_refusal
small_counts counts e t l = ltb-false _ _ (none_at _ (length counts) (unless_passed _ _ e) t l)

pub write_fine : (counts records : List ℕ) (room : ℕ) → write_refusal counts records room ≡ 0 → WriteFine counts records room
unfolding write_refusal
write_fine counts records room e =
    let e₂ = then_second _ _ e in
    let e₃ = then_second _ _ e₂ in
    let e₄ = then_second _ _ e₃ in
    let e₅ = then_second _ _ e₄ in
    record {
      few = leb-true _ _ (unless_passed _ _ (then_first _ _ e));
      small = small_counts counts (then_first _ _ e₂);
      sized = eqb-true _ _ (unless_passed _ _ (then_first _ _ e₃));
      short = leb-true _ _ (unless_passed _ _ (then_first _ _ e₄));
      lawful = then_first _ _ e₅;
      fits = leb-true _ _ (unless_passed _ _ (then_second _ _ e₅));
    }

module _ (counts records : List ℕ) where
  -- the last body ends where the file does
  pub last_end : length records ≡ record_size * sum counts → body_start (length counts) (count counts) (length counts) ≡ file_length counts records
  unfolding file_length
  last_end e = let h = start_before (length counts) (count counts) (length counts) in omega arith

  pub length_file : length (file_of counts records) ≡ file_length counts records
  unfolding file_of file_length
  length_file =
      let a = length-append (half_bytes (length counts) ++ table_of counts (length counts)) records in
      let b = length-append (half_bytes (length counts)) (table_of counts (length counts)) in
      let d = length_table counts (length counts) in
      omega arith

  module _ (out : List ℕ) where
    pub write_refused
        : (r : ℕ) → r ≡ write_refusal counts records (length out) → (r ≡ 0 → ⊥) →
        (◌≡◌ {A = Written} (record { refusal = r; length = 0 }) (write_answer counts records (length out))) × (out ≡ write_output counts records out)
    unfolding write_answer write_output
    write_refused r e h = (rw (← e, ne_eqb _ _ h), rw (← e, ne_eqb _ _ h))

    -- header, table and records are written one after the other
    pub write_done
        : (w₁ w₂ w₃ : List ℕ) → write_refusal counts records (length out) ≡ 0 →
        w₁ ≡ take 0 out ++ half_bytes (length counts) ++ drop 2 out →
        w₂ ≡ take header_size w₁ ++ table_of counts (length counts) ++ drop (entry_at (length counts)) w₁ →
        w₃ ≡ take (entry_at (length counts)) w₂ ++ records ++ drop (entry_at (length counts) + length records) w₂ →
        (◌≡◌ {A = Written} (record { refusal = 0; length = entry_at (length counts) + length records }) (write_answer counts records (length out)))
        × (w₃ ≡ write_output counts records out)
    unfolding write_answer write_output file_of file_length
    write_done w₁ w₂ w₃ e e₁ e₂ e₃ = (rw (eq-eqb _ _ e), rw (eq-eqb _ _ e) written)
      where
        tabled : w₂ ≡ half_bytes (length counts) ++ table_of counts (length counts) ++ drop (entry_at (length counts)) out
        tabled =
            e₂
            ∙ ap₂
            (λ (l : List ℕ) (n : ℕ). take header_size l ++ table_of counts (length counts) ++ drop (header_size + n) l)
            e₁
            (sym (length_table counts (length counts)))
            ∙ put_next (half_bytes (length counts)) (table_of counts (length counts)) out header_size refl
            ∙ ap
            (λ (n : ℕ). half_bytes (length counts) ++ table_of counts (length counts) ++ drop (header_size + n) out)
            (length_table counts (length counts))

        written : w₃ ≡ half_bytes (length counts) ++ table_of counts (length counts) ++ records ++ drop (entry_at (length counts) + length records) out
        written =
            e₃
            ∙ ap (λ (l : List ℕ). take (entry_at (length counts)) l ++ records ++ drop (entry_at (length counts) + length records) l) tabled
            ∙ put_next
            (half_bytes (length counts) ++ table_of counts (length counts))
            records
            out
            (entry_at (length counts))
            (let b = length-append (half_bytes (length counts)) (table_of counts (length counts)) in
            let d = length_table counts (length counts) in
            omega arith)
