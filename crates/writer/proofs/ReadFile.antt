-- An accepted file is, byte for byte, what Write makes of its counts and its records, and Write accepts these.
use Prim.Native.Nat.{ℕ, zero, suc, ◌+◌, ◌*◌, ◌-◌, ◌/◌, ◌%◌, ◌<◌, ◌≤◌}
use mathlib.Core.List.{List, [], ◌∷◌, ◌++◌}
use mathlib.Core.Path.{◌≡◌, refl, sym, ap, ap₂, subst, ◌∙◌}
use borrow.Author.Tests.{le-leb, le-ltb, eq-eqb}
use native.Mathlib.Decide.{dec_lt}
use native.Mathlib.Nat.{le_refl}
use native.Mathlib.Omega.{arith}
use lib.ListN.{length, length-drop}
use lib.Seq.{get_or-drop, ext_get_or}
use Rattle.little_endian.specs.Numbers.{byte, half_bytes, word_bytes}
use Rattle.record.specs.Layout.{record_size}
use Rattle.record.specs.Body.{Bytes, firsts, record_refusal}
use Rattle.record.proofs.Refusals.{go_on, passes, last_passes}
use Rattle.machine.proofs.Connectives.{none_below}
use Rattle.record.proofs.Instructions.{length_firsts, get_or_firsts}
use Rattle.little_endian.proofs.Halves.{low_of_half, high_of_half}
use Rattle.job.specs.Refusal.{short_output}
use Rattle.job.specs.Layout.{header_size, entry_size, max_traces, max_count, max_file, traces, count_at, offset_at, entry_at, before, body_start, records_of}
use Rattle.writer.specs.Write.{count, sum, file_length, entry_bytes, counts_refusal, file_of, write_refusal}
use Rattle.writer.specs.RoundTrip.{counts_of}
use Rattle.job.proofs.Starts.{start_before, before_same}
use Rattle.job.proofs.Joined.{joined}
use Rattle.job.proofs.Accepted.{FileFine}
use Rattle.writer.proofs.WriteAnswer.{length_file}
use Rattle.writer.proofs.FileBytes.{byte_entry, byte_record}

-- the four bytes of the number that four bytes stand for are those four
word_Bytes
    : (a b c d : ℕ) → a < 256 → b < 256 → c < 256 → d < 256 →
    word_bytes (a + 256 * b + 65536 * c + 16777216 * d) ≡ a ∷ b ∷ c ∷ d ∷ []
word_Bytes a b c d la lb lc ld =
    let n = a + 256 * b + 65536 * c + 16777216 * d in
    let e₀ : n % 256 ≡ a = omega arith in
    let q₁ : n / 256 ≡ b + 256 * c + 65536 * d = omega arith in
    let e₁ : (b + 256 * c + 65536 * d) % 256 ≡ b = omega arith in
    let q₂ : n / 65536 ≡ c + 256 * d = omega arith in
    let e₂ : (c + 256 * d) % 256 ≡ c = omega arith in
    let e₃ : n / 16777216 ≡ d = omega arith in
    rw (e₀, q₁, e₁, q₂, e₂, e₃)

module _ (file : List ℕ) (bytes : Bytes file) (fine : FileFine file) where
  counts_length : length (counts_of file) ≡ traces file
  counts_length = length_firsts (count_at file) (traces file)

  counts_at : (t : ℕ) → t < traces file → count (counts_of file) t ≡ count_at file t
  counts_at t l = get_or_firsts (count_at file) (traces file) t 0 l

  counts_before : (t : ℕ) → t ≤ traces file → before (count (counts_of file)) t ≡ before (count_at file) t
  counts_before t l = before_same _ _ t (λ k lk. counts_at k (omega arith))

  counts_start : (t : ℕ) → t < traces file → body_start (length (counts_of file)) (count (counts_of file)) t ≡ offset_at file t
  counts_start t l =
      let a = start_before (length (counts_of file)) (count (counts_of file)) t in
      let b = start_before (traces file) (count_at file) t in
      let e = counts_before t (omega arith) in
      let n = counts_length in
      let o = (fine.entries t l).1 in
      omega arith

  -- the six bytes of an entry are the file's
  entry_again : (t : ℕ) → t < traces file → entry_bytes (counts_of file) t ≡ firsts (λ j. byte file (entry_at t + j)) entry_size
  unfolding entry_bytes firsts
  entry_again t l =
      let at = entry_at t in
      ap₂ (λ (a b : ℕ). word_bytes a ++ half_bytes b) (counts_start t l) (counts_at t l)
      ∙ ap₂
      (λ (a b : List ℕ). a ++ b)
      (word_Bytes (byte file at) (byte file (at + 1)) (byte file (at + 2)) (byte file (at + 3)) (bytes _) (bytes _) (bytes _) (bytes _))
      (ap₂ (λ (a b : ℕ). a ∷ b ∷ []) (low_of_half _ _ (bytes (at + 4))) (high_of_half _ _ (bytes (at + 4)) ∙ ap (byte file) five))
      ∙ ap (λ (n : ℕ). byte file n ∷ byte file (at + 1) ∷ byte file (at + 2) ∷ byte file (at + 3) ∷ byte file (at + 4) ∷ byte file (at + 5) ∷ []) none
    where
      five : entry_at t + 4 + 1 ≡ entry_at t + 5
      five = omega arith

      none : entry_at t ≡ entry_at t + 0
      none = omega arith

  again_length : length (file_of (counts_of file) (records_of file)) ≡ length file
  unfolding file_length
  again_length =
      let a = length_file (counts_of file) (records_of file) in
      let b = length-drop (entry_at (traces file)) file in
      let n = counts_length in
      let w = fine.table.whole in
      omega arith

  -- byte by byte: the header, an entry, a record
  again_header : (n : ℕ) → n < header_size → byte (file_of (counts_of file) (records_of file)) n ≡ byte file n
  unfolding file_of
  again_header zero l = ap (λ (m : ℕ). m % 256) counts_length ∙ low_of_half (byte file 0) (byte file 1) (bytes 0)
  again_header (suc zero) l = ap (λ (m : ℕ). m / 256) counts_length ∙ high_of_half (byte file 0) (byte file 1) (bytes 0)
  again_header (suc (suc n)) l = absurd (omega arith)

  again_entry : (t j : ℕ) → t < traces file → j < entry_size → byte (file_of (counts_of file) (records_of file)) (entry_at t + j) ≡ byte file (entry_at t + j)
  again_entry t j l lj =
      byte_entry (counts_of file) (records_of file) t j (subst (λ (n : ℕ). t < n) (sym counts_length) l) lj
      ∙ ap (λ (b : List ℕ). byte b j) (entry_again t l)
      ∙ get_or_firsts (λ j. byte file (entry_at t + j)) entry_size j 0 lj

  again_record : (k : ℕ) → byte (file_of (counts_of file) (records_of file)) (entry_at (traces file) + k) ≡ byte file (entry_at (traces file) + k)
  again_record k =
      ap (λ (n : ℕ). byte (file_of (counts_of file) (records_of file)) (entry_at n + k)) (sym counts_length)
      ∙ byte_record (counts_of file) (records_of file) k
      ∙ get_or-drop (entry_at (traces file)) file k 0

  again_table : (n : ℕ) → header_size ≤ n → n < entry_at (traces file) → byte (file_of (counts_of file) (records_of file)) n ≡ byte file n
  again_table n low high =
      subst
      (λ (m : ℕ). byte (file_of (counts_of file) (records_of file)) m ≡ byte file m)
      (place n low)
      (again_entry ((n - header_size) / entry_size) ((n - header_size) % entry_size) (omega arith) (omega arith))
    where
      place : (m : ℕ) → header_size ≤ m → entry_at ((m - header_size) / entry_size) + (m - header_size) % entry_size ≡ m
      place m l = omega arith

  again_rest : (n : ℕ) → entry_at (traces file) ≤ n → byte (file_of (counts_of file) (records_of file)) n ≡ byte file n
  again_rest n l =
      subst
      (λ (m : ℕ). byte (file_of (counts_of file) (records_of file)) m ≡ byte file m)
      (place (entry_at (traces file)) l)
      (again_record (n - entry_at (traces file)))
    where
      place : (m : ℕ) → m ≤ n → m + (n - m) ≡ n
      place m h = omega arith

  pub file_again : file_of (counts_of file) (records_of file) ≡ file
  file_again =
      ext_get_or 0 (file_of (counts_of file) (records_of file)) file again_length λ n l.
      elim (dec_lt n header_size) [
        | yes h ↦ again_header n h
        | no h ↦ elim (dec_lt n (entry_at (traces file))) [
          | yes k ↦ again_table n (omega arith) k
          | no k ↦ again_rest n (omega arith)
        ]
      ]

  small_again : 0 ≡ counts_refusal (counts_of file)
  unfolding counts_refusal
  small_again =
      last_passes 5 (none_below _ _ λ t l.
      let lt = subst (λ (n : ℕ). t < n) counts_length l in
      le-ltb _ _ (subst (λ (n : ℕ). n ≤ max_count) (sym (counts_at t lt)) (fine.entries t lt).0))

  pub write_again : write_refusal (counts_of file) (records_of file) (length file) ≡ 0
  unfolding write_refusal
  write_again =
      sym
      (passes 2 (le-leb (length (counts_of file)) max_traces few)
      (go_on small_again refl
      (passes 12 (eq-eqb _ _ sized)
      (passes 0 (le-leb _ _ (subst (λ (n : ℕ). n ≤ max_file) whole fine.table.short))
      (go_on lawful refl
      (last_passes short_output (le-leb _ _ (subst (λ (n : ℕ). n ≤ length file) whole (le_refl _)))))))))
    where
      few : length (counts_of file) ≤ max_traces
      few = subst (λ (n : ℕ). n ≤ max_traces) (sym counts_length) fine.table.few

      whole : length file ≡ file_length (counts_of file) (records_of file)
      whole = sym again_length ∙ length_file (counts_of file) (records_of file)

      sized : length (records_of file) ≡ record_size * sum (counts_of file)
      sized =
          let d = length-drop (entry_at (traces file)) file in
          let e = fine.ends in
          let s = start_before (traces file) (count_at file) (traces file) in
          let b = counts_before (traces file) (le_refl (traces file)) in
          let n : before (count (counts_of file)) (length (counts_of file)) ≡ before (count (counts_of file)) (traces file) = ap (before (count (counts_of file))) counts_length in
          omega arith

      lawful : 0 ≡ record_refusal (records_of file)
      lawful = sym (joined file fine.ends fine.table.whole ∙ fine.records)
