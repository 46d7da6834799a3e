-- The bytes of a written file: the header, each entry, and the records, where document 01 puts them.
use Prim.Native.Nat.{ℕ, zero, suc, ◌+◌, ◌*◌, ◌/◌, ◌%◌, ◌<◌}
use mathlib.Core.List.{List, ◌++◌}
use mathlib.Core.Logic.{⊎_elim}
use mathlib.Core.Path.{◌≡◌, refl, sym, ap, ap₂, ◌∙◌}
use native.Mathlib.Nat.{le_of_suc-le-suc, not-suc-le-zero, eq-or-lt_of_le, add_assoc}
use native.Mathlib.Omega.{arith}
use lib.ListN.{length, drop, length-append, get_or-append}
use lib.Seq.{get_or-append-add, drop-append-add}
use Rattle.little_endian.specs.Numbers.{byte, half_bytes}
use Rattle.little_endian.proofs.Halves.{half_of_bytes}
use Rattle.job.specs.Layout.{header_size, entry_size, count_in_entry, entry_at, traces, count_at, offset_at, body_start, records_of}
use Rattle.writer.specs.Write.{count, entry_bytes, table_of, file_of}
use Rattle.writer.proofs.WrittenTable.{table_suc, length_table}

length_entry : (counts : List ℕ) (t : ℕ) → length (entry_bytes counts t) ≡ entry_size
unfolding entry_bytes
length_entry counts t = refl

-- byte j of entry t, in a table of n entries
byte_table
    : (counts : List ℕ) (n t j : ℕ) → t < n → j < entry_size → byte (table_of counts n) (entry_size * t + j) ≡ byte (entry_bytes counts t) j
byte_table counts zero t j l lj = absurd (not-suc-le-zero l)
byte_table counts (suc n) t j l lj =
    ap (λ (b : List ℕ). byte b (entry_size * t + j)) (table_suc counts n)
    ∙ ⊎_elim at_end (λ lt. before_end lt ∙ byte_table counts n t j lt lj) (eq-or-lt_of_le (le_of_suc-le-suc l))
  where
    before_end : t < n → byte (table_of counts n ++ entry_bytes counts n) (entry_size * t + j) ≡ byte (table_of counts n) (entry_size * t + j)
    before_end lt =
        get_or-append (table_of counts n) (entry_bytes counts n) 0 (entry_size * t + j) (let e = length_table counts n in omega arith)

    at_end : t ≡ n → byte (table_of counts n ++ entry_bytes counts n) (entry_size * t + j) ≡ byte (entry_bytes counts t) j
    at_end e =
        ap (λ (k : ℕ). byte (table_of counts n ++ entry_bytes counts n) (k + j)) (let h = length_table counts n in place h)
        ∙ get_or-append-add (table_of counts n) (entry_bytes counts n) j 0
        ∙ ap (λ (m : ℕ). byte (entry_bytes counts m) j) (sym e)
      where
        place : length (table_of counts n) ≡ entry_size * n → entry_size * t ≡ length (table_of counts n)
        place h = omega arith

module _ (counts records : List ℕ) where
  head_length : length (half_bytes (length counts) ++ table_of counts (length counts)) ≡ entry_at (length counts)
  head_length =
      let a = length-append (half_bytes (length counts)) (table_of counts (length counts)) in
      let b = length_table counts (length counts) in
      omega arith

  pub byte_entry
      : (t j : ℕ) → t < length counts → j < entry_size → byte (file_of counts records) (entry_at t + j) ≡ byte (entry_bytes counts t) j
  unfolding file_of
  byte_entry t j l lj =
      get_or-append
      (half_bytes (length counts) ++ table_of counts (length counts))
      records
      0
      (entry_at t + j)
      (let h = head_length in omega arith)
      ∙ ap (byte (half_bytes (length counts) ++ table_of counts (length counts))) (add_assoc header_size (entry_size * t) j)
      ∙ get_or-append-add (half_bytes (length counts)) (table_of counts (length counts)) (entry_size * t + j) 0
      ∙ byte_table counts (length counts) t j l lj

  pub byte_record : (k : ℕ) → byte (file_of counts records) (entry_at (length counts) + k) ≡ byte records k
  unfolding file_of
  byte_record k =
      ap (λ (n : ℕ). byte (file_of counts records) (n + k)) (sym head_length)
      ∙ get_or-append-add (half_bytes (length counts) ++ table_of counts (length counts)) records k 0

  pub file_traces : traces (file_of counts records) ≡ length counts
  unfolding file_of
  file_traces = half_of_bytes (length counts)

  pub file_count : (t : ℕ) → t < length counts → count_at (file_of counts records) t ≡ count counts t
  unfolding entry_bytes
  file_count t l =
      ap₂
      (λ (a b : ℕ). a + 256 * b)
      (byte_entry t count_in_entry l (omega arith))
      (ap (byte (file_of counts records)) (add_assoc (entry_at t) count_in_entry 1) ∙ byte_entry t 5 l (omega arith))
      ∙ half_of_bytes (count counts t)

  pub file_offset
      : (t : ℕ) → t < length counts → offset_at (file_of counts records) t ≡ body_start (length counts) (count counts) t
  unfolding entry_bytes
  file_offset t l =
      let start = body_start (length counts) (count counts) t in
      let b₀ = first_byte ∙ byte_entry t 0 l (omega arith) in
      let b₁ = byte_entry t 1 l (omega arith) in
      let b₂ = byte_entry t 2 l (omega arith) in
      let b₃ = byte_entry t 3 l (omega arith) in
      word_of _ _ _ _ start b₀ b₁ b₂ b₃
    where
      first_byte : byte (file_of counts records) (entry_at t) ≡ byte (file_of counts records) (entry_at t + 0)
      first_byte = ap (byte (file_of counts records)) zero_more
        where
          zero_more : entry_at t ≡ entry_at t + 0
          zero_more = omega arith

      word_of
          : (a b c d n : ℕ) → a ≡ n % 256 → b ≡ n / 256 % 256 → c ≡ n / 65536 % 256 → d ≡ n / 16777216 →
          a + 256 * b + 65536 * c + 16777216 * d ≡ n
      word_of a b c d n ea eb ec ed = omega arith

  pub file_records : records_of (file_of counts records) ≡ records
  unfolding file_of
  file_records =
      ap (λ (n : ℕ). drop (entry_at n) (file_of counts records)) file_traces
      ∙ ap (λ (n : ℕ). drop n (file_of counts records)) (let h = head_length in whole h)
      ∙ drop-append-add (half_bytes (length counts) ++ table_of counts (length counts)) records 0
    where
      whole
          : length (half_bytes (length counts) ++ table_of counts (length counts)) ≡ entry_at (length counts) →
          entry_at (length counts) ≡ length (half_bytes (length counts) ++ table_of counts (length counts)) + 0
      whole h = omega arith
