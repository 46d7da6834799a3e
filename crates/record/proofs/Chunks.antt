-- The records of a body one by one: what stands in record k stands in the body from k times the record's size on.
use lib.Seq.{drop-drop}
use Rattle.std.proofs.Common.{ℕ, zero, suc, ◌+◌, ◌*◌, ◌<◌, ◌≡◌, List, [], take, drop, length, get_or, ap, ap₂, ◌∙◌, refl, arith}
use Rattle.std.specs.Simd.{first_chunks}
use Rattle.std.proofs.lemmas.List.{get_or-take, get_or-drop}
use Rattle.little_endian.specs.Numbers.{byte}
use Rattle.record.specs.Layout.{record_size, fields_from, flags_at}
use Rattle.record.specs.Rules.{breaks_rules, has_unknown, not_above}
use Rattle.record.specs.Body.{records, fields_at, breaks_at, unknown_at, not_above_at}
use Rattle.record.specs.declared.layout.Fields.{Fields}

pub chunk_is : (n k : ℕ) (body : List ℕ) → k < n → get_or (first_chunks record_size n body) k [] ≡ take record_size (drop (k * record_size) body)
chunk_is zero k body l = absurd (omega (arith, l))
chunk_is (suc n) zero body l = refl
chunk_is (suc n) (suc k) body l =
    chunk_is n k (drop record_size body) (omega (arith, l))
    ∙ ap (take record_size) (drop-drop (k * record_size) record_size body ∙ ap (λ (m : ℕ). drop m body) (omega arith))

-- a byte of a record, and its fields
pub byte_within : (body : List ℕ) (at i : ℕ) → i < record_size → byte (take record_size (drop at body)) i ≡ byte body (at + i)
byte_within body at i l = get_or-take record_size (drop at body) i 0 l ∙ get_or-drop at body i 0

pub fields_within : (body : List ℕ) (at : ℕ) → fields_from (take record_size (drop at body)) 0 ≡ fields_from body at
unfolding fields_from
fields_within body at =
    let seven : at + 7 ≡ at + 6 + 1 = omega arith in
    let nine : at + 9 ≡ at + 8 + 1 = omega arith in
    rw (
      byte_within body at 0 (omega arith),
      byte_within body at 1 (omega arith),
      byte_within body at 2 (omega arith),
      byte_within body at 3 (omega arith),
      byte_within body at 4 (omega arith),
      byte_within body at 5 (omega arith),
      byte_within body at 6 (omega arith),
      byte_within body at 7 (omega arith) ∙ ap (byte body) seven,
      byte_within body at 8 (omega arith),
      byte_within body at 9 (omega arith) ∙ ap (byte body) nine,
    )

pub chunks_length : (n : ℕ) (body : List ℕ) → length (first_chunks record_size n body) ≡ n
chunks_length zero body = refl
chunks_length (suc n) body = ap suc (chunks_length n (drop record_size body))

-- record k of a body: its fields, and its flags byte
module _ (body : List ℕ) {chunks : List (List ℕ)} (are : chunks ≡ first_chunks record_size (records body) body) where
  pub chunks_are_records : length chunks ≡ records body
  chunks_are_records = ap (λ (c : List (List ℕ)). length c) are ∙ chunks_length (records body) body

  module _ (k : ℕ) (inside : k < records body) where
    record_is : get_or chunks k [] ≡ take record_size (drop (k * record_size) body)
    record_is = ap (λ (c : List (List ℕ)). get_or c k []) are ∙ chunk_is (records body) k body inside

    pub chunk_fields : fields_from (get_or chunks k []) 0 ≡ fields_at body k
    chunk_fields = ap (λ (bytes : List ℕ). fields_from bytes 0) record_is ∙ fields_within body (k * record_size)

    pub chunk_flags : byte (get_or chunks k []) flags_at ≡ byte body (k * record_size + flags_at)
    chunk_flags = ap (λ (bytes : List ℕ). byte bytes flags_at) record_is ∙ byte_within body (k * record_size) flags_at (omega arith)

    pub chunk_breaks : breaks_rules (fields_from (get_or chunks k []) 0) (byte (get_or chunks k []) flags_at) ≡ breaks_at body k
    unfolding breaks_at
    chunk_breaks = ap₂ (λ (f : Fields) (flags : ℕ). breaks_rules f flags) chunk_fields chunk_flags

    pub chunk_unknown : has_unknown (fields_from (get_or chunks k []) 0) ≡ unknown_at body k
    unfolding unknown_at
    chunk_unknown = ap (λ (f : Fields). has_unknown f) chunk_fields

    pub chunk_not_above : (h : ℕ) → not_above (fields_from (get_or chunks k []) 0) h ≡ not_above_at body h k
    unfolding not_above_at
    chunk_not_above h = ap (λ (f : Fields). not_above f h) chunk_fields
