-- An accepted body is the encoding of its trace, and decoding an encoded trace gives it back: record by record, since each byte of a body belongs
-- to one record.
use Prim.Native.Nat.{ℕ, ◌+◌, ◌*◌, ◌/◌, ◌%◌, ◌≤◌, ◌<◌}
use mathlib.Core.List.{List}
use mathlib.Core.Path.{◌≡◌, sym, ap, subst, ◌∙◌}
use native.Mathlib.Nat.{zero-add, add_assoc}
use native.Mathlib.Omega.{arith}
use lib.ListN.{length}
use lib.Seq.{ext_get_or}
use Rattle.machine.specs.Instruction.{Instruction, Trace, instruction, blank}
use Rattle.machine.specs.Hits.{with_hit, with_hits}
use Rattle.machine.proofs.Hits.{length_hits, instruction_hits}
use Rattle.little_endian.specs.Numbers.{byte}
use Rattle.record.specs.Layout.{record_size, flags_at, fetch_latency_at, data_latency_at, fields_from, record_bytes}
use Rattle.record.specs.Rules.{instruction_of, fields_of}
use Rattle.record.specs.Body.{Bytes, records, fields_at, breaks_at, firsts, trace_of, trace_with, body_refusal}
use Rattle.record.specs.declared.layout.Fields.{Fields}
use Rattle.encoding.specs.Encoding.{record_of, body_of}
use Rattle.encoding.specs.Claims.{AcceptedIsEncoded, EncodingIsDecoded}
use Rattle.record.proofs.Alike.{fields_alike}
use Rattle.record.proofs.Lawful.{kind_is_read}
use Rattle.record.proofs.Accepted.{accepted_of, whole_records, flags_byte, fields_within}
use Rattle.record.proofs.Instructions.{get_or_firsts, length_trace_of, instruction_trace_of}
use Rattle.encoding.proofs.Encoding.{length_body_of, records_body_of, byte_body_of}
use Rattle.encoding.proofs.Fits.{encoding_is_bytes}
use Rattle.encoding.proofs.Numbers.{flag_of_number, number_kind_of, number_flag_of, flags_of_parts}
use Rattle.encoding.proofs.Record.{fields_of_lem}
use Rattle.little_endian.proofs.Halves.{low_of_half, high_of_half}
use Rattle.record.proofs.Within.{Within}

-- the record of the instruction that a record stands for is that record
encoded
    : (bytes : List ℕ) (at : ℕ) →
    Bytes bytes →
    byte bytes (at + flags_at) ≤ 15 →
    Within (fields_from bytes at) →
    record_of (instruction_of (fields_from bytes at)) ≡ firsts (λ j. byte bytes (at + j)) record_size
unfolding fields_from record_of record_bytes fields_of instruction_of firsts
encoded bytes at b flags w =
    rw (
      number_kind_of _ w.kind,
      number_flag_of _ w.fetch,
      number_flag_of _ w.access,
      flags_of_parts _ flags,
      low_of_half _ _ (b (at + fetch_latency_at)),
      high_of_half _ _ (b (at + fetch_latency_at)),
      low_of_half _ _ (b (at + data_latency_at)),
      high_of_half _ _ (b (at + data_latency_at)),
      add_assoc at fetch_latency_at 1,
      add_assoc at data_latency_at 1,
    )

module _ (body : List ℕ) (b : Bytes body) (accepted : body_refusal body ≡ 0) where
  length_again : length (body_of (trace_of body)) ≡ length body
  length_again = length_body_of (trace_of body) ∙ rw (length_trace_of body) (sym (whole_records body accepted))

  byte_again : (k j : ℕ) → k < records body → j < record_size → byte (body_of (trace_of body)) (k * record_size + j) ≡ byte body (k * record_size + j)
  byte_again k j l u =
      byte_body_of (trace_of body) k j (rw (length_trace_of body) l) u
      ∙ ap (λ (i : Instruction). byte (record_of i) j) (instruction_trace_of body k l)
      ∙ ap
      (λ (record-k : List ℕ). byte record-k j)
      (encoded body (k * record_size) b (flags_byte body accepted k l) (fields_within body accepted b k l))
      ∙ get_or_firsts _ record_size j 0 u

pub accepted_is_encoded : AcceptedIsEncoded
accepted_is_encoded body b accepted =
    ext_get_or 0 (body_of (trace_of body)) body (length_again body b accepted) λ n l.
    let k = n / record_size in
    let j = n % record_size in
    let inside : k < records body = omega (arith, length_again body b accepted, whole_records body accepted) in
    let place : k * record_size + j ≡ n = omega arith in
    subst
    (λ (m : ℕ). byte (body_of (trace_of body)) m ≡ byte body m)
    place
    (byte_again body b accepted k j inside (omega arith))

-- the instruction that the record of an instruction stands for is that instruction, but for the cycles of a data hit, which a record has not
decoded : (h : ℕ) (i : Instruction) → with_hit h (instruction_of (fields_from (record_of i) 0)) ≡ with_hit h i
unfolding fields_of instruction_of
decoded h i =
    ap (λ (f : Fields). with_hit h (instruction_of f)) (fields_of_lem i)
    ∙ rw (kind_is_read i.kind, flag_of_number i.fetch, flag_of_number i.access)

decoded_none : (i : Instruction) → i.hit_cycles ≡ 0 → instruction_of (fields_from (record_of i) 0) ≡ i
unfolding fields_of instruction_of
decoded_none i none =
    ap instruction_of (fields_of_lem i) ∙ rw (kind_is_read i.kind, flag_of_number i.fetch, flag_of_number i.access, none)

module _ (trace : Trace) (k : ℕ) (l : k < length trace) where
  record_byte : (j : ℕ) → j < record_size → byte (body_of trace) (k * record_size + j) ≡ byte (record_of (instruction trace k)) (0 + j)
  record_byte j u = rw (zero-add j) (byte_body_of trace k j l u)

  pub fields_body_of : fields_at (body_of trace) k ≡ fields_from (record_of (instruction trace k)) 0
  fields_body_of = fields_alike _ _ _ _ record_byte

  breaks_body_of : breaks_at (body_of trace) k ≡ breaks_at (record_of (instruction trace k)) 0
  unfolding breaks_at
  breaks_body_of = rw (fields_body_of, record_byte flags_at (omega arith))

-- this holds whether or not the records keep the rules, since every kind and flag has a number and the definitions put no limit on a half
module _ (trace : Trace) where
  same_length : length (trace_of (body_of trace)) ≡ length trace
  same_length = length_trace_of (body_of trace) ∙ records_body_of trace

  pub trace_again : ((k : ℕ) → k < length trace → (instruction trace k).hit_cycles ≡ 0) → trace_of (body_of trace) ≡ trace
  trace_again none =
      ext_get_or blank (trace_of (body_of trace)) trace same_length λ k l.
      let inside : k < length trace = omega (arith, same_length) in
      instruction_trace_of (body_of trace) k (omega (arith, records_body_of trace))
      ∙ ap instruction_of (fields_body_of trace k inside)
      ∙ decoded_none (instruction trace k) (none k inside)

  -- with the cycles of a data hit given, whichever the trace had
  pub timed_again : (h : ℕ) → trace_with (body_of trace) h ≡ with_hits h trace
  timed_again h =
      ext_get_or blank (trace_with (body_of trace) h) (with_hits h trace) (length_hits h (trace_of (body_of trace)) ∙ same_length ∙ sym (length_hits h trace)) λ k l.
      let inside : k < length trace = omega (arith, length_hits h (trace_of (body_of trace)), same_length) in
      instruction_hits h (trace_of (body_of trace)) k
      ∙ ap (with_hit h) (instruction_trace_of (body_of trace) k (omega (arith, records_body_of trace)) ∙ ap instruction_of (fields_body_of trace k inside))
      ∙ decoded h (instruction trace k)
      ∙ sym (instruction_hits h trace k)

pub encoding_is_decoded : EncodingIsDecoded
encoding_is_decoded trace few lawful = (
  trace_again trace (λ k l. (lawful k l).hit_cycles),
  encoding_is_bytes trace lawful,
  accepted_of (body_of trace) (rw (records_body_of trace) (length_body_of trace)) (rw (records_body_of trace) few) λ k l.
      let inside : k < length trace = omega (arith, records_body_of trace) in
      breaks_body_of trace k inside ∙ (lawful k inside).rules,
)
