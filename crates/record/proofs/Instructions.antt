-- Which instruction is at each index in the trace of a body: the one that the record's fields stand for. The fields that are read at any index
-- stand for it too; past the end both are blank.
use Prim.Native.Nat.{ℕ, zero, suc, ◌≤◌, ◌<◌}
use mathlib.Core.List.{List, [], ◌∷◌}
use mathlib.Core.Logic.{⊎_elim}
use mathlib.Core.Path.{◌≡◌, refl, sym, ap, ◌∙◌}
use native.Mathlib.Nat.{le_of_suc-le-suc, not-suc-le-zero, eq-or-lt_of_le}
use native.Mathlib.Omega.{arith}
use lib.Dec.{ltb}
use lib.ListN.{length, get_or, length-append, get_or-append, get_or-eq_default}
use lib.Seq.{get_or_at}
use borrow.Author.Tests.{ltb-true, ltb-false}
use Rattle.machine.specs.Instruction.{Instruction, Trace, instruction, blank}
use Rattle.machine.specs.Hits.{with_hits}
use Rattle.machine.proofs.Hits.{hits_none}
use Rattle.machine.proofs.Connectives.{Value, passed, failed, value}
use Rattle.record.specs.Rules.{kind_of, flag_of, instruction_of}
use Rattle.record.specs.Body.{records, fields_at, firsts, read_answer, no_fields, trace_of}

module _ {A : Type 0} (f : ℕ → A) where
  pub length_firsts : (n : ℕ) → length (firsts f n) ≡ n
  unfolding firsts
  length_firsts zero = refl
  length_firsts (suc n) = rw (length-append, length_firsts n) (omega arith)

  pub get_or_firsts : (n k : ℕ) (d : A) → k < n → get_or (firsts f n) k d ≡ f k
  unfolding firsts
  get_or_firsts zero k d l = absurd (not-suc-le-zero l)
  get_or_firsts (suc n) k d l =
      ⊎_elim
      (λ q. rw q (get_or_at (firsts f n) (f n) [] d n (length_firsts n)))
      (λ lt. get_or-append (firsts f n) (f n ∷ []) d k (rw (length_firsts n) lt) ∙ get_or_firsts n k d lt)
      (eq-or-lt_of_le (le_of_suc-le-suc l))

-- the trace of a body has an instruction for each record, the one that the record's fields stand for
pub length_trace_of : (body : List ℕ) → length (trace_of body) ≡ records body
unfolding trace_of
length_trace_of body = length_firsts _ (records body)

pub instruction_trace_of : (body : List ℕ) (k : ℕ) → k < records body → instruction (trace_of body) k ≡ instruction_of (fields_at body k)
unfolding trace_of
instruction_trace_of body k l = get_or_firsts _ (records body) k blank l

-- none of its data hits takes cycles
pub trace_hits : (body : List ℕ) → with_hits 0 (trace_of body) ≡ trace_of body
unfolding instruction_of
trace_hits body =
    hits_none (trace_of body) λ k l. ap (λ (i : Instruction). i.hit_cycles) (instruction_trace_of body k (omega (arith, length_trace_of body)))

past : (trace : Trace) (k : ℕ) → length trace ≤ k → instruction trace k ≡ blank
past trace k h = get_or-eq_default trace blank h

no_fields_lem : instruction_of no_fields ≡ blank
unfolding instruction_of kind_of flag_of
no_fields_lem = refl

pub read_instruction : (body : List ℕ) (k : ℕ) → instruction_of (read_answer body k).fields ≡ instruction (trace_of body) k
unfolding read_answer
read_instruction body k = by (value (ltb k (records body)))
  where
    by : Value (ltb k (records body)) → instruction_of (read_answer body k).fields ≡ instruction (trace_of body) k
    by (passed l) = rw l (sym (instruction_trace_of body k (ltb-true k (records body) l)))
    by (failed l) =
        let h = ltb-false k (records body) l in
        let e = length_trace_of body in
        rw l (no_fields_lem ∙ sym (past (trace_of body) k (omega arith)))
