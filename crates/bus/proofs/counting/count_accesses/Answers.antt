-- `count_accesses` meets its contract, instruction by instruction.
use Rattle.std.proofs.Common.{ℕ, ◌+◌, ◌<◌, ◌≡◌, refl, sym, ap, ap₂, ◌∙◌, arith}
use native.Mathlib.Numerals.{add-one}
use Rattle.machine.specs.Bus.{accesses_of, accesses}
use Rattle.record.specs.declared.layout.Fields.{Fields}
use Rattle.record.specs.Rules.{instruction_of}
use Rattle.record.specs.Body.{records, fields_at, firsts, trace_of}
use Rattle.record.proofs.Accepted.{few_records}
use Rattle.record.proofs.Scan.{none_zero, none_more, scan_refused, scan_passed}
use Rattle.schedule.proofs.Accepted.{read_first, read_fields}
use Rattle.bus.specs.Answers.{long_wait, exceeds, exceeds_at, wait_refusal}
use Rattle.bus.proofs.Added.{accesses_more}
use Rattle.bus.proofs.counting.count_accesses.Goals as goal

pub count-records-requires : goal.count-records-requires
count-records-requires c = few_records _ c.requires

pub loop-k-init : goal.loop-k-init
unfolding read_first firsts accesses
loop-k-init c = record { counted = refl; few = omega arith; short = none_zero _ }

pub returns-then-exceeds-clause-waits : goal.returns-then-exceeds-clause-waits
unfolding wait_refusal exceeds_at
returns-then-exceeds-clause-waits c =
    let body = c.args.body.now in
    let k = c.loop-k.k in
    let inside : k < records body = omega (arith, c.count-records.ensures) in
    let here = read_fields body k inside c.fields_or_zeros-f.ensures in
    scan_refused (exceeds_at body c.args.wait) long_wait k _ inside
    (ap (λ (f : Fields). exceeds c.args.wait (instruction_of f)) (sym here) ∙ sym c.exceeds.ensures ∙ c.if-exceeds.true)

pub overflow_add-accesses : goal.overflow_add-accesses
overflow_add-accesses c =
    omega (arith, c.loop-k.invariant.few, c.accesses_of-accesses.ensures.1, c.count-records.ensures, few_records _ c.requires)

pub loop-k-preserved : goal.loop-k-preserved
unfolding read_first firsts exceeds_at
loop-k-preserved c =
    let body = c.args.body.now in
    let wait = c.args.wait in
    let k = c.loop-k.k in
    let inside : k < records body = omega (arith, c.count-records.ensures) in
    let here = read_fields body k inside c.fields_or_zeros-f.ensures in
    record {
      counted =
          ap₂ (λ (a b : ℕ). a + b) c.loop-k.invariant.counted
          (c.accesses_of-accesses.ensures.0 ∙ ap (λ (f : Fields). accesses_of (instruction_of f)) here)
          ∙ sym (accesses_more (read_first body k) (instruction_of (fields_at body k)))
          ∙ ap (λ (n : ℕ). accesses (read_first body n)) (sym (add-one k));
      few = omega (arith, c.loop-k.invariant.few, c.accesses_of-accesses.ensures.1);
      short =
          none_more (exceeds_at body wait) k c.loop-k.invariant.short
          (ap (λ (f : Fields). exceeds wait (instruction_of f)) (sym here) ∙ sym c.exceeds.ensures ∙ c.if-exceeds.false);
    }

pub returns-clause-waits : goal.returns-clause-waits
unfolding wait_refusal
returns-clause-waits c =
    scan_passed (exceeds_at c.args.body.now c.args.wait) long_wait c.loop-k.k _ c.loop-k.invariant.short (omega (arith, c.count-records.ensures))
    (omega (arith, c.count-records.ensures))

pub returns-clause-counted : goal.returns-clause-counted
unfolding read_first trace_of
returns-clause-counted c =
    let end : c.loop-k.k ≡ records c.args.body.now = omega (arith, c.count-records.ensures) in
    c.loop-k.invariant.counted ∙ ap (λ (n : ℕ). accesses (read_first c.args.body.now n)) end
