use Rattle.std.proofs.Common.{◌≡◌, ◌+◌, ◌<◌, ℕ, refl, sym, ap, ap₂, subst, ◌∙◌, add-one, arith}
use Rattle.record.specs.declared.layout.Fields.{Fields}
use Rattle.record.specs.Rules.{flag_of, instruction_of}
use Rattle.record.specs.Body.{records, fields_at, firsts, trace_of}
use Rattle.record.proofs.Accepted.{few_records}
use Rattle.schedule.proofs.Accepted.{read_first, read_fields}
use Rattle.report_figures.specs.Figures.{is_unknown, unknown_flags}
use Rattle.report_figures.proofs.Flags.{unknown_more}
use Rattle.report_figures.proofs.unknown_flags.Goals as goal

pub count-k-end-requires : goal.count-k-end-requires
count-k-end-requires c = few_records _ c.requires

pub loop-k-init : goal.loop-k-init
unfolding read_first firsts unknown_flags
loop-k-init c = (refl, omega arith)

pub overflow_add-unknown : goal.overflow_add-unknown
overflow_add-unknown c = let few = few_records _ c.requires in omega arith

pub loop-k-preserved : goal.loop-k-preserved
unfolding read_first firsts instruction_of
loop-k-preserved c =
    let body = c.args.body.now in
    let k = c.loop-k.k in
    let inside = subst (λ (n : ℕ). k < n) c.count-k-end.ensures c.loop-k-test.true in
    let here =
    ap
    (λ (f : Fields). is_unknown (flag_of f.fetch) + is_unknown (flag_of f.access))
    (read_fields body k inside c.fields_or_zeros.ensures) in (
      ap₂ (λ (a b : ℕ). a + b) c.loop-k.invariant.0 (c.unknowns_of-unknown.ensures.0 ∙ here)
          ∙ sym (unknown_more (read_first body k) (instruction_of (fields_at body k)))
          ∙ ap (λ (n : ℕ). unknown_flags (read_first body n)) (sym (add-one k)),
      omega arith,
    )

pub returns : goal.returns
unfolding read_first trace_of
returns c =
    let body = c.args.body.now in
    let end : c.loop-k.k ≡ records body = omega arith in
    c.loop-k.invariant.0 ∙ ap (λ (n : ℕ). unknown_flags (read_first body n)) end
