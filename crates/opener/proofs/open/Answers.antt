-- `open` meets its contract: `locate` says where the body is, and `part` cuts it out there.
use Rattle.std.proofs.Common.{refl, sym, subst, ◌∙◌}
use Rattle.record.specs.Number.{refusal_in}
use Rattle.record.specs.Part.{StartsAt}
use Rattle.record.proofs.Refusals.{handed, some_number}
use Rattle.job.specs.declared.table.Bounds.{Bounds}
use Rattle.job.proofs.Part.{opened_file, opened_trace, bounds_lie, bounds_body, no_body, said_refusal, said_bounds}
use Rattle.opener.specs.Opened.{opened}
use Rattle.opener.proofs.open.Goals as goal

pub returns-in_err-bounds-clause-refusal : goal.returns-in_err-bounds-clause-refusal
returns-in_err-bounds-clause-refusal c = handed _ _ refusal_in c.from_residual.ensures.1 (said_refusal _ _ _ c.in_err-bounds.ensures)

pub part-requires : goal.part-requires
part-requires c =
    let passes = sym (said_refusal _ _ _ c.in_ok-bounds.ensures) in
    bounds_lie _ _ (opened_file _ _ passes) (opened_trace _ _ passes) c.in_ok-bounds.bounds (said_bounds _ _ _ c.in_ok-bounds.ensures refl)

pub returns-clause-refusal : goal.returns-clause-refusal
returns-clause-refusal c = said_refusal _ _ _ c.in_ok-bounds.ensures

pub returns-in_err-bounds-clause-bytes : goal.returns-in_err-bounds-clause-bytes
unfolding opened
returns-in_err-bounds-clause-bytes c =
    let refused = said_refusal _ _ _ c.in_err-bounds.ensures in
    handed _ _ opened c.from_residual.ensures.1 (sym (no_body _ _ (λ z. some_number _ (refused ∙ z))))

pub returns-clause-bytes : goal.returns-clause-bytes
unfolding opened
returns-clause-bytes c =
    let passes = sym (said_refusal _ _ _ c.in_ok-bounds.ensures) in
    let found = said_bounds _ _ _ c.in_ok-bounds.ensures refl in
    bounds_body _ _ (opened_file _ _ passes) (opened_trace _ _ passes) c.in_ok-bounds.bounds found c.part.ensures.0

pub returns-clause-place : goal.returns-clause-place
returns-clause-place c =
    let found = said_bounds _ _ _ c.in_ok-bounds.ensures refl in
    subst (λ (b : Bounds). StartsAt c.args.file b.start c.part.result) found c.part.ensures.1
