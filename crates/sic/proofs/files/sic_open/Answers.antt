-- `sic_open` meets its contract: between the bounds that `locate` gives lies the body, and a refusal gives zeros.
use Rattle.std.proofs.Common.{ℕ, List, ◌≡◌, ◌-◌, length, take, drop, refl, sym, ap, ◌∙◌, arith}
use Rattle.std.proofs.lemmas.List.{length-take-le, length-drop}
use Rattle.job.specs.Open.{Located}
use Rattle.job.proofs.Part.{opened_file, opened_trace, bounds_lie, bounds_body, no_body, said_refusal, said_bounds}
use Rattle.record.proofs.Refusals.{some_number}
use Rattle.sic.specs.Part.{open_part}
use Rattle.sic.proofs.files.sic_open.Goals as goal

pub overflow_sub-result : goal.overflow_sub-result
overflow_sub-result c =
    let passes = sym (said_refusal _ _ _ c.in-Ok.ensures) in
    (bounds_lie _ _ (opened_file _ _ passes) (opened_trace _ _ passes) c.in-Ok.bounds (said_bounds _ _ _ c.in-Ok.ensures refl)).0

pub returns-in-Ok : goal.returns-in-Ok
unfolding open_part
returns-in-Ok c =
    let file = c.args.file.now in
    let bounds = c.in-Ok.bounds in
    let found = c.in-Ok.ensures in
    let passes = sym (said_refusal _ _ _ found) in
    let at = said_bounds _ _ _ found refl in
    let lies = bounds_lie _ _ (opened_file _ _ passes) (opened_trace _ _ passes) bounds at in
    let bytes = bounds_body _ _ (opened_file _ _ passes) (opened_trace _ _ passes) bounds at refl in
    let long : length (take (bounds.end - bounds.start) (drop bounds.start file)) ≡ bounds.end - bounds.start =
    length-take-le (bounds.end - bounds.start) (drop bounds.start file) (omega (arith, lies.0, lies.1, length-drop bounds.start file)) in (
      λ i. record { refusal = sym passes i; start = ap (λ (l : Located). l.start) found i; length = (sym long ∙ ap (λ (l : List ℕ). length l) bytes) i },
      bytes,
    )

pub returns-in-Err : goal.returns-in-Err
unfolding open_part
returns-in-Err c =
    let refused = said_refusal _ _ _ c.in-Err.ensures in
    let none = sym (no_body _ _ (λ z. some_number _ (refused ∙ z))) in (
      λ i. record {
        refusal = (c.number.ensures ∙ refused) i;
        start = ap (λ (l : Located). l.start) c.in-Err.ensures i;
        length = ap (λ (l : List ℕ). length l) none i;
      },
      none,
    )
