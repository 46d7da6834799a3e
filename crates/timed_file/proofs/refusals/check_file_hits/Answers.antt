-- `check_file_hits` meets its contract, trace by trace.
use Rattle.std.proofs.Common.{ℕ, List, refl, ap, ◌∙◌, arith}
use Rattle.record.specs.Body.{body_refusal, hit_refusal}
use Rattle.record.specs.Number.{refusal_in}
use Rattle.record.proofs.Refusals.{handed, some_number}
use Rattle.record.proofs.Scan.{none_zero, none_more}
use Rattle.job.proofs.Accepted.{open_accepted}
use Rattle.job.proofs.Part.{opened_accepted}
use Rattle.timed_file.proofs.Hits.{declines, lets_pass, is_long, long_refused, one_refused, all_passed}
use Rattle.timed_file.proofs.refusals.check_file_hits.Goals as goal

pub returns-then-hit_cycles-gt-MAX_HIT_CYCLES : goal.returns-then-hit_cycles-gt-MAX_HIT_CYCLES
returns-then-hit_cycles-gt-MAX_HIT_CYCLES c = long_refused _ _ (omega arith)

pub loop-t-init : goal.loop-t-init
loop-t-init c = none_zero _

pub check_hits-requires : goal.check_hits-requires
check_hits-requires c =
    ap body_refusal c.body_of.ensures.0
    ∙ opened_accepted c.args.file.now _ (open_accepted c.args.file.now _ c.requires (omega arith))

pub returns-in_err-check_hits : goal.returns-in_err-check_hits
returns-in_err-check_hits c =
    let e = c.in_err-check_hits.ensures ∙ ap (λ (b : List ℕ). hit_refusal b c.args.hit_cycles) c.body_of.ensures.0 in
    handed _ _ refusal_in c.from_residual.ensures.1
    (is_long _ _ _ e (some_number _) ∙ one_refused _ _ c.loop-t.t (omega arith) (declines _ _ _ e (some_number _)))

pub loop-t-preserved : goal.loop-t-preserved
loop-t-preserved c =
    let e = c.in_ok-check_hits.ensures ∙ ap (λ (b : List ℕ). hit_refusal b c.args.hit_cycles) c.body_of.ensures.0 in
    none_more _ _ c.loop-t.invariant (lets_pass _ _ _ e refl)

pub returns : goal.returns
returns c =
    all_passed _ _ c.if-hit_cycles-gt-MAX_HIT_CYCLES.false c.loop-t.t c.loop-t.invariant (omega arith) (omega arith)
