-- `step` meets its contract: the refusals in their order; on an orderly state the cycle by slots is the rules' cycle.
use Rattle.std.proofs.Common.{sym, ◌∙◌, arith}
use Rattle.machine.specs.Hits.{with_hits}
use Rattle.machine.proofs.Hits.{length_hits}
use Rattle.machine.proofs.Step.{step_by_slots_lem}
use Rattle.machine.proofs.Orderly.{orderly_is_tested}
use Rattle.record.specs.Body.{trace_of}
use Rattle.record.proofs.Accepted.{few_records, timed_accepted, settled_timed}
use Rattle.record.proofs.Instructions.{length_trace_of}
use Rattle.record.proofs.Refusals.{handed, stop, passed, some_number, last_passes, last_fails}
use Rattle.pipeline.specs.Step.{stepped as next, step_refusal}
use Rattle.pipeline.proofs.Paths.{refused, stepped}
use Rattle.pipeline.proofs.stepping.step.Goals as goal

pub returns-in_err-check_settled : goal.returns-in_err-check_settled
unfolding step_refusal
returns-in_err-check_settled c =
    handed _ _ (next c.args.s) c.from_residual.ensures.1
    (refused _ _ _ (stop _ c.in_err-check_settled.ensures (some_number _)) (some_number _))

pub count-n-requires : goal.count-n-requires
count-n-requires c = few_records _ (timed_accepted _ _ (settled_timed _ _ (sym c.in_ok-check_settled.ensures)))

pub cycle-requires : goal.cycle-requires
cycle-requires c =
    let a = c.args in
    let trace = trace_of a.body.now in
    let long = length_trace_of a.body.now ∙ sym c.count-n.ensures in
    let read = c.read_stages-w.ensures in
    let tested = rw (read.0, read.1) at c.orderly.ensures in
    let t = sym (tested long) ∙ c.if-orderly.true in
    let f = ((orderly_is_tested (with_hits a.hit_cycles trace) a.s).1 t).fetched in
    let same = length_hits a.hit_cycles trace in
    let few = few_records _ (timed_accepted _ _ (settled_timed _ _ (sym c.in_ok-check_settled.ensures))) in
    rw read.1 (omega arith)

pub returns-then-orderly : goal.returns-then-orderly
unfolding step_refusal
returns-then-orderly c =
    let a = c.args in
    let trace = trace_of a.body.now in
    let read = c.read_stages-w.ensures in
    let tested = rw (read.0, read.1) at c.orderly.ensures in
    let next_state = rw (read.0, read.1) at c.cycle.ensures in
    let long = length_trace_of a.body.now ∙ sym c.count-n.ensures in
    let t = sym (tested long) ∙ c.if-orderly.true in
    stepped _ _ _
    (passed c.in_ok-check_settled.ensures (last_passes 12 t))
    (next_state long ∙ step_by_slots_lem (with_hits a.hit_cycles trace) a.s ((orderly_is_tested (with_hits a.hit_cycles trace) a.s).1 t))

pub returns : goal.returns
unfolding step_refusal
returns c =
    let body = c.args.body.now in
    let long = length_trace_of body ∙ sym c.count-n.ensures in
    let read = c.read_stages-w.ensures in
    let tested = rw (read.0, read.1) at c.orderly.ensures in
    let t = sym (tested long) ∙ c.if-orderly.false in
    refused _ _ _ (passed c.in_ok-check_settled.ensures (last_fails 12 t)) (λ z. omega arith)
