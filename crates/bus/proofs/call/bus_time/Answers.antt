-- `bus_time` meets its contract: the refusals in their order, then the count and the worst time, whose sum fits 32 bits.
use Rattle.std.proofs.Common.{◌+◌, ◌*◌, ◌≤◌, sym, arith}
use Rattle.machine.specs.State.{max_instructions}
use Rattle.record.proofs.Accepted.{timed_accepted}
use Rattle.record.proofs.Refusals.{handed, stop, passed, some_number}
use Rattle.bus.specs.Answers.{time_on_bus, bus_refusal}
use Rattle.bus.specs.Claims.{max_wait, max_bus_time}
use Rattle.bus.proofs.Answered.{refused, given, sum_fits}
use Rattle.bus.proofs.call.bus_time.Goals as goal

pub returns-in_err-check_timed : goal.returns-in_err-check_timed
unfolding bus_refusal
returns-in_err-check_timed c =
    handed _ _ time_on_bus c.from_residual.ensures.1 (refused _ _ _ (stop _ c.in_err-check_timed.ensures (some_number _)) (some_number _))

-- the pass is asked of an accepted body only
pub count_accesses-requires : goal.count_accesses-requires
count_accesses-requires c = timed_accepted _ _ (sym c.in_ok-check_timed.ensures)

pub returns-in_err-accesses : goal.returns-in_err-accesses
unfolding bus_refusal
returns-in_err-accesses c =
    handed _ _ time_on_bus c.from_residual-in_err-accesses.ensures.1
    (refused _ _ _ (passed c.in_ok-check_timed.ensures c.in_err-accesses.ensures.waits) (some_number _))

module _ (c : goal.After-finish_settled-worst) where
  fits
      : (c.in_ok-accesses.accesses * c.args.wait ≤ 2 * max_instructions * max_wait)
      × (c.finish_settled-worst.result + c.in_ok-accesses.accesses * c.args.wait ≤ max_bus_time)
  fits =
      sum_fits c.args.body.now c.args.hit_cycles (λ n. (c.type_inv.body n).fits) (sym c.in_ok-check_timed.ensures) c.args.wait (omega arith)
      c.in_ok-accesses.ensures.counted c.finish_settled-worst.ensures

pub overflow_mul-result : goal.overflow_mul-result
overflow_mul-result c = omega (arith, (fits c).0)

pub overflow_add-result : goal.overflow_add-result
overflow_add-result c = omega (arith, (fits c).1)

pub returns : goal.returns
unfolding bus_refusal
returns c =
    given c.args.body.now c.args.wait c.args.hit_cycles
    (sym (passed c.in_ok-check_timed.ensures c.in_ok-accesses.ensures.waits))
    c.in_ok-accesses.ensures.counted
    c.finish_settled-worst.ensures
