-- `skip_left` meets its contract: at the loop's head the window is the one before record k, and all from `from` on have left.
use Rattle.std.proofs.Common.{◌<◌, length, arith}
use Rattle.machine.specs.Time.{settle}
use Rattle.machine.specs.Named.{flag_named}
use Rattle.record.specs.Body.{trace_with}
use Rattle.record.proofs.Accepted.{few_records, timed_accepted}
use Rattle.schedule.proofs.Accepted.{length_settled}
use Rattle.passing.proofs.Skips.{skips_none, skips_one, skip_stays, skip_ends}
use Rattle.passing.proofs.pass.skip_left.Goals as goal

pub count-records-requires : goal.count-records-requires
count-records-requires c = few_records _ (timed_accepted _ _ c.requires.0)

pub loop-k-init : goal.loop-k-init
loop-k-init c = record { at = c.requires.2; skips = skips_none _ _ _ }

pub timed_at-timed-requires : goal.timed_at-timed-requires
timed_at-timed-requires c = (c.requires.0, omega (arith, c.count-records.ensures), c.loop-k.invariant.at)

pub returns-then-limit-times : goal.returns-then-limit-times
returns-then-limit-times c =
    let timed = c.timed_at-timed.ensures in
    let a = c.args in
    let inside : c.loop-k.k < length (settle (flag_named a.to) (trace_with a.body.now a.hit_cycles)) = omega (arith, length_settled a.body.now a.hit_cycles (flag_named a.to), c.count-records.ensures) in
    skip_stays _ _ _ c.loop-k.invariant.skips inside timed.0 timed.1 c.if-limit-times.true

pub loop-k-preserved : goal.loop-k-preserved
loop-k-preserved c =
    let timed = c.timed_at-timed.ensures in
    record { at = timed.1; skips = skips_one _ _ _ _ c.loop-k.invariant.skips timed.0 c.if-limit-times.false }

pub returns : goal.returns
returns c =
    let a = c.args in
    let i = c.loop-k.invariant in
    skip_ends _ _ _ i.skips (omega (arith, c.loop-k.auto.k-end, c.requires.1, c.count-records.ensures))
    (omega (arith, length_settled a.body.now a.hit_cycles (flag_named a.to), c.count-records.ensures)) i.at
