-- `pass` meets its contract. The loop's invariant: the pass has come to an instruction that has not left by the limit, or to the end.
use Prim.Native.Nat.{zero-le}
use mathlib.Core.Path.{sym, ap, ◌∙◌}
use native.Mathlib.Omega.{arith}
use Rattle.machine.specs.Hits.{with_hit}
use Rattle.machine.specs.Named.{flag_named}
use Rattle.record.proofs.Accepted.{few_records, timed_accepted}
use Rattle.schedule.proofs.Accepted.{length_settled, settled_timed}
use Rattle.schedule.proofs.Pass.{pass_starts}
use Rattle.under_way.proofs.RunPass.{begins, skips, stays, ends, passes, stops, stops_after}
use Rattle.under_way.proofs.seating.pass.Goals.{in-Some+then-limit-times, in_default}
use Rattle.under_way.proofs.seating.pass.Goals as goal

pub skip_left-next-requires : goal.skip_left-next-requires
skip_left-next-requires c = (c.requires.0, zero-le, pass_starts _ c.no_window.ensures)

pub loop-next-init : goal.loop-next-init
loop-next-init c = skips _ _ c.skip_left-next.ensures (begins _ _ c.requires.1)

pub overflow_add-next : goal.overflow_add-next
overflow_add-next c =
    let a = c.args in
    let s = stays _ _ c.loop-next.invariant.0 c.in-Some.is in
    omega (arith, length_settled a.body.now a.hit_cycles (flag_named a.to), few_records _ (timed_accepted _ _ c.requires.0), s.inside)

pub skip_left-next-requires-in-Some : goal.skip_left-next-requires-in-Some
skip_left-next-requires-in-Some c =
    let a = c.args in
    let s = stays _ _ c.loop-next.invariant.0 c.in-Some.is in
    (c.requires.0, omega (arith, length_settled a.body.now a.hit_cycles (flag_named a.to), s.inside), s.after)

pub loop-next-smaller : goal.loop-next-smaller
loop-next-smaller c =
    let a = c.args in
    let s = stays _ _ c.loop-next.invariant.0 c.in-Some.is in
    omega (arith, length_settled a.body.now a.hit_cycles (flag_named a.to), s.inside, c.skip_left-next-in-Some.ensures.onward)

pub loop-next-preserved : goal.loop-next-preserved
loop-next-preserved c =
    let a = c.args in
    let i = c.loop-next.invariant in
    skips _ _ c.skip_left-next-in-Some.ensures
    (passes _ _ i.1 (stays _ _ i.0 c.in-Some.is) (ap (with_hit a.hit_cycles) c.settled_at-f.ensures ∙ sym (settled_timed a.body.now a.hit_cycles (flag_named a.to) c.loop-next.next.k)) c.seat.ensures)

pub returns : goal.returns
returns c =
    let i = c.loop-next.invariant in
    elim c.match-next.branch [
      | in-Some+then-limit-times w ↦ stops _ _ i.1 (stays _ _ i.0 w.in-Some.is) w.if-limit-times.true c.all_left_by.ensures
      | in_default w ↦ stops_after _ _ i.1 (ends _ _ i.0 w.in_default.is) c.all_left_by.ensures
    ]
