-- `slot_after` meets its contract: what comes in, what stays, nothing.
use Rattle.std.proofs.Common.{sym, ◌∙◌}
use mathlib.Core.Bool.{not}
use Rattle.machine.proofs.BySlots.{slot_after}
use Rattle.decode.proofs.Joined.{both}
use Rattle.cycle.proofs.cycling.slot_after.Goals as goal

pub returns-then-arrives : goal.returns-then-arrives
unfolding slot_after
returns-then-arrives c = rw (c.if-arrives.true, c.holding.ensures)

pub returns-then-old-gone : goal.returns-then-old-gone
unfolding slot_after
returns-then-old-gone c =
    rw (c.if-arrives.false, sym (both c.args.old.filled (not c.args.gone)) ∙ c.if-old-gone.true, c.holding-then-old-gone.ensures, c.saturating_sub.ensures)

pub returns : goal.returns
unfolding slot_after
returns c = rw (c.if-arrives.false, sym (both c.args.old.filled (not c.args.gone)) ∙ c.if-old-gone.false)
