-- `released` meets its contract.
use Rattle.std.proofs.Common.{sym, ap, ◌∙◌}
use mathlib.Core.Bool.{not}
use Rattle.machine.proofs.Connectives.{and_l}
use Rattle.decode.proofs.Joined.{guarded, unguarded, both_l}
use Rattle.starting.proofs.hazards.Waiting.released.Goals as goal

pub returns-then-counted_down-opens : goal.returns-then-counted_down-opens
returns-then-counted_down-opens c i =
    let down = c.counted_down.ensures in
    let filled = and_l _ _ (sym down ∙ both_l _ _ c.if-counted_down-opens.true) in
    guarded down c.opens.ensures c.if-counted_down-opens.true (ap not (c.held_back.ensures (i filled)))

pub returns : goal.returns
returns c i = unguarded c.counted_down.ensures c.opens.ensures _ c.if-counted_down-opens.false
