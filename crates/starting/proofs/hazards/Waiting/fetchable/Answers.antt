-- `fetchable` meets its contract.
use Rattle.std.proofs.Common.{refl, ap}
use mathlib.Core.Bool.{not}
use Rattle.decode.proofs.Joined.{guarded, unguarded}
use Rattle.starting.proofs.hazards.Waiting.fetchable.Goals as goal

pub returns-then-s-n : goal.returns-then-s-n
returns-then-s-n c =
    guarded refl c.opens.ensures c.if-s-n.true (ap not (c.held_back.ensures c.args.self.now.standing.now.reads.pre))

pub returns : goal.returns
returns c = unguarded refl c.opens.ensures _ c.if-s-n.false
