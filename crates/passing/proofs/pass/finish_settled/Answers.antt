-- `finish_settled` meets its contract: by a limit that no time exceeds all have left.
use Prim.Native.Nat.{zero-le}
use mathlib.Core.Path.{◌∙◌}
use native.Mathlib.Omega.{arith}
use Rattle.schedule.proofs.Accepted.{settled_small}
use Rattle.schedule.proofs.Pass.{pass_starts}
use Rattle.passing.proofs.Skips.{skips_all}
use Rattle.passing.proofs.pass.finish_settled.Goals as goal

pub skip_left-end-requires : goal.skip_left-end-requires
skip_left-end-requires c = (c.requires, zero-le, pass_starts _ c.no_window.ensures)

pub returns : goal.returns
returns c =
    c.all_left_by.ensures
    ∙ skips_all _ _ _ (settled_small _ _ _ (λ n. (c.type_inv.body n).fits) c.requires) (omega arith) c.skip_left-end.ensures
