-- The next stage is nearer to post, by as much as the two calls take.
use Prim.Native.Nat.{suc, ◌<◌}
use native.Mathlib.Omega.{arith}
use mathlib.Core.Bool.{false}
use mathlib.Core.Path.{◌≡◌, ap}
use Rattle.machine.specs.Instruction.{Kind}
use Rattle.machine.specs.Rules.{Stage, post, next, same, budget}
use Rattle.machine.proofs.Budget.{budget_next}

pub nearer : (kind : Kind) (k : Stage) {to : Stage} → to ≡ next kind k → same k post ≡ false → suc (budget to) < budget k
nearer kind k e h = let b = budget_next kind k h in let c = ap budget e in omega arith
