-- What one more instruction adds to the accesses counted, and the code's test of a latency.
use Prim.Native.Nat.{ℕ, ◌+◌, ◌*◌, ◌-◌, ◌≤◌}
use mathlib.Core.Bool.{Bool, true, false, cond}
use mathlib.Core.List.{[], ◌∷◌, ◌++◌}
use mathlib.Core.Path.{◌≡◌, sym, ◌∙◌}
use native.Mathlib.Omega.{arith}
use borrow.Author.Tests.{ltb-true, ltb-false, lt-ltb, le-ltb}
use lib.Dec.{ltb}
use lib.ListN.{length}
use Rattle.machine.specs.Instruction.{Instruction, Trace}
use Rattle.machine.specs.Hits.{with_hits}
use Rattle.machine.specs.Bus.{counts_fetch, counts_data, accesses_of, accesses}
use Rattle.machine.proofs.Connectives.{Value, passed, failed, value}

pub accesses_more : (trace : Trace) (i : Instruction) → accesses (trace ++ (i ∷ [])) ≡ accesses trace + accesses_of i
unfolding accesses
accesses_more [] i = omega arith
accesses_more (j ∷ trace) i = omega (arith, accesses_more trace i)

-- at most one for each access
pub one_at_most : (x : Bool) → cond x 1 0 ≤ 1
one_at_most true = omega arith
one_at_most false = omega arith

pub accesses_few : (trace : Trace) → accesses trace ≤ 2 * length trace
unfolding accesses accesses_of
accesses_few [] = omega arith
accesses_few (i ∷ trace) = omega (arith, accesses_few trace, one_at_most (counts_fetch i), one_at_most (counts_data i))

-- the cycles of a data hit are no matter of it
pub accesses_hits : (h : ℕ) (trace : Trace) → accesses (with_hits h trace) ≡ accesses trace
unfolding with_hits accesses accesses_of counts_fetch counts_data
accesses_hits h [] = omega arith
accesses_hits h (i ∷ trace) = let e = accesses_hits h trace in omega arith

-- a latency is above what the wait leaves exactly where it is above the limit with the wait
pub above_rest : (limit wait latency : ℕ) → wait ≤ limit → ltb (limit - wait) latency ≡ ltb limit (latency + wait)
above_rest limit wait latency l = pick (value (ltb limit (latency + wait)))
  where
    pick : Value (ltb limit (latency + wait)) → ltb (limit - wait) latency ≡ ltb limit (latency + wait)
    pick (passed e) = lt-ltb (limit - wait) latency (omega (arith, ltb-true limit (latency + wait) e)) ∙ sym e
    pick (failed e) = le-ltb (limit - wait) latency (omega (arith, ltb-false limit (latency + wait) e)) ∙ sym e
