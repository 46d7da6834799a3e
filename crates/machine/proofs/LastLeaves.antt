-- Who leaves last: the last instruction or the last store. Those that pass through WB leave in their order, and stores leave in theirs.
use Prim.Native.Nat.{ℕ, zero, suc, ◌≤◌, max}
use mathlib.Core.Bool.{Bool, true, false, cond}
use mathlib.Core.Path.{◌≡◌, refl, subst}
use native.Mathlib.Omega.{arith}
use Rattle.machine.specs.Instruction.{Trace, instruction}
use Rattle.machine.specs.Rules.{is_store}
use Rattle.machine.proofs.Numbers.{greatest}
use Rattle.machine.proofs.Connectives.{Value, passed, failed, value}
use Rattle.machine.proofs.Schedule.{Behaviour, enters, done, own}
use Rattle.machine.proofs.Derivation.{behaviour}
use Rattle.machine.proofs.Dominance.{previous, share_early, last_done}
use Rattle.machine.proofs.Finish.{last_leaves}
use Rattle.machine.proofs.FetchTime.{stores}
use Rattle.machine.proofs.StageTimes.{no_count_in_WB, at_last, at_post}

module _ (trace : Trace) where
  abbrev b : Behaviour
  b = behaviour trace

  leaves_after : (k : ℕ) → enters b k 5 ≤ enters b k 6
  unfolding done
  leaves_after k = omega (arith, own b k 5)

  from_WB : (k : ℕ) → is_store (instruction trace k).kind ≡ false → enters b k 6 ≡ suc (enters b k 5)
  unfolding behaviour done
  from_WB k e = omega (arith, at_post trace k, no_count_in_WB (instruction trace k) e)

  -- a store enters ST when the last one is done
  store_waits : (k : ℕ) → is_store (instruction trace k).kind ≡ true → stores trace k ≤ enters b k 5
  store_waits k e = subst (λ (t : Bool). cond t (stores trace k) 0 ≤ enters b k 5) e (omega (arith, at_last trace k))

  -- the instruction directly before leaves earlier, unless it is a store
  overtaken : (k : ℕ) → previous b k 6 ≤ max (stores trace k) (enters b k 6)
  unfolding previous stores last_done
  overtaken zero = omega arith
  overtaken (suc j) = by (value (is_store (instruction trace j).kind))
    where
      by : Value (is_store (instruction trace j).kind) →
          enters b j 6 ≤ max (cond (is_store (instruction trace j).kind) (done b j 5) (last_done b (λ i. is_store (instruction trace i).kind) 5 j)) (enters b (suc j) 6)
      by (passed e) = rw e (omega (arith, at_post trace j))
      by (failed e) =
          omega (arith, from_WB j e, share_early b (suc j) j 4 (omega arith) (omega arith) (omega arith), at_last trace (suc j), leaves_after (suc j))

  pub last_leaves_lem : (k : ℕ) → max (stores trace k) (previous b k 6) ≡ last_leaves b k
  unfolding previous stores last_done last_leaves greatest
  last_leaves_lem zero = refl
  last_leaves_lem (suc k) = by (last_leaves_lem k) (overtaken k) (value (is_store (instruction trace k).kind))
    where
      before : ℕ
      before = last_done b (λ i. is_store (instruction trace i).kind) 5 k

      by : max before (previous b k 6) ≡ greatest 0 (λ i. enters b i 6) k →
          previous b k 6 ≤ max before (enters b k 6) →
          Value (is_store (instruction trace k).kind) →
          max (cond (is_store (instruction trace k).kind) (done b k 5) before) (enters b k 6) ≡ max (greatest 0 (λ i. enters b i 6) k) (enters b k 6)
      by ih over (passed e) = rw e (omega (arith, at_post trace k, store_waits k e, leaves_after k))
      by ih over (failed e) = rw e (omega arith)
