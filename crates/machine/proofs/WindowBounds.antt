-- All times that are computed from the window lie within the bound of the instructions so far, so that 32-bit sums do not wrap.
use Prim.Native.Nat.{ℕ, suc, ◌≤◌, ◌<◌}
use mathlib.Core.Path.{sym, subst}
use native.Mathlib.Omega.{arith}
use lib.ListN.{length, take}
use Rattle.machine.specs.Instruction.{Trace}
use Rattle.machine.specs.Time.{bound}
use Rattle.machine.proofs.Schedule.{Behaviour, enters}
use Rattle.machine.proofs.Derivation.{behaviour}
use Rattle.machine.proofs.Bounds.{times_within}
use Rattle.machine.proofs.Window.{Times, times_at}
use Rattle.machine.proofs.WindowTimes.{scheduled_times, window_times}

pub record TimesWithin (m : ℕ) (e : Times) : Type 0 where
  pub IF : e.IF ≤ m
  pub ID : e.ID ≤ m
  pub EX : e.EX ≤ m
  pub MEM : e.MEM ≤ m
  pub last : e.last ≤ m
  pub post : e.post ≤ m

module _ (trace : Trace) where
  abbrev b : Behaviour
  b = behaviour trace

  pub times_fit : (k : ℕ) → k < length trace → TimesWithin (bound (take (suc k) trace)) (times_at trace k)
  unfolding scheduled_times
  times_fit k l =
      subst (TimesWithin (bound (take (suc k) trace))) (sym (window_times trace k))
      (record {
        IF = within 1 (omega arith);
        ID = within 2 (omega arith);
        EX = within 3 (omega arith);
        MEM = within 4 (omega arith);
        last = within 5 (omega arith);
        post = within 6 (omega arith);
      })
    where
      within : (s : ℕ) → s ≤ 6 → enters b k s ≤ bound (take (suc k) trace)
      within s m = times_within trace (suc k) k s (omega arith) l m
