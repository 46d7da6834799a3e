-- Where an instruction stands after t cycles, from its six times: at the last stage that it has entered by t, with its entry count less the cycles
-- since, but at least 0. This is the bridge in the form that the code of Run has.
use Prim.Native.Nat.{ℕ, zero, suc, ◌-◌, ◌≤◌, ◌<◌}
use mathlib.Core.Bool.{true, false}
use mathlib.Core.Path.{◌≡◌, refl, sym, ap, ◌∙◌}
use native.Mathlib.Nat.{zero-sub}
use native.Mathlib.Omega.{arith}
use lib.Dec.{ltb}
use lib.ListN.{length}
use borrow.Author.Tests.{lt-ltb, le-ltb}
use Rattle.machine.specs.Instruction.{Trace, instruction}
use Rattle.machine.specs.Rules.{entry, after}
use Rattle.machine.proofs.Schedule.{enters}
use Rattle.machine.proofs.Standing.{Stands, stands, standing, scheduled, already, not_yet}
use Rattle.machine.proofs.Derivation.{behaviour}
use Rattle.machine.proofs.Bridge.{place_is, bridge}
use Rattle.machine.proofs.Window.{times_at, place_at}
use Rattle.machine.proofs.WindowTimes.{scheduled_times, window_times, last_count_is}

module _ (trace : Trace) (t k : ℕ) where
  reached : {s : ℕ} → Stands (behaviour trace) t k s → (u : ℕ) → u ≤ s → ltb t (enters (behaviour trace) k u) ≡ false
  reached st u l = le-ltb t (enters (behaviour trace) k u) (already st u l)

  ahead : {s : ℕ} → Stands (behaviour trace) t k s → (u : ℕ) → s < u → u ≤ 6 → ltb t (enters (behaviour trace) k u) ≡ true
  ahead st u l m = lt-ltb t (enters (behaviour trace) k u) (not_yet st u l m)

  place_at_lem : (s : ℕ) → Stands (behaviour trace) t k s → place_at (instruction trace k) (scheduled_times (behaviour trace) k) t ≡ standing (behaviour trace) t k s
  unfolding place_at scheduled_times standing behaviour entry
  place_at_lem zero st =
      rw (ahead st 1 (omega arith) (omega arith))
      (place_is refl (sym (zero-sub _)))
  place_at_lem (suc zero) st =
      rw (reached st 1 (omega arith), ahead st 2 (omega arith) (omega arith))
  place_at_lem (suc (suc zero)) st =
      rw (reached st 1 (omega arith), reached st 2 (omega arith), ahead st 3 (omega arith) (omega arith))
      (place_is refl (sym (zero-sub _)))
  place_at_lem (suc (suc (suc zero))) st =
      rw (reached st 1 (omega arith), reached st 2 (omega arith), reached st 3 (omega arith), ahead st 4 (omega arith) (omega arith))
  place_at_lem (suc (suc (suc (suc zero)))) st =
      rw (reached st 1 (omega arith), reached st 2 (omega arith), reached st 3 (omega arith), reached st 4 (omega arith), ahead st 5 (omega arith) (omega arith))
  place_at_lem (suc (suc (suc (suc (suc zero))))) st =
      rw (reached st 1 (omega arith), reached st 2 (omega arith), reached st 3 (omega arith), reached st 4 (omega arith), reached st 5 (omega arith), ahead st 6 (omega arith) (omega arith))
      (place_is refl (ap (λ (c : ℕ). c - (t - enters (behaviour trace) k 5)) (last_count_is (instruction trace k))))
  place_at_lem (suc (suc (suc (suc (suc (suc s)))))) st =
      rw (reached st 1 (omega arith), reached st 2 (omega arith), reached st 3 (omega arith), reached st 4 (omega arith), reached st 5 (omega arith), reached st 6 (omega arith))
      (place_is refl (sym (zero-sub _)))

pub window_place : (trace : Trace) (t k : ℕ) → k < length trace → after trace t k ≡ place_at (instruction trace k) (times_at trace k) t
unfolding scheduled
window_place trace t k l = bridge trace t k l ∙ rw (window_times trace k) (sym (place_at_lem trace t k _ (stands (behaviour trace) t k)))
