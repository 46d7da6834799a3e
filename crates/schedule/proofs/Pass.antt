-- A pass over a trace whose bound is within the limit: with the window before instruction k, and that instruction, this crate's functions may be
-- called, and give its times and the window before the next. The window after the last instruction holds the finishing time.
use Prim.Native.Nat.{ℕ, suc, ◌+◌, ◌≤◌, ◌<◌}
use mathlib.Core.Path.{◌≡◌, sym, ap, subst, ◌∙◌}
use native.Mathlib.Numerals.{add-one}
use native.Mathlib.Omega.{arith}
use lib.ListN.{length, take}
use Rattle.machine.specs.Instruction.{Instruction, Trace, instruction}
use Rattle.machine.specs.Time.{bound, max_time, finish}
use Rattle.machine.proofs.Bounds.{bound_take}
use Rattle.machine.proofs.Window.{Window, Times, no_window, times_from, slide, window_before, times_at, all_left_by}
use Rattle.machine.proofs.WindowBounds.{TimesWithin, times_fit}
use Rattle.machine.proofs.WindowTimes.{window_starts, window_slides, window_finish}
use Rattle.schedule.specs.Inner.{Room}
use Rattle.schedule.proofs.Room.{room}

weaker : (m n : ℕ) (e : Times) → m ≤ n → TimesWithin m e → TimesWithin n e
weaker m n e l t = record { IF = omega arith; ID = omega arith; EX = omega arith; MEM = omega arith; last = omega arith; post = omega arith }

module _ (trace : Trace) where
  pub pass_starts : {w : Window} → w ≡ no_window → w ≡ window_before trace 0
  pass_starts e = e ∙ sym (window_starts trace)

  pub pass_ends : {w : Window} (k : ℕ) → w ≡ window_before trace k → k ≡ length trace → all_left_by w ≡ finish trace
  pass_ends k e end = ap all_left_by (e ∙ ap (window_before trace) end) ∙ window_finish trace

  module _ (small : bound trace ≤ max_time) (k : ℕ) (inside : k < length trace) {w : Window} {i : Instruction} (at : w ≡ window_before trace k) (this : i ≡ instruction trace k) where
    times_are : times_from w i ≡ times_at trace k
    unfolding times_at
    times_are = rw (at, this)

    -- what `times_from` and `slide` require
    pub pass_fits : TimesWithin max_time (times_from w i)
    pass_fits =
        subst (TimesWithin max_time) (sym times_are)
        (weaker (bound (take (suc k) trace)) max_time (times_at trace k) (omega (arith, bound_take trace (suc k))) (times_fit trace k inside))

    pub pass_room : {e : Times} → e ≡ times_from w i → Room i e
    pass_room = room w i pass_fits

    -- what they give
    pub pass_times : {e : Times} → e ≡ times_from w i → e ≡ times_at trace k
    pass_times p = p ∙ times_are

    pub pass_slides : {e : Times} {v : Window} → e ≡ times_from w i → v ≡ slide w i e → v ≡ window_before trace (k + 1)
    pass_slides p q = q ∙ rw (pass_times p, at, this, add-one k) (sym (window_slides trace k))
