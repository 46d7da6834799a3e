-- The window before an instruction holds what the closed form needs, so the times computed from it are the schedule's, and the last window holds
-- the finishing time. The code of Finish and Run is proved against this.
use Prim.Native.Nat.{ℕ, zero, suc, ◌+◌, max}
use mathlib.Core.Bool.{cond}
use mathlib.Core.Path.{◌≡◌, refl, sym, ap, ◌∙◌}
use native.Mathlib.Omega.{arith}
use lib.ListN.{length}
use Rattle.machine.specs.Instruction.{Instruction, Trace, instruction}
use Rattle.machine.specs.Rules.{EX, is_load, is_store, holds_fetches, entry}
use Rattle.machine.specs.Time.{finish}
use Rattle.machine.proofs.Connectives.{Value, passed, failed, value}
use Rattle.machine.proofs.Schedule.{Behaviour, enters, done}
use Rattle.machine.proofs.Derivation.{count_at, last_count_lem, behaviour}
use Rattle.machine.proofs.Finish.{last_leaves, finish_is}
use Rattle.machine.proofs.Dominance.{previous, last_done}
use Rattle.machine.proofs.FetchTime.{holders, loads, stores, at_IF}
use Rattle.machine.proofs.LastLeaves.{last_leaves_lem}
use Rattle.machine.proofs.StageTimes.{target_before, at_ID, at_EX, at_MEM, at_last, at_post, load_enters_WB}
use Rattle.machine.proofs.Window.{Window, Times, no_window, enter_IF, enter_ID, enter_EX, enter_MEM, enter_last, last_count, enter_post, times_from, slide, window_before, times_at, all_left_by}

-- the schedule's times of an instruction
unfoldable pub scheduled_times : Behaviour → ℕ → Times
scheduled_times b k =
    record { IF = enters b k 1; ID = enters b k 2; EX = enters b k 3; MEM = enters b k 4; last = enters b k 5; post = enters b k 6 }

pub last_count_is : (i : Instruction) → last_count i ≡ count_at i 5
unfolding last_count entry
last_count_is i = sym (last_count_lem i (is_store i.kind))

module _ (trace : Trace) where
  abbrev b : Behaviour
  b = behaviour trace

  -- what the window before instruction k holds
  unfoldable pub seen : ℕ → Window
  seen k =
      record {
        next_fetch = max (max 1 (previous b k 2)) (holders trace k);
        EX = previous b k 3;
        MEM = previous b k 4;
        last = previous b k 5;
        post = previous b k 6;
        load_done = loads trace k;
        store_done = stores trace k;
        load_target = target_before trace k;
      }

  seen_IF : (k : ℕ) → enter_IF (seen k) (instruction trace k) ≡ enters b k 1
  unfolding enter_IF seen
  seen_IF k = omega (arith, at_IF trace k)

  seen_ID : (k : ℕ) → enter_ID (seen k) (instruction trace k) (enters b k 1) ≡ enters b k 2
  unfolding enter_ID seen
  seen_ID k = sym (at_ID trace k)

  seen_EX : (k : ℕ) → enter_EX (seen k) (instruction trace k) (enters b k 2) ≡ enters b k 3
  unfolding enter_EX seen
  seen_EX k = sym (at_EX trace k)

  seen_MEM : (k : ℕ) → enter_MEM (seen k) (instruction trace k) (enters b k 3) ≡ enters b k 4
  unfolding enter_MEM seen
  seen_MEM k = sym (at_MEM trace k)

  seen_last : (k : ℕ) → enter_last (seen k) (instruction trace k) (enters b k 4) ≡ enters b k 5
  unfolding enter_last seen
  seen_last k = sym (at_last trace k)

  seen_post : (k : ℕ) → enter_post (instruction trace k) (enters b k 5) ≡ enters b k 6
  unfolding enter_post done behaviour
  seen_post k = rw (last_count_is (instruction trace k)) (sym (at_post trace k))

  times_seen : (k : ℕ) → times_from (seen k) (instruction trace k) ≡ scheduled_times b k
  unfolding times_from scheduled_times
  times_seen k = rw (seen_IF k, seen_ID k, seen_EX k, seen_MEM k, seen_last k, seen_post k)

  -- the instruction directly before was fetched after all that hold fetches back before it were done, so that of these it alone can hold the next fetch back
  next_fetch_lem : (k : ℕ) → cond (holds_fetches (instruction trace k).kind) (enters b k 3 + entry (instruction trace k) EX + 1) (enters b k 2) ≡ max (max 1 (enters b k 2)) (holders trace (suc k))
  unfolding holders last_done behaviour done
  next_fetch_lem k = by (value (holds_fetches (instruction trace k).kind))
    where
      by : Value (holds_fetches (instruction trace k).kind) → cond (holds_fetches (instruction trace k).kind) (enters b k 3 + entry (instruction trace k) EX + 1) (enters b k 2) ≡ max (max 1 (enters b k 2)) (holders trace (suc k))
      by (passed e) = rw e (omega (arith, at_EX trace k))
      by (failed e) = rw e (omega (arith, at_IF trace k, at_ID trace k))

  last_load : (k : ℕ) → cond (is_load (instruction trace k).kind) (enters b k 5) (loads trace k) ≡ loads trace (suc k)
  unfolding loads last_done
  last_load k = by (value (is_load (instruction trace k).kind))
    where
      by : Value (is_load (instruction trace k).kind) →
          cond (is_load (instruction trace k).kind) (enters b k 5) (loads trace k) ≡ cond (is_load (instruction trace k).kind) (done b k 4) (loads trace k)
      by (passed e) = rw e (load_enters_WB trace k e)
      by (failed e) = rw e

  slide_seen : (k : ℕ) → slide (seen k) (instruction trace k) (scheduled_times b k) ≡ seen (suc k)
  unfolding slide seen scheduled_times previous holders loads stores last_done target_before done behaviour
  slide_seen k = rw (next_fetch_lem k, last_load k, at_post trace k)

  pub window_seen : (k : ℕ) → window_before trace k ≡ seen k
  unfolding window_before no_window seen previous holders loads stores last_done target_before
  window_seen zero = refl
  window_seen (suc k) = rw (window_seen k, times_seen k) (slide_seen k)

  -- the pass: it starts with nothing seen and slides past each instruction
  pub window_starts : window_before trace 0 ≡ no_window
  unfolding window_before
  window_starts = refl

  pub window_slides : (k : ℕ) → window_before trace (suc k) ≡ slide (window_before trace k) (instruction trace k) (times_at trace k)
  unfolding window_before times_at
  window_slides k = refl

  -- the times from the window before instruction k are the schedule's
  pub window_times : (k : ℕ) → times_at trace k ≡ scheduled_times b k
  unfolding times_at
  window_times k = rw (window_seen k) (times_seen k)

  -- the window holds the time by which all so far have left, so the last window holds the finishing time
  pub window_leaves : (k : ℕ) → all_left_by (window_before trace k) ≡ last_leaves b k
  unfolding all_left_by seen
  window_leaves k = ap all_left_by (window_seen k) ∙ last_leaves_lem trace k

  pub window_finish : all_left_by (window_before trace (length trace)) ≡ finish trace
  window_finish = window_leaves (length trace) ∙ sym (finish_is trace)
