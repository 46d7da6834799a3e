-- What a pass has skipped, one instruction after the other.
use Prim.Native.Nat.{ℕ, suc, ◌+◌, ◌≤◌, ◌<◌}
use mathlib.Core.Path.{◌≡◌, sym, subst}
use native.Mathlib.Omega.{arith}
use lib.ListN.{length}
use Rattle.std.specs.Prelude.{Option, None, Some, IfSome, IfNone}
use Rattle.machine.specs.Instruction.{Trace}
use Rattle.machine.specs.Time.{bound, max_time, finish}
use Rattle.machine.proofs.Bounds.{bound_take}
use Rattle.machine.proofs.Numbers.{Tri, less, equal, more, tri}
use Rattle.machine.proofs.Window.{Times, window_before, times_at, all_left_by}
use Rattle.machine.proofs.WindowBounds.{times_fit}
use Rattle.entering.specs.Inner.{window_of}
use Rattle.entering.specs.declared.stages.Window as Code
use Rattle.schedule.specs.Inner.{times_of}
use Rattle.schedule.specs.declared.sliding.Times as CodeTimes
use Rattle.schedule.proofs.Pass.{pass_ends}
use Rattle.passing.specs.Inner.{Stays, Ends, Skipped}
use Rattle.passing.specs.declared.pass.Reached.{Reached}

-- all from `from` on and before k have left by the limit
pub record Skips (trace : Trace) (limit from k : ℕ) : Type 0 where
  pub onward : from ≤ k
  pub left : (i : ℕ) → from ≤ i → i < k → (times_at trace i).post ≤ limit

module _ (trace : Trace) (limit from : ℕ) where
  pub skips_none : Skips trace limit from from
  skips_none = record { onward = omega arith; left = λ i h l. absurd (omega arith) }

  pub skips_one : (k : ℕ) → Skips trace limit from k → {e : Times} → e ≡ times_at trace k → e.post ≤ limit → Skips trace limit from (k + 1)
  skips_one k s e h =
      record { onward = omega (arith, s.onward); left = λ i f l. by i f l (tri i k) }
    where
      by : (i : ℕ) → from ≤ i → i < k + 1 → Tri i k → (times_at trace i).post ≤ limit
      by i f l (less m) = s.left i f m
      by i f l (equal m) = subst (λ (n : ℕ). (times_at trace n).post ≤ limit) (sym m) (subst (λ (t : Times). t.post ≤ limit) e h)
      by i f l (more m) = absurd (omega arith)

  module _ {k : ℕ} {window : Code.Window} (s : Skips trace limit from k) where
    -- the pass stops at an instruction that has not left
    pub skip_stays
        : {times : CodeTimes.Times} →
        k < length trace →
        times_of times ≡ times_at trace k →
        window_of window ≡ window_before trace (k + 1) →
        limit < times.post →
        Skipped trace limit from (record { k = k; times = Some times; window = window })
    skip_stays inside timed after late =
        record {
          onward = s.onward;
          inside = omega arith;
          left = s.left;
          stays = record { inside = inside; late = subst (λ (t : Times). limit < t.post) timed late; timed = timed; after = after };
          ends = tt;
        }

    -- or after the last
    pub skip_ends
        : {n : ℕ} → k ≡ n → n ≡ length trace → window_of window ≡ window_before trace k → Skipped trace limit from (record { k = n; times = None; window = window })
    skip_ends e end at =
        record {
          onward = omega (arith, s.onward);
          inside = omega arith;
          left = λ i f l. s.left i f (omega arith);
          stays = tt;
          ends = record { end = end; after = subst (λ (m : ℕ). window_of window ≡ window_before trace m) e at };
        }

-- all have left by a limit that no time exceeds
pub skips_all : (trace : Trace) (limit from : ℕ) {r : Reached} → bound trace ≤ max_time → max_time ≤ limit → Skipped trace limit from r → all_left_by (window_of r.window) ≡ finish trace
skips_all trace limit from {r} small never s = by r.times s.stays s.ends
  where
    by : (times : Option CodeTimes.Times) → IfSome times (λ t. Stays trace limit r.k t r.window) → IfNone times (Ends trace r.k r.window) → all_left_by (window_of r.window) ≡ finish trace
    by None stays ends = pass_ends trace r.k ends.after ends.end
    by (Some t) stays ends = absurd (omega (arith, stays.late, (times_fit trace r.k stays.inside).post, bound_take trace (suc r.k)))
