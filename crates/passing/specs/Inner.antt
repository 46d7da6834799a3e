-- Where a pass stops, for the pass's own functions; no public contract cites it.
use Rattle.std.specs.Prelude.{ℕ, ◌+◌, ◌≤◌, ◌<◌, ◌≡◌, length, IfSome, IfNone}
use Rattle.machine.specs.Instruction.{Trace}
use Rattle.machine.proofs.Window.{window_before, times_at}
use Rattle.entering.specs.Inner.{window_of}
use Rattle.schedule.specs.Inner.{times_of}
use Rattle.entering.specs.declared.stages.Window as Code
use Rattle.schedule.specs.declared.sliding.Times as CodeTimes
use Rattle.passing.specs.declared.pass.Reached.{Reached}

-- instruction k has not left by the limit, and these are its times and the window after it
pub record Stays (trace : Trace) (limit k : ℕ) (times : CodeTimes.Times) (window : Code.Window) : Type 0 where
  pub inside : k < length trace
  pub late : limit < (times_at trace k).post
  pub timed : times_of times ≡ times_at trace k
  pub after : window_of window ≡ window_before trace (k + 1)

-- there is no instruction k, and the window is the one after all
pub record Ends (trace : Trace) (k : ℕ) (window : Code.Window) : Type 0 where
  pub end : k ≡ length trace
  pub after : window_of window ≡ window_before trace k

-- all from `from` on and before the one reached have left by the limit; that one has not, or there is none and the window is the one after all
pub record Skipped (trace : Trace) (limit from : ℕ) (r : Reached) : Type 0 where
  pub onward : from ≤ r.k
  pub inside : r.k ≤ length trace
  pub left : (i : ℕ) → from ≤ i → i < r.k → (times_at trace i).post ≤ limit
  pub stays : IfSome r.times (λ times. Stays trace limit r.k times r.window)
  pub ends : IfNone r.times (Ends trace r.k r.window)
