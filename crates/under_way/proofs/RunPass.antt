-- Run's pass over a trace: it begins with the starting state; instructions that have left by the limit change no number, one that is fetched by then
-- may be seated, and at one that is not the pass may stop.
use Prim.Native.Nat.{ℕ, zero, suc, ◌+◌, ◌-◌, ◌≤◌, ◌<◌}
use mathlib.Core.Path.{◌≡◌, sym, ap, subst, ◌∙◌}
use native.Mathlib.Numerals.{add-one}
use native.Mathlib.Omega.{arith}
use borrow.Author.Tests.{lt-ltb}
use lib.ListN.{length}
use Rattle.machine.specs.Instruction.{Instruction, Trace, instruction}
use Rattle.machine.specs.Rules.{Place, pre, after}
use Rattle.machine.proofs.Window.{Times, slide, window_before, times_from, enter_ID, enter_EX, enter_MEM, enter_last, enter_post, times_at, place_at, all_left_by}
use Rattle.machine.proofs.WindowPlaces.{window_place}
use Rattle.machine.proofs.WindowTimes.{window_slides}
use Rattle.entering.specs.Inner.{window_of}
use Rattle.std.specs.Prelude.{Option, None, Some, IfSome, IfNone}
use Rattle.entering.specs.declared.stages.Window as Code
use Rattle.schedule.specs.Inner.{times_of}
use Rattle.schedule.specs.declared.sliding.Times as CodeTimes
use Rattle.schedule.proofs.Pass.{pass_ends}
use Rattle.passing.specs.Inner.{Stays, Ends, Skipped}
use Rattle.passing.specs.declared.pass.Reached.{Reached}
use Rattle.seats.specs.Inner.{state_with, with_fetched, Seated}
use Rattle.machine.specs.State.{start}
use Rattle.machine.specs.declared.State.{State}
use Rattle.seats.proofs.Seating.{Rising, seat_post}
use Rattle.under_way.specs.Inner.{Passed, Stopped}
use Rattle.under_way.proofs.RunState.{state_starts, state_grows}

-- an instruction has left when all so far have
left_by_all : (trace : Trace) (k : ℕ) → (times_at trace k).post ≤ all_left_by (window_before trace (k + 1))
unfolding slide all_left_by
left_by_all trace k = rw (add-one k, window_slides trace k) (omega arith)

pub begins : (trace : Trace) (limit : ℕ) {seats : State} → seats ≡ start → Passed trace limit 0 seats
begins trace limit e = rw e (record { state = sym (state_starts (after trace limit)) })

-- none of an instruction's times is later than that of leaving
rises : (trace : Trace) (k : ℕ) → Rising (times_at trace k)
unfolding times_at times_from enter_ID enter_EX enter_MEM enter_last enter_post
rises trace k = record { IF = omega arith; ID = omega arith; EX = omega arith; MEM = omega arith; last = omega arith }

module _ (trace : Trace) (limit : ℕ) where
  -- one more instruction, placed in the numbers
  grows : {seats seated : State} (k : ℕ) →
      k < length trace →
      Passed trace limit k seats →
      Seated seated (k + 1) (state_with (place_at (instruction trace k) (times_at trace k) limit) k (with_fetched k seats)) →
      Passed trace limit (k + 1) seated
  grows k inside here grown =
      record { state = grown.state ∙ rw (← window_place trace limit k inside, here.state) (sym (state_grows (after trace limit) k)) }

  -- one that has left changes no number
  passes_left : {seats : State} (k : ℕ) → k < length trace → (times_at trace k).post ≤ limit → Passed trace limit k seats → Passed trace limit (k + 1) seats
  passes_left {seats} k inside left here =
      grows k inside here
      (seat_post k seats (instruction trace k) (times_at trace k) limit (rises trace k) (omega (arith, (rises trace k).IF)) left)

  -- nor do several
  over : {seats : State} (from d : ℕ) →
      d + from ≤ length trace →
      ((i : ℕ) → from ≤ i → i < d + from → (times_at trace i).post ≤ limit) →
      Passed trace limit from seats →
      Passed trace limit (d + from) seats
  over {seats} from zero l left here = subst (λ (n : ℕ). Passed trace limit n seats) (omega arith) here
  over {seats} from (suc d) l left here =
      subst (λ (n : ℕ). Passed trace limit n seats) (omega arith)
      (passes_left (d + from) (omega arith) (left (d + from) (omega arith) (omega arith)) (over from d (omega arith) (λ i f m. left i f (omega arith)) here))

  module _ {from : ℕ} {r : Reached} (s : Skipped trace limit from r) where
    pub skips : {seats : State} → Passed trace limit from seats → Skipped trace limit r.k r × Passed trace limit r.k seats
    skips {seats} here =
        let h = s.onward in (
          record { onward = omega arith; inside = s.inside; left = λ i f m. absurd (omega arith); stays = s.stays; ends = s.ends },
          subst (λ (n : ℕ). Passed trace limit n seats) (omega arith)
              (over from (r.k - from) (omega (arith, s.inside)) (λ i f m. s.left i f (omega arith)) here),
        )

    -- what its times tell, and that there are none
    pub stays : {t : CodeTimes.Times} → r.times ≡ Some t → Stays trace limit r.k t r.window
    stays e = subst (λ (o : Option CodeTimes.Times). IfSome o (λ t. Stays trace limit r.k t r.window)) e s.stays

    pub ends : r.times ≡ None → Ends trace r.k r.window
    ends e = subst (λ (o : Option CodeTimes.Times). IfNone o (Ends trace r.k r.window)) e s.ends

  module _ {k : ℕ} {seats : State} {window : Code.Window} (here : Passed trace limit k seats) where
    module _ {times : CodeTimes.Times} (s : Stays trace limit k times window) where
      waits : limit < times.IF → (after trace limit k).stage ≡ pre
      unfolding place_at
      waits unfetched =
          ap (λ (p : Place). p.stage) (window_place trace limit k s.inside)
          ∙ rw (lt-ltb limit (times_at trace k).IF (subst (λ (e : Times). limit < e.IF) s.timed unfetched))

      later : limit < all_left_by (window_of window)
      later = omega (arith, s.late, ap all_left_by s.after, left_by_all trace k)

      -- the instruction that is reached is seated
      pub passes
          : {i : Instruction} {seated : State} →
          i ≡ instruction trace k →
          Seated seated (k + 1) (state_with (place_at i (times_of times) limit) k (with_fetched k seats)) →
          Passed trace limit (k + 1) seated
      passes this grown = grows k s.inside here (rw (← this, ← s.timed) grown)

      -- or is not fetched by the limit, and the pass stops
      pub stops
          : {finish : ℕ} →
          limit < times.IF →
          finish ≡ all_left_by (window_of window) →
          Stopped trace limit (record { count = k; finish = finish }) seats
      stops unfetched e =
          record {
            passed = here;
            inside = omega (arith, s.inside);
            all = λ end. absurd (omega (arith, s.inside));
            waits = λ _. (waits unfetched, subst (λ (n : ℕ). limit < n) (sym e) later);
          }

    -- or there is none, and the pass stops
    pub stops_after
        : {finish : ℕ} →
        Ends trace k window →
        finish ≡ all_left_by (window_of window) →
        Stopped trace limit (record { count = k; finish = finish }) seats
    stops_after s e =
        record {
          passed = here;
          inside = omega (arith, s.end);
          all = λ end. e ∙ pass_ends trace k s.after end;
          waits = λ l. absurd (omega (arith, s.end));
        }
