-- A store's wait in EX for its second source never decides: in an orderly state an older load short of (MEM, 0) is in MEM, and stays there.
use Prim.Native.Nat.{ℕ, ◌<◌}
use native.Mathlib.Omega.{arith}
use mathlib.Core.Bool.{Bool, true, false, not}
use mathlib.Core.Path.{◌≡◌, refl, sym, ap, ◌∙◌}
use borrow.Author.Tests.{ltb-true, ne_eqb}
use lib.Dec.{eqb}
use lib.ListN.{length}
use Rattle.machine.specs.Test.{◌and◌, ◌or◌}
use Rattle.machine.specs.Instruction.{Trace, instruction}
use Rattle.machine.specs.Rules.{Stage, pre, IF, ID, EX, MEM, ST, WB, post, next, same, Place, further, short_of, is_load, no_older, reads_in_EX, access_ready, value_ready, ready_in, ready, moves, will_be_free}
use Rattle.machine.specs.State.{place_of, Orderly}
use Rattle.machine.specs.Claims.{ValueNeverDecides}
use Rattle.machine.specs.declared.State.{State}
use Rattle.machine.proofs.Connectives.{clash, Value, passed, failed, value, and_l, and_r, and_failed_l, and_failed_r, and_true, or_failed, every_fails, none_below}
use Rattle.machine.proofs.Stages.{stage_same}
use Rattle.machine.proofs.Doing.{next_in, next_in_lem}
use Rattle.machine.proofs.Budget.{budget_never_decides}
use Rattle.machine.proofs.Spots.{Spot, waiting, held, left, held_filled, held_index, spot, slot_fetched, further_older, place_held, held_at}

-- what is ready beside the value says who moves, if MEM is not free where the value is not ready
without_value : (counted access : Bool) {value free : Bool} → Value value → (value ≡ false → free ≡ false) →
    counted and (access and value) and free ≡ counted and access and free
without_value counted access (passed e) h = rw (e, and_true access)
without_value counted access (failed e) h = and_failed_r _ _ (h e) ∙ sym (and_failed_r _ _ (h e))

module _ (trace : Trace) (s : State) (o : Orderly trace s) (i : ℕ) (at_EX : (place_of s i).stage ≡ EX) where
  EX_filled : s.EX.filled ≡ true
  EX_filled = held_filled s i EX (held_at trace s o EX i refl at_EX)

  EX_holds : s.EX.index ≡ i
  EX_holds = held_index s i EX (held_at trace s o EX i refl at_EX)

  -- an older instruction short of (MEM, 0) is in MEM, with a count above 0
  record InMEM (j : ℕ) : Type 0 where
    filled : s.MEM.filled ≡ true
    index : s.MEM.index ≡ j
    counts : 0 < s.MEM.count

  in_MEM_lem : (j : ℕ) → j < i → {p : Place} → Spot s j p → short_of p MEM 0 ≡ true → InMEM j
  unfolding short_of further ◌and◌ ◌or◌
  in_MEM_lem j l (waiting h) e = absurd (omega (arith, slot_fetched trace s o EX EX_filled, EX_holds))
  in_MEM_lem j l (held pre h f d) e = clash f refl
  in_MEM_lem j l (held IF h f d) e = absurd (omega (arith, further_older trace s o IF EX f EX_filled (omega arith), EX_holds))
  in_MEM_lem j l (held ID h f d) e = absurd (omega (arith, further_older trace s o ID EX f EX_filled (omega arith), EX_holds))
  in_MEM_lem j l (held EX h f d) e = absurd (omega (arith, EX_holds))
  in_MEM_lem j l (held MEM h f d) e = record { filled = f; index = d; counts = ltb-true 0 s.MEM.count e }
  in_MEM_lem j l (held ST h f d) e = clash e refl
  in_MEM_lem j l (held WB h f d) e = clash e refl
  in_MEM_lem j l (held post h f d) e = clash f refl
  in_MEM_lem j l (left h none) e = clash e refl

  -- and does not move, so that MEM will not be free
  stays : (j : ℕ) → InMEM j → moves trace (place_of s) j ≡ false
  stays j m =
      (budget_never_decides trace (place_of s)).moving j
      ∙ and_failed_l _ _
      (and_failed_l _ _
      (and_failed_r _ _
      (ap (λ (p : Place). eqb p.count 0) (place_held trace s o MEM j m.filled m.index)
      ∙ ne_eqb s.MEM.count 0 (λ e. omega (arith, m.counts, e)))))

  busy : (j : ℕ) → InMEM j → will_be_free trace (place_of s) MEM ≡ false
  busy j m =
      (budget_never_decides trace (place_of s)).freeing MEM
      ∙ or_failed _ _ refl
      (every_fails _ (length trace) j (omega (arith, slot_fetched trace s o MEM m.filled, m.index, o.fetched))
      (or_failed _ _
      (ap not (stage_same _ MEM (ap (λ (p : Place). p.stage) (place_held trace s o MEM j m.filled m.index))))
      (stays j m)))

  -- the older instruction loads the value, and is not done
  abbrev loading : ℕ → Bool
  loading j = is_load (instruction trace j).kind and short_of (place_of s j) MEM 0 and reads_in_EX (instruction trace i) (instruction trace j).target

  none_loading : will_be_free trace (place_of s) MEM ≡ true → (j : ℕ) → j < i → Value (loading j) → loading j ≡ false
  none_loading f j l (failed e) = e
  none_loading f j l (passed e) = clash f (busy j (in_MEM_lem j l (spot s j) (and_r _ _ (and_l _ _ e))))

  kept_busy : Value (will_be_free trace (place_of s) MEM) → value_ready trace (place_of s) i ≡ false → will_be_free trace (place_of s) MEM ≡ false
  unfolding no_older
  kept_busy (failed f) e = f
  kept_busy (passed f) e = clash (none_below loading i (λ j l. none_loading f j l (value (loading j)))) e

  moving :
      moves trace (place_of s) i
      ≡ (eqb (place_of s i).count 0 and access_ready trace (place_of s) i and will_be_free trace (place_of s) MEM)
  unfolding ready ready_in next_in ◌and◌
  moving =
      (budget_never_decides trace (place_of s)).moving i
      ∙ ap
      (λ (k : Stage).
      not (same k post)
      and eqb (place_of s i).count 0
      and ready_in k trace (place_of s) i
      and will_be_free trace (place_of s) (next (instruction trace i).kind k))
      at_EX
      ∙ ap
      (λ (to : Stage). eqb (place_of s i).count 0 and ready_in EX trace (place_of s) i and will_be_free trace (place_of s) to)
      (next_in_lem (instruction trace i).kind EX)
      ∙ without_value (eqb (place_of s i).count 0) (access_ready trace (place_of s) i) (value (value_ready trace (place_of s) i)) (kept_busy (value _))

pub value_never_decides : ValueNeverDecides
value_never_decides trace s o i e = (kept_busy trace s o i e (value _), moving trace s o i e)
