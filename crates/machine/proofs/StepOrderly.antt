-- One cycle by slots keeps a state orderly: each slot afterwards holds what came or what stayed, and both are in turn, since the number of filled
-- slots before it and the fetched count have changed by the same amount.
use Prim.Native.Nat.{ℕ, ◌+◌, ◌≤◌, ◌<◌}
use native.Mathlib.Omega.{arith}
use mathlib.Core.Bool.{Bool, true, false, not}
use mathlib.Core.Path.{◌≡◌, refl, sym, ap, ◌∙◌}
use lib.ListN.{length}
use borrow.Author.Tests.{ltb-true, eq-eqb, not-true}
use Rattle.machine.specs.Test.{◌and◌}
use Rattle.machine.specs.Instruction.{Trace, instruction}
use Rattle.machine.specs.Rules.{Stage, pre, IF, ID, EX, MEM, ST, WB, post, entry, is_store}
use Rattle.machine.specs.State.{empty_slot, slot, younger, InTurn, Counted, Orderly}
use Rattle.machine.specs.declared.Slot.{Slot}
use Rattle.machine.specs.declared.State.{State}
use Rattle.machine.proofs.Connectives.{clash, Value, passed, failed, value, and_l, and_r, and_both, and_true, or_failed, and_failed_r, or_l}
use Rattle.machine.proofs.Stages.{eight, inside}
use Rattle.machine.proofs.Hazards.{waits_for, asks_for}
use Rattle.machine.proofs.Doing.{next_in, next_in_lem, into_ST, into_WB}
use Rattle.machine.proofs.BySlots.{standing, holds_back, held_back, goes, occupied, kinds_in, moves_at_lem, free_at_lem, free_at, leaves, stage_before, takes, arrives, step_by_slots}
use Rattle.machine.proofs.Flow.{After, came, stayed, vacant, after_cycle, leaves_filled, bit, fetched_after, younger_after, takes_IF, takes_ID, takes_EX, takes_MEM}

module _ (trace : Trace) (s : State) (o : Orderly trace s) where
  -- the instruction in the stage before k is the youngest that no slot before that stage holds
  source : (k : Stage) → inside k ≡ true → (standing trace s (stage_before k)).filled ≡ true → (standing trace s (stage_before k)).index + younger s k ≡ s.fetched
  unfolding standing stage_before younger
  source pre w f = clash w refl
  source IF w f = omega arith
  source ID w f = rw f (let e = o.in_IF.index f in omega arith)
  source EX w f = rw f (let e = o.in_ID.index f in omega arith)
  source MEM w f = rw f (let e = o.in_EX.index f in omega arith)
  source ST w f = rw f (let e = o.in_MEM.index f in omega arith)
  source WB w f = rw f (let e = o.in_MEM.index f in omega arith)
  source post w f = clash w refl

  came_turn :
      (k : Stage) →
      inside k ≡ true →
      arrives trace s k ≡ true →
      (standing trace s (stage_before k)).index + younger (step_by_slots trace s) k + 1 ≡ (step_by_slots trace s).fetched
  unfolding arrives
  came_turn k w a =
      let l = and_l _ _ a in
      let here = source k w (leaves_filled trace s (stage_before k) l) in
      let moved = younger_after trace s k w in
      let one = ap bit l in
      let all = fetched_after trace s in
      omega arith

  stayed_turn :
      (k : Stage) →
      inside k ≡ true →
      leaves trace s (stage_before k) ≡ false →
      (index : ℕ) →
      index + younger s k + 1 ≡ s.fetched →
      index + younger (step_by_slots trace s) k + 1 ≡ (step_by_slots trace s).fetched
  stayed_turn k w l index e =
      let moved = younger_after trace s k w in
      let none = ap bit l in
      let all = fetched_after trace s in
      omega arith

  turn_after :
      (k : Stage) →
      inside k ≡ true →
      (arrives trace s k ≡ false → (slot s k).filled ≡ true → leaves trace s k ≡ false → leaves trace s (stage_before k) ≡ false) →
      InTurn s k →
      {new : Slot} →
      After trace s k new →
      new.filled ≡ true →
      new.index + younger (step_by_slots trace s) k + 1 ≡ (step_by_slots trace s).fetched
  turn_after k w off t (came a) f = came_turn k w a
  turn_after k w off t (stayed a g l) f = stayed_turn k w (off a g l) (slot s k).index (t.index g)
  turn_after k w off t (vacant a e) f = clash f refl

  -- if nothing comes into a slot, the stage that leads to it is not left
  shut : (k : Stage) → takes (kinds_in trace s) k ≡ true → arrives trace s k ≡ false → leaves trace s (stage_before k) ≡ false
  unfolding arrives
  shut k t a = sym (and_true _) ∙ ap (λ (b : Bool). leaves trace s (stage_before k) and b) (sym t) ∙ a

  -- an instruction in WB always moves on
  free_WB : (k : Stage) (held : Slot) → holds_back trace WB s.WB.index k held ≡ false
  unfolding holds_back asks_for waits_for
  free_WB k held = and_failed_r _ _ (and_failed_r _ _ refl)

  leaves_WB : s.WB.filled ≡ true → leaves trace s WB ≡ true
  unfolding leaves goes occupied standing held_back entry kinds_in next_in
  leaves_WB f =
      moves_at_lem (goes trace s) (occupied trace s) (kinds_in trace s) WB refl
      ∙ and_both _ _
      (and_both _ _
      (and_both _ _ f (eq-eqb s.WB.count 0 (let c = (o.counted WB).within f in omega arith)))
      (ap not
      (or_failed _ _
      (or_failed _ _
      (or_failed _ _
      (or_failed _ _ (or_failed _ _ (free_WB IF _) (free_WB ID _)) (free_WB EX _))
      (free_WB MEM _))
      (free_WB ST _))
      (free_WB WB _))))
      (ap (free_at (goes trace s) (occupied trace s) (kinds_in trace s)) (next_in_lem (kinds_in trace s WB) WB)
      ∙ free_at_lem (goes trace s) (occupied trace s) (kinds_in trace s) post
      ∙ or_l _ _ refl)

  in_ST_lem : {new : Slot} → After trace s ST new → new.filled ≡ true → new.index + younger (step_by_slots trace s) ST < (step_by_slots trace s).fetched
  in_ST_lem (came a) f = let e = came_turn ST refl a in omega arith
  in_ST_lem (stayed a g l) f =
      let e = o.in_ST g in
      let moved = younger_after trace s ST refl in
      let all = fetched_after trace s in
      omega arith
  in_ST_lem (vacant a e) f = clash f refl

  a_store_lem : {new : Slot} → After trace s ST new → new.filled ≡ true → is_store (instruction trace new.index).kind ≡ true
  unfolding arrives kinds_in standing stage_before
  a_store_lem (came a) f = sym (into_ST (kinds_in trace s MEM)) ∙ and_r _ _ a
  a_store_lem (stayed a g l) f = o.a_store g
  a_store_lem (vacant a e) f = clash f refl

  no_store_lem : {new : Slot} → After trace s WB new → new.filled ≡ true → is_store (instruction trace new.index).kind ≡ false
  unfolding arrives kinds_in standing stage_before
  no_store_lem (came a) f = not-true _ (sym (into_WB (kinds_in trace s MEM)) ∙ and_r _ _ a)
  no_store_lem (stayed a g l) f = o.no_store g
  no_store_lem (vacant a e) f = clash f refl

  count_after : (k : Stage) {new : Slot} → After trace s k new → new.filled ≡ true → new.count ≤ entry (instruction trace new.index) k
  count_after k (came a) f = omega arith
  count_after k (stayed a g l) f = let c = (o.counted k).within g in omega arith
  count_after k (vacant a e) f = clash f refl

  empty_after : (k : Stage) {new : Slot} → After trace s k new → new.filled ≡ false → new ≡ empty_slot
  empty_after k (came a) f = clash refl f
  empty_after k (stayed a g l) f = clash refl f
  empty_after k (vacant a e) f = refl

  within_trace : (step_by_slots trace s).fetched ≤ length trace
  unfolding standing
  within_trace = by (value (leaves trace s pre))
    where
      by : Value (leaves trace s pre) → (step_by_slots trace s).fetched ≤ length trace
      by (passed l) =
          let all = fetched_after trace s in
          let one = ap bit l in
          let more = ltb-true s.fetched (length trace) (leaves_filled trace s pre l) in
          omega arith
      by (failed l) =
          let all = fetched_after trace s in
          let none = ap bit l in
          let h = o.fetched in
          omega arith

  pub step_keeps_orderly : Orderly trace (step_by_slots trace s)
  unfolding step_by_slots
  step_keeps_orderly =
      record {
        fetched = within_trace;
        in_IF = record { index = turn_after IF refl (λ a g l. shut IF (takes_IF (kinds_in trace s)) a) o.in_IF (after_cycle trace s IF) };
        in_ID = record { index = turn_after ID refl (λ a g l. shut ID (takes_ID (kinds_in trace s)) a) o.in_ID (after_cycle trace s ID) };
        in_EX = record { index = turn_after EX refl (λ a g l. shut EX (takes_EX (kinds_in trace s)) a) o.in_EX (after_cycle trace s EX) };
        in_MEM = record { index = turn_after MEM refl (λ a g l. shut MEM (takes_MEM (kinds_in trace s)) a) o.in_MEM (after_cycle trace s MEM) };
        in_WB = record { index = turn_after WB refl (λ a g l. clash (leaves_WB g) l) o.in_WB (after_cycle trace s WB) };
        no_store = no_store_lem (after_cycle trace s WB);
        in_ST = in_ST_lem (after_cycle trace s ST);
        a_store = a_store_lem (after_cycle trace s ST);
        counted =
            eight (Counted trace (step_by_slots trace s))
            (record { within = λ f. clash f refl; empty = λ f. refl })
            (record { within = count_after IF (after_cycle trace s IF); empty = empty_after IF (after_cycle trace s IF) })
            (record { within = count_after ID (after_cycle trace s ID); empty = empty_after ID (after_cycle trace s ID) })
            (record { within = count_after EX (after_cycle trace s EX); empty = empty_after EX (after_cycle trace s EX) })
            (record { within = count_after MEM (after_cycle trace s MEM); empty = empty_after MEM (after_cycle trace s MEM) })
            (record { within = count_after ST (after_cycle trace s ST); empty = empty_after ST (after_cycle trace s ST) })
            (record { within = count_after WB (after_cycle trace s WB); empty = empty_after WB (after_cycle trace s WB) })
            (record { within = λ f. clash f refl; empty = λ f. refl });
      }
