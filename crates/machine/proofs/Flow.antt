-- What comes into a slot and what leaves it in one cycle: a slot that something comes into is empty or is being left, so the number of filled slots
-- before a stage changes by what enters IF less what enters the stage.
use Prim.Native.Nat.{ℕ, suc, ◌+◌, ◌-◌}
use native.Mathlib.Omega.{arith}
use mathlib.Core.Bool.{Bool, true, false, not, cond}
use mathlib.Core.Path.{◌≡◌, refl, sym, ap, subst, ◌∙◌}
use borrow.Author.Tests.{not-true}
use Rattle.machine.specs.Test.{◌and◌}
use Rattle.machine.specs.Instruction.{Kind, Trace, instruction}
use Rattle.machine.specs.Rules.{Stage, pre, IF, ID, EX, MEM, ST, WB, post, next, same, entry, budget}
use Rattle.machine.specs.State.{empty_slot, slot, younger}
use Rattle.machine.specs.declared.Slot.{Slot}
use Rattle.machine.specs.declared.State.{State}
use Rattle.machine.proofs.Connectives.{clash, Value, passed, failed, value, and_l, and_r, and_true, or_else, implies}
use Rattle.machine.proofs.Stages.{same_stage, inside, inside_not_post}
use Rattle.machine.proofs.Doing.{next_in, into}
use Rattle.machine.proofs.BySlots.{standing, goes, occupied, kinds_in, moves_in, moves_at, free_at, moves_at_lem, free_at_lem, leaves, stage_before, takes, arrives, slot_after, new_slot, step_by_slots}
use Rattle.machine.proofs.Moving.{standing_slot}

-- a slot after the cycle, by what happened to it
pub data After (trace : Trace) (s : State) (k : Stage) : Slot → Type 0 where
  came :
      arrives trace s k ≡ true →
      After trace s k
      (record {
        filled = true;
        index = (standing trace s (stage_before k)).index;
        count = entry (instruction trace (standing trace s (stage_before k)).index) k;
      })
  stayed :
      arrives trace s k ≡ false →
      (slot s k).filled ≡ true →
      leaves trace s k ≡ false →
      After trace s k (record { filled = true; index = (slot s k).index; count = (slot s k).count - 1 })
  vacant : arrives trace s k ≡ false → (slot s k).filled and not (leaves trace s k) ≡ false → After trace s k empty_slot

pub takes_next : (kinds : Stage → Kind) (k : Stage) → takes kinds k ≡ true → next (kinds (stage_before k)) (stage_before k) ≡ k
takes_next kinds k = same_stage (next (kinds (stage_before k)) (stage_before k)) k

-- into IF to MEM goes whatever leaves the stage before
module _ (kinds : Stage → Kind) where
  pub takes_IF : takes kinds IF ≡ true
  unfolding stage_before next_in
  takes_IF = into (kinds pre) pre IF refl

  pub takes_ID : takes kinds ID ≡ true
  unfolding stage_before next_in
  takes_ID = into (kinds IF) IF ID refl

  pub takes_EX : takes kinds EX ≡ true
  unfolding stage_before next_in
  takes_EX = into (kinds ID) ID EX refl

  pub takes_MEM : takes kinds MEM ≡ true
  unfolding stage_before next_in
  takes_MEM = into (kinds EX) EX MEM refl

module _ (trace : Trace) (s : State) where
  pub after_cycle : (k : Stage) → After trace s k (new_slot trace s k)
  unfolding new_slot slot_after
  after_cycle k = by (value (arrives trace s k)) (value ((slot s k).filled and not (leaves trace s k)))
    where
      by : Value (arrives trace s k) → Value ((slot s k).filled and not (leaves trace s k)) → After trace s k (new_slot trace s k)
      by (passed a) v = rw a (came a)
      by (failed a) (passed e) = rw (a, e) (stayed a (and_l _ _ e) (not-true _ (and_r _ _ e)))
      by (failed a) (failed e) = rw (a, e) (vacant a e)

  pub leaves_post : leaves trace s post ≡ false
  unfolding leaves moves_at moves_in budget
  leaves_post = refl

  free : Stage → Bool
  free k = free_at (goes trace s) (occupied trace s) (kinds_in trace s) k

  leaves_both : (k : Stage) → leaves trace s k ≡ true → goes trace s k and free (next (kinds_in trace s k) k) ≡ true
  unfolding leaves free
  leaves_both k e = by (value (same k post))
    where
      by : Value (same k post) → goes trace s k and free (next (kinds_in trace s k) k) ≡ true
      by (passed p) = clash e (ap (leaves trace s) (same_stage k post p) ∙ leaves_post)
      by (failed p) = sym (moves_at_lem (goes trace s) (occupied trace s) (kinds_in trace s) k p) ∙ e

  pub leaves_filled : (k : Stage) → leaves trace s k ≡ true → (standing trace s k).filled ≡ true
  unfolding goes
  leaves_filled k e = and_l _ _ (and_l _ _ (and_l _ _ (leaves_both k e)))

  -- a filled slot that something comes into is being left
  pub arrives_free : (k : Stage) → inside k ≡ true → arrives trace s k ≡ true → (slot s k).filled ≡ true → leaves trace s k ≡ true
  unfolding arrives leaves occupied free
  arrives_free k w a f =
      let e = and_r _ _ (leaves_both (stage_before k) (and_l _ _ a)) in
      let into = subst (λ (k : Stage). free k ≡ true) (takes_next (kinds_in trace s) k (and_r _ _ a)) e in
      implies _ _
      (or_else _ _ (sym (free_at_lem (goes trace s) (occupied trace s) (kinds_in trace s) k) ∙ into) (inside_not_post k w))
      (ap (λ (r : Slot). r.filled) (standing_slot trace s k w) ∙ f)

-- a test as a number
abbrev pub bit : Bool → ℕ
bit b = cond b 1 0

-- one slot: what was in it and what comes equal what is in it afterwards and what left
balance :
    (arriving gone full : Bool) (index count i c : ℕ) →
    (arriving ≡ true → full ≡ true → gone ≡ true) →
    (gone ≡ true → full ≡ true) →
    bit (slot_after arriving index count gone (record { filled = full; index = i; count = c })).filled + bit gone ≡ bit full + bit arriving
unfolding slot_after ◌and◌
balance true true true index count i c free had = refl
balance true true false index count i c free had = clash (had refl) refl
balance true false true index count i c free had = clash (free refl refl) refl
balance true false false index count i c free had = refl
balance false true true index count i c free had = refl
balance false true false index count i c free had = clash (had refl) refl
balance false false true index count i c free had = refl
balance false false false index count i c free had = refl

module _ (trace : Trace) (s : State) where
  slot_balance :
      (k : Stage) →
      inside k ≡ true →
      bit (new_slot trace s k).filled + bit (leaves trace s k) ≡ bit (slot s k).filled + bit (arrives trace s k)
  unfolding new_slot
  slot_balance k w =
      balance (arrives trace s k) (leaves trace s k) (slot s k).filled _ _ (slot s k).index (slot s k).count
      (arrives_free trace s k w)
      (λ e. ap (λ (r : Slot). r.filled) (sym (standing_slot trace s k w)) ∙ leaves_filled trace s k e)

  pub fetched_after : (step_by_slots trace s).fetched ≡ s.fetched + bit (leaves trace s pre)
  unfolding step_by_slots
  fetched_after = by (leaves trace s pre)
    where
      by : (b : Bool) → cond b (suc s.fetched) s.fetched ≡ s.fetched + bit b
      by true = omega arith
      by false = omega arith

  -- the same for a slot into which goes whatever leaves the stage before
  passes :
      (k : Stage) →
      inside k ≡ true →
      takes (kinds_in trace s) k ≡ true →
      bit (new_slot trace s k).filled + bit (leaves trace s k) ≡ bit (slot s k).filled + bit (leaves trace s (stage_before k))
  unfolding arrives
  passes k w t =
      slot_balance k w
      ∙ ap (λ (b : Bool). bit (slot s k).filled + bit b) (ap (λ (b : Bool). leaves trace s (stage_before k) and b) t ∙ and_true _)

  -- the number of filled slots before a stage, before and after the cycle
  pub younger_after :
      (k : Stage) →
      inside k ≡ true →
      younger (step_by_slots trace s) k + bit (leaves trace s (stage_before k)) ≡ younger s k + bit (leaves trace s pre)
  unfolding step_by_slots younger stage_before
  younger_after pre w = clash w refl
  younger_after IF w = refl
  younger_after ID w = passes IF refl (takes_IF (kinds_in trace s))
  younger_after EX w = omega (arith, passes IF refl (takes_IF (kinds_in trace s)), passes ID refl (takes_ID (kinds_in trace s)))
  younger_after MEM w = omega (arith, passes IF refl (takes_IF (kinds_in trace s)), passes ID refl (takes_ID (kinds_in trace s)), passes EX refl (takes_EX (kinds_in trace s)))
  younger_after ST w = omega (arith, passes IF refl (takes_IF (kinds_in trace s)), passes ID refl (takes_ID (kinds_in trace s)), passes EX refl (takes_EX (kinds_in trace s)), passes MEM refl (takes_MEM (kinds_in trace s)))
  younger_after WB w = omega (arith, passes IF refl (takes_IF (kinds_in trace s)), passes ID refl (takes_ID (kinds_in trace s)), passes EX refl (takes_EX (kinds_in trace s)), passes MEM refl (takes_MEM (kinds_in trace s)))
  younger_after post w = clash w refl
