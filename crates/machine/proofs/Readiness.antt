-- The rules' readiness is the schedule's waiting: if the older instructions stand where the schedule says, an instruction at a level is ready
-- exactly when each of them has come as far as it waits for.
use Prim.Native.Nat.{ℕ, zero, suc, ◌+◌, ◌≤◌, ◌<◌}
use mathlib.Core.Bool.{Bool, true, false, cond}
use mathlib.Core.Path.{◌≡◌, refl, sym, ap, ap₂, ◌∙◌}
use native.Mathlib.Omega.{arith}
use lib.Dec.{ltb}
use borrow.Author.Tests.{ltb-false, le-ltb}
use Rattle.machine.specs.Test.{◌and◌, ◌or◌, none}
use Rattle.machine.specs.Instruction.{Instruction, Trace, instruction}
use Rattle.machine.specs.Rules.{Stage, pre, rank, same, Place, Places, short_of, ready_in}
use Rattle.machine.proofs.Connectives.{and_true, and_false, or_failed, or_failed_l, or_failed_r, none_at, none_below, none_same}
use Rattle.machine.proofs.Schedule.{Behaviour, enters, done}
use Rattle.machine.proofs.Levels.{stage_along}
use Rattle.machine.proofs.Standing.{scheduled, is_short, short_of_lem, in_pre_lem, never_short}
use Rattle.machine.proofs.Doing.{Does, holding, loading, storing, nothing, does}
use Rattle.machine.proofs.Hazards.{goal_of, goal, pending_to, pending, waits_for, queues, holds, ready_holds}
use Rattle.machine.proofs.Derivation.{goal_reach, waits, behaviour}

-- an instruction in pre also waits for older ones to leave pre
in_pre : ℕ → Bool → Bool
in_pre zero x = x
in_pre (suc s) x = false

first_fails : (s : ℕ) (x : Bool) → (s ≡ 0 → x ≡ false) → in_pre s x ≡ false
unfolding in_pre
first_fails zero x h = h refl
first_fails (suc s) x h = refl

fails_first : (s : ℕ) (x : Bool) → in_pre s x ≡ false → s ≡ 0 → x ≡ false
unfolding in_pre
fails_first zero x h z = h
fails_first (suc s) x h z = absurd (omega arith)

-- at a level, the rules' tests of an older instruction are the schedule's
queues_level : (lane : Bool) (s : ℕ) (p : Place) → queues (stage_along lane s) p ≡ in_pre s (same p.stage pre)
unfolding queues in_pre
queues_level lane zero p = refl
queues_level lane (suc zero) p = refl
queues_level lane (suc (suc zero)) p = refl
queues_level lane (suc (suc (suc zero))) p = refl
queues_level lane (suc (suc (suc (suc zero)))) p = refl
queues_level true (suc (suc (suc (suc (suc zero))))) p = refl
queues_level false (suc (suc (suc (suc (suc zero))))) p = refl
queues_level lane (suc (suc (suc (suc (suc (suc s)))))) p = refl

-- whichever the last stage is, nothing is waited for there
waits_level : (lane : Bool) (s : ℕ) (i j : Instruction) → waits_for (stage_along lane s) i j ≡ waits_for (stage_along false s) i j
unfolding waits_for
waits_level lane zero i j = refl
waits_level lane (suc zero) i j = refl
waits_level lane (suc (suc zero)) i j = refl
waits_level lane (suc (suc (suc zero))) i j = refl
waits_level lane (suc (suc (suc (suc zero)))) i j = refl
waits_level true (suc (suc (suc (suc (suc zero))))) i j = refl
waits_level false (suc (suc (suc (suc (suc zero))))) i j = refl
waits_level lane (suc (suc (suc (suc (suc (suc s)))))) i j = refl

-- a goal is a stage of the kind's own lane
goal_along : {h l s : Bool} → Does h l s → goal_of h l s ≡ stage_along s (rank (goal_of h l s))
goal_along holding = refl
goal_along loading = refl
goal_along storing = refl
goal_along nothing = refl

-- pending is short of the goal's level
module _ (late : ℕ → Bool) (never : late 0 ≡ false) where
  pending_short : {h l s : Bool} → Does h l s → (p : Place) → short_of p (goal_of h l s) 0 ≡ late (rank (goal_of h l s)) → pending_to (goal_of h l s) p ≡ late (rank (goal_of h l s))
  unfolding ◌and◌
  pending_short holding p e = e
  pending_short loading p e = e
  pending_short storing p e = e
  pending_short nothing p e = sym never

  guarded : (w x : Bool) (g : ℕ) → x ≡ late g → x and w ≡ late (cond w g 0)
  guarded true x g e = and_true x ∙ e
  guarded false x g e = and_false x ∙ sym never

module _ (trace : Trace) where
  abbrev b : Behaviour
  b = behaviour trace

  pending_late : (t j : ℕ) → pending (instruction trace j).kind (scheduled b t j) ≡ is_short b t j (rank (goal (instruction trace j).kind))
  unfolding pending goal behaviour
  pending_late t j =
      let d = does (instruction trace j).kind in
      pending_short (is_short b t j) (never_short b t j) d (scheduled b t j)
      (ap (λ (to : Stage). short_of (scheduled b t j) to 0) (goal_along d) ∙ short_of_lem b t j _ (let r = goal_reach d in omega arith))

  held_short : (lane : Bool) (t j s : ℕ) (i : Instruction) →
      queues (stage_along lane s) (scheduled b t j) or holds (stage_along lane s) i (instruction trace j) (scheduled b t j)
      ≡ in_pre s (ltb t (enters b j 1)) or is_short b t j (waits s i (instruction trace j))
  unfolding waits
  held_short lane t j s i =
      ap₂ ◌or◌
      (queues_level lane s (scheduled b t j) ∙ ap (in_pre s) (in_pre_lem b t j))
      (ap (λ (w : Bool). pending (instruction trace j).kind (scheduled b t j) and w) (waits_level lane s i (instruction trace j))
      ∙ guarded (is_short b t j) (never_short b t j) (waits_for (stage_along false s) i (instruction trace j)) _ _ (pending_late t j))

  -- j holds back instruction i at level s
  behind : ℕ → ℕ → ℕ → ℕ → Bool
  behind t i s j = in_pre s (ltb t (enters b j 1)) or is_short b t j (b.until i s j)

  module _ (t : ℕ) (places : Places) (i s : ℕ) (described : (j : ℕ) → j < i → places j ≡ scheduled b t j) where
    ready_schedule : ready_in (stage_along (b.lane i) s) trace places i ≡ none (behind t i s) i
    unfolding behind behaviour
    ready_schedule =
        ready_holds trace places i (stage_along (b.lane i) s)
        ∙ none_same _ _ i
        (λ j l.
        ap (λ (p : Place). queues (stage_along (b.lane i) s) p or holds (stage_along (b.lane i) s) (instruction trace i) (instruction trace j) p) (described j l)
        ∙ held_short (b.lane i) t j s (instruction trace i))

    not_behind : ready_in (stage_along (b.lane i) s) trace places i ≡ true → (j : ℕ) → j < i → behind t i s j ≡ false
    not_behind e = none_at (behind t i s) i (sym ready_schedule ∙ e)

    pub ready_waits : ready_in (stage_along (b.lane i) s) trace places i ≡ true → (j : ℕ) → j < i → done b j (b.until i s j) ≤ suc t
    unfolding behind is_short done
    ready_waits e j l =
        let p = ltb-false t (enters b j (b.until i s j) + b.count j (b.until i s j)) (or_failed_r _ _ (not_behind e j l)) in
        omega arith

    pub ready_leaves_pre : ready_in (stage_along (b.lane i) s) trace places i ≡ true → s ≡ 0 → (j : ℕ) → j < i → enters b j 1 ≤ t
    unfolding behind
    ready_leaves_pre e z j l = ltb-false t (enters b j 1) (fails_first s (ltb t (enters b j 1)) (or_failed_l _ _ (not_behind e j l)) z)

    pub waits_ready :
        ((j : ℕ) → j < i → done b j (b.until i s j) ≤ suc t) →
        ((j : ℕ) → j < i → s ≡ 0 → enters b j 1 ≤ t) →
        ready_in (stage_along (b.lane i) s) trace places i ≡ true
    unfolding behind is_short done
    waits_ready waited first = ready_schedule ∙ none_below (behind t i s) i clear
      where
        clear : (j : ℕ) → j < i → behind t i s j ≡ false
        clear j l =
            let c = waited j l in
            or_failed _ _
            (first_fails s (ltb t (enters b j 1)) (λ z. le-ltb t (enters b j 1) (first j l z)))
            (le-ltb t (enters b j (b.until i s j) + b.count j (b.until i s j)) (omega arith))
