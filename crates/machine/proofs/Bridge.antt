-- The bridge: after any number of cycles of the rules every instruction of a trace stands where the schedule says. Induction on the cycles; one
-- cycle takes the schedule's places at t to those at t + 1, since what moves is what enters its next level by then.
use Prim.Native.Nat.{ℕ, zero, suc, ◌+◌, ◌-◌, ◌≤◌, ◌<◌}
use mathlib.Core.Bool.{true, false}
use mathlib.Core.Path.{◌≡◌, refl, sym, ap, ◌∙◌}
use native.Mathlib.Omega.{arith}
use lib.ListN.{length}
use Rattle.machine.specs.Instruction.{Trace, instruction}
use Rattle.machine.specs.Rules.{Stage, Place, Places, entry, budget, moves_within, moves, cycle, all_pre, after}
use Rattle.machine.proofs.Numbers.{Tri, less, equal, more, tri, Last, below, at, last}
use Rattle.machine.proofs.Connectives.{Value, passed, failed, value, clash}
use Rattle.machine.proofs.Schedule.{Behaviour, enters, done, starts, own}
use Rattle.machine.proofs.Levels.{rank_stage}
use Rattle.machine.proofs.Standing.{Stands, stands, level_at, standing, scheduled, scheduled_at}
use Rattle.machine.proofs.Derivation.{behaviour}
use Rattle.machine.proofs.Moves.{double, double_is, stage_of_lem, count_of, next_of, moves_enters, enters_moves}

pub place_is : {a c : Stage} {m n : ℕ} → a ≡ c → m ≡ n → ◌≡◌ {A = Place} (record { stage = a; count = m }) (record { stage = c; count = n })
place_is p q = λ i. record { stage = p i; count = q i }

module _ (trace : Trace) where
  abbrev b : Behaviour
  b = behaviour trace

  module _ (t : ℕ) (places : Places) (described : (j : ℕ) → j < length trace → places j ≡ scheduled b t j) where
    moves_at_lem : {i s : ℕ} (d : ℕ) → i < length trace → Stands b t i s → s + d ≡ 6 → moves trace places i ≡ moves_within (double d) trace places i
    unfolding moves budget
    moves_at_lem {i} {s} d l st e =
        ap (λ (k : ℕ). moves_within k trace places i)
        (ap budget (stage_of_lem trace t places described l st)
        ∙ (let r = rank_stage (b.lane i) s st.level in let q = double_is d in omega arith))

    -- an instruction that does not move stays at its level, and its count falls
    stay : {i s : ℕ} → i < length trace → Stands b t i s → Stands b (suc t) i s → moves trace places i ≡ false → cycle trace places i ≡ scheduled b (suc t) i
    unfolding cycle standing
    stay {i} {s} l st st' e =
        rw e
        (place_is (stage_of_lem trace t places described l st)
        (let c = count_of trace t places described l st in let h = st.entered in omega arith)
        ∙ sym (scheduled_at st'))

    -- one that moves enters the next level, with its entry count there
    go : {i s : ℕ} → i < length trace → s < 6 → Stands b t i s →
        enters b i (suc s) ≤ suc t →
        moves trace places i ≡ true →
        cycle trace places i ≡ scheduled b (suc t) i
    unfolding cycle standing behaviour done
    go {i} {s} l m st en e =
        let q = st.stays m in
        let o = own b i (suc s) in
        rw e
        (place_is (next_of trace t places described l m st)
        (ap (entry (instruction trace i)) (next_of trace t places described l m st)
        ∙ omega arith)
        ∙ sym (scheduled_at {s = suc s} (record { level = omega arith; entered = en; stays = λ k. omega arith })))

    -- how many levels lie between a level and post
    left : (s : ℕ) → s < 6 → (d : ℕ) × (s + suc d ≡ 6)
    left s m = (5 - s, omega arith)

    step_before_post : (i s : ℕ) → i < length trace → s < 6 → Stands b t i s → cycle trace places i ≡ scheduled b (suc t) i
    step_before_post i s l m st = pick (left s m) (value (moves trace places i))
      where
        pick : (d : ℕ) × (s + suc d ≡ 6) → Value (moves trace places i) → cycle trace places i ≡ scheduled b (suc t) i
        pick d (passed e) =
            go l m st (moves_enters trace t places described (suc d.0) i s l st d.1 (sym (moves_at_lem (suc d.0) l st d.1) ∙ e)) e
        pick d (failed e) = stay l st (record { level = st.level; entered = let h = st.entered in omega arith; stays = λ k. later (tri (enters b i (suc s)) (suc (suc t))) }) e
          where
            later : Tri (enters b i (suc s)) (suc (suc t)) → suc t < enters b i (suc s)
            later (less h) = clash (moves_at_lem (suc d.0) l st d.1 ∙ enters_moves trace t places described d.0 i s l st d.1 (omega arith)) e
            later (equal h) = omega arith
            later (more h) = omega arith

    step_at_post : (i s : ℕ) → i < length trace → s ≡ 6 → Stands b t i s → cycle trace places i ≡ scheduled b (suc t) i
    unfolding moves_within double
    step_at_post i s l e st =
        stay l st (record { level = st.level; entered = let h = st.entered in omega arith; stays = λ k. absurd (omega arith) }) (moves_at_lem 0 l st (omega arith))

    pub cycle_scheduled : (i : ℕ) → i < length trace → cycle trace places i ≡ scheduled b (suc t) i
    cycle_scheduled i l = pick (last (level_at (enters b i) t) 6 (let h = (stands b t i).level in omega arith))
      where
        pick : Last (level_at (enters b i) t) 6 → cycle trace places i ≡ scheduled b (suc t) i
        pick (below m) = step_before_post i _ l m (stands b t i)
        pick (at e) = step_at_post i _ l e (stands b t i)

pub bridge : (trace : Trace) (t i : ℕ) → i < length trace → after trace t i ≡ scheduled (behaviour trace) t i
unfolding after all_pre standing done
bridge trace zero i l =
    let s = starts (behaviour trace) i in
    let o = own (behaviour trace) i 0 in
    let c = (behaviour trace).count_in_pre i in
    place_is refl (omega arith) ∙ sym (scheduled_at {s = 0} (record { level = omega arith; entered = omega arith; stays = λ k. omega arith }))
bridge trace (suc t) i l = cycle_scheduled trace t (after trace t) (bridge trace t) i l
