-- In a state that the schedule describes at t, an instruction at level s moves exactly when it enters level s + 1 by t + 1. That time is a maximum
-- of three terms: its own count (count 0), what it waits for (ready), and who shares the next stage (will be free). Each direction is an induction
-- on the levels left to post.
use Prim.Native.Nat.{ℕ, zero, suc, ◌+◌, ◌-◌, ◌≤◌, ◌<◌}
use mathlib.Core.Bool.{Bool, true, not}
use mathlib.Core.Path.{◌≡◌, refl, sym, ap, subst, ◌∙◌}
use native.Mathlib.Omega.{arith}
use lib.ListN.{length}
use borrow.Author.Tests.{eqb-true, eq-eqb}
use Rattle.machine.specs.Test.{◌or◌}
use Rattle.machine.specs.Instruction.{Trace, instruction}
use Rattle.machine.specs.Rules.{Stage, post, next, same, Place, Places, ready_in, ready, moves_within, will_be_free_within}
use Rattle.machine.proofs.Numbers.{Tri, less, equal, more, tri}
use Rattle.machine.proofs.Connectives.{Value, passed, failed, value, clash, not_passes, and_both, and_l, and_r, or_l, or_r, or_else, every_at, every_below}
use Rattle.machine.proofs.Stages.{stage_same}
use Rattle.machine.proofs.Schedule.{Behaviour, shares, Together, early, late, together, shares_early, shares_sym, enters, done, own, share, wait, least}
use Rattle.machine.proofs.Levels.{stage_along, same_level, other_level, next_stage, shares_same, same_shares}
use Rattle.machine.proofs.Standing.{Stands, stands, level_at, standing, scheduled, scheduled_at, already, not_yet}
use Rattle.machine.proofs.Derivation.{behaviour}
use Rattle.machine.proofs.Readiness.{ready_waits, ready_leaves_pre, waits_ready}

-- the budget of `moves` at d levels from post
unfoldable pub double : ℕ → ℕ
double zero = 0
double (suc d) = suc (suc (double d))

pub double_is : (d : ℕ) → double d ≡ d + d
unfolding double
double_is zero = refl
double_is (suc d) = let h = double_is d in omega arith

module _ (trace : Trace) where
  abbrev b : Behaviour
  b = behaviour trace

  module _ (t : ℕ) (places : Places) (described : (j : ℕ) → j < length trace → places j ≡ scheduled b t j) where
    pub stage_of_lem : {i s : ℕ} → i < length trace → Stands b t i s → (places i).stage ≡ stage_along (b.lane i) s
    unfolding standing
    stage_of_lem {i} {s} l st = ap (λ (p : Place). p.stage) (described i l ∙ scheduled_at st)

    pub count_of : {i s : ℕ} → i < length trace → Stands b t i s → (places i).count ≡ b.count i s - (t - enters b i s)
    unfolding standing
    count_of {i} {s} l st = ap (λ (p : Place). p.count) (described i l ∙ scheduled_at st)

    pub next_of : {i s : ℕ} → i < length trace → s < 6 → Stands b t i s → next (instruction trace i).kind (places i).stage ≡ stage_along (b.lane i) (suc s)
    unfolding behaviour
    next_of {i} {s} l m st = ap (next (instruction trace i).kind) (stage_of_lem l st) ∙ next_stage (instruction trace i).kind s m

    -- what follows from moving
    left_behind : {i s : ℕ} → Stands b t i s → (j : ℕ) → j < i → s < 5 → (s ≡ 0 → enters b j 1 ≤ t) → enters b j (suc s) ≤ t
    left_behind {s = zero} st j l m first = first refl
    left_behind {i} {s = suc s} st j l m first =
        let p = share b i j s l (shares_early b i j (suc s) m) in
        let q = st.entered in
        omega arith

    -- a stage before post that will be free has no occupant that stays
    free_moves : (k s j : ℕ) (lane : Bool) → s < 6 → j < length trace →
        will_be_free_within (suc k) trace places (stage_along lane s) ≡ true →
        same (places j).stage (stage_along lane s) ≡ true →
        moves_within k trace places j ≡ true
    unfolding will_be_free_within
    free_moves k s j lane m l free e =
        let busy = other_level lane true s 6 (omega arith) (omega arith) (omega arith) in
        or_else _ _
        (every_at (λ j. not (same (places j).stage (stage_along lane s)) or moves_within k trace places j) (length trace) (or_else _ _ free busy) j l)
        (ap not e)

    share_enters : (k i s j : ℕ) → i < length trace → Stands b t i s → s < 6 →
        will_be_free_within (suc k) trace places (stage_along (b.lane i) (suc s)) ≡ true →
        (s ≡ 0 → enters b j 1 ≤ t) →
        (Stands b t j (suc s) → moves_within k trace places j ≡ true → enters b j (suc (suc s)) ≤ suc t) →
        j < i →
        shares b i j (suc s) ≡ true →
        enters b j (suc (suc s)) ≤ suc t
    share_enters k i s j l st m free first ih older e = pick (tri (level_at (enters b j) t) (suc s))
      where
        low : Together b i j (suc s) → s < 5
        low (early k) = omega arith
        low (late k f) = omega arith

        at_it : Stands b t j (suc s) → enters b j (suc (suc s)) ≤ suc t
        at_it sj =
            let h = low (together b i j (suc s) e) in
            ih sj (free_moves k (suc s) j (b.lane i) (omega arith) (omega arith) free
            (rw (stage_of_lem (omega arith) sj) (shares_same b i j (suc s) e)))

        pick : Tri (level_at (enters b j) t) (suc s) → enters b j (suc (suc s)) ≤ suc t
        pick (less k) =
            let h = low (together b i j (suc s) e) in
            let p = left_behind st j older h first in
            let q = not_yet (stands b t j) (suc s) k (omega arith) in
            omega arith
        pick (equal f) = at_it (subst (Stands b t j) f (stands b t j))
        pick (more k) = let p = already (stands b t j) (suc (suc s)) k in omega arith

    pub moves_enters : (d i s : ℕ) → i < length trace → Stands b t i s → s + d ≡ 6 →
        moves_within (double d) trace places i ≡ true →
        enters b i (suc s) ≤ suc t
    unfolding moves_within double ready done
    moves_enters zero i s l st e m = clash m refl
    moves_enters (suc d) i s l st e m =
        let still = eqb-true (places i).count 0 (and_l _ _ (and_l _ _ m)) in
        let go : ready_in (stage_along (b.lane i) s) trace places i ≡ true =
        subst (λ (x : Stage). ready_in x trace places i ≡ true) (stage_of_lem l st) (and_r _ _ (and_l _ _ m)) in
        let free : will_be_free_within (suc (double d)) trace places (stage_along (b.lane i) (suc s)) ≡ true =
        subst (λ (x : Stage). will_be_free_within (suc (double d)) trace places x ≡ true) (next_of l (omega arith) st) (and_r _ _ m) in
        least b i s (suc t)
        (let c = count_of l st in let h = st.entered in omega arith)
        (λ j older share. share_enters (double d) i s j l st (omega arith) free
        (λ z. ready_leaves_pre trace t places i s (λ j k. described j (omega arith)) go z j older)
        (λ sj mj. moves_enters d j (suc s) (omega arith) sj (omega arith) mj) older share)
        (ready_waits trace t places i s (λ j k. described j (omega arith)) go)

    -- what moving needs
    can_move : (k i s : ℕ) → i < length trace → Stands b t i s → s < 6 →
        enters b i (suc s) ≤ suc t →
        will_be_free_within k trace places (stage_along (b.lane i) (suc s)) ≡ true →
        moves_within (suc k) trace places i ≡ true
    unfolding moves_within ready done
    can_move k i s l st m en free =
        and_both _ _
        (and_both _ _
        (eq-eqb (places i).count 0 (let c = count_of l st in let o = own b i s in omega arith))
        (subst (λ (x : Stage). ready_in x trace places i ≡ true) (sym (stage_of_lem l st))
        (waits_ready trace t places i s (λ j k. described j (omega arith))
        (λ j older. let w = wait b i j s older in omega arith)
        (λ j older z. first j older z))))
        (subst (λ (x : Stage). will_be_free_within k trace places x ≡ true) (sym (next_of l m st)) free)
      where
        first : (j : ℕ) → j < i → s ≡ 0 → enters b j 1 ≤ t
        first j older z =
            let p = share b i j 0 older (shares_early b i j 1 (omega arith)) in
            let q = own b j 1 in
            let r : enters b i 1 ≤ suc t = subst (λ (x : ℕ). enters b i (suc x) ≤ suc t) z en in
            omega arith

    will_be_free_lem : (k i s : ℕ) → i < length trace → Stands b t i s → s < 5 →
        enters b i (suc s) ≤ suc t →
        ((j : ℕ) → j < length trace → Stands b t j (suc s) → enters b j (suc (suc s)) ≤ suc t → moves_within k trace places j ≡ true) →
        will_be_free_within (suc k) trace places (stage_along (b.lane i) (suc s)) ≡ true
    unfolding will_be_free_within done
    will_be_free_lem k i s l st m en ih =
        or_r _ _ (every_below _ (length trace) (λ j h. pick j h (value (same (places j).stage (stage_along (b.lane i) (suc s))))))
      where
        occupant : (j : ℕ) → Stands b t j (suc s) → shares b i j (suc s) ≡ true → Tri j i → enters b j (suc (suc s)) ≤ suc t
        occupant j sj sh (less h) = let p = share b i j s h sh in omega arith
        occupant j sj sh (equal h) =
            let p : enters b i (suc s) ≤ t = subst (λ (x : ℕ). enters b x (suc s) ≤ t) h sj.entered in
            let q = st.stays (omega arith) in
            omega arith
        occupant j sj sh (more h) =
            let p = share b j i s h (shares_sym b i j (suc s) sh) in
            let q = own b i (suc s) in
            let r = sj.entered in
            let z = st.stays (omega arith) in
            omega arith

        there : (j : ℕ) → j < length trace → same (stage_along (b.lane j) (suc s)) (stage_along (b.lane i) (suc s)) ≡ true → Stands b t j (suc s) →
            moves_within k trace places j ≡ true
        there j h e sj = ih j h sj (occupant j sj (same_shares b i j (suc s) m e) (tri j i))

        pick : (j : ℕ) → j < length trace → Value (same (places j).stage (stage_along (b.lane i) (suc s))) →
            not (same (places j).stage (stage_along (b.lane i) (suc s))) or moves_within k trace places j ≡ true
        pick j h (failed e) = or_l _ _ (not_passes _ e)
        pick j h (passed e) =
            let sj = stands b t j in
            let f : same (stage_along (b.lane j) (level_at (enters b j) t)) (stage_along (b.lane i) (suc s)) ≡ true =
            subst (λ (x : Stage). same x (stage_along (b.lane i) (suc s)) ≡ true) (stage_of_lem h sj) e in
            let z = same_level (b.lane j) (b.lane i) _ (suc s) sj.level (omega arith) f in
            or_r _ _
            (there j h
            (subst (λ (x : ℕ). same (stage_along (b.lane j) x) (stage_along (b.lane i) (suc s)) ≡ true) z f)
            (subst (Stands b t j) z sj))

    post_free : (i s : ℕ) → s ≡ 5 → will_be_free_within 1 trace places (stage_along (b.lane i) (suc s)) ≡ true
    unfolding will_be_free_within
    post_free i s e =
        or_l _ _ (subst (λ (x : ℕ). same (stage_along (b.lane i) (suc x)) post ≡ true) (sym e) (stage_same post post refl))

    pub enters_moves : (d i s : ℕ) → i < length trace → Stands b t i s → s + suc d ≡ 6 →
        enters b i (suc s) ≤ suc t →
        moves_within (double (suc d)) trace places i ≡ true
    unfolding double
    enters_moves zero i s l st e m = can_move 1 i s l st (omega arith) m (post_free i s (omega arith))
    enters_moves (suc d) i s l st e m =
        can_move (suc (double (suc d))) i s l st (omega arith) m
        (will_be_free_lem (double (suc d)) i s l st (omega arith) m (λ j h sj mj. enters_moves d j (suc s) h sj (omega arith) mj))
