-- Where the schedule puts an instruction after t cycles: at the greatest level that it has entered, with its entry count less the cycles since; and
-- what the rules' tests say of such a place.
use Prim.Native.Nat.{ℕ, zero, suc, ◌+◌, ◌-◌, ◌≤◌, ◌<◌}
use mathlib.Core.Bool.{Bool, true, false, cond}
use mathlib.Core.Path.{◌≡◌, refl, sym, subst, ap, ◌∙◌}
use native.Mathlib.Omega.{arith}
use lib.Dec.{leb, ltb}
use borrow.Author.Tests.{leb-true, leb-false, le-leb, lt-leb, ltb-true, ltb-false, lt-ltb, le-ltb}
use Rattle.machine.specs.Test.{◌and◌, ◌or◌}
use Rattle.machine.specs.Rules.{pre, post, rank, same, Place, Places, further, short_of}
use Rattle.machine.proofs.Numbers.{Tri, less, equal, more, tri, Last, below, at, last}
use Rattle.machine.proofs.Connectives.{Value, passed, failed, value, and_failed_l, or_l, or_failed, or_left, and_left}
use Rattle.machine.proofs.Stages.{stage_same}
use Rattle.machine.proofs.Schedule.{Behaviour, enters, done, starts, own}
use Rattle.machine.proofs.Levels.{stage_along, rank_stage, other_level}

-- Times rise with the level.
pub enters_before : (b : Behaviour) (i s u : ℕ) → s < u → done b i s ≤ enters b i u
unfolding done
enters_before b i s zero l = absurd (omega arith)
enters_before b i s (suc u) l = pick (enters_before b i s u) (last s u l)
  where
    pick : (s < u → done b i s ≤ enters b i u) → Last s u → done b i s ≤ enters b i (suc u)
    pick ih (below m) = let p = ih m in let q = own b i u in omega arith
    pick ih (at e) = subst (λ (x : ℕ). done b i x ≤ enters b i (suc u)) (sym e) (own b i u)

-- after t cycles i is at level s
pub record Stands (b : Behaviour) (t i s : ℕ) : Type 0 where
  pub level : s ≤ 6
  pub entered : enters b i s ≤ t
  pub stays : s < 6 → t < enters b i (suc s)

-- the greatest level up to s that has been entered by t
level_up_to : (ℕ → ℕ) → ℕ → ℕ → ℕ
level_up_to times t zero = 0
level_up_to times t (suc s) = cond (leb (times (suc s)) t) (suc s) (level_up_to times t s)

pub level_at : (ℕ → ℕ) → ℕ → ℕ
level_at times t = level_up_to times t 6

-- the place of an instruction at level s after t cycles
unfoldable pub standing : Behaviour → ℕ → ℕ → ℕ → Place
standing b t i s = record { stage = stage_along (b.lane i) s; count = b.count i s - (t - enters b i s) }

record UpTo (times : ℕ → ℕ) (t s l : ℕ) : Type 0 where
  level : l ≤ s
  entered : times l ≤ t
  stays : l < s → t < times (suc l)

stays_past : {times : ℕ → ℕ} {t s l : ℕ} → UpTo times t s l → leb (times (suc s)) t ≡ false → l < suc s → t < times (suc l)
stays_past {times} {t} {s} {l} u e m = pick (last l s m)
  where
    pick : Last l s → t < times (suc l)
    pick (below n) = u.stays n
    pick (at f) = subst (λ (x : ℕ). t < times (suc x)) (sym f) (leb-false (times (suc s)) t e)

up_to : (times : ℕ → ℕ) (t s : ℕ) → times 0 ≤ t → UpTo times t s (level_up_to times t s)
unfolding level_up_to
up_to times t zero h = record { level = omega arith; entered = h; stays = λ l. absurd (omega arith) }
up_to times t (suc s) h = pick (up_to times t s h) (value (leb (times (suc s)) t))
  where
    pick : UpTo times t s (level_up_to times t s) → Value (leb (times (suc s)) t) → UpTo times t (suc s) (level_up_to times t (suc s))
    pick u (passed e) = rw e (record { level = omega arith; entered = leb-true (times (suc s)) t e; stays = λ l. absurd (omega arith) })
    pick u (failed e) = rw e (record { level = let l = u.level in omega arith; entered = u.entered; stays = stays_past u e })

pub stands : (b : Behaviour) (t i : ℕ) → Stands b t i (level_at (enters b i) t)
unfolding level_at
stands b t i =
    let u = up_to (enters b i) t 6 (rw (starts b i) (omega arith)) in
    record { level = u.level; entered = u.entered; stays = u.stays }

-- which levels have been entered, and which have not
pub not_yet : {b : Behaviour} {t i s : ℕ} → Stands b t i s → (u : ℕ) → s < u → u ≤ 6 → t < enters b i u
unfolding done
not_yet {b} {t} {i} {s} st u l m = pick (last (suc s) u (omega arith))
  where
    pick : Last (suc s) u → t < enters b i u
    pick (below k) = let p = st.stays (omega arith) in let q = enters_before b i (suc s) u k in omega arith
    pick (at e) = subst (λ (x : ℕ). t < enters b i x) e (st.stays (omega arith))

pub already : {b : Behaviour} {t i s : ℕ} → Stands b t i s → (u : ℕ) → u ≤ s → enters b i u ≤ t
unfolding done
already {b} {t} {i} {s} st u l = pick (last u s (omega arith))
  where
    pick : Last u s → enters b i u ≤ t
    pick (below k) = let p = st.entered in let q = enters_before b i u s k in omega arith
    pick (at e) = subst (λ (x : ℕ). enters b i x ≤ t) (sym e) st.entered

-- so an instruction is at one level only
pub stands_once : {b : Behaviour} {t i s u : ℕ} → Stands b t i s → Stands b t i u → s ≡ u
stands_once {b} {t} {i} {s} {u} p q = pick (tri s u)
  where
    pick : Tri s u → s ≡ u
    pick (less l) = let a = not_yet p u l q.level in let c = q.entered in omega arith
    pick (equal e) = e
    pick (more l) = let a = not_yet q s l p.level in let c = p.entered in omega arith

-- j is short of level h with count 0
unfoldable pub is_short : Behaviour → ℕ → ℕ → ℕ → Bool
is_short b t j h = ltb t (enters b j h + b.count j h)

-- the count is above 0 exactly where the entry count exceeds the cycles since entry
left : (t e c : ℕ) → e ≤ t → ltb 0 (c - (t - e)) ≡ ltb t (e + c)
left t e c l = pick (value (ltb t (e + c)))
  where
    pick : Value (ltb t (e + c)) → ltb 0 (c - (t - e)) ≡ ltb t (e + c)
    pick (passed p) = let q = ltb-true t (e + c) p in lt-ltb 0 (c - (t - e)) (omega arith) ∙ sym p
    pick (failed p) = let q = ltb-false t (e + c) p in le-ltb 0 (c - (t - e)) (omega arith) ∙ sym p

short_of_level : {b : Behaviour} {t j l : ℕ} → Stands b t j l → (h : ℕ) → h ≤ 6 → short_of (standing b t j l) (stage_along (b.lane j) h) 0 ≡ is_short b t j h
unfolding short_of further standing is_short done
short_of_level {b} {t} {j} {l} st h m = pick (tri l h)
  where
    lane : Bool
    lane = b.lane j

    before_h : Bool
    before_h = ltb (rank (stage_along lane l)) (rank (stage_along lane h))

    order : before_h ≡ ltb l h
    order = rw (rank_stage lane l st.level, rank_stage lane h m)

    pick : Tri l h → before_h or (same (stage_along lane h) (stage_along lane l) and ltb 0 (b.count j l - (t - enters b j l))) ≡ ltb t (enters b j h + b.count j h)
    pick (less k) =
        or_l before_h _ (order ∙ lt-ltb l h k)
        ∙ sym (lt-ltb t (enters b j h + b.count j h) (let p = not_yet st h k m in omega arith))
    pick (equal e) =
        subst (λ (x : ℕ). short_of (standing b t j l) (stage_along lane x) 0 ≡ is_short b t j x) e
        (or_left _ _ (le-ltb (rank (stage_along lane l)) (rank (stage_along lane l)) (omega arith))
        ∙ and_left _ _ (stage_same (stage_along lane l) (stage_along lane l) refl)
        ∙ left t (enters b j l) (b.count j l) st.entered)
    pick (more k) =
        or_failed before_h _ (order ∙ le-ltb l h (omega arith)) (and_failed_l _ _ (other_level lane lane h l m st.level (omega arith)))
        ∙ sym (le-ltb t (enters b j h + b.count j h) (let p = enters_before b j h l k in let q = st.entered in omega arith))

in_pre_level : {b : Behaviour} {t j l : ℕ} → Stands b t j l → same (standing b t j l).stage pre ≡ ltb t (enters b j 1)
unfolding standing
in_pre_level {b} {t} {j} {l = zero} st = sym (lt-ltb t (enters b j 1) (not_yet st 1 (omega arith) (omega arith)))
in_pre_level {b} {t} {j} {l = suc l} st =
    other_level (b.lane j) true (suc l) 0 st.level (omega arith) (omega arith)
    ∙ sym (le-ltb t (enters b j 1) (already st 1 (omega arith)))

in_post_level : {b : Behaviour} {t j l : ℕ} → Stands b t j l → same (standing b t j l).stage post ≡ leb (enters b j 6) t
unfolding standing
in_post_level {b} {t} {j} {l} st = pick (last l 6 (let h = st.level in omega arith))
  where
    pick : Last l 6 → same (stage_along (b.lane j) l) post ≡ leb (enters b j 6) t
    pick (below m) =
        other_level (b.lane j) true l 6 st.level (omega arith) (omega arith)
        ∙ sym (lt-leb (enters b j 6) t (not_yet st 6 m (omega arith)))
    pick (at e) =
        stage_same (stage_along (b.lane j) l) post (ap (stage_along (b.lane j)) e) ∙ sym (le-leb (enters b j 6) t (already st 6 (omega arith)))

-- where the schedule puts instruction j
unfoldable pub scheduled : Behaviour → ℕ → Places
scheduled b t j = standing b t j (level_at (enters b j) t)

pub scheduled_at : {b : Behaviour} {t i s : ℕ} → Stands b t i s → scheduled b t i ≡ standing b t i s
unfolding scheduled
scheduled_at {b} {t} {i} {s} st = ap (standing b t i) (stands_once (stands b t i) st)

pub short_of_lem : (b : Behaviour) (t j h : ℕ) → h ≤ 6 → short_of (scheduled b t j) (stage_along (b.lane j) h) 0 ≡ is_short b t j h
unfolding scheduled
short_of_lem b t j h l = short_of_level (stands b t j) h l

pub in_pre_lem : (b : Behaviour) (t j : ℕ) → same (scheduled b t j).stage pre ≡ ltb t (enters b j 1)
unfolding scheduled
in_pre_lem b t j = in_pre_level (stands b t j)

pub in_post : (b : Behaviour) (t j : ℕ) → same (scheduled b t j).stage post ≡ leb (enters b j 6) t
unfolding scheduled
in_post b t j = in_post_level (stands b t j)

-- nothing is short of pre
pub never_short : (b : Behaviour) (t j : ℕ) → is_short b t j 0 ≡ false
unfolding is_short
never_short b t j = let p = starts b j in let q = b.count_in_pre j in le-ltb t (enters b j 0 + b.count j 0) (omega arith)

-- an instruction that has entered post is there, with no count left
pub at_post_level : (b : Behaviour) (t j : ℕ) → b.count j 6 ≡ 0 → enters b j 6 ≤ t → scheduled b t j ≡ record { stage = post; count = 0 }
unfolding standing
at_post_level b t j e l =
    scheduled_at {s = 6} (record { level = omega arith; entered = l; stays = λ k. absurd (omega arith) })
    ∙ (λ i. record { stage = post; count = zero_left i })
  where
    zero_left : b.count j 6 - (t - enters b j 6) ≡ 0
    zero_left = omega arith
