-- The schedule: after how many cycles each instruction enters each level, in closed form, from the behaviour of the instructions. Levels: 0 pre, 1
-- IF, 2 ID, 3 EX, 4 MEM, 5 ST or WB, 6 post. Only the bounds at the end (own, share, wait, least) are used elsewhere.
use Prim.Native.Nat.{ℕ, zero, suc, ◌+◌, ◌≤◌, ◌<◌}
use mathlib.Core.Bool.{Bool, true, false, cond, beq}
use mathlib.Core.Path.{◌≡◌, refl, sym, subst, ap, ◌∙◌}
use native.Mathlib.Omega.{arith}
use lib.Dec.{ltb, eqb}
use borrow.Author.Tests.{lt-ltb, ltb-true, eq-eqb, ne_eqb, eqb-true}
use Rattle.machine.specs.Test.{◌and◌, ◌or◌}
use Rattle.machine.proofs.Connectives.{Value, passed, failed, value, and_l, and_r, and_both, or_l, or_r, or_else}
use Rattle.machine.proofs.Numbers.{Last, below, at, last, greatest, base_greatest, le_greatest, greatest_le, greatest_same}

-- The behaviour of a trace's instructions: the entry count of an instruction at a level; whether its last stage is ST; and the level that an older
-- instruction j must have reached with count 0 before instruction i, at a level, is ready. Level 0 means no waiting, since nothing is short of it.
pub record Behaviour : Type 0 where
  pub count : ℕ → ℕ → ℕ
  pub lane : ℕ → Bool
  pub until : ℕ → ℕ → ℕ → ℕ
  pub count_in_pre : (i : ℕ) → count i 0 ≡ 0
  pub until_before_post : (i s j : ℕ) → until i s j ≤ 5

-- two instructions have the same stage at a level between pre and post
unfoldable pub shares : Behaviour → ℕ → ℕ → ℕ → Bool
shares b i j s = ltb s 5 or (eqb s 5 and beq (b.lane i) (b.lane j))

share_term : Behaviour → (ℕ → ℕ → ℕ) → ℕ → ℕ → ℕ → ℕ
share_term b times i s j = cond (shares b i j (suc s)) (times j (suc (suc s))) 0

wait_term : Behaviour → (ℕ → ℕ → ℕ) → ℕ → ℕ → ℕ → ℕ
wait_term b times i s j = times j (b.until i s j) + b.count j (b.until i s j) + 1

-- when i enters a level, from the times of older instructions
entering : Behaviour → (ℕ → ℕ → ℕ) → ℕ → ℕ → ℕ
entering b times i zero = 0
entering b times i (suc s) =
    greatest (greatest (entering b times i s + b.count i s + 1) (share_term b times i s) i) (wait_term b times i s) i

-- the times of the instructions below n
table : Behaviour → ℕ → ℕ → ℕ → ℕ
table b zero j s = 0
table b (suc n) j s = cond (eqb j n) (entering b (table b n) n s) (table b n j s)

-- E(i, s): the number of cycles after which i first stands at level s or further
pub enters : Behaviour → ℕ → ℕ → ℕ
enters b i s = entering b (table b i) i s

-- one cycle after j first stands at level s with count 0, which is when what waits for that can have moved
unfoldable pub done : Behaviour → ℕ → ℕ → ℕ
done b j s = enters b j s + b.count j s + 1

table_is : (b : Behaviour) (n j s : ℕ) → j < n → table b n j s ≡ enters b j s
unfolding table enters
table_is b zero j s l = absurd (omega arith)
table_is b (suc n) j s l = pick (table_is b n j s) (last j n l)
  where
    pick : (j < n → table b n j s ≡ enters b j s) → Last j n → table b (suc n) j s ≡ enters b j s
    pick ih (below m) = rw (ne_eqb j n (λ e. omega arith)) (ih m)
    pick ih (at e) = rw e (rw (eq-eqb n n refl))

-- the equation that the schedule solves
enters_suc : (b : Behaviour) (i s : ℕ) →
    enters b i (suc s) ≡ greatest (greatest (done b i s) (share_term b (enters b) i s) i) (wait_term b (enters b) i s) i
unfolding enters entering done share_term wait_term
enters_suc b i s =
    greatest_same _ (wait_term b (table b i) i s) (wait_term b (enters b) i s) i
    (λ j l. ap (λ (t : ℕ). t + b.count j (b.until i s j) + 1) (table_is b i j (b.until i s j) l))
    ∙ ap (λ (base : ℕ). greatest base (wait_term b (enters b) i s) i)
    (greatest_same (done b i s) (share_term b (table b i) i s) (share_term b (enters b) i s) i
    (λ j l. ap (λ (t : ℕ). cond (shares b i j (suc s)) t 0) (table_is b i j (suc (suc s)) l)))

-- laws of `shares`
beq_refl : (a : Bool) → beq a a ≡ true
beq_refl true = refl
beq_refl false = refl

beq_is : (a c : Bool) → beq a c ≡ true → c ≡ a
beq_is true true e = refl
beq_is true false e = e
beq_is false true e = sym e
beq_is false false e = refl

pub shares_early : (b : Behaviour) (i j s : ℕ) → s < 5 → shares b i j s ≡ true
unfolding shares
shares_early b i j s l = or_l _ _ (lt-ltb s 5 l)

pub shares_last : (b : Behaviour) (i j : ℕ) → b.lane j ≡ b.lane i → shares b i j 5 ≡ true
unfolding shares
shares_last b i j e = or_r _ _ (and_both _ _ refl (rw e (beq_refl (b.lane i))))

pub data Together (b : Behaviour) (i j s : ℕ) : Type 0 where
  early : s < 5 → Together b i j s
  late : s ≡ 5 → b.lane j ≡ b.lane i → Together b i j s

pub together : (b : Behaviour) (i j s : ℕ) → shares b i j s ≡ true → Together b i j s
unfolding shares
together b i j s e = pick (value (ltb s 5))
  where
    pick : Value (ltb s 5) → Together b i j s
    pick (passed p) = early (ltb-true s 5 p)
    pick (failed p) =
        let q = or_else _ _ e p in
        late (eqb-true s 5 (and_l _ _ q)) (beq_is (b.lane i) (b.lane j) (and_r _ _ q))

pub shares_sym : (b : Behaviour) (i j s : ℕ) → shares b i j s ≡ true → shares b j i s ≡ true
shares_sym b i j s e = pick (together b i j s e)
  where
    pick : Together b i j s → shares b j i s ≡ true
    pick (early l) = shares_early b j i s l
    pick (late f g) = subst (λ (x : ℕ). shares b j i x ≡ true) (sym f) (shares_last b j i (sym g))

-- The bounds.
pub starts : (b : Behaviour) (i : ℕ) → enters b i 0 ≡ 0
unfolding enters entering
starts b i = refl

pub own : (b : Behaviour) (i s : ℕ) → done b i s ≤ enters b i (suc s)
own b i s =
    rw enters_suc
    (let p = base_greatest (done b i s) (share_term b (enters b) i s) i in
    let q = base_greatest (greatest (done b i s) (share_term b (enters b) i s) i) (wait_term b (enters b) i s) i in
    omega arith)

pub share : (b : Behaviour) (i j s : ℕ) → j < i → shares b i j (suc s) ≡ true → enters b j (suc (suc s)) ≤ enters b i (suc s)
unfolding share_term
share b i j s l e =
    rw (enters_suc b i s)
    (let p : share_term b (enters b) i s j ≤ greatest (done b i s) (share_term b (enters b) i s) i = le_greatest (done b i s) (share_term b (enters b) i s) i j l in
    let q = base_greatest (greatest (done b i s) (share_term b (enters b) i s) i) (wait_term b (enters b) i s) i in
    let r : enters b j (suc (suc s)) ≤ greatest (done b i s) (share_term b (enters b) i s) i = rw e at p in
    omega arith)

pub wait : (b : Behaviour) (i j s : ℕ) → j < i → done b j (b.until i s j) ≤ enters b i (suc s)
unfolding wait_term done
wait b i j s l = rw (enters_suc b i s) (le_greatest (greatest (done b i s) (share_term b (enters b) i s) i) (wait_term b (enters b) i s) i j l)

-- the same with a number added on the left, so that no subtraction is needed where two schedules are compared
pub least_plus : (b : Behaviour) (i s a m : ℕ) →
    done b i s + a ≤ m →
    ((j : ℕ) → j < i → shares b i j (suc s) ≡ true → enters b j (suc (suc s)) + a ≤ m) →
    ((j : ℕ) → j < i → done b j (b.until i s j) + a ≤ m) →
    enters b i (suc s) + a ≤ m
unfolding share_term wait_term done
least_plus b i s a m p q r =
    rw (enters_suc b i s)
    (greatest_le (greatest (done b i s) (share_term b (enters b) i s) i) (wait_term b (enters b) i s) i a m
    (greatest_le (done b i s) (share_term b (enters b) i s) i a m p (λ j l. pick j l (value (shares b i j (suc s)))))
    r)
  where
    pick : (j : ℕ) → j < i → Value (shares b i j (suc s)) → share_term b (enters b) i s j + a ≤ m
    pick j l (passed e) = rw e (q j l e)
    pick j l (failed e) = rw e (omega arith)

pub least :
    (b : Behaviour) (i s m : ℕ) →
    done b i s ≤ m →
    ((j : ℕ) → j < i → shares b i j (suc s) ≡ true → enters b j (suc (suc s)) ≤ m) →
    ((j : ℕ) → j < i → done b j (b.until i s j) ≤ m) →
    enters b i (suc s) ≤ m
least b i s m p q r =
    let h = least_plus b i s 0 m (omega arith) (λ j l e. let k = q j l e in omega arith) (λ j l. let k = r j l in omega arith) in
    omega arith
