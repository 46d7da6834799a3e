-- Which older instructions matter: of those that share a stage, the one directly before; of those of one kind that are waited for, the last. Each
-- enters a stage, and is done with it, no earlier than those before it, since they pass through the same stages.
use Prim.Native.Nat.{ℕ, zero, suc, ◌≤◌, ◌<◌}
use mathlib.Core.Bool.{Bool, true, cond}
use mathlib.Core.Path.{◌≡◌, sym, ap, subst, ◌∙◌}
use native.Mathlib.Omega.{arith}
use Rattle.machine.proofs.Numbers.{Last, below, at, last}
use Rattle.machine.proofs.Connectives.{Value, passed, failed, value, clash}
use Rattle.machine.proofs.Schedule.{Behaviour, shares, shares_early, enters, done, own, share}

-- when the instruction directly before k enters a level; 0 if there is none
unfoldable pub previous : Behaviour → ℕ → ℕ → ℕ
previous b zero s = 0
previous b (suc k) s = enters b k s

-- an older instruction has entered the next level by the time that a younger one enters this one
pub share_level : (b : Behaviour) (i j s : ℕ) → j < i → 0 < s → shares b i j s ≡ true → enters b j (suc s) ≤ enters b i s
share_level b i j zero l p e = absurd (omega arith)
share_level b i j (suc s) l p e = share b i j s l e

pub share_early : (b : Behaviour) (i j s : ℕ) → j < i → 0 < s → s < 5 → enters b j (suc s) ≤ enters b i s
share_early b i j s l p m = share_level b i j s l p (shares_early b i j s m)

pub le_previous : (b : Behaviour) (k j s : ℕ) → j < k → 0 < s → s < 5 → enters b j (suc s) ≤ previous b k (suc s)
unfolding previous done
le_previous b zero j s l p m = absurd (omega arith)
le_previous b (suc k) j s l p m = pick (last j k l)
  where
    pick : Last j k → enters b j (suc s) ≤ enters b k (suc s)
    pick (below h) = let q = share_early b k j s h p m in let r = own b k s in omega arith
    pick (at e) = subst (λ (x : ℕ). enters b j (suc s) ≤ enters b x (suc s)) e (omega arith)

pub previous_le : (b : Behaviour) (k s : ℕ) → 0 < s → s < 5 → previous b k (suc s) ≤ enters b k s
unfolding previous
previous_le b zero s p m = omega arith
previous_le b (suc k) s p m = share_early b (suc k) k s (omega arith) p m

-- when the last instruction before k that passes the test is done with a level; 0 if there is none
unfoldable pub last_done : Behaviour → (ℕ → Bool) → ℕ → ℕ → ℕ
last_done b test s zero = 0
last_done b test s (suc k) = cond (test k) (done b k s) (last_done b test s k)

pub last_done_le : (b : Behaviour) (test : ℕ → Bool) (s k m : ℕ) → ((j : ℕ) → j < k → test j ≡ true → done b j s ≤ m) → last_done b test s k ≤ m
unfolding last_done
last_done_le b test s zero m h = omega arith
last_done_le b test s (suc k) m h = pick (last_done_le b test s k m (λ j l e. h j (omega arith) e)) (value (test k))
  where
    pick : last_done b test s k ≤ m → Value (test k) → cond (test k) (done b k s) (last_done b test s k) ≤ m
    pick ih (passed e) = rw e (h k (omega arith) e)
    pick ih (failed e) = rw e ih

pub le_last_done : (b : Behaviour) (test : ℕ → Bool) (s : ℕ) → 0 < s →
    ((i j : ℕ) → test i ≡ true → test j ≡ true → shares b i j s ≡ true) →
    (k j : ℕ) →
    j < k →
    test j ≡ true →
    done b j s ≤ last_done b test s k
unfolding last_done done
le_last_done b test s p h zero j l e = absurd (omega arith)
le_last_done b test s p h (suc k) j l e = pick (le_last_done b test s p h k j) (last j k l) (value (test k))
  where
    pick : (j < k → test j ≡ true → done b j s ≤ last_done b test s k) → Last j k → Value (test k) → done b j s ≤ cond (test k) (done b k s) (last_done b test s k)
    pick ih (below m) (passed f) = rw f (let q = own b j s in let r = share_level b k j s m p (h k j f e) in omega arith)
    pick ih (below m) (failed f) = rw f (ih m e)
    pick ih (at g) (passed f) = rw f (subst (λ (x : ℕ). done b j s ≤ done b x s) g (omega arith))
    pick ih (at g) (failed f) = clash (ap test (sym g) ∙ e) f
