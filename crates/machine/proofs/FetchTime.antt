-- When an instruction is fetched: of the older ones, the closed form needs only the one directly before, and the last that holds fetches back, load and store.
use Prim.Native.Nat.{ℕ, ◌≤◌, ◌<◌, max}
use mathlib.Core.Bool.{Bool, true, false, not, cond, false≢true}
use mathlib.Core.Path.{◌≡◌, refl, sym, ap, subst, ◌∙◌}
use native.Mathlib.Nat.{le_antisymm, max-le}
use native.Mathlib.Omega.{arith}
use Rattle.machine.specs.Test.{◌or◌}
use Rattle.machine.specs.Instruction.{Trace, instruction}
use Rattle.machine.specs.Rules.{Stage, pre, rank, is_load, is_store, holds_fetches, hits}
use Rattle.machine.proofs.Connectives.{Value, passed, failed, value, or_l, or_r}
use Rattle.machine.proofs.Schedule.{Behaviour, shares_early, shares_last, enters, done, starts, own, wait, least}
use Rattle.machine.proofs.Doing.{Does, holding, loading, storing, nothing, does}
use Rattle.machine.proofs.Hazards.{goal_of, goal, load_goal, store_goal, holder_goal, waits_for}
use Rattle.machine.proofs.Derivation.{waits_for_lem, waits_within, behaviour}
use Rattle.machine.proofs.Dominance.{previous, le_previous, previous_le, last_done, last_done_le, le_last_done}

-- not waiting costs nothing
pub done_pre : (b : Behaviour) (j : ℕ) → done b j 0 ≡ 1
unfolding done
done_pre b j = let p = starts b j in let q = b.count_in_pre j in omega arith

-- what a fetch waits for
pre_within : {h l s : Bool} → Does h l s → (fetchHits : Bool) (d : ℕ → ℕ) (x y z : ℕ) →
    (h ≡ true → d 3 ≤ x) →
    (l ≡ true → d 4 ≤ y) →
    (s ≡ true → d 5 ≤ z) →
    d 0 ≡ 1 →
    h or not fetchHits ≡ true →
    d (rank (goal_of h l s)) ≤ max 1 (max x (cond fetchHits 0 (max y z)))
unfolding ◌or◌
pre_within holding hit d x y z b l s o e = let h = b refl in omega arith
pre_within loading true d x y z b l s o e = absurd (false≢true e)
pre_within loading false d x y z b l s o e = let h = l refl in omega arith
pre_within storing true d x y z b l s o e = absurd (false≢true e)
pre_within storing false d x y z b l s o e = let h = s refl in omega arith
pre_within nothing hit d x y z b l s o e = omega arith

module _ (trace : Trace) where
  abbrev b : Behaviour
  b = behaviour trace

  -- when the last that holds fetches back, load and store before k are done
  unfoldable pub holders : ℕ → ℕ
  holders k = last_done b (λ j. holds_fetches (instruction trace j).kind) 3 k

  unfoldable pub loads : ℕ → ℕ
  loads k = last_done b (λ j. is_load (instruction trace j).kind) 4 k

  unfoldable pub stores : ℕ → ℕ
  stores k = last_done b (λ j. is_store (instruction trace j).kind) 5 k

  holder_done : (k j : ℕ) → j < k → holds_fetches (instruction trace j).kind ≡ true → done b j 3 ≤ holders k
  unfolding holders
  holder_done = le_last_done b (λ j. holds_fetches (instruction trace j).kind) 3 (omega arith) (λ i j p q. shares_early b i j 3 (omega arith))

  pub load_done_lem : (k j : ℕ) → j < k → is_load (instruction trace j).kind ≡ true → done b j 4 ≤ loads k
  unfolding loads
  load_done_lem = le_last_done b (λ j. is_load (instruction trace j).kind) 4 (omega arith) (λ i j p q. shares_early b i j 4 (omega arith))

  pub store_done_lem : (k j : ℕ) → j < k → is_store (instruction trace j).kind ≡ true → done b j 5 ≤ stores k
  unfolding stores behaviour
  store_done_lem = le_last_done b (λ j. is_store (instruction trace j).kind) 5 (omega arith) (λ i j p q. shares_last b i j (q ∙ sym p))

  -- an older instruction that is waited for is done before the fetch
  fetched_after : (k j : ℕ) → j < k → {to : Stage} →
      waits_for pre (instruction trace k) (instruction trace j) ≡ true →
      goal (instruction trace j).kind ≡ to →
      done b j (rank to) ≤ enters b k 1
  unfolding behaviour
  fetched_after k j l e g = subst (λ (x : ℕ). done b j x ≤ enters b k 1) (waits_for_lem 0 (instruction trace k) (instruction trace j) e g) (wait b k j 0 l)

  missing_waits : (k : ℕ) → Value (hits (instruction trace k).fetch) →
      cond (hits (instruction trace k).fetch) 0 (max (loads k) (stores k)) ≤ enters b k 1
  unfolding loads stores waits_for
  missing_waits k (passed e) = rw e (omega arith)
  missing_waits k (failed e) =
      rw e
      (max-le
      (last_done_le b (λ j. is_load (instruction trace j).kind) 4 k (enters b k 1)
      (λ j l f. fetched_after k j l (or_r _ _ (ap not e)) (load_goal (instruction trace j).kind f)))
      (last_done_le b (λ j. is_store (instruction trace j).kind) 5 k (enters b k 1)
      (λ j l f. fetched_after k j l (or_r _ _ (ap not e)) (store_goal (instruction trace j).kind f))))

  pub at_IF : (k : ℕ) →
      enters b k 1
      ≡ max (max 1 (previous b k 2)) (max (holders k) (cond (hits (instruction trace k).fetch) 0 (max (loads k) (stores k))))
  unfolding holders behaviour waits_for goal
  at_IF k =
      le_antisymm
      (least b k 0 _
      (let p = done_pre b k in omega arith)
      (λ j l e. let p = le_previous b k j 1 l (omega arith) (omega arith) in omega arith)
      (λ j l.
      let p = waits_within 0 (instruction trace k) (instruction trace j) (done b j) _ (let o = done_pre b j in omega arith)
      (pre_within (does (instruction trace j).kind) (hits (instruction trace k).fetch) (done b j) (holders k) (loads k) (stores k)
      (holder_done k j l) (load_done_lem k j l) (store_done_lem k j l) (done_pre b j)) in
      omega arith))
      (max-le
      (max-le (let p = own b k 0 in let q = done_pre b k in omega arith) (previous_le b k 1 (omega arith) (omega arith)))
      (max-le
      (last_done_le b (λ j. holds_fetches (instruction trace j).kind) 3 k (enters b k 1)
      (λ j l e. fetched_after k j l (or_l _ _ e) (holder_goal (instruction trace j).kind e)))
      (missing_waits k (value (hits (instruction trace k).fetch)))))
