-- When an instruction enters the stages after IF: of the older ones, the closed form needs only the one directly before (and its target, if it is a
-- load) and the last store.
use Prim.Native.Nat.{ℕ, zero, suc, ◌+◌, ◌≤◌, ◌<◌, max}
use mathlib.Core.Bool.{Bool, true, false, not, cond, false≢true}
use mathlib.Core.Path.{◌≡◌, refl, sym, subst, ◌∙◌}
use native.Mathlib.Nat.{le_antisymm, max-le}
use native.Mathlib.Omega.{arith}
use Rattle.machine.specs.Test.{◌and◌, ◌or◌}
use Rattle.machine.specs.Instruction.{Instruction, Trace, instruction}
use Rattle.machine.specs.Rules.{IF, EX, MEM, rank, is_load, is_store, entry, reads_in_ID, misses_data}
use Rattle.machine.proofs.Numbers.{Last, below, at, last}
use Rattle.machine.proofs.Connectives.{Value, passed, failed, value, clash, and_l, and_r, and_both, and_false, or_l, or_else}
use Rattle.machine.proofs.Schedule.{Behaviour, shares, Together, early, late, together, shares_last, enters, done, own, share, wait, least}
use Rattle.machine.proofs.Doing.{Does, holding, loading, storing, nothing, does}
use Rattle.machine.proofs.Hazards.{goal, load_goal, store_goal, waits_for}
use Rattle.machine.proofs.Derivation.{waits, waits_for_lem, waits_within, count_at, last_count_lem, behaviour}
use Rattle.machine.proofs.Dominance.{previous, le_previous, previous_le, share_early, last_done, last_done_le}
use Rattle.machine.proofs.FetchTime.{loads, stores, load_done_lem, store_done_lem, done_pre}

reads_zero : (i : Instruction) → reads_in_ID i 0 ≡ false
unfolding reads_in_ID ◌and◌ ◌or◌
reads_zero i = and_false (not (is_store i.kind))

pub no_count_in_WB : (i : Instruction) → is_store i.kind ≡ false → count_at i 5 ≡ 0
no_count_in_WB i e = last_count_lem i (is_store i.kind) ∙ rw e

load_no_store : {h l s : Bool} → Does h l s → l ≡ true → s ≡ false
load_no_store holding e = absurd (false≢true e)
load_no_store loading e = refl
load_no_store storing e = absurd (false≢true e)
load_no_store nothing e = absurd (false≢true e)

module _ (trace : Trace) where
  abbrev b : Behaviour
  b = behaviour trace

  -- ID
  pub at_ID : (k : ℕ) →
      enters b k 2 ≡ max (enters b k 1 + entry (instruction trace k) IF + 1) (previous b k 3)
  unfolding behaviour waits waits_for done
  at_ID k =
      le_antisymm
      (least b k 1 _
      (omega arith)
      (λ j l e. let p = le_previous b k j 2 l (omega arith) (omega arith) in omega arith)
      (λ j l. let p = done_pre b j in omega arith))
      (max-le (own b k 1) (previous_le b k 2 (omega arith) (omega arith)))

  -- EX
  unfoldable pub target_before : ℕ → ℕ
  target_before zero = 0
  target_before (suc k) = cond (is_load (instruction trace k).kind) (instruction trace k).target 0

  -- only a load directly before matters: one further back has left MEM by the time that the one directly before enters it
  older_load : (k j : ℕ) → j < k → is_load (instruction trace j).kind ≡ true → reads_in_ID (instruction trace k) (instruction trace j).target ≡ true →
      done b j 4 ≤ max (previous b k 4) (cond (reads_in_ID (instruction trace k) (target_before k)) (loads trace k) 0)
  unfolding previous target_before
  older_load zero j l e f = absurd (omega arith)
  older_load (suc k) j l e f = pick (last j k l)
    where
      pick : Last j k → done b j 4
          ≤ max (enters b k 4) (cond (reads_in_ID (instruction trace (suc k)) (cond (is_load (instruction trace k).kind) (instruction trace k).target 0)) (loads trace (suc k)) 0)
      pick (below h) = let p = own b j 4 in let q = share_early b k j 4 h (omega arith) (omega arith) in omega arith
      pick (at h) =
          let g : is_load (instruction trace k).kind ≡ true = subst (λ (x : ℕ). is_load (instruction trace x).kind ≡ true) h e in
          let r : reads_in_ID (instruction trace (suc k)) (instruction trace k).target ≡ true = subst (λ (x : ℕ). reads_in_ID (instruction trace (suc k)) (instruction trace x).target ≡ true) h f in
          let p = load_done_lem trace (suc k) j l e in
          rw g (rw r (omega arith))

  load_directly_before : (k : ℕ) → cond (reads_in_ID (instruction trace k) (target_before k)) (loads trace k) 0 ≤ enters b k 3
  unfolding target_before loads last_done behaviour waits_for
  load_directly_before zero = rw (reads_zero (instruction trace 0)) (omega arith)
  load_directly_before (suc k) = pick (value (is_load (instruction trace k).kind)) (value (reads_in_ID (instruction trace (suc k)) (instruction trace k).target))
    where
      pick : Value (is_load (instruction trace k).kind) → Value (reads_in_ID (instruction trace (suc k)) (instruction trace k).target) →
          cond (reads_in_ID (instruction trace (suc k)) (cond (is_load (instruction trace k).kind) (instruction trace k).target 0)) (loads trace (suc k)) 0 ≤ enters b (suc k) 3
      pick (passed e) (passed f) =
          rw e
          (rw f
          (subst (λ (x : ℕ). done b k x ≤ enters b (suc k) 3)
          (waits_for_lem 2 (instruction trace (suc k)) (instruction trace k) (and_both _ _ e f) (load_goal (instruction trace k).kind e))
          (wait b (suc k) k 2 (omega arith))))
      pick (passed e) (failed f) = rw e (rw f (omega arith))
      pick (failed e) r = rw e (rw (reads_zero (instruction trace (suc k))) (omega arith))

  after_load : (k : ℕ) →
      enters b k 3
      ≡ max (max (enters b k 2 + 1) (previous b k 4)) (cond (reads_in_ID (instruction trace k) (target_before k)) (loads trace k) 0)
  unfolding behaviour waits_for done entry
  after_load k =
      le_antisymm
      (least b k 2 _
      (omega arith)
      (λ j l e. let p = le_previous b k j 3 l (omega arith) (omega arith) in omega arith)
      (λ j l.
      waits_within 2 (instruction trace k) (instruction trace j) (done b j) _ (let p = done_pre b j in omega arith)
      (λ w.
      rw (load_goal (instruction trace j).kind (and_l _ _ w))
      (let p = older_load k j l (and_l _ _ w) (and_r _ _ w) in omega arith))))
      (max-le
      (max-le (let p = own b k 2 in omega arith) (previous_le b k 3 (omega arith) (omega arith)))
      (load_directly_before k))

  -- MEM
  miss_waits : (k : ℕ) → Value (misses_data (instruction trace k)) → cond (misses_data (instruction trace k)) (stores trace k) 0 ≤ enters b k 4
  unfolding stores behaviour waits_for
  miss_waits k (failed e) = rw e (omega arith)
  miss_waits k (passed e) =
      rw e
      (last_done_le b (λ j. is_store (instruction trace j).kind) 5 k (enters b k 4)
      (λ j l f.
      subst (λ (x : ℕ). done b j x ≤ enters b k 4)
      (waits_for_lem 3 (instruction trace k) (instruction trace j) (or_l _ _ (and_both _ _ f e)) (store_goal (instruction trace j).kind f))
      (wait b k j 3 l)))

  -- A load short of (MEM, 0) keeps MEM busy: every older instruction is done there by the time that the one directly before leaves it. So a store's
  -- wait for its second source never decides when it enters MEM; `ValueNeverDecides` says the same of the cycle from any orderly state.
  value_in_time : (k j : ℕ) → j < k → done b j 4 ≤ previous b k 5
  value_in_time k j l = omega (arith, own b j 4, le_previous b k j 4 l (omega arith) (omega arith))

  -- in EX it waits for an older store, if its access misses, or for the load of its value
  waited_in_EX : (k j : ℕ) → j < k → waits_for EX (instruction trace k) (instruction trace j) ≡ true →
      Value (is_store (instruction trace j).kind and misses_data (instruction trace k)) →
      done b j (rank (goal (instruction trace j).kind)) ≤ max (previous b k 5) (cond (misses_data (instruction trace k)) (stores trace k) 0)
  unfolding waits_for
  waited_in_EX k j l w (passed e) =
      rw (store_goal (instruction trace j).kind (and_l _ _ e), and_r _ _ e)
      (let p = store_done_lem trace k j l (and_l _ _ e) in omega arith)
  waited_in_EX k j l w (failed e) =
      rw (load_goal (instruction trace j).kind (and_l _ _ (or_else _ _ w e)))
      (let p = value_in_time k j l in omega arith)

  pub at_MEM : (k : ℕ) →
      enters b k 4
      ≡ max (max (enters b k 3 + entry (instruction trace k) EX + 1) (previous b k 5)) (cond (misses_data (instruction trace k)) (stores trace k) 0)
  unfolding behaviour waits_for done
  at_MEM k =
      le_antisymm
      (least b k 3 _
      (omega arith)
      (λ j l e. let p = le_previous b k j 4 l (omega arith) (omega arith) in omega arith)
      (λ j l.
      waits_within 3 (instruction trace k) (instruction trace j) (done b j) _ (let p = done_pre b j in omega arith)
      (λ w. let p = waited_in_EX k j l w (value (is_store (instruction trace j).kind and misses_data (instruction trace k))) in omega arith)))
      (max-le
      (max-le (own b k 3) (previous_le b k 4 (omega arith) (omega arith)))
      (miss_waits k (value (misses_data (instruction trace k)))))

  -- post: it is shared with nobody, and nothing is waited for
  pub at_post : (k : ℕ) → enters b k 6 ≡ done b k 5
  unfolding behaviour waits waits_for done
  at_post k =
      le_antisymm
      (least b k 5 _
      (omega arith)
      (λ j l e. none_shares (together b k j 6 e))
      (λ j l. let p = done_pre b j in omega arith))
      (own b k 5)
    where
      none_shares : {j m n : ℕ} → Together b k j 6 → m ≤ n
      none_shares (early l) = absurd (omega arith)
      none_shares (late l e) = absurd (omega arith)

  -- the last stage: WB is always free in time, ST when the last store is done
  store_free : (k : ℕ) → Value (is_store (instruction trace k).kind) → cond (is_store (instruction trace k).kind) (stores trace k) 0 ≤ enters b k 5
  unfolding stores behaviour
  store_free k (failed e) = rw e (omega arith)
  store_free k (passed e) =
      rw e
      (last_done_le b (λ j. is_store (instruction trace j).kind) 5 k (enters b k 5)
      (λ j l f.
      let p = own b j 5 in
      let q = share b k j 4 l (shares_last b k j (f ∙ sym e)) in
      omega arith))

  last_free : (k j : ℕ) → j < k → shares b k j 5 ≡ true →
      enters b j 6 ≤ max (done b k 4) (cond (is_store (instruction trace k).kind) (stores trace k) 0)
  unfolding behaviour done
  last_free k j l e = pick (together b k j 5 e) (value (is_store (instruction trace k).kind))
    where
      pick : Together b k j 5 → Value (is_store (instruction trace k).kind) →
          enters b j 6 ≤ max (done b k 4) (cond (is_store (instruction trace k).kind) (stores trace k) 0)
      pick (early m) o = absurd (omega arith)
      pick (late m f) (passed o) = rw o (let p = at_post j in let q = store_done_lem trace k j l (f ∙ o) in omega arith)
      pick (late m f) (failed o) =
          let p = at_post j in
          let q = no_count_in_WB (instruction trace j) (f ∙ o) in
          let r = share_early b k j 4 l (omega arith) (omega arith) in
          omega arith

  pub at_last : (k : ℕ) →
      enters b k 5 ≡ max (enters b k 4 + entry (instruction trace k) MEM + 1) (cond (is_store (instruction trace k).kind) (stores trace k) 0)
  unfolding behaviour waits waits_for done
  at_last k =
      le_antisymm
      (least b k 4 _
      (omega arith)
      (last_free k)
      (λ j l. let p = done_pre b j in omega arith))
      (max-le (own b k 4) (store_free k (value (is_store (instruction trace k).kind))))

  -- a load is done in MEM when it enters WB, so that who waits in ID for the one directly before goes by its last stage
  pub load_enters_WB : (k : ℕ) → is_load (instruction trace k).kind ≡ true → enters b k 5 ≡ done b k 4
  unfolding behaviour done
  load_enters_WB k e =
      let free : enters b k 5 ≡ max (enters b k 4 + entry (instruction trace k) MEM + 1) 0 =
      subst (λ (t : Bool). enters b k 5 ≡ max (enters b k 4 + entry (instruction trace k) MEM + 1) (cond t (stores trace k) 0)) (load_no_store (does (instruction trace k).kind) e) (at_last k) in
      omega arith

  load_before : (k : ℕ) → reads_in_ID (instruction trace k) (target_before k) ≡ true → loads trace k ≡ previous b k 5
  unfolding target_before loads last_done previous
  load_before zero e = clash e (reads_zero (instruction trace 0))
  load_before (suc k) e = pick (value (is_load (instruction trace k).kind))
    where
      pick : Value (is_load (instruction trace k).kind) →
          cond (is_load (instruction trace k).kind) (done b k 4) (last_done b (λ j. is_load (instruction trace j).kind) 4 k) ≡ enters b k 5
      pick (passed l) = rw l (sym (load_enters_WB k l))
      pick (failed l) =
          clash
          (subst (λ (t : Bool). reads_in_ID (instruction trace (suc k)) (cond t (instruction trace k).target 0) ≡ true) l e)
          (reads_zero (instruction trace (suc k)))

  MEM_first : (k : ℕ) → previous b k 4 ≤ previous b k 5
  unfolding previous done
  MEM_first zero = omega arith
  MEM_first (suc k) = omega (arith, own b k 4)

  pub at_EX : (k : ℕ) →
      enters b k 3 ≡ max (enters b k 2 + 1) (cond (reads_in_ID (instruction trace k) (target_before k)) (previous b k 5) (previous b k 4))
  at_EX k = pick (value (reads_in_ID (instruction trace k) (target_before k)))
    where
      pick : Value (reads_in_ID (instruction trace k) (target_before k)) →
          enters b k 3 ≡ max (enters b k 2 + 1) (cond (reads_in_ID (instruction trace k) (target_before k)) (previous b k 5) (previous b k 4))
      pick (passed e) =
          rw e
          (omega (
            arith,
            load_before k e,
            MEM_first k,
            subst (λ (t : Bool). enters b k 3 ≡ max (max (enters b k 2 + 1) (previous b k 4)) (cond t (loads trace k) 0)) e (after_load k),
          ))
      pick (failed e) =
          rw e
          (omega (
            arith,
            subst (λ (t : Bool). enters b k 3 ≡ max (max (enters b k 2 + 1) (previous b k 4)) (cond t (loads trace k) 0)) e (after_load k),
          ))
