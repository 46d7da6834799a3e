-- The schedule is monotone in the entry counts and in what is waited for, since each of its terms is. So if one behaviour is slower than another,
-- no instruction is ever further on in it.
use Prim.Native.Nat.{ℕ, zero, suc, ◌-◌, ◌≤◌, ◌<◌}
use mathlib.Core.Bool.{false}
use mathlib.Core.Path.{◌≡◌, sym, subst, ◌∙◌}
use native.Mathlib.Omega.{arith}
use lib.Dec.{ltb}
use borrow.Author.Tests.{le-ltb}
use Rattle.machine.specs.Test.{◌and◌}
use Rattle.machine.specs.Rules.{rank, same, further}
use Rattle.machine.proofs.Numbers.{Tri, less, equal, more, tri, Last, below, at, last, by_age}
use Rattle.machine.proofs.Connectives.{Value, passed, failed, value, and_failed_l, and_failed_r, or_failed}
use Rattle.machine.proofs.Schedule.{Behaviour, shares, enters, done, starts, own, share, wait, least}
use Rattle.machine.proofs.Levels.{stage_along, rank_stage, same_level}
use Rattle.machine.proofs.Standing.{enters_before, Stands, stands, standing, scheduled, not_yet}

pub record SlowerBehaviour (a b : Behaviour) : Type 0 where
  pub count : (i s : ℕ) → a.count i s ≤ b.count i s
  pub lane : (i : ℕ) → b.lane i ≡ a.lane i
  pub until : (i s j : ℕ) → a.until i s j ≤ b.until i s j

pub done_mono : (b : Behaviour) (j h k : ℕ) → h ≤ k → done b j h ≤ done b j k
unfolding done
done_mono b j h k l = pick (last h k (omega arith))
  where
    pick : Last h k → done b j h ≤ done b j k
    pick (below m) = let p = enters_before b j h k m in omega arith
    pick (at e) = subst (λ (x : ℕ). done b j h ≤ done b j x) e (omega arith)

-- the same pairs of instructions share a stage
pub shares_alike : (a b : Behaviour) → ((i : ℕ) → b.lane i ≡ a.lane i) → (i j s : ℕ) → shares b i j s ≡ shares a i j s
unfolding shares
shares_alike a b h i j s = rw (h i, h j)

abbrev Later : Behaviour → Behaviour → ℕ → Type 0
Later a b i = (s : ℕ) → enters a i s ≤ enters b i s

later_step : (a b : Behaviour) → SlowerBehaviour a b → (i : ℕ) → ((j : ℕ) → j < i → Later a b j) → Later a b i
unfolding done
later_step a b h i ih zero = let p = starts a i in omega arith
later_step a b h i ih (suc s) =
    least a i s (enters b i (suc s))
    (let p = later_step a b h i ih s in let q = own b i s in let c = h.count i s in omega arith)
    (λ j older e.
    let p = share b i j s older (shares_alike a b h.lane i j (suc s) ∙ e) in
    let q = ih j older (suc (suc s)) in
    omega arith)
    (λ j older.
    let p = wait b i j s older in
    let q = done_mono b j (a.until i s j) (b.until i s j) (h.until i s j) in
    let r = ih j older (a.until i s j) in
    let c = h.count j (a.until i s j) in
    omega arith)

pub enters_later : (a b : Behaviour) → SlowerBehaviour a b → (i s : ℕ) → enters a i s ≤ enters b i s
enters_later a b h = by_age (Later a b) (later_step a b h)

further_level : {a b : Behaviour} {t i s u : ℕ} → SlowerBehaviour a b → Stands a t i s → Stands b t i u → further (standing b t i u) (standing a t i s) ≡ false
unfolding further standing
further_level {a} {b} {t} {i} {s} {u} h sa sb =
    or_failed _ _
    (le-ltb (rank (stage_along (a.lane i) s)) (rank (stage_along (b.lane i) u))
    (let p = rank_stage (a.lane i) s sa.level in let q = rank_stage (b.lane i) u sb.level in let r = order (tri s u) in omega arith))
    (pick (value (same (stage_along (b.lane i) u) (stage_along (a.lane i) s))))
  where
    order : Tri s u → u ≤ s
    order (less k) = let p = not_yet sa u k sb.level in let q = sb.entered in let r = enters_later a b h i u in omega arith
    order (equal k) = omega arith
    order (more k) = omega arith

    same_count : a.count i s - (t - enters a i s) ≤ b.count i s - (t - enters b i s)
    same_count = let p = enters_later a b h i s in let q = h.count i s in omega arith

    pick : Value (same (stage_along (b.lane i) u) (stage_along (a.lane i) s)) →
        same (stage_along (b.lane i) u) (stage_along (a.lane i) s) and ltb (b.count i u - (t - enters b i u)) (a.count i s - (t - enters a i s)) ≡ false
    pick (failed e) = and_failed_l _ _ e
    pick (passed e) =
        let z = same_level (b.lane i) (a.lane i) u s sb.level sa.level e in
        and_failed_r _ _
        (le-ltb (b.count i u - (t - enters b i u)) (a.count i s - (t - enters a i s))
        (subst (λ (x : ℕ). a.count i s - (t - enters a i s) ≤ b.count i x - (t - enters b i x)) (sym z) same_count))

pub not_further : (a b : Behaviour) → SlowerBehaviour a b → (t i : ℕ) → further (scheduled b t i) (scheduled a t i) ≡ false
unfolding scheduled
not_further a b h t i = further_level h (stands a t i) (stands b t i)
