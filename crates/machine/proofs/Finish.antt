-- The finishing time is the greatest of the times at which instructions enter post, 0 for the empty trace: the rules' test of all having
-- left passes from that time on and not before, so the search for the least finds it.
use Prim.Native.Nat.{ℕ, zero, suc, ◌+◌, ◌≤◌, ◌<◌, min}
use mathlib.Core.Bool.{Bool, true, false}
use mathlib.Core.Path.{◌≡◌, refl, sym, ap, ◌∙◌}
use native.Mathlib.Omega.{arith}
use lib.Dec.{leb}
use lib.ListN.{length}
use borrow.Author.Tests.{leb-true, le-leb, lt-leb}
use Rattle.machine.specs.Instruction.{Trace}
use Rattle.machine.specs.Rules.{post, same, Place, entry, after, all_left}
use Rattle.machine.specs.Time.{bound, least_from, finish}
use Rattle.machine.specs.Claims.{FinishIsLeast, FinishBounded}
use Rattle.machine.proofs.Numbers.{Tri, less, equal, more, tri, greatest, le_greatest, greatest_le}
use Rattle.machine.proofs.Connectives.{both_ways, every_at, every_below}
use Rattle.machine.proofs.Schedule.{Behaviour, enters}
use Rattle.machine.proofs.Standing.{in_post, at_post_level}
use Rattle.machine.proofs.Derivation.{behaviour}
use Rattle.machine.proofs.Bridge.{bridge}
use Rattle.machine.proofs.Bounds.{times_within, bound_take}

-- when the last of the first n instructions enters post
unfoldable pub last_leaves : Behaviour → ℕ → ℕ
last_leaves b n = greatest 0 (λ i. enters b i 6) n

pub leaves_by : (b : Behaviour) (n i : ℕ) → i < n → enters b i 6 ≤ last_leaves b n
unfolding last_leaves
leaves_by b n i l = le_greatest 0 (λ i. enters b i 6) n i l

pub last_leaves_by : (b : Behaviour) (n m : ℕ) → ((i : ℕ) → i < n → enters b i 6 ≤ m) → last_leaves b n ≤ m
unfolding last_leaves
last_leaves_by b n m h =
    let p = greatest_le 0 (λ i. enters b i 6) n 0 m (omega arith) (λ k l. let q = h k l in omega arith) in
    omega arith

-- the search finds the time at which the test passes and before which it fails
pub least_from_lem : (test : ℕ → Bool) (tries t goal : ℕ) →
    ((u : ℕ) → u < goal → test u ≡ false) →
    test goal ≡ true →
    t ≤ goal →
    goal ≤ t + tries →
    least_from test tries t ≡ goal
unfolding least_from
least_from_lem test zero t goal h p l m = omega arith
least_from_lem test (suc tries) t goal h p l m = pick (least_from_lem test tries (suc t) goal h p) (tri t goal)
  where
    pick : (suc t ≤ goal → goal ≤ suc t + tries → least_from test tries (suc t) ≡ goal) → Tri t goal → least_from test (suc tries) t ≡ goal
    pick ih (less k) = rw (h t k, least_from) (ih k (omega arith))
    pick ih (equal e) = rw (ap test e ∙ p, least_from) e
    pick ih (more k) = absurd (omega arith)

module _ (trace : Trace) where
  abbrev b : Behaviour
  b = behaviour trace

  left_at : (t i : ℕ) → i < length trace → same (after trace t i).stage post ≡ leb (enters b i 6) t
  left_at t i l = ap (λ (p : Place). same p.stage post) (bridge trace t i l) ∙ in_post b t i

  pub all_left_at : (t : ℕ) → all_left trace (after trace t) ≡ leb (last_leaves b (length trace)) t
  unfolding all_left
  all_left_at t =
      both_ways _ _
      (λ e.
      le-leb (last_leaves b (length trace)) t
      (last_leaves_by b (length trace) t
      (λ i l.
      leb-true (enters b i 6) t
      (sym (left_at t i l) ∙ every_at (λ i. same (after trace t i).stage post) (length trace) e i l))))
      (λ e.
      every_below (λ i. same (after trace t i).stage post) (length trace)
      (λ i l.
      left_at t i l
      ∙ le-leb (enters b i 6) t
      (let p = leb-true (last_leaves b (length trace)) t e in let q = leaves_by b (length trace) i l in omega arith)))

  leaves_within : last_leaves b (length trace) ≤ bound trace
  leaves_within =
      last_leaves_by b (length trace) (bound trace)
      (λ i l. let p = times_within trace (suc i) i 6 (omega arith) l (omega arith) in let q = bound_take trace (suc i) in omega arith)

  pub finish_is : finish trace ≡ last_leaves b (length trace)
  unfolding finish
  finish_is =
      least_from_lem (λ t. all_left trace (after trace t)) (bound trace) 0 (last_leaves b (length trace))
      (λ u l. all_left_at u ∙ lt-leb (last_leaves b (length trace)) u l)
      (all_left_at (last_leaves b (length trace))
      ∙ le-leb (last_leaves b (length trace)) (last_leaves b (length trace)) (omega arith))
      (omega arith)
      (let p = leaves_within in omega arith)

pub finish_is_least : FinishIsLeast
finish_is_least trace =
    rw (finish_is trace) (
      all_left_at trace (last_leaves (behaviour trace) (length trace))
          ∙ le-leb (last_leaves (behaviour trace) (length trace)) (last_leaves (behaviour trace) (length trace)) (omega arith),
      λ t l. all_left_at trace t ∙ lt-leb (last_leaves (behaviour trace) (length trace)) t l,
    )

pub finish_bounded : FinishBounded
finish_bounded trace = rw (finish_is trace) (leaves_within trace)

-- all have left from the finishing time on,
pub all_left_is : (trace : Trace) (t : ℕ) → all_left trace (after trace t) ≡ leb (finish trace) t
all_left_is trace t = rw (finish_is trace) (all_left_at trace t)

-- the first k instructions have left from the time on at which the last of them leaves,
first_left
    : (trace : Trace) (t k i : ℕ) → i < k → i < length trace → last_leaves (behaviour trace) k ≤ t → after trace t i ≡ record { stage = post; count = 0 }
unfolding behaviour entry
first_left trace t k i h l m =
    let p = leaves_by (behaviour trace) k i h in
    bridge trace t i l ∙ at_post_level (behaviour trace) t i refl (omega arith)

-- and so nothing changes if a run stops at its finishing time
pub stays_left : (trace : Trace) (t i : ℕ) → i < length trace → finish trace ≤ t → after trace t i ≡ record { stage = post; count = 0 }
stays_left trace t i l m = let q = finish_is trace in first_left trace t (length trace) i l l (omega arith)

pub run_stops : (trace : Trace) (t i : ℕ) → i < length trace → after trace (min t (finish trace)) i ≡ after trace t i
run_stops trace t i l = pick (tri t (finish trace))
  where
    pick : Tri t (finish trace) → after trace (min t (finish trace)) i ≡ after trace t i
    pick (less h) = ap (λ (x : ℕ). after trace x i) (omega arith)
    pick (equal h) = ap (λ (x : ℕ). after trace x i) (omega arith)
    pick (more h) = stays_left trace (min t (finish trace)) i l (omega arith) ∙ sym (stays_left trace t i l (omega arith))
