-- The stages as levels that an instruction goes through: which stage a level is, and when two instructions at a level are in the same stage.
use Prim.Native.Nat.{ℕ, zero, suc, ◌≤◌, ◌<◌}
use mathlib.Core.Bool.{Bool, true, false, cond}
use mathlib.Core.Path.{◌≡◌, refl, sym, subst, ap, ◌∙◌}
use native.Mathlib.Omega.{arith}
use Rattle.machine.specs.Instruction.{Kind}
use Rattle.machine.specs.Rules.{Stage, pre, IF, ID, EX, MEM, ST, WB, post, next, rank, same, is_store}
use Rattle.machine.proofs.Numbers.{Last, below, at, last}
use Rattle.machine.proofs.Stages.{same_stage, stage_same, stages_differ}
use Rattle.machine.proofs.Doing.{next_in, next_in_lem}
use Rattle.machine.proofs.Schedule.{Behaviour, shares, Together, early, late, together, shares_early, shares_last}

-- the stage of a level, by the lane: ST is the last stage of a store's lane, WB of the other
abbrev pub stage_along : Bool → ℕ → Stage
stage_along lane zero = pre
stage_along lane (suc zero) = IF
stage_along lane (suc (suc zero)) = ID
stage_along lane (suc (suc (suc zero))) = EX
stage_along lane (suc (suc (suc (suc zero)))) = MEM
stage_along lane (suc (suc (suc (suc (suc zero))))) = cond lane ST WB
stage_along lane (suc (suc (suc (suc (suc (suc s)))))) = post

pub rank_stage : (lane : Bool) (s : ℕ) → s ≤ 6 → rank (stage_along lane s) ≡ s
rank_stage lane zero l = refl
rank_stage lane (suc zero) l = refl
rank_stage lane (suc (suc zero)) l = refl
rank_stage lane (suc (suc (suc zero))) l = refl
rank_stage lane (suc (suc (suc (suc zero)))) l = refl
rank_stage true (suc (suc (suc (suc (suc zero))))) l = refl
rank_stage false (suc (suc (suc (suc (suc zero))))) l = refl
rank_stage lane (suc (suc (suc (suc (suc (suc s)))))) l = omega arith

-- before level 5 both lanes have the same stages
stage_early : (a c : Bool) (s : ℕ) → s < 5 → stage_along a s ≡ stage_along c s
stage_early a c zero l = refl
stage_early a c (suc zero) l = refl
stage_early a c (suc (suc zero)) l = refl
stage_early a c (suc (suc (suc zero))) l = refl
stage_early a c (suc (suc (suc (suc zero)))) l = refl
stage_early a c (suc (suc (suc (suc (suc s))))) l = absurd (omega arith)

-- at level 5 they differ
is_ST : Stage → Bool
is_ST pre = false
is_ST IF = false
is_ST ID = false
is_ST EX = false
is_ST MEM = false
is_ST ST = true
is_ST WB = false
is_ST post = false

lane_of : (lane : Bool) → is_ST (stage_along lane 5) ≡ lane
unfolding is_ST
lane_of true = refl
lane_of false = refl

pub same_level : (a c : Bool) (s u : ℕ) → s ≤ 6 → u ≤ 6 → same (stage_along a s) (stage_along c u) ≡ true → s ≡ u
same_level a c s u l m e = sym (rank_stage a s l) ∙ ap rank (same_stage (stage_along a s) (stage_along c u) e) ∙ rank_stage c u m

pub other_level : (a c : Bool) (s u : ℕ) → s ≤ 6 → u ≤ 6 → ¬ (s ≡ u) → same (stage_along a s) (stage_along c u) ≡ false
other_level a c s u l m h =
    stages_differ (stage_along a s) (stage_along c u) (λ e. h (same_level a c s u l m (stage_same (stage_along a s) (stage_along c u) e)))

-- a stage between pre and post is the same for two instructions exactly where they share it
pub shares_same : (b : Behaviour) (i j s : ℕ) → shares b i j s ≡ true → same (stage_along (b.lane j) s) (stage_along (b.lane i) s) ≡ true
shares_same b i j s e = pick (together b i j s e)
  where
    pick : Together b i j s → same (stage_along (b.lane j) s) (stage_along (b.lane i) s) ≡ true
    pick (early l) = stage_same (stage_along (b.lane j) s) (stage_along (b.lane i) s) (stage_early (b.lane j) (b.lane i) s l)
    pick (late e f) = stage_same (stage_along (b.lane j) s) (stage_along (b.lane i) s) (ap (λ (x : Bool). stage_along x s) f)

pub same_shares : (b : Behaviour) (i j s : ℕ) → s ≤ 5 → same (stage_along (b.lane j) s) (stage_along (b.lane i) s) ≡ true → shares b i j s ≡ true
same_shares b i j s l e = pick (last s 5 (omega arith))
  where
    pick : Last s 5 → shares b i j s ≡ true
    pick (below m) = shares_early b i j s m
    pick (at f) =
        let g : stage_along (b.lane j) s ≡ stage_along (b.lane i) s = same_stage (stage_along (b.lane j) s) (stage_along (b.lane i) s) e in
        let g5 : stage_along (b.lane j) 5 ≡ stage_along (b.lane i) 5 = subst (λ (x : ℕ). stage_along (b.lane j) x ≡ stage_along (b.lane i) x) f g in
        subst (λ (x : ℕ). shares b i j x ≡ true) (sym f) (shares_last b i j (sym (lane_of (b.lane j)) ∙ ap is_ST g5 ∙ lane_of (b.lane i)))

-- the next stage is the stage of the next level
next_along : (lane : Bool) (s : ℕ) → s < 6 → next_in lane (stage_along lane s) ≡ stage_along lane (suc s)
unfolding next_in
next_along lane zero l = refl
next_along lane (suc zero) l = refl
next_along lane (suc (suc zero)) l = refl
next_along lane (suc (suc (suc zero))) l = refl
next_along lane (suc (suc (suc (suc zero)))) l = refl
next_along true (suc (suc (suc (suc (suc zero))))) l = refl
next_along false (suc (suc (suc (suc (suc zero))))) l = refl
next_along lane (suc (suc (suc (suc (suc (suc s)))))) l = absurd (omega arith)

pub next_stage : (kind : Kind) (s : ℕ) → s < 6 → next kind (stage_along (is_store kind) s) ≡ stage_along (is_store kind) (suc s)
next_stage kind s l = next_in_lem kind (stage_along (is_store kind) s) ∙ next_along (is_store kind) s l
