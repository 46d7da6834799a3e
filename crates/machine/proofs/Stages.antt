-- The stages as the numbers that the code uses, pre 0 to post 7: different stages have different numbers.
use Prim.Native.Nat.{ℕ, zero, suc, ◌≤◌}
use native.Mathlib.Omega.{arith}
use mathlib.Core.Bool.{Bool, true, false}
use mathlib.Core.Path.{◌≡◌, refl, sym, ap, ◌∙◌}
use borrow.Author.Tests.{eqb-true, eq-eqb, ne_eqb}
use Rattle.machine.specs.Rules.{Stage, pre, IF, ID, EX, MEM, ST, WB, post, rank, same}
pub use Rattle.machine.specs.Rules.{stage_number}
use Rattle.machine.proofs.Connectives.{clash}

-- numbers past 7 do not occur
abbrev pub stage_at : ℕ → Stage
stage_at zero = pre
stage_at (suc zero) = IF
stage_at (suc (suc zero)) = ID
stage_at (suc (suc (suc zero))) = EX
stage_at (suc (suc (suc (suc zero)))) = MEM
stage_at (suc (suc (suc (suc (suc zero))))) = ST
stage_at (suc (suc (suc (suc (suc (suc zero)))))) = WB
stage_at (suc (suc (suc (suc (suc (suc (suc n))))))) = post

-- a fact that holds for each of the eight stages
pub eight : (P : Stage → Type 0) → P pre → P IF → P ID → P EX → P MEM → P ST → P WB → P post → (a : Stage) → P a
eight P a b c d e f g h pre = a
eight P a b c d e f g h IF = b
eight P a b c d e f g h ID = c
eight P a b c d e f g h EX = d
eight P a b c d e f g h MEM = e
eight P a b c d e f g h ST = f
eight P a b c d e f g h WB = g
eight P a b c d e f g h post = h

pub stage_number_lem : (a : Stage) → stage_at (stage_number a) ≡ a
stage_number_lem = eight (λ a. stage_at (stage_number a) ≡ a) refl refl refl refl refl refl refl refl

pub same_stage : (a b : Stage) → same a b ≡ true → a ≡ b
same_stage a b e = sym (stage_number_lem a) ∙ ap stage_at (eqb-true (stage_number a) (stage_number b) e) ∙ stage_number_lem b

pub stage_same : (a b : Stage) → a ≡ b → same a b ≡ true
stage_same a b e = eq-eqb (stage_number a) (stage_number b) (ap stage_number e)

pub stages_differ : (a b : Stage) → ¬ (a ≡ b) → same a b ≡ false
stages_differ a b h = ne_eqb (stage_number a) (stage_number b) (λ e. h (same_stage a b (eq-eqb (stage_number a) (stage_number b) e)))

-- the stages that have a slot
abbrev pub inside : Stage → Bool
inside pre = false
inside IF = true
inside ID = true
inside EX = true
inside MEM = true
inside ST = true
inside WB = true
inside post = false

pub inside_rank : (k : Stage) → inside k ≡ true → rank k ≤ 5
inside_rank =
    eight (λ k. inside k ≡ true → rank k ≤ 5)
    (λ w. omega arith)
    (λ w. omega arith)
    (λ w. omega arith)
    (λ w. omega arith)
    (λ w. omega arith)
    (λ w. omega arith)
    (λ w. omega arith)
    (λ w. clash w refl)

pub inside_not_pre : (k : Stage) → inside k ≡ true → same k pre ≡ false
inside_not_pre =
    eight (λ k. inside k ≡ true → same k pre ≡ false)
    (λ w. sym w)
    (λ w. refl)
    (λ w. refl)
    (λ w. refl)
    (λ w. refl)
    (λ w. refl)
    (λ w. refl)
    (λ w. refl)

pub inside_not_post : (k : Stage) → inside k ≡ true → same k post ≡ false
inside_not_post =
    eight (λ k. inside k ≡ true → same k post ≡ false)
    (λ w. refl)
    (λ w. refl)
    (λ w. refl)
    (λ w. refl)
    (λ w. refl)
    (λ w. refl)
    (λ w. refl)
    (λ w. sym w)

pub between : (k : Stage) → same k pre ≡ false → same k post ≡ false → inside k ≡ true
between =
    eight (λ k. same k pre ≡ false → same k post ≡ false → inside k ≡ true)
    (λ a b. clash refl a)
    (λ a b. refl)
    (λ a b. refl)
    (λ a b. refl)
    (λ a b. refl)
    (λ a b. refl)
    (λ a b. refl)
    (λ a b. clash refl b)
