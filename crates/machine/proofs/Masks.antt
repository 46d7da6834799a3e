-- The cycle by slots, for code that keeps a bit for each stage in a mask, at the stage's number, pre 0 to post 7.
use Prim.Native.Nat.{ℕ, zero, suc, ◌+◌, ◌*◌, ◌^◌, ◌/◌, ◌%◌, ◌≤◌}
use native.Mathlib.Omega.{arith}
use mathlib.Core.Bool.{Bool, true, false, not}
use mathlib.Core.Path.{◌≡◌, refl, sym, ap, ap₂, ◌∙◌}
use lib.Dec.{eqb, ltb}
use Rattle.machine.specs.Test.{◌and◌, ◌or◌}
use Rattle.machine.specs.Instruction.{Kind, Trace}
use Rattle.machine.specs.Rules.{Stage, pre, IF, ID, EX, MEM, ST, WB, post, next, same, further, short_of}
use Rattle.machine.specs.declared.State.{State}
use Rattle.machine.proofs.Connectives.{true_and, or_l, or_r, and_failed_l, clash}
use Rattle.machine.proofs.Stages.{stage_number, eight}
use Rattle.machine.proofs.Doing.{Does, holding, loading, storing, nothing, does}
use Rattle.machine.proofs.Hazards.{goal_of, goal, pending_to, pending}
use Rattle.machine.proofs.BySlots.{standing, goes, occupied, moves_at, free_at, moves_at_lem, free_at_lem}
use Rattle.machine.proofs.Flow.{bit}

-- a stage's bit of a mask, by its number, and a mask's bits by stage
abbrev pub bit_at : ℕ → ℕ → Bool
bit_at mask at = eqb (mask / 2 ^ at % 2) 1

abbrev pub bits : ℕ → Stage → Bool
bits mask k = bit_at mask (stage_number k)

-- the mask of seven bits, pre to WB
abbrev pub mask_of : (Stage → Bool) → ℕ
mask_of f = bit (f pre) + 2 * bit (f IF) + 4 * bit (f ID) + 8 * bit (f EX) + 16 * bit (f MEM) + 32 * bit (f ST) + 64 * bit (f WB)

-- a fact that holds for each of the eight numbers
up_to : (P : ℕ → Type 0) → P 0 → P 1 → P 2 → P 3 → P 4 → P 5 → P 6 → P 7 → (n : ℕ) → n ≤ 7 → P n
up_to P a b c d e f g h zero l = a
up_to P a b c d e f g h (suc zero) l = b
up_to P a b c d e f g h (suc (suc zero)) l = c
up_to P a b c d e f g h (suc (suc (suc zero))) l = d
up_to P a b c d e f g h (suc (suc (suc (suc zero)))) l = e
up_to P a b c d e f g h (suc (suc (suc (suc (suc zero))))) l = f
up_to P a b c d e f g h (suc (suc (suc (suc (suc (suc zero)))))) l = g
up_to P a b c d e f g h (suc (suc (suc (suc (suc (suc (suc zero))))))) l = h
up_to P a b c d e f g h (suc (suc (suc (suc (suc (suc (suc (suc n)))))))) l = absurd (omega arith)

-- "Moves" and "will be free" over masks, one law for each path through the code.
module _ (going full : ℕ) (kinds : Stage → Kind) (k : Stage) (h : same k post ≡ false) where
  pub moves_off : bits going k ≡ false → moves_at (bits going) (bits full) kinds k ≡ false
  moves_off e = moves_at_lem (bits going) (bits full) kinds k h ∙ and_failed_l _ _ e

  pub moves_on : bits going k ≡ true → moves_at (bits going) (bits full) kinds k ≡ free_at (bits going) (bits full) kinds (next (kinds k) k)
  moves_on e =
      moves_at_lem (bits going) (bits full) kinds k h
      ∙ ap (λ (b : Bool). b and free_at (bits going) (bits full) kinds (next (kinds k) k)) e
      ∙ true_and _

  pub free_empty : bits full k ≡ false → free_at (bits going) (bits full) kinds k ≡ true
  free_empty e = free_at_lem (bits going) (bits full) kinds k ∙ or_r _ _ (or_l _ _ (ap not e))

  pub free_filled : bits full k ≡ true → free_at (bits going) (bits full) kinds k ≡ moves_at (bits going) (bits full) kinds k
  unfolding ◌or◌
  free_filled e =
      free_at_lem (bits going) (bits full) kinds k
      ∙ ap₂ ◌or◌ h (ap (λ (b : Bool). not b or moves_at (bits going) (bits full) kinds k) e)

pub free_post : (going full : ℕ) (kinds : Stage → Kind) (k : Stage) → same k post ≡ true → free_at (bits going) (bits full) kinds k ≡ true
free_post going full kinds k e = free_at_lem (bits going) (bits full) kinds k ∙ or_l _ _ e

-- a mask has the bits that it was made of
small : (b : Bool) → bit b ≤ 1
small true = omega arith
small false = omega arith

bit_is : (x : ℕ) (b : Bool) → x ≡ bit b → eqb x 1 ≡ b
bit_is x true e = ap (λ (x : ℕ). eqb x 1) e
bit_is x false e = ap (λ (x : ℕ). eqb x 1) e

record Digits (m a b c d e f g : ℕ) : Type 0 where
  at0 : m / 1 % 2 ≡ a
  at1 : m / 2 % 2 ≡ b
  at2 : m / 4 % 2 ≡ c
  at3 : m / 8 % 2 ≡ d
  at4 : m / 16 % 2 ≡ e
  at5 : m / 32 % 2 ≡ f
  at6 : m / 64 % 2 ≡ g
  at7 : m / 128 % 2 ≡ 0

digits :
    (a b c d e f g : ℕ) →
    a ≤ 1 →
    b ≤ 1 →
    c ≤ 1 →
    d ≤ 1 →
    e ≤ 1 →
    f ≤ 1 →
    g ≤ 1 →
    Digits (a + 2 * b + 4 * c + 8 * d + 16 * e + 32 * f + 64 * g) a b c d e f g
digits a b c d e f g ha hb hc hd he hf hg = omega arith

pub mask_bits : (f : Stage → Bool) → f post ≡ false → (k : Stage) → bits (mask_of f) k ≡ f k
mask_bits f e =
    let d = digits _ _ _ _ _ _ _ (small (f pre)) (small (f IF)) (small (f ID)) (small (f EX)) (small (f MEM)) (small (f ST)) (small (f WB)) in
    eight (λ k. bits (mask_of f) k ≡ f k)
    (bit_is _ (f pre) d.at0)
    (bit_is _ (f IF) d.at1)
    (bit_is _ (f ID) d.at2)
    (bit_is _ (f EX) d.at3)
    (bit_is _ (f MEM) d.at4)
    (bit_is _ (f ST) d.at5)
    (bit_is _ (f WB) d.at6)
    (bit_is _ (f post) (d.at7 ∙ ap bit (sym e)))

pub goes_post : (trace : Trace) (s : State) → goes trace s post ≡ false
unfolding goes standing
goes_post trace s = and_failed_l _ _ (and_failed_l _ _ refl)

pub occupied_post : (trace : Trace) (s : State) → occupied trace s post ≡ false
unfolding occupied standing
occupied_post trace s = refl

-- Pending, by the stages' numbers: what is short of the stage that an instruction of the kind has to reach with count 0.
abbrev pub short_number : Stage → Stage → ℕ → Bool
short_number to k c = ltb (stage_number k) (stage_number to) or (same k to and ltb 0 c)

-- past pre
module _ (k : Stage) (c : ℕ) (p : same k pre ≡ false) where
  short_number_lem : {h l s : Bool} → Does h l s → pending_to (goal_of h l s) (record { stage = k; count = c }) ≡ short_number (goal_of h l s) k c
  unfolding short_of further ◌and◌ ◌or◌
  short_number_lem holding = eight (λ k. short_of (record { stage = k; count = c }) EX 0 ≡ short_number EX k c) refl refl refl refl refl refl refl refl k
  short_number_lem loading = eight (λ k. short_of (record { stage = k; count = c }) MEM 0 ≡ short_number MEM k c) refl refl refl refl refl refl refl refl k
  short_number_lem storing = eight (λ k. short_of (record { stage = k; count = c }) ST 0 ≡ short_number ST k c) refl refl refl refl refl refl refl refl k
  short_number_lem nothing =
      eight (λ k. same k pre ≡ false → false ≡ short_number pre k c)
      (λ p. clash refl p)
      (λ p. refl)
      (λ p. refl)
      (λ p. refl)
      (λ p. refl)
      (λ p. refl)
      (λ p. refl)
      (λ p. refl)
      k
      p

  pub pending_number : (kind : Kind) → pending kind (record { stage = k; count = c }) ≡ short_number (goal kind) k c
  unfolding pending goal
  pending_number kind = short_number_lem (does kind)
