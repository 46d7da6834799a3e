-- The state that places give: its fetched count, where exactly the instructions from some index on are in pre; its slots, where each stage has at
-- most one instruction. Places past the trace's end do not matter.
use Prim.Native.Nat.{ℕ, zero, suc, ◌≤◌, ◌<◌}
use native.Mathlib.Omega.{arith}
use mathlib.Core.Bool.{true, false, cond}
use mathlib.Core.Path.{◌≡◌, refl, sym, ap, ap₂, ◌∙◌}
use lib.ListN.{length}
use Rattle.machine.specs.Instruction.{Trace}
use Rattle.machine.specs.Rules.{Stage, pre, IF, ID, EX, MEM, ST, WB, Place, Places, same}
use Rattle.machine.specs.State.{empty_slot, fetched_below, occupant_below, state_of}
use Rattle.machine.specs.declared.Slot.{Slot}
use Rattle.machine.proofs.Numbers.{Tri, less, equal, more, tri}
use Rattle.machine.proofs.Connectives.{Value, passed, failed, value}
use Rattle.machine.proofs.Stages.{same_stage, stage_same}

module _ (places : Places) where
  pub fetched_is :
      (n f : ℕ) →
      f ≤ n →
      ((j : ℕ) → j < f → same (places j).stage pre ≡ false) →
      ((j : ℕ) → f ≤ j → j < n → same (places j).stage pre ≡ true) →
      fetched_below places n ≡ f
  unfolding fetched_below
  fetched_is zero f h early late = omega arith
  fetched_is (suc n) f h early late = by (fetched_is n) (tri f (suc n))
    where
      by :
          ((f : ℕ) →
          f ≤ n →
          ((j : ℕ) → j < f → same (places j).stage pre ≡ false) →
          ((j : ℕ) → f ≤ j → j < n → same (places j).stage pre ≡ true) →
          fetched_below places n ≡ f) →
          Tri f (suc n) →
          cond (same (places n).stage pre) (fetched_below places n) (suc (fetched_below places n)) ≡ f
      by rec (less l) = rw (late n (omega arith) (omega arith)) (rec f (omega arith) early (λ j a b. late j a (omega arith)))
      by rec (equal e) =
          rw (early n (omega arith))
          (ap suc (rec n (omega arith) (λ j a. early j (omega arith)) (λ j a b. absurd (omega arith))) ∙ sym e)
      by rec (more g) = absurd (omega arith)

  module _ (k : Stage) where
    pub occupant_none : (n : ℕ) → ((j : ℕ) → j < n → same (places j).stage k ≡ false) → occupant_below places k n ≡ empty_slot
    unfolding occupant_below
    occupant_none zero h = refl
    occupant_none (suc n) h = rw (h n (omega arith)) (occupant_none n (λ j l. h j (omega arith)))

    pub occupant_is :
        (i : ℕ) →
        (places i).stage ≡ k →
        ((j : ℕ) → (places j).stage ≡ k → j ≡ i) →
        (n : ℕ) →
        i < n →
        occupant_below places k n ≡ record { filled = true; index = i; count = (places i).count }
    unfolding occupant_below
    occupant_is i at only zero h = absurd (omega arith)
    occupant_is i at only (suc n) h = by (occupant_is i at only n) (tri i n)
      where
        elsewhere : i < n → Value (same (places n).stage k) → same (places n).stage k ≡ false
        elsewhere l (passed e) = let q : n ≡ i = only n (same_stage (places n).stage k e) in absurd (omega arith)
        elsewhere l (failed e) = e

        here : Slot
        here = record { filled = true; index = i; count = (places i).count }

        by :
            (i < n → occupant_below places k n ≡ here) →
            Tri i n →
            cond (same (places n).stage k) (record { filled = true; index = n; count = (places n).count }) (occupant_below places k n) ≡ here
        by rec (less l) = rw (elsewhere l (value (same (places n).stage k))) (rec l)
        by rec (equal e) =
            rw (stage_same (places n).stage k (ap (λ (j : ℕ). (places j).stage) (sym e) ∙ at))
            (ap (λ (j : ℕ). record { filled = true; index = j; count = (places j).count }) (sym e))
        by rec (more g) = absurd (omega arith)

-- places that agree within the trace give the same state
module _ (a b : Places) where
  fetched_agrees : (n : ℕ) → ((i : ℕ) → i < n → a i ≡ b i) → fetched_below a n ≡ fetched_below b n
  unfolding fetched_below
  fetched_agrees zero h = refl
  fetched_agrees (suc n) h =
      ap₂ (λ (p : Place) (f : ℕ). cond (same p.stage pre) f (suc f)) (h n (omega arith)) (fetched_agrees n (λ i l. h i (omega arith)))

  occupant_agrees : (k : Stage) (n : ℕ) → ((i : ℕ) → i < n → a i ≡ b i) → occupant_below a k n ≡ occupant_below b k n
  unfolding occupant_below
  occupant_agrees k zero h = refl
  occupant_agrees k (suc n) h =
      ap₂ (λ (p : Place) (o : Slot). cond (same p.stage k) (record { filled = true; index = n; count = p.count }) o)
      (h n (omega arith))
      (occupant_agrees k n (λ i l. h i (omega arith)))

  pub state_agrees : (trace : Trace) → ((i : ℕ) → i < length trace → a i ≡ b i) → state_of trace a ≡ state_of trace b
  unfolding state_of
  state_agrees trace h =
      λ t.
      record {
        fetched = fetched_agrees (length trace) h t;
        IF = occupant_agrees IF (length trace) h t;
        ID = occupant_agrees ID (length trace) h t;
        EX = occupant_agrees EX (length trace) h t;
        MEM = occupant_agrees MEM (length trace) h t;
        ST = occupant_agrees ST (length trace) h t;
        WB = occupant_agrees WB (length trace) h t;
      }
