-- The state after a cycle, from what the code has of it: slot by slot.
use Prim.Native.Nat.{ℕ, suc}
use mathlib.Core.Bool.{Bool, true, false, cond}
use mathlib.Core.Path.{◌≡◌, refl, sym, ◌∙◌}
use Rattle.machine.specs.Instruction.{Trace, instruction}
use Rattle.machine.specs.Rules.{Stage, pre, IF, ID, EX, MEM, ST, WB, post, same, entry}
use Rattle.machine.specs.State.{slot}
use Rattle.machine.specs.declared.Slot.{Slot}
use Rattle.machine.specs.declared.State.{State}
use Rattle.machine.proofs.Connectives.{and_l}
use Rattle.machine.proofs.BySlots.{standing, goes, moves_at_lem, stage_before, arrives, leaves, slot_after, new_slot, step_by_slots}

module _ (trace : Trace) (s : State) where
  pub slot_is
      : (k : Stage) {r : Slot} {arriving gone : Bool} {count : ℕ} →
      r ≡ slot_after arriving (standing trace s (stage_before k)).index count gone (slot s k) →
      arriving ≡ arrives trace s k →
      (arriving ≡ true → count ≡ entry (instruction trace (standing trace s (stage_before k)).index) k) →
      gone ≡ leaves trace s k →
      r ≡ new_slot trace s k
  unfolding new_slot slot_after
  slot_is k {arriving = true} e a n g = e ∙ (λ i. slot_after (a i) (standing trace s (stage_before k)).index (n refl i) (g i) (slot s k))
  slot_is k {arriving = false} e a n g =
      let coming = (standing trace s (stage_before k)).index in
      e ∙ (λ i. slot_after (a i) coming (entry (instruction trace coming) k) (g i) (slot s k))

  -- what moves is there: a slot is filled, or an instruction is left to be fetched
  pub leaves_filled : (k : Stage) → same k post ≡ false → leaves trace s k ≡ true → (standing trace s k).filled ≡ true
  unfolding leaves goes
  leaves_filled k n e = and_l _ _ (and_l _ _ (and_l _ _ (sym (moves_at_lem _ _ _ k n) ∙ e)))

  pub state_is
      : {fetched : ℕ} {IF' ID' EX' MEM' ST' WB' : Slot} →
      fetched ≡ cond (leaves trace s pre) (suc s.fetched) s.fetched →
      IF' ≡ new_slot trace s IF →
      ID' ≡ new_slot trace s ID →
      EX' ≡ new_slot trace s EX →
      MEM' ≡ new_slot trace s MEM →
      ST' ≡ new_slot trace s ST →
      WB' ≡ new_slot trace s WB →
      ◌≡◌ {A = State} (record { fetched = fetched; IF = IF'; ID = ID'; EX = EX'; MEM = MEM'; ST = ST'; WB = WB' }) (step_by_slots trace s)
  unfolding step_by_slots
  state_is p a b c d e f =
      λ i. record { fetched = p i; IF = a i; ID = b i; EX = c i; MEM = d i; ST = e i; WB = f i }
