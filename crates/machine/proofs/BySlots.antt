-- One cycle in terms of the six slots, which is what the code computes: who could move, who moves, and what each slot holds afterwards. An older
-- instruction that holds another back is in a slot, so it is enough to look at the slots.
use Prim.Native.Nat.{ℕ, zero, suc, ◌-◌}
use mathlib.Core.Bool.{Bool, true, false, not, cond}
use mathlib.Core.Path.{◌≡◌, refl, ap}
use lib.Dec.{ltb, eqb}
use lib.ListN.{length}
use Rattle.machine.specs.Test.{◌and◌, ◌or◌}
use Rattle.machine.specs.Instruction.{Kind, Trace, instruction}
use Rattle.machine.specs.Rules.{Stage, pre, IF, ID, EX, MEM, ST, WB, post, next, same, entry, budget}
use Rattle.machine.specs.State.{empty_slot, slot}
use Rattle.machine.specs.declared.Slot.{Slot}
use Rattle.machine.specs.declared.State.{State}
use Rattle.machine.proofs.Budget.{budget_next}
use Rattle.machine.proofs.Hazards.{detains}

-- the instruction in a stage that may move on; in pre, the one to be fetched next
unfoldable pub standing : Trace → State → Stage → Slot
standing trace s pre = record { filled = ltb s.fetched (length trace); index = s.fetched; count = 0 }
standing trace s IF = s.IF
standing trace s ID = s.ID
standing trace s EX = s.EX
standing trace s MEM = s.MEM
standing trace s ST = s.ST
standing trace s WB = s.WB
standing trace s post = empty_slot

-- the slot of stage k holds instruction i back in its stage
unfoldable pub holds_back : Trace → Stage → ℕ → Stage → Slot → Bool
holds_back trace at i k held =
    held.filled
    and ltb held.index i
    and detains at (instruction trace i) (instruction trace held.index) (record { stage = k; count = held.count })

unfoldable pub held_back : Trace → State → Stage → ℕ → Bool
held_back trace s at i =
    holds_back trace at i IF s.IF
    or holds_back trace at i ID s.ID
    or holds_back trace at i EX s.EX
    or holds_back trace at i MEM s.MEM
    or holds_back trace at i ST s.ST
    or holds_back trace at i WB s.WB

-- the stage's instruction moves if its next stage will be free
unfoldable pub goes : Trace → State → Stage → Bool
goes trace s k =
    (standing trace s k).filled and eqb (standing trace s k).count 0 and not (held_back trace s k (standing trace s k).index)

unfoldable pub occupied : Trace → State → Stage → Bool
occupied trace s k = (standing trace s k).filled

-- the kind of a stage's instruction
unfoldable pub kinds_in : Trace → State → Stage → Kind
kinds_in trace s k = (instruction trace (standing trace s k).index).kind

-- "Moves" and "will be free" over these bits and kinds, with the budget of the rules.
unfoldable mutual
  pub moves_in : ℕ → (Stage → Bool) → (Stage → Bool) → (Stage → Kind) → Stage → Bool
  moves_in zero going full kinds k = false
  moves_in (suc b) going full kinds k = going k and free_in b going full kinds (next (kinds k) k)

  pub free_in : ℕ → (Stage → Bool) → (Stage → Bool) → (Stage → Kind) → Stage → Bool
  free_in zero going full kinds k = true
  free_in (suc b) going full kinds k = same k post or (not (full k) or moves_in b going full kinds k)

unfoldable pub moves_at : (Stage → Bool) → (Stage → Bool) → (Stage → Kind) → Stage → Bool
moves_at going full kinds k = moves_in (budget k) going full kinds k

unfoldable pub free_at : (Stage → Bool) → (Stage → Bool) → (Stage → Kind) → Stage → Bool
free_at going full kinds k = free_in (suc (budget k)) going full kinds k

-- the two at the full budget, as equations in which the budget does not appear, which is how the code's functions call each other
module _ (going full : Stage → Bool) (kinds : Stage → Kind) where
  pub moves_at_lem : (k : Stage) → same k post ≡ false → moves_at going full kinds k ≡ going k and free_at going full kinds (next (kinds k) k)
  unfolding moves_at free_at moves_in
  moves_at_lem k e = ap (λ (b : ℕ). moves_in b going full kinds k) (budget_next (kinds k) k e)

  pub free_at_lem : (k : Stage) → free_at going full kinds k ≡ same k post or (not (full k) or moves_at going full kinds k)
  unfolding moves_at free_at free_in
  free_at_lem k = refl

-- whether the stage's instruction moves in this cycle
unfoldable pub leaves : Trace → State → Stage → Bool
leaves trace s k = moves_at (goes trace s) (occupied trace s) (kinds_in trace s) k

-- the stage before another; nothing comes into pre
unfoldable pub stage_before : Stage → Stage
stage_before pre = post
stage_before IF = pre
stage_before ID = IF
stage_before EX = ID
stage_before MEM = EX
stage_before ST = MEM
stage_before WB = MEM
stage_before post = post

-- what leaves the stage before goes to this one
abbrev pub takes : (Stage → Kind) → Stage → Bool
takes kinds k = same (next (kinds (stage_before k)) (stage_before k)) k

abbrev pub arrives_in : (Stage → Bool) → (Stage → Kind) → Stage → Bool
arrives_in leaving kinds k = leaving (stage_before k) and takes kinds k

unfoldable pub arrives : Trace → State → Stage → Bool
arrives trace s k = arrives_in (leaves trace s) (kinds_in trace s) k

-- a slot after the cycle: what comes in, else what stays, its count less 1, else nothing
unfoldable pub slot_after : Bool → ℕ → ℕ → Bool → Slot → Slot
slot_after true index count gone old = record { filled = true; index = index; count = count }
slot_after false index count gone old =
    cond (old.filled and not gone) (record { filled = true; index = old.index; count = old.count - 1 }) empty_slot

unfoldable pub new_slot : Trace → State → Stage → Slot
new_slot trace s k =
    let coming = (standing trace s (stage_before k)).index in
    slot_after (arrives trace s k) coming (entry (instruction trace coming) k) (leaves trace s k) (slot s k)

unfoldable pub step_by_slots : Trace → State → State
step_by_slots trace s =
    record {
      fetched = cond (leaves trace s pre) (suc s.fetched) s.fetched;
      IF = new_slot trace s IF;
      ID = new_slot trace s ID;
      EX = new_slot trace s EX;
      MEM = new_slot trace s MEM;
      ST = new_slot trace s ST;
      WB = new_slot trace s WB;
    }
